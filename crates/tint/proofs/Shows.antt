-- Document 02, T-08, seen: after a tinted run each byte has the tint of the opcode that wrote its dot last, or is what it was; and all else is the run's own.
use Prim.Native.Nat.{ℕ, ◌<◌}
use mathlib.Core.Path.{◌≡◌, refl, sym, ap, ◌∙◌}
use mathlib.Core.List.{List}
use lib.ListN.{length, get_or}
use Rattle.player.specs.Run.{Answer, got, runs, trace}
use Rattle.player.specs.Writing.{writer, told}
use Rattle.player.proofs.Doors.{run-whole}
use Rattle.player.proofs.Writings.{shown_at}
use Rattle.player.proofs.Tints
use Rattle.rules.specs.declared.environment.Env as Held
use Rattle.rules.specs.declared.answer.Answer as Came
use Rattle.rules.specs.Environment.{Env, held}
use Rattle.rules.specs.Step.{afgis}
use Rattle.rules.specs.Door.{door, said, whole}
use Rattle.rules.specs.Door as Door
use Rattle.rules.proofs.Alone.{keeps}
use Rattle.tint.specs.Tint.{tint_at, hued, machine, Promise}

-- a tinted run that was let in, of which only its promise is known
module _ (w s : List ℕ) (e : Held.Env) (budget : ℕ) (a : Came.Answer) (t : List ℕ) (kept : Promise w s e budget a t)
    (let-in : door (record { list = w; budget = budget }) (held e) (length s) ≡ 0) where
  ran : said a t ≡ runs (hued w) budget (held e) s 0
  ran = kept ∙ sym (run-whole machine (record { list = w; budget = budget }) (held e) s 0 (sym let-in) refl)

  pub shows : (i : ℕ) → i < length s
      → get_or t i 0 ≡ told (λ j from c. tint_at from) (get_or s i 0) (writer 1 (trace (afgis w) budget (held e)) (shown_at e.bounds i))
  shows i l =
      ap (λ (x : Answer Env). get_or x.screen i 0) ran
      ∙ Tints.shows tint_at (afgis w) (λ e. e.bounds) (keeps w) budget (held e) s 0 i l

  -- number, place, environment and steps are those of the run itself
  pub same-run : got (said a t) ≡ got (whole w s (held e) budget)
  same-run =
      ap got ran
      ∙ (Tints.same-run tint_at (afgis w) budget (held e) s s 0
      ∙ ap got (run-whole Door.machine (record { list = w; budget = budget }) (held e) s 0 (sym let-in) refl))
