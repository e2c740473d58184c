-- Document 02, T-09, 20, 22, 24, 28 and 29 'as in a run': where the checker tells one of them, a run from any fresh environment meets that very refusal, number and
-- place, unless one of 23 to 26 stops it sooner.
use Prim.Native.Nat.{ℕ, ◌+◌, ◌<◌}
use mathlib.Core.Path.{◌≡◌, sym, ap, ◌∙◌, subst}
use mathlib.Core.Bool.{Bool, true, ◌||◌, true≢false}
use mathlib.Core.List.{List, []}
use native.Mathlib.Nat.{zero-add}
use lib.ListN.{length}
use lib.Dec.{leb, eqb}
use Rattle.std.specs.Prelude.{Ok, Err}
use Rattle.numbers.specs.declared.place.WordIndex.{WordIndex}
use Rattle.numbers.proofs.Answers.{by-test}
use Rattle.raster.specs.declared.frame.Bounds.{Bounds}
use Rattle.player.specs.Player.{fault, verdict, refused}
use Rattle.player.specs.Run.{runs}
use Rattle.rules.specs.Operands.{at}
use Rattle.rules.specs.Environment.{Env, start}
use Rattle.rules.specs.Step.{step, afgis}
use Rattle.rules.specs.Fresh.{fresh}
use Rattle.forms.specs.declared.layout.Layout.TheVariants.{Closes}
use Rattle.forms.specs.Layout.{layout_at}
use Rattle.forms.proofs.Layouts.{closes-is}
use Rattle.checker.specs.declared.Checked.{Checked}
use Rattle.checker.specs.declared.reading.Closer.{Closer}
use Rattle.checker.specs.declared.reading.Closer.TheVariants.{Eodl, Erpt}
use Rattle.checker.specs.Reading.{Reading, sequence_at}
use Rattle.checker.specs.Checked.{refusal, accepted, closes_list, told, checked}
use Rattle.checker.proofs.Reach.{Reach, reach-map, Refuses, Halted, halted}
use Rattle.checker.proofs.Steps.{Stands, erpt-29}
use Rattle.checker.proofs.Places.{layout_by, After, reading-after}
use Rattle.checker.proofs.Following.{Runs, reading-runs}
use Rattle.checker.proofs.Finishes.{begins}

-- a refusal that is no other than a run's
abbrev pub of_run : ℕ → Bool
of_run n = eqb n 20 || (eqb n 22 || (eqb n 24 || (eqb n 28 || eqb n 29)))

module _ (w : List ℕ) where
  -- after k steps, whatever the size and the pane
  abbrev pub Comes : Checked → Type 0
  Comes c = (k : ℕ) × ((b : Bounds) → Reach w k (Refuses w (fault c.number c.place)) (fresh b))

  -- an ERPT outside all blocks
  stray : (i : WordIndex) → i.0 < length w → layout_at (at w i.0) ≡ Closes → (x : Env) → Stands i [] x → Refuses w (fault 29 i) x
  stray i inside is x s = (
    s.state,
    subst (λ (k : WordIndex). k.0 < length w → at w k.0 ≡ 0x004F → step w x ≡ refused (fault 29 k)) s.counter
        (λ p q. erpt-29 w x p q s.repeats) inside (closes-is (at w i.0) is),
  )

  told-comes : (x : Reading) → After w start x → Runs w 8 start x → of_run (told x).number ≡ true → Comes (told x)
  told-comes (Err v) after go h =
      let m = go ((λ z. true≢false (sym h ∙ ap of_run z)), (λ z. true≢false (sym h ∙ ap of_run z))) in
      (m.0, λ b. m.1 (fresh b) (begins b))
  told-comes (Ok c) after go h = closes c.by after.2 h
    where
      i : WordIndex
      i = c.place

      n : ℕ
      n = c.steps

      closes : (k : Closer) → layout_at (at w i.0) ≡ layout_by k → of_run (closes_list k i n).number ≡ true → Comes (closes_list k i n)
      closes Erpt is h = (
        n,
        λ b. reach-map w (Stands i []) (Refuses w (fault 29 i)) n (fresh b) (stray i after.1 is) (go (fresh b) (begins b)),
      )
      closes Eodl is h =
          by-test (leb (n + 1) 1000000) (accepted (n + 1)) (refusal (verdict 31)) (λ (c : Checked). of_run c.number ≡ true → Comes c)
          (λ few p. absurd (true≢false (sym p)))
          (λ many p. absurd (true≢false (sym p)))
          h

  comes : of_run (checked w).number ≡ true → Comes (checked w)
  unfolding checked
  comes h =
      by-test (leb (length w) 65536) (told (sequence_at w 8 start)) (refusal (verdict 13)) (λ (c : Checked). of_run c.number ≡ true → Comes c)
      (λ short. told-comes (sequence_at w 8 start) (reading-after w 8 start) (reading-runs w 8 start))
      (λ long p. absurd (true≢false (sym p)))
      h

  pub refused-alike : let c = checked w in of_run c.number ≡ true
      → (k : ℕ) × ((b : Bounds) (s : List ℕ) (budget : ℕ) → k < budget → Halted (fault c.number c.place) k (runs (afgis w) budget (fresh b) s 0))
  refused-alike h =
      let c = checked w in
      let v = fault c.number c.place in
      let m = comes h in (
        m.0,
        λ b s budget more. subst (λ (n : ℕ). Halted v n (runs (afgis w) budget (fresh b) s 0)) (zero-add m.0)
            (halted w v m.0 budget more (fresh b) s 0 (m.1 b)),
      )
