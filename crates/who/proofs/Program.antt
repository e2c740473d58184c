-- T-08 of the program itself: of any answer that kept the promise, beside any run of the same list, environment and budget that kept its own.
use Prim.Native.Nat.{ℕ, ◌+◌, ◌*◌, ◌<◌, ◌≤◌}
use mathlib.Core.Path.{◌≡◌, refl, sym, ap, ◌∙◌, subst⁻¹}
use mathlib.Core.List.{List, ◌∷◌}
use native.Mathlib.Omega.{arith}
use native.Mathlib.Nat.{sub-zero}
use lib.Dec.{T}
use lib.ListN.{length, get_or, length-append}
use Rattle.raster.specs.declared.dots.Dot.{Dot}
use Rattle.raster.specs.Frame.{in_pane}
use Rattle.player.specs.declared.State.TheVariants.{Running}
use Rattle.player.specs.Run.{Answer, Done, runs, trace}
use Rattle.player.specs.Hosted.{Request}
use Rattle.player.specs.Writing.{nobody, step, writer, told}
use Rattle.player.specs.Writing as Writing
use Rattle.player.proofs.Runs.{is-traced}
use Rattle.player.proofs.Hosts.{trace-inside}
use Rattle.player.proofs.Doors.{run-whole}
use Rattle.player.proofs.Writings.{Unwritten, LastWritten, Named, named, shown_at, coloured, rested, nobody-wrote, outside}
use Rattle.rules.specs.declared.environment.Env as Held
use Rattle.rules.specs.declared.answer.Answer as Came
use Rattle.rules.specs.Environment.{Env, held}
use Rattle.rules.specs.Step.{afgis}
use Rattle.rules.specs.Door.{machine, said}
use Rattle.rules.specs.Door as Door
use Rattle.rules.proofs.Alone.{keeps}
use Rattle.who.specs.declared.Writer.{Writer}
use Rattle.who.specs.Who.{saying, naming, Promise}
use Rattle.who.proofs.Numbers.{Told, all_told}

module _ (w : List ℕ) (e : Held.Env) (budget : ℕ) (d : Dot) (r : Writer) (kept : Promise w e budget d r) (ok : r.number ≡ 0) where
  -- the opcodes that the run carries out
  abbrev steps : List (Done Env)
  steps = trace (afgis w) budget (held e)

  abbrev last : Writing.Writer Env
  last = writer 1 steps d

  all : Told w (held e) budget d
  all = all_told w (held e) budget d (ap (λ (x : Writer). x.number) (sym kept) ∙ ok)

  is_found : r ≡ told naming (saying 0) last
  is_found = kept ∙ all.is

  -- ---- who is named: the step whose painted dots contain the dot, and no later step's do; or no step's do
  pub data Names : Type 0 where
    no_step : r.step ≡ 0 → Unwritten d steps → Names
    the_step : (o : Done Env) → LastWritten d 1 steps r.step o → r.opcode ≡ o.from.flow.counter → r.colour ≡ o.painting.colour → Names

  pub names : Names
  names = by last (named d 1 steps) is_found
    where
      by : (l : Writing.Writer Env) → Named d 1 steps l → r ≡ told naming (saying 0) l → Names
      by nobody h is = no_step (ap (λ (x : Writer). x.step) is) h
      by (step k o) h is =
          the_step o (subst⁻¹ (λ (j : ℕ). LastWritten d 1 steps j o) (ap (λ (x : Writer). x.step) is) h) (ap (λ (x : Writer). x.opcode) is) (ap (λ (x : Writer). x.colour) is)

  -- an environment that is ended or stopped carries nothing out: no step
  pub at_rest : ((held e).state ≡ Running → ⊥) → r ≡ saying 0
  at_rest n = is_found ∙ sym (rested naming (afgis w) d budget 0 (held e) (saying 0) _ (rw sub-zero) n)

  -- outside the pane nobody writes
  pub off-the-pane : (T (in_pane e.bounds d.x d.y) → ⊥) → r ≡ saying 0
  off-the-pane n =
      is_found
      ∙ ap (told naming (saying 0)) (nobody-wrote d 1 steps (outside d e.bounds n steps (trace-inside (λ x. x.bounds) (afgis w) (keeps w) budget (held e))))

  -- ---- beside it, the run of this very list, environment and budget on a screen of its size, which leaves t
  module _ (s : List ℕ) (size : length s ≡ e.bounds.width * e.bounds.height) (a : Came.Answer) (t : List ℕ) (ran : Door.Promise w s e budget a t) where
    abbrev q : Request (List ℕ)
    q = record { list = w; budget = budget }

    entered : Door.door q (held e) (length s) ≡ 0
    entered = ap (Door.door q (held e)) size ∙ all.entered

    says : said a t ≡ runs (afgis w) budget (held e) s 0
    says = ran ∙ sym (run-whole machine q (held e) s 0 (sym entered) refl)

    -- the step that is named is one of those that it counts
    pub within-the-run : r.step ≤ a.steps
    within-the-run = by names
      where
        counted : a.steps ≡ 0 + length steps
        counted = ap (λ (x : Answer Env). x.steps) says ∙ (is-traced (afgis w) budget (held e) s 0).steps

        by : Names → r.step ≤ a.steps
        by (no_step z h) = omega (arith, z)
        by (the_step o h i c) = omega (arith, counted, h.number, ap length h.all ∙ length-append h.earlier (o ∷ h.later))

    -- byte i shows the dot
    module _ (i : ℕ) (inside : i < length s) (shows : d ≡ shown_at e.bounds i) where
      byte : get_or t i 0 ≡ told (λ j from c. c) (get_or s i 0) last
      byte =
          ap (λ (x : Answer Env). get_or x.screen i 0) says
          ∙ (ap (λ (x : List ℕ). get_or x i 0) (is-traced (afgis w) budget (held e) s 0).screen
          ∙ (coloured e.bounds i 1 steps (trace-inside (λ x. x.bounds) (afgis w) (keeps w) budget (held e)) s inside
          ∙ ap (λ (p : Dot). told (λ j from c. c) (get_or s i 0) (writer 1 steps p)) (sym shows)))

      -- it has the colour that is told, whatever the screen was before, or is as it was
      pub data Shows : Type 0 where
        as_it_was : r.step ≡ 0 → get_or t i 0 ≡ get_or s i 0 → Shows
        painted : (r.step ≡ 0 → ⊥) → get_or t i 0 ≡ r.colour → Shows

      pub on-the-screen : Shows
      on-the-screen = by last (named d 1 steps) is_found byte
        where
          by : (l : Writing.Writer Env) → Named d 1 steps l → r ≡ told naming (saying 0) l → get_or t i 0 ≡ told (λ j from c. c) (get_or s i 0) l → Shows
          by nobody h is b = as_it_was (ap (λ (x : Writer). x.step) is) b
          by (step k o) h is b =
              painted (λ z. omega (arith, z, h.number, ap (λ (x : Writer). x.step) is)) (b ∙ sym (ap (λ (x : Writer). x.colour) is))
