-- What an opcode leaves is in range and may be drawn on; and the state's number and place.
use Prim.Native.Nat.{ℕ, ◌*◌, ◌≤◌}
use mathlib.Core.Path.{◌≡◌, refl, sym, ap, subst}
use mathlib.Core.Bool.{Bool, true, false, cond}
use mathlib.Core.List.{List}
use native.Mathlib.Omega.{arith}
use borrow.Author.Tests.{leb-true, eq-eqb, ne_eqb}
use lib.ListN.{length}
use lib.Dec.{eqb}
use Rattle.raster.specs.declared.frame.Bounds.{Bounds}
use Rattle.raster.specs.declared.frame.Frame.{Frame}
use Rattle.raster.specs.Frame.{Fitting}
use Rattle.player.specs.declared.Verdict.{Verdict}
use Rattle.player.specs.declared.State.{State}
use Rattle.player.specs.declared.State.TheVariants.{Running, Ended, Stopped}
use Rattle.player.specs.Player.{Outcome, done, refused}
use Rattle.player.specs.Shown.{went, halted}
use Rattle.player.proofs.Runs.{Leaves}
use Rattle.rules.specs.declared.environment.Registers.{Registers}
use Rattle.rules.specs.Environment.{Env, env, pen_of, flow_of, carries0, state_of, frame}
use Rattle.rules.specs.Step.{step, afgis}
use Rattle.rules.specs.Door.{between, size_fits, state_fits, fits}
use Rattle.rules.proofs.Ranges.{one, Fits, joined, parted}
use Rattle.rules.proofs.Kept.{step_keeps}
use Rattle.rules.proofs.DoorLaws.{fitting}
use Rattle.rules.proofs.Unique.{stopped-state}
use Rattle.lent.specs.declared.Stack.{Stack}
use Rattle.lent.specs.Lent.{look}
use Rattle.lent.specs.Shown.{Shown, stop, shown}
use Rattle.run.specs.Inks.{outcome_by}

-- ---- what is left, stopped where it was refused, is in range, in whatever colours
abbrev pub left_in : Shown → Env
left_in (went e m) = e
left_in (halted v e) = stop v e

module _ (w : List ℕ) (few : length w ≤ 65536) (e : Env) (h : fits e ≡ true) where
  shown-fits : (f : ℕ → ℕ) (o : Outcome Env) → Leaves (afgis w) (Fits e.bounds) e o → Fits e.bounds (left_in (shown (outcome_by f o) e))
  shown-fits f (done e' p) l = l
  shown-fits f (refused v) l = l

  pub leaves-fits : (f : ℕ → ℕ) {x : Shown} → x ≡ shown (outcome_by f (step w e)) e → fits (left_in x) ≡ true
  leaves-fits f {x} q =
      joined (left_in x)
      (subst (λ (y : Shown). Fits e.bounds (left_in y)) (sym q) (shown-fits f (step w e) (step_keeps w few e.bounds e (parted e h))))

-- what may be drawn on, f, is the frame of such an environment
pub may-draw : {f : Frame} (e : Env) (s : List ℕ) → f ≡ frame e → size_fits e.bounds ≡ true → fits e ≡ true → length s ≡ e.bounds.width * e.bounds.height
    → Fitting f s
may-draw e s is size h area = rw is (fitting e s size h area)

-- ---- the state's number and place: in range, the number alone tells whether it runs
least : (v : Verdict) → state_fits (Stopped v) ≡ true → 20 ≤ v.number
least v h = leb-true 20 v.number (one _ _ (one (between 20 29 v.number) _ h))

pub running : (v : Verdict) → state_fits (state_of v) ≡ true → v.number ≡ 0 → state_of v ≡ Running
unfolding state_of
running v fits z =
    let is-0 = eq-eqb v.number 0 z in
    let not-1 = ne_eqb v.number 1 (λ o. omega (arith, o, z)) in
    rw (is-0, not-1) (at_place (eqb v.place.0 0) (rw (is-0, not-1) at fits))
  where
    at_place : (t : Bool) → state_fits (cond t Running (Stopped v)) ≡ true → cond t Running (Stopped v) ≡ Running
    at_place true f = refl
    at_place false f = absurd (omega (arith, z, least v f))

pub not-running : (v : Verdict) → (v.number ≡ 0 → ⊥) → state_of v ≡ Running → ⊥
unfolding state_of
not-running v h q = at_one (carries0 v 1) (rw (ne_eqb v.number 0 h) at q)
  where
    at_one : (t : Bool) → cond t Ended (Stopped v) ≡ Running → ⊥
    at_one true p = let z : ◌≡◌ {A = ℕ} 0 1 = cc in omega (arith, z)
    at_one false p = let z : ◌≡◌ {A = ℕ} 0 1 = cc in omega (arith, z)

-- registers that were stopped with a number in range stand for the stopped environment
pub stopped : (b : Bounds) (r : Registers) {r₁ : Registers} (vs : List ℕ) (st : Stack) (v : Verdict) → state_fits (Stopped v) ≡ true
    → r₁ ≡ record r { state = v.number; place = v.place } → look b r₁ vs st ≡ stop v (look b r vs st)
stopped b r vs st v h is =
    rw is
    (ap (λ (q : State). env b vs (pen_of r) (flow_of r st.returns st.nesting st.repeats) q) (stopped-state v (omega (arith, least v h))))
