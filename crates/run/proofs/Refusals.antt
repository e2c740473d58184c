-- Demand 1 of the program itself: a call that began running and answers 20 to 29, beside the same call with a budget of just its steps, both promises kept.
use Prim.Native.Nat.{ℕ}
use mathlib.Core.Path.{◌≡◌, sym, ap, ◌∙◌, subst, subst₂}
use mathlib.Core.Bool.{true}
use mathlib.Core.List.{List}
use Rattle.player.specs.declared.State.TheVariants.{Running, Stopped}
use Rattle.player.specs.Player.{verdict}
use Rattle.player.specs.Run.{Answer}
use Rattle.rules.specs.declared.environment.Env as Held
use Rattle.rules.specs.declared.answer.Answer as Came
use Rattle.rules.specs.Environment.{Env, held, stated}
use Rattle.rules.specs.Door.{between, said, whole, Promise}
use Rattle.rules.proofs.Refusals as Rules

module _ (w s : List ℕ) (e : Held.Env) (budget : ℕ) (began : (held e).state ≡ Running)
    (a : Came.Answer) (t : List ℕ) (kept : Promise w s e budget a t) (refusal : between 20 29 a.number ≡ true)
    (b : Came.Answer) (u : List ℕ) (again : Promise w s e a.steps b u) where
  -- what is left of the one is what is left of the other, but for the state, which keeps what the one answered
  abbrev Same : Answer Env → Answer Env → Type 0
  Same x y = (y.verdict ≡ verdict 1) × (x.screen ≡ y.screen) × (x.steps ≡ y.steps) × (x.env ≡ stated (Stopped x.verdict) y.env)

  told : between 20 29 (whole w s (held e) budget).verdict.number ≡ true
  told = subst (λ (x : Answer Env). between 20 29 x.verdict.number ≡ true) kept refusal

  -- the second call has just the budget that the rules speak of
  again-is : whole w s (held e) (whole w s (held e) budget).steps ≡ said b u
  again-is = ap (λ (k : ℕ). whole w s (held e) k) (sym (ap (λ (x : Answer Env). x.steps) kept)) ∙ sym again

  pub nothing-changed : Same (said a t) (said b u)
  nothing-changed = subst₂ Same (sym kept) again-is (Rules.nothing-changed w s (held e) budget began told)
