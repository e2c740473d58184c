-- A budget may be cut in two, and an answer other than 1 stays under any larger budget.
use Prim.Native.Nat.{ℕ, zero, suc, ◌+◌, ◌-◌, ◌≤◌}
use mathlib.Core.Path.{◌≡◌, refl, sym, ap, ◌∙◌}
use mathlib.Core.List.{List}
use native.Mathlib.Omega.{arith}
use native.Mathlib.Nat.{add-zero, zero-add, suc-add}
use Rattle.player.specs.declared.Verdict.{Verdict}
use Rattle.player.specs.declared.State.{State}
use Rattle.player.specs.declared.State.TheVariants.{Running, Ended, Stopped}
use Rattle.player.specs.Painting.{painted}
use Rattle.player.specs.Player.{verdict, Outcome, done, refused, Player, Stops}
use Rattle.player.specs.Run.{Answer, answer, by_state, by_opcode, runs}
use Rattle.player.specs.Slices.{after}
use Rattle.player.proofs.Runs.{ended, stopped, idle}
use Rattle.player.proofs.Unsteered.{counted}

module _ {E : Type 0} (P : Player E) (stops : Stops P) where
  -- ---- a budget cut in two
  -- the run that goes on from an answer with a budget b
  abbrev onward : ℕ → Answer E → Answer E
  onward b a = runs P b a.env a.screen a.steps

  onward-state : (q : State) (b : ℕ) (e : E) (s : List ℕ) (k : ℕ) (x y : Answer E) → P.state e ≡ q → x ≡ onward b y
      → by_state P q e s k x ≡ onward b (by_state P q e s k y)
  onward-state Ended b e s k x y h f = sym (ended P b e s k h)
  onward-state (Stopped v) b e s k x y h f = sym (stopped P b e s k v h)
  onward-state Running b e s k x y h f = f

  onward-opcode : (o : Outcome E) (b : ℕ) (e : E) (s : List ℕ) (k : ℕ) (on one : E → List ℕ → ℕ → Answer E)
      → ((e' : E) (s' : List ℕ) (j : ℕ) → on e' s' j ≡ onward b (one e' s' j)) → by_opcode P o e s k on ≡ onward b (by_opcode P o e s k one)
  onward-opcode (refused v) b e s k on one f = sym (stopped P b (P.stop v e) s k v (stops v e))
  onward-opcode (done e' p) b e s k on one f = f e' (painted p s) (suc k)

  goes_on : (a b : ℕ) (e : E) (s : List ℕ) (k : ℕ) → runs P (a + b) e s k ≡ onward b (runs P a e s k)
  unfolding runs
  goes_on zero b e s k = ap (λ (n : ℕ). runs P n e s k) (zero-add b) ∙ ap (onward b) (sym (idle P e s k))
  goes_on (suc a) b e s k =
      ap (λ (n : ℕ). runs P n e s k) (suc-add a b)
      ∙ onward-state (P.state e) b e s k _ _ refl
      (onward-opcode (P.step e) b e s k (λ e' s' j. runs P (a + b) e' s' j) (λ e' s' j. runs P a e' s' j) (goes_on a b))

  -- a + b at once gives the number, environment and screen of a and then b, and the steps add up
  pub split : (a b : ℕ) (e : E) (s : List ℕ) (k : ℕ)
      → let x = runs P a e s k in runs P (a + b) e s k ≡ after x.steps (runs P b x.env x.screen 0)
  split a b e s k =
      let x = runs P a e s k in
      goes_on a b e s k ∙ counted P b x.env x.screen x.steps

  -- ---- a larger budget
  -- an environment that is still running comes back with 1
  settled-state : (q : State) (e : E) (s : List ℕ) (k : ℕ) (x : Answer E) → P.state e ≡ q → (P.state x.env ≡ Running → x.verdict ≡ verdict 1)
      → P.state (by_state P q e s k x).env ≡ Running → (by_state P q e s k x).verdict ≡ verdict 1
  settled-state Ended e s k x h f r = let y : ◌≡◌ {A = ℕ} 0 1 = cc in absurd (omega arith)
  settled-state (Stopped v) e s k x h f r = let y : ◌≡◌ {A = ℕ} 0 1 = cc in absurd (omega arith)
  settled-state Running e s k x h f r = f r

  settled-opcode : (o : Outcome E) (e : E) (s : List ℕ) (k : ℕ) (on : E → List ℕ → ℕ → Answer E)
      → ((e' : E) (s' : List ℕ) (j : ℕ) → P.state (on e' s' j).env ≡ Running → (on e' s' j).verdict ≡ verdict 1)
      → P.state (by_opcode P o e s k on).env ≡ Running → (by_opcode P o e s k on).verdict ≡ verdict 1
  settled-opcode (refused v) e s k on f r = let y : ◌≡◌ {A = ℕ} 0 1 = cc (stops v e) in absurd (omega arith)
  settled-opcode (done e' p) e s k on f r = f e' (painted p s) (suc k) r

  settled : (a : ℕ) (e : E) (s : List ℕ) (k : ℕ) → P.state (runs P a e s k).env ≡ Running → (runs P a e s k).verdict ≡ verdict 1
  unfolding runs
  settled zero e s k = settled-state (P.state e) e s k (answer (verdict 1) e s k) refl (λ r. refl)
  settled (suc a) e s k =
      settled-state (P.state e) e s k _ refl (settled-opcode (P.step e) e s k (λ e' s' j. runs P a e' s' j) (settled a))

  -- an environment that does not run answers the same under any budget
  rests : (q : State) (b : ℕ) (e : E) (s : List ℕ) (k : ℕ) → P.state e ≡ q → (q ≡ Running → ⊥) → runs P b e s k ≡ runs P 0 e s k
  rests Ended b e s k h n = ended P b e s k h ∙ sym (ended P 0 e s k h)
  rests (Stopped v) b e s k h n = stopped P b e s k v h ∙ sym (stopped P 0 e s k v h)
  rests Running b e s k h n = absurd (n refl)

  -- an answer other than 1 stays the same
  pub larger : (a b : ℕ) (e : E) (s : List ℕ) (k : ℕ) → a ≤ b → ((runs P a e s k).verdict.number ≡ 1 → ⊥) → runs P b e s k ≡ runs P a e s k
  larger a b e s k l n =
      let x = runs P a e s k in
      ap (λ (c : ℕ). runs P c e s k) (omega arith)
      ∙ goes_on a (b - a) e s k
      ∙ rests (P.state x.env) (b - a) x.env x.screen x.steps refl (λ r. n (ap (λ (v : Verdict). v.number) (settled a e s k r)))
      ∙ sym (goes_on a 0 e s k)
      ∙ ap (λ (c : ℕ). runs P c e s k) (add-zero a)
