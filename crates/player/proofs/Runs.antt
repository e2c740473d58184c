-- The run over any player: its order, the opcodes that it carries out, and what it keeps.
use Prim.Native.Nat.{ℕ, zero, suc, ◌+◌}
use mathlib.Core.Path.{◌≡◌, refl, sym, ap, ◌∙◌, subst}
use mathlib.Core.List.{List}
use native.Mathlib.Omega.{arith}
use native.Mathlib.Nat.{add-zero}
use lib.ListN.{length}
use Rattle.player.specs.declared.Verdict.{Verdict}
use Rattle.player.specs.declared.State.{State}
use Rattle.player.specs.declared.State.TheVariants.{Running, Ended, Stopped}
use Rattle.player.specs.Painting.{painted, drawn}
use Rattle.player.specs.Player.{verdict, Outcome, done, refused, Player, Stops}
use Rattle.player.specs.Shown.{verdict_of}
use Rattle.player.specs.Run.{Answer, answer, Done, paintings, by_state, by_opcode, runs, traced, trace}

one_more : (n k d : ℕ) → n ≡ suc k + d → n ≡ k + suc d
one_more n k d h = omega arith

module _ {E : Type 0} (P : Player E) where
  -- ---- the state comes first: an ended or stopped environment answers its number again
  pub ended : (b : ℕ) (e : E) (s : List ℕ) (k : ℕ) → P.state e ≡ Ended → runs P b e s k ≡ answer (verdict 0) e s k
  unfolding runs
  ended zero e s k h = rw h
  ended (suc b) e s k h = rw h

  pub stopped : (b : ℕ) (e : E) (s : List ℕ) (k : ℕ) (v : Verdict) → P.state e ≡ Stopped v → runs P b e s k ≡ answer v e s k
  unfolding runs
  stopped zero e s k v h = rw h
  stopped (suc b) e s k v h = rw h

  -- then the budget: a refusal waiting behind the last allowed step is not seen
  pub used_up : (e : E) (s : List ℕ) (k : ℕ) → P.state e ≡ Running → runs P 0 e s k ≡ answer (verdict 1) e s k
  unfolding runs
  used_up e s k h = rw h

  idle-state : (q : State) (e : E) (s : List ℕ) (k : ℕ)
      → let a = by_state P q e s k (answer (verdict 1) e s k) in a ≡ answer a.verdict e s k
  idle-state Ended e s k = refl
  idle-state (Stopped v) e s k = refl
  idle-state Running e s k = refl

  -- a budget of 0 leaves all as it was, in whatever state
  pub idle : (e : E) (s : List ℕ) (k : ℕ) → runs P 0 e s k ≡ answer (runs P 0 e s k).verdict e s k
  unfolding runs
  idle e s k = idle-state (P.state e) e s k

  -- ---- the verdict that comes back is that of the state that is left
  says-by-state : (q : State) (e : E) (s : List ℕ) (k : ℕ) (on : Answer E) → P.state e ≡ q → on.verdict ≡ verdict_of (P.state on.env)
      → let a = by_state P q e s k on in a.verdict ≡ verdict_of (P.state a.env)
  says-by-state Ended e s k on h f = sym (ap verdict_of h)
  says-by-state (Stopped v) e s k on h f = sym (ap verdict_of h)
  says-by-state Running e s k on h f = f

  says-by-opcode : Stops P → (o : Outcome E) (e : E) (s : List ℕ) (k : ℕ) (on : E → List ℕ → ℕ → Answer E)
      → ((e' : E) (s' : List ℕ) (j : ℕ) → (on e' s' j).verdict ≡ verdict_of (P.state (on e' s' j).env))
      → let a = by_opcode P o e s k on in a.verdict ≡ verdict_of (P.state a.env)
  says-by-opcode stops (refused v) e s k on f = sym (ap verdict_of (stops v e))
  says-by-opcode stops (done e' p) e s k on f = f e' (painted p s) (suc k)

  pub says-state : Stops P → (b : ℕ) (e : E) (s : List ℕ) (k : ℕ) → let a = runs P b e s k in a.verdict ≡ verdict_of (P.state a.env)
  unfolding runs
  says-state stops zero e s k = at_zero (P.state e) refl
    where
      at_zero : (q : State) → P.state e ≡ q → let a = by_state P q e s k (answer (verdict 1) e s k) in a.verdict ≡ verdict_of (P.state a.env)
      at_zero Ended h = sym (ap verdict_of h)
      at_zero (Stopped v) h = sym (ap verdict_of h)
      at_zero Running h = sym (ap verdict_of h)
  says-state stops (suc b) e s k =
      says-by-state (P.state e) e s k _ refl (says-by-opcode stops (P.step e) e s k (λ e' s' j. runs P b e' s' j) (says-state stops b))

  -- ---- the opcodes carried out, painted in order, make the screen, and their number is the count
  pub record Traced (a : Answer E) (d : List (Done E)) (s : List ℕ) (k : ℕ) : Type 0 where
    pub screen : a.screen ≡ drawn (paintings d) s
    pub steps : a.steps ≡ k + length d

  traced-turn : (q : State) (o : Outcome E) (e : E) (s : List ℕ) (k : ℕ) (on : E → List ℕ → ℕ → Answer E) (more : E → List (Done E))
      → ((e' : E) (s' : List ℕ) → Traced (on e' s' (suc k)) (more e') s' (suc k))
      → Traced (by_state P q e s k (by_opcode P o e s k on)) (traced P q o e more) s k
  traced-turn Ended o e s k on more h = record { screen = refl; steps = sym (add-zero k) }
  traced-turn (Stopped v) o e s k on more h = record { screen = refl; steps = sym (add-zero k) }
  traced-turn Running (refused v) e s k on more h = record { screen = refl; steps = sym (add-zero k) }
  traced-turn Running (done e' p) e s k on more h =
      let n = h e' (painted p s) in
      record { screen = n.screen; steps = one_more (on e' (painted p s) (suc k)).steps k (length (more e')) n.steps }

  pub is-traced : (left : ℕ) (e : E) (s : List ℕ) (k : ℕ) → Traced (runs P left e s k) (trace P left e) s k
  unfolding runs trace
  is-traced zero e s k =
      record { screen = ap (λ (a : Answer E). a.screen) (idle e s k); steps = ap (λ (a : Answer E). a.steps) (idle e s k) ∙ sym (add-zero k) }
  is-traced (suc left) e s k =
      traced-turn (P.state e) (P.step e) e s k (λ e' s' j. runs P left e' s' j) (λ e'. trace P left e') (λ e' s'. is-traced left e' s' (suc k))

  -- ---- what each step keeps, a run keeps
  -- the environment after the opcode, or the one that its refusal stops
  abbrev pub Leaves : (E → Type 0) → E → Outcome E → Type 0
  Leaves I e (done e' p) = I e'
  Leaves I e (refused v) = I (P.stop v e)

  module _ (I : E → Type 0) (kept : (e : E) → I e → Leaves I e (P.step e)) where
    kept-turn : (q : State) (o : Outcome E) (e : E) (s : List ℕ) (k : ℕ) (on : E → List ℕ → ℕ → Answer E) → I e → Leaves I e o
        → ((e' : E) (s' : List ℕ) (j : ℕ) → I e' → I (on e' s' j).env) → I (by_state P q e s k (by_opcode P o e s k on)).env
    kept-turn Ended o e s k on i h f = i
    kept-turn (Stopped v) o e s k on i h f = i
    kept-turn Running (refused v) e s k on i h f = h
    kept-turn Running (done e' p) e s k on i h f = f e' (painted p s) (suc k) h

    pub invariant : (left : ℕ) (e : E) (s : List ℕ) (k : ℕ) → I e → I (runs P left e s k).env
    unfolding runs
    invariant zero e s k i = subst (λ (a : Answer E). I a.env) (sym (idle e s k)) i
    invariant (suc left) e s k i = kept-turn (P.state e) (P.step e) e s k (λ e' s' j. runs P left e' s' j) i (kept e i) (invariant left)
