-- Demand 1, for any player behind a door: a refused opcode changes nothing, the opcodes before it stand, and the environment says that it was stopped.
use Prim.Native.Nat.{ℕ, zero, suc, ◌+◌, ◌≤◌}
use mathlib.Core.Path.{◌≡◌, refl, sym, ap, ◌∙◌, subst, subst₂}
use mathlib.Core.List.{List}
use native.Mathlib.Omega.{arith}
use native.Mathlib.Nat.{add-zero, zero-add}
use Rattle.player.specs.declared.Verdict.{Verdict}
use Rattle.player.specs.declared.State.{State}
use Rattle.player.specs.declared.State.TheVariants.{Running, Ended, Stopped}
use Rattle.player.specs.Painting.{painted}
use Rattle.player.specs.Player.{verdict, Outcome, done, refused, Player, Stops, Unstopped, LeavesUnstopped, OnlyRefusalsStop}
use Rattle.player.specs.Run.{Answer, answer, by_opcode, runs}
use Rattle.player.specs.Hosted.{Request, Hosted, answered}
use Rattle.player.specs.Stands.{budgeted, LetsInLess, EndsStopped, Stands}
use Rattle.player.proofs.Runs
use Rattle.player.proofs.Doors.{run-whole}

module _ {E : Type 0} (P : Player E) where
  -- so the two answers are these, of one environment and one screen
  pub exactly : {v : Verdict} {x y : Answer E} → Stands P v x y
      → (y ≡ answer (verdict 1) y.env y.screen x.steps) × (x ≡ answer v (P.stop v y.env) y.screen x.steps)
  exactly {v} {x} {y} t =
      (λ i. answer (t.used_up i) y.env y.screen (sym t.steps i), λ i. answer (t.says i) (t.env i) (t.screen i) x.steps)

  -- a run's next opcode says how it goes on
  running : (n : ℕ) (e : E) (s : List ℕ) (k : ℕ) (o : Outcome E) → P.state e ≡ Running → P.step e ≡ o
      → runs P (suc n) e s k ≡ by_opcode P o e s k (λ e' s' j. runs P n e' s' j)
  unfolding runs
  running n e s k o h d = rw (h, d)

  -- the state in which an answer leaves its environment
  abbrev final : Answer E → State
  final x = P.state x.env

  -- the refused opcode of a run, found: `count` opcodes, of the n that may be, are carried out before it
  record Found (n : ℕ) (v : Verdict) (e : E) (s : List ℕ) (k : ℕ) : Type 0 where
    count : ℕ
    few : count ≤ n
    steps : (runs P n e s k).steps ≡ k + count
    stands : Stands P v (runs P n e s k) (runs P count e s k)

  -- it is the next opcode
  at_once : Stops P → (n : ℕ) (e : E) (s : List ℕ) (k : ℕ) (v u : Verdict) → P.state e ≡ Running → P.step e ≡ refused u → final (runs P (suc n) e s k) ≡ Stopped v
      → Found (suc n) v e s k
  at_once stops n e s k v u h d z =
      let x : runs P (suc n) e s k ≡ answer u (P.stop u e) s k = running n e s k (refused u) h d in
      let q : Stopped u ≡ Stopped v = sym (stops u e) ∙ sym (ap final x) ∙ z in
      let same : u ≡ v = cc in
      record {
        count = 0;
        few = omega arith;
        steps = ap (λ (a : Answer E). a.steps) x ∙ sym (add-zero k);
        stands = subst₂ (λ (a b : Answer E). Stands P v a b) (sym x) (sym (Runs.used_up P e s k h)) (record {
          used_up = refl;
          next = d ∙ ap refused same;
          says = same;
          env = ap (λ (w : Verdict). P.stop w e) same;
          screen = refl;
          steps = refl;
        });
      }

  -- it comes after an opcode that is carried out and leaves e' and s'
  later : (n : ℕ) (e : E) (s : List ℕ) (k : ℕ) (v : Verdict) (e' : E) (s' : List ℕ) → ((m : ℕ) → runs P (suc m) e s k ≡ runs P m e' s' (suc k))
      → Found n v e' s' (suc k) → Found (suc n) v e s k
  later n e s k v e' s' on f =
      record {
        count = suc f.count;
        few = omega (arith, f.few);
        steps = ap (λ (a : Answer E). a.steps) (on n) ∙ f.steps ∙ (omega arith);
        stands = subst₂ (λ (a b : Answer E). Stands P v a b) (sym (on n)) (sym (on f.count)) f.stands;
      }

  -- a run that a refusal ends is running after each opcode that is carried out
  still : (q : State) (n : ℕ) (e : E) (s : List ℕ) (k : ℕ) (v : Verdict) → P.state e ≡ q → Unstopped q → final (runs P n e s k) ≡ Stopped v → P.state e ≡ Running
  still Running n e s k v h u z = h
  still Ended n e s k v h u z = let y : ◌≡◌ {A = ℕ} 0 1 = cc (h, ap final (Runs.ended P n e s k h)) in absurd (omega arith)
  still (Stopped w) n e s k v h u z = absurd u

  module _ (stops : Stops P) (only : OnlyRefusalsStop P) where
    at-opcode : (o : Outcome E) (n : ℕ) (e : E) (s : List ℕ) (k : ℕ) (v : Verdict) → P.state e ≡ Running → P.step e ≡ o → LeavesUnstopped P o
        → ((e' : E) (s' : List ℕ) (j : ℕ) → P.state e' ≡ Running → final (runs P n e' s' j) ≡ Stopped v → Found n v e' s' j)
        → final (runs P (suc n) e s k) ≡ Stopped v → Found (suc n) v e s k
    at-opcode (refused u) n e s k v h d l f z = at_once stops n e s k v u h d z
    at-opcode (done e' p) n e s k v h d l f z =
        let s' = painted p s in
        let on : (m : ℕ) → runs P (suc m) e s k ≡ runs P m e' s' (suc k) = λ m. running m e s k (done e' p) h d in
        let z' : final (runs P n e' s' (suc k)) ≡ Stopped v = sym (ap final (on n)) ∙ z in
        later n e s k v e' s' on (f e' s' (suc k) (still (P.state e') n e' s' (suc k) v refl l z') z')

    found : (n : ℕ) (e : E) (s : List ℕ) (k : ℕ) (v : Verdict) → P.state e ≡ Running → final (runs P n e s k) ≡ Stopped v → Found n v e s k
    found zero e s k v h z = let y : ◌≡◌ {A = ℕ} 0 1 = cc (h, ap final (Runs.used_up P e s k h)) in absurd (omega arith)
    found (suc n) e s k v h z = at-opcode (P.step e) n e s k v h refl (only e h) (λ e' s' j. found n e' s' j v) z

    module _ (n : ℕ) (e : E) (s : List ℕ) (v : Verdict) (began : P.state e ≡ Running) (over : final (runs P n e s 0) ≡ Stopped v) where
      abbrev x : Answer E
      x = runs P n e s 0

      pub within : x.steps ≤ n
      within = let f = found n e s 0 v began over in omega (arith, f.few, f.steps)

      -- a run from an environment that runs to one that is stopped
      pub run-stands : Stands P v x (runs P x.steps e s 0)
      run-stands =
          let f = found n e s 0 v began over in
          subst (λ (c : ℕ). Stands P v x (runs P c e s 0)) (sym (f.steps ∙ zero-add f.count)) f.stands

-- a call that was let in
pub stands : (H : Hosted) → LetsInLess H → ((w : H.Words) → Stops (H.player w)) → ((w : H.Words) → OnlyRefusalsStop (H.player w))
    → (q : Request H.Words) (e : H.Env) (s : List ℕ) (v : Verdict) → EndsStopped H q e s v
    → let x = answered H q e s in Stands (H.player q.list) v x (answered H (budgeted x.steps q) e s)
stands H less stops only q e s v r =
    let P = H.player q.list in
    let x = runs P q.budget e s 0 in
    let is : x ≡ answered H q e s = run-whole H q e s 0 (sym r.entered) refl in
    let over : P.state x.env ≡ Stopped v = ap (λ (a : Answer H.Env). P.state a.env) is ∙ r.stopped in
    let few = within P (stops q.list) (only q.list) q.budget e s v r.began over in
    let again = run-whole H (budgeted x.steps q) e s 0 (sym (less q e _ x.steps few r.entered)) refl in
    let t = run-stands P (stops q.list) (only q.list) q.budget e s v r.began over in
    subst (λ (a : Answer H.Env). Stands P v a (answered H (budgeted a.steps q) e s)) is (subst (λ (a : Answer H.Env). Stands P v x a) again t)
