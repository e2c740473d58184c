-- A run that gets somewhere in so many steps, unless one of 23 to 26 stops it on the way.
use Prim.Native.Nat.{ℕ, zero, suc, ◌+◌, ◌<◌, ◌≤◌}
use mathlib.Core.Path.{◌≡◌, refl, sym, subst}
use mathlib.Core.List.{List}
use native.Mathlib.Omega.{arith}
use native.Mathlib.Nat.{zero-add, suc-add}
use Rattle.player.specs.declared.Verdict.{Verdict}
use Rattle.player.specs.declared.State.{State}
use Rattle.player.specs.declared.State.TheVariants.{Running, Ended, Stopped}
use Rattle.player.specs.Painting.{painted}
use Rattle.player.specs.Player.{Outcome, done, refused}
use Rattle.player.specs.Run.{Answer, runs, by_state, by_opcode}
use Rattle.player.proofs.Runs.{ended}
use Rattle.rules.specs.Environment.{Env}
use Rattle.rules.specs.Step.{step, afgis}

-- an opcode is carried out and leaves such an environment, or is refused with 23 to 26
abbrev pub Once : (Env → Type 0) → Outcome Env → Type 0
Once Q (done e p) = Q e
Once Q (refused v) = (23 ≤ v.number) × (v.number ≤ 26)

-- n opcodes
abbrev pub Reach : List ℕ → ℕ → (Env → Type 0) → Env → Type 0
Reach w zero Q e = Q e
Reach w (suc n) Q e = (e.state ≡ Running) × Once (λ x. Reach w n Q x) (step w e)

once-map : (Q R : Env → Type 0) → ((e : Env) → Q e → R e) → (o : Outcome Env) → Once Q o → Once R o
once-map Q R f (done e p) q = f e q
once-map Q R f (refused v) q = q

module _ (w : List ℕ) (Q R : Env → Type 0) where
  -- m opcodes and then n more
  pub then : (m n : ℕ) (e : Env) → Reach w m Q e → ((x : Env) → Q x → Reach w n R x) → Reach w (m + n) R e
  then zero n e h on = subst (λ (k : ℕ). Reach w k R e) (sym (zero-add n)) (on e h)
  then (suc m) n e h on =
      subst (λ (k : ℕ). Reach w k R e) (sym (suc-add m n))
      (h.0, once-map (λ x. Reach w m Q x) (λ x. Reach w (m + n) R x) (λ x q. then m n x q on) (step w e) h.1)

  pub reach-map : (n : ℕ) (e : Env) → ((x : Env) → Q x → R x) → Reach w n Q e → Reach w n R e
  reach-map zero e f h = f e h
  reach-map (suc n) e f h = (h.0, once-map (λ x. Reach w n Q x) (λ x. Reach w n R x) (λ x q. reach-map n x f q) (step w e) h.1)

-- ---- what such a run answers, its budget the number of steps
pub data Finished (n : ℕ) (a : Answer Env) : Type 0 where
  ends : a.verdict.number ≡ 0 → a.env.state ≡ Ended → a.steps ≡ n → Finished n a
  stops : 23 ≤ a.verdict.number → a.verdict.number ≤ 26 → a.env.state ≡ Stopped a.verdict → a.steps < n → Finished n a

abbrev Over : Env → Type 0
Over e = e.state ≡ Ended

module _ (w : List ℕ) where
  turn : (n : ℕ) (o : Outcome Env) (e : Env) (s : List ℕ) (k : ℕ) → Once (λ x. Reach w n Over x) o
      → ((x : Env) (t : List ℕ) → Reach w n Over x → Finished (suc k + n) (runs (afgis w) n x t (suc k)))
      → Finished (k + suc n) (by_opcode (afgis w) o e s k (λ e' s' j. runs (afgis w) n e' s' j))
  turn n (done x p) e s k q on =
      let same : suc k + n ≡ k + suc n = omega arith in
      subst (λ (m : ℕ). Finished m (runs (afgis w) n x (painted p s) (suc k))) same (on x (painted p s) q)
  turn n (refused v) e s k q on = stops q.0 q.1 refl (omega arith)

  pub finished : (n : ℕ) (e : Env) (s : List ℕ) (k : ℕ) → Reach w n Over e → Finished (k + n) (runs (afgis w) n e s k)
  unfolding runs
  finished zero e s k h =
      subst (λ (a : Answer Env). Finished (k + 0) a) (sym (ended (afgis w) 0 e s k h)) (ends refl h (omega arith))
  finished (suc n) e s k h =
      subst (λ (q : State). Finished (k + suc n) (by_state (afgis w) q e s k (by_opcode (afgis w) (step w e) e s k (λ e' s' j. runs (afgis w) n e' s' j)))) (sym h.0)
      (turn n (step w e) e s k h.1 (λ x t q. finished n x t (suc k) q))

-- ---- and one that gets to an opcode that is refused, with a larger budget
pub data Halted (v : Verdict) (n : ℕ) (a : Answer Env) : Type 0 where
  there : a.verdict ≡ v → a.steps ≡ n → Halted v n a
  sooner : 23 ≤ a.verdict.number → a.verdict.number ≤ 26 → a.steps < n → Halted v n a

abbrev pub Refuses : List ℕ → Verdict → Env → Type 0
Refuses w v x = (x.state ≡ Running) × (step w x ≡ refused v)

module _ (w : List ℕ) (v : Verdict) where
  before : (n left : ℕ) (o : Outcome Env) (e : Env) (s : List ℕ) (k : ℕ) → Once (λ x. Reach w n (Refuses w v) x) o
      → ((x : Env) (t : List ℕ) → Reach w n (Refuses w v) x → Halted v (suc k + n) (runs (afgis w) left x t (suc k)))
      → Halted v (k + suc n) (by_opcode (afgis w) o e s k (λ e' s' j. runs (afgis w) left e' s' j))
  before n left (done x p) e s k q on =
      let same : suc k + n ≡ k + suc n = omega arith in
      subst (λ (m : ℕ). Halted v m (runs (afgis w) left x (painted p s) (suc k))) same (on x (painted p s) q)
  before n left (refused u) e s k q on = sooner q.0 q.1 (omega arith)

  pub halted : (n budget : ℕ) → n < budget → (e : Env) (s : List ℕ) (k : ℕ) → Reach w n (Refuses w v) e → Halted v (k + n) (runs (afgis w) budget e s k)
  unfolding runs
  halted n zero l e s k h = absurd (omega (arith, l))
  halted zero (suc left) l e s k h =
      subst (λ (q : State). Halted v (k + 0) (by_state (afgis w) q e s k (by_opcode (afgis w) (step w e) e s k (λ e' s' j. runs (afgis w) left e' s' j)))) (sym h.0)
      (subst (λ (o : Outcome Env). Halted v (k + 0) (by_opcode (afgis w) o e s k (λ e' s' j. runs (afgis w) left e' s' j))) (sym h.1) (there refl (omega arith)))
  halted (suc n) (suc left) l e s k h =
      subst (λ (q : State). Halted v (k + suc n) (by_state (afgis w) q e s k (by_opcode (afgis w) (step w e) e s k (λ e' s' j. runs (afgis w) left e' s' j)))) (sym h.0)
      (before n left (step w e) e s k h.1 (λ x t q. halted n left (omega (arith, l)) x t (suc k) q))
