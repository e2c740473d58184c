-- Neither the bytes of the screen nor the count so far steer a run.
use Prim.Native.Nat.{ℕ, zero, suc, ◌+◌}
use mathlib.Core.Path.{◌≡◌, refl, sym, ap, ◌∙◌}
use mathlib.Core.List.{List}
use native.Mathlib.Nat.{add-zero, add-suc}
use Rattle.player.specs.declared.State.{State}
use Rattle.player.specs.declared.State.TheVariants.{Running, Ended, Stopped}
use Rattle.player.specs.Painting.{Painting, painted}
use Rattle.player.specs.Player.{verdict, Outcome, done, refused, Player}
use Rattle.player.specs.Run.{Answer, answer, got, by_state, by_opcode, runs}
use Rattle.player.specs.Slices.{after}

-- ---- two runs from one environment go abreast: what stands between their screens and counts, and is kept by painting and counting, stands there in the end
module _ {E : Type 0} (P : Player E) (R : List ℕ → ℕ → List ℕ → ℕ → Type 0) where
  record Abreast (a b : Answer E) : Type 0 where
    verdict : a.verdict ≡ b.verdict
    env : a.env ≡ b.env
    between : R a.screen a.steps b.screen b.steps

  abreast-state : (q : State) (e : E) (s : List ℕ) (k : ℕ) (t : List ℕ) (j : ℕ) (a b : Answer E) → R s k t j → Abreast a b
      → Abreast (by_state P q e s k a) (by_state P q e t j b)
  abreast-state Ended e s k t j a b r h = record { verdict = refl; env = refl; between = r }
  abreast-state (Stopped v) e s k t j a b r h = record { verdict = refl; env = refl; between = r }
  abreast-state Running e s k t j a b r h = h

  module _ (kept : (p : Painting) (s : List ℕ) (k : ℕ) (t : List ℕ) (j : ℕ) → R s k t j → R (painted p s) (suc k) (painted p t) (suc j)) where
    abreast-opcode : (o : Outcome E) (e : E) (s : List ℕ) (k : ℕ) (t : List ℕ) (j : ℕ) (on : E → List ℕ → ℕ → Answer E) → R s k t j
        → ((e' : E) (s' : List ℕ) (k' : ℕ) (t' : List ℕ) (j' : ℕ) → R s' k' t' j' → Abreast (on e' s' k') (on e' t' j'))
        → Abreast (by_opcode P o e s k on) (by_opcode P o e t j on)
    abreast-opcode (refused v) e s k t j on r h = record { verdict = refl; env = refl; between = r }
    abreast-opcode (done e' p) e s k t j on r h = h e' (painted p s) (suc k) (painted p t) (suc j) (kept p s k t j r)

    abreast : (left : ℕ) (e : E) (s : List ℕ) (k : ℕ) (t : List ℕ) (j : ℕ) → R s k t j → Abreast (runs P left e s k) (runs P left e t j)
    unfolding runs
    abreast zero e s k t j r =
        abreast-state (P.state e) e s k t j (answer (verdict 1) e s k) (answer (verdict 1) e t j) r
        (record { verdict = refl; env = refl; between = r })
    abreast (suc left) e s k t j r =
        abreast-state (P.state e) e s k t j _ _ r
        (abreast-opcode (P.step e) e s k t j (λ e' s' k'. runs P left e' s' k') r (abreast left))

-- number, environment and steps do not depend on the screen's bytes
pub blind : {E : Type 0} (P : Player E) (left : ℕ) (e : E) (s t : List ℕ) (k : ℕ) → got (runs P left e s k) ≡ got (runs P left e t k)
blind P left e s t k =
    let h = abreast P (λ s k t j. k ≡ j) (λ p s k t j r. ap suc r) left e s k t k refl in
    λ i. record { told = record { verdict = h.verdict i; steps = h.between i }; env = h.env i }

-- a run that counts from k answers as one that counts from 0, after k steps
pub counted : {E : Type 0} (P : Player E) (left : ℕ) (e : E) (s : List ℕ) (k : ℕ) → runs P left e s k ≡ after k (runs P left e s 0)
counted P left e s k =
    let h = abreast P (λ s j t i. (s ≡ t) × (j ≡ k + i)) (λ p s j t i r. (ap (painted p) r.0, ap suc r.1 ∙ sym (add-suc k i))) left e s k s 0
    (refl, sym (add-zero k)) in
    λ i. answer (h.verdict i) (h.env i) (h.between.0 i) (h.between.1 i)
