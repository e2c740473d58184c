-- Laws of `some_below`.
use Rattle.std.proofs.Common.{◌≡◌, ℕ, zero, suc, ◌<◌, Bool, false, ◌||◌, T, refl, subst, ap₂, arith}
use native.Mathlib.Decide.{dec_lt}
use Rattle.raster.specs.Shapes.{some_below}
use Rattle.raster.proofs.Tests.{yes-or, or_yes, or_elim}

-- two tests that agree on the numbers below n
pub some_same : (n : ℕ) (p q : ℕ → Bool) → ((k : ℕ) → k < n → p k ≡ q k) → some_below n p ≡ some_below n q
unfolding some_below
some_same zero p q e = refl
some_same (suc n) p q e = ap₂ (λ (a b : Bool). a || b) (some_same n p q (λ k h. e k (omega arith))) (e n (omega arith))

-- a test that none of them passes
pub some-none : (n : ℕ) (p : ℕ → Bool) → ((k : ℕ) → k < n → p k ≡ false) → some_below n p ≡ false
unfolding some_below
some-none zero p e = refl
some-none (suc n) p e = ap₂ (λ (a b : Bool). a || b) (some-none n p (λ k h. e k (omega arith))) (e n (omega arith))

-- a test that one of them passes
pub some-intro : (n k : ℕ) (p : ℕ → Bool) → k < n → T (p k) → T (some_below n p)
unfolding some_below
some-intro zero k p h t = absurd (omega arith)
some-intro (suc n) k p h t = by (dec_lt k n) (λ l. some-intro n k p l t)
  where
    by : Dec (k < n) → (k < n → T (some_below n p)) → T (some_below n p || p n)
    by (yes l) f = yes-or (some_below n p) (p n) (f l)
    by (no l) f = or_yes (some_below n p) (p n) (subst (λ (a : ℕ). T (p a)) (last k n h l) t)
      where
        last : (k n : ℕ) → k < suc n → (k < n → ⊥) → k ≡ n
        last k n h f = omega arith

pub some-elim : {X : Type 0} (n : ℕ) (p : ℕ → Bool) → T (some_below n p) → ((k : ℕ) → k < n → T (p k) → X) → X
unfolding some_below
some-elim zero p t f = absurd t
some-elim (suc n) p t f = or_elim (some_below n p) (p n) t (λ u. some-elim n p u (λ k h. f k (omega arith))) (f n (omega arith))
