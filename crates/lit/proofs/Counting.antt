-- Laws of `count_below`: tests that agree count alike, and so does one that is asked from the other end.
use mathlib.Core.Path.{◌≡◌, refl, ap, ap₂, ◌∙◌}
use mathlib.Core.Bool.{Bool, cond}
use Prim.Native.Nat.{ℕ, zero, suc, ◌+◌, ◌-◌, ◌<◌}
use native.Mathlib.Omega.{arith}
use native.Mathlib.Nat.{add_comm}
use Rattle.lit.specs.Lit.{count_below}

-- two tests that agree on the numbers below n
pub count_same : (n : ℕ) (p q : ℕ → Bool) → ((k : ℕ) → k < n → p k ≡ q k) → count_below n p ≡ count_below n q
unfolding count_below
count_same zero p q e = refl
count_same (suc n) p q e = ap₂ (λ (a : ℕ) (t : Bool). a + cond t 1 0) (count_same n p q (λ k h. e k (omega arith))) (e n (omega arith))

-- the first of them, and the rest
first : (n : ℕ) (p : ℕ → Bool) → count_below (suc n) p ≡ cond (p 0) 1 0 + count_below n (λ k. p (suc k))
unfolding count_below
first zero p = omega arith
first (suc n) p = omega (arith, first n p)

-- n, n - 1, .., 0 in place of 0, 1, .., n
pub count-back : (n : ℕ) (p : ℕ → Bool) → count_below (suc n) (λ k. p (n - k)) ≡ count_below (suc n) p
unfolding count_below
count-back zero p = refl
count-back (suc n) p =
    first (suc n) (λ k. p (suc n - k))
    ∙ ap₂ (λ (b a : ℕ). cond (p b) 1 0 + a) (none-off n) (count_same (suc n) (λ k. p (suc n - suc k)) (λ k. p (n - k)) (λ k h. ap p (one_on n k)) ∙ count-back n p)
    ∙ add_comm (cond (p (suc n)) 1 0) (count_below (suc n) p)
  where
    one_on : (n k : ℕ) → suc n - suc k ≡ n - k
    one_on n k = omega arith

    none-off : (n : ℕ) → suc n - 0 ≡ suc n
    none-off n = omega arith
