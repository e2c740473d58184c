-- A walk of every dot counts the ones of the pattern in whole runs of 32 dots, and behind them those of the leftover low bits.
use mathlib.Core.Path.{◌≡◌, refl, sym, ap, ap₂, ◌∙◌}
use mathlib.Core.Bool.{cond}
use Prim.Native.Nat.{ℕ, zero, suc, ◌+◌, ◌*◌, ◌/◌, ◌%◌, ◌^◌, ◌<◌}
use native.Mathlib.Omega.{arith}
use native.Mathlib.Decide.{dec_lt}
use native.Mathlib.Nat.{mod-lt, mod-eq_of_lt, add-mul, one-mul}
use lib.Dec.{eqb}
use lib.Count.{ones, ones_cat}
use lib.Pow.{pow_pos, mod-pow-add}
use Rattle.lines.specs.Dashes.{bit}
use Rattle.lit.specs.Lit.{count_below, lit_among}

-- ---- one bit more
digit : (d : ℕ) → d < 2 → ones d ≡ d
unfolding ones
digit zero h = refl
digit (suc zero) h = refl
digit (suc (suc d)) h = absurd (omega arith)

-- a dot that a bit lights counts one, as the bit does
lights : (d : ℕ) → d < 2 → cond (eqb d 1) 1 0 ≡ d
lights zero h = refl
lights (suc zero) h = refl
lights (suc (suc d)) h = absurd (omega arith)

-- what the dot of bit b counts
abbrev counts : ℕ → ℕ → ℕ
counts p b = cond (bit p b) 1 0

one_more : (p b : ℕ) → ones (p % 2 ^ (1 + b)) ≡ counts p b + ones (p % 2 ^ b)
unfolding bit
one_more p b =
    ap ones (mod-pow-add p 1 b)
    ∙ ones_cat b (p / 2 ^ b % 2 ^ 1) (p % 2 ^ b) (mod-lt p (pow_pos b))
    ∙ ap (λ (d : ℕ). d + ones (p % 2 ^ b)) (digit (p / 2 ^ b % 2) below ∙ sym (lights (p / 2 ^ b % 2) below))
  where
    below : p / 2 ^ b % 2 < 2
    below = mod-lt (p / 2 ^ b) (omega arith)

none : (p : ℕ) → ones (p % 2 ^ 0) ≡ 0
unfolding ones
none p = ap ones (less (p % 1) (mod-lt p (omega arith)))
  where
    less : (n : ℕ) → n < 1 → n ≡ 0
    less n h = omega arith

-- ---- one dot more
-- the ones of whole runs, and those of the leftover low bits
unfoldable pub reckoned : ℕ → ℕ → ℕ
reckoned n p = n / 32 * ones p + ones (p % 2 ^ (n % 32))

-- the dot is not the last of its run
inside : (n : ℕ) → n % 32 < 31 → (suc n / 32 ≡ n / 32) × (suc n % 32 ≡ 1 + n % 32)
inside n h = (omega arith, omega arith)

-- or it is
last : (n : ℕ) → (n % 32 < 31 → ⊥) → (n % 32 ≡ 31) × (suc n / 32 ≡ n / 32 + 1) × (suc n % 32 ≡ 0)
last n h = (by (dec_lt (n % 32) 31), omega (arith, by (dec_lt (n % 32) 31)), omega (arith, by (dec_lt (n % 32) 31)))
  where
    by : Dec (n % 32 < 31) → n % 32 ≡ 31
    by (yes m) = absurd (h m)
    by (no m) = omega arith

module _ (p : ℕ) (h : p < 2 ^ 32) where
  -- a whole run has the pattern's ones
  full : (b : ℕ) → b ≡ 31 → ones p ≡ counts p b + ones (p % 2 ^ b)
  full b e = let k : 32 ≡ 1 + b = omega arith in sym (ap ones (mod-eq_of_lt h)) ∙ ap (λ (a : ℕ). ones (p % 2 ^ a)) k ∙ one_more p b

  next : (n : ℕ) → reckoned n p + counts p (n % 32) ≡ reckoned (suc n) p
  unfolding reckoned
  next n = by (dec_lt (n % 32) 31)
    where
      sum : (a b c d : ℕ) → d ≡ c + b → a + b + c ≡ a + d
      sum a b c d e = omega arith

      run : (a b c o : ℕ) → o ≡ c + b → a * o + b + c ≡ (a + 1) * o + 0
      run a b c o e = omega (arith, add-mul a 1 o, one-mul o)

      by : Dec (n % 32 < 31) → n / 32 * ones p + ones (p % 2 ^ (n % 32)) + counts p (n % 32) ≡ suc n / 32 * ones p + ones (p % 2 ^ (suc n % 32))
      by (yes m) =
          sum (n / 32 * ones p) (ones (p % 2 ^ (n % 32))) (counts p (n % 32)) (ones (p % 2 ^ (1 + n % 32))) (one_more p (n % 32))
          ∙ sym (ap₂ (λ (a b : ℕ). a * ones p + ones (p % 2 ^ b)) (inside n m).0 (inside n m).1)
      by (no m) =
          let l = last n m in
          run (n / 32) (ones (p % 2 ^ (n % 32))) (counts p (n % 32)) (ones p) (full (n % 32) l.0)
          ∙ sym (ap₂ (λ (a b : ℕ). a * ones p + b) l.1 (ap (λ (b : ℕ). ones (p % 2 ^ b)) l.2 ∙ none p))

  -- T-04: it equals a walk of every dot, whatever the length
  pub runs-and-leftover : (n : ℕ) → lit_among n p ≡ reckoned n p
  unfolding count_below reckoned
  runs-and-leftover zero = omega (arith, none p)
  runs-and-leftover (suc n) = ap (λ (a : ℕ). a + counts p (n % 32)) (runs-and-leftover n) ∙ next n
