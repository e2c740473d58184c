-- What a reader may hold specs/Number.antt to: wrapping, the value of each operation, division, and the bits of AND and OR.
use Rattle.std.proofs.Common.{◌≡◌, ℕ, zero, suc, ◌*◌, ◌/◌, ◌%◌, ◌^◌, ◌<◌, min, max, true, ℤ, pos, negsuc, ◌+ℤ◌, ◌-ℤ◌, ◌*ℤ◌, neg_ℤ, nat_abs, sym, refl, ap, ◌∙◌, lt_of_le_of_lt, mod-lt, div-add-mod', zero-mul, arith, le-leb, leb-true}
use native.Mathlib.Nat.{mod-le}
use lib.IntN.{neg_ℤ-+ℤ}
use lib.Signed.{mag, mag_rem, quot_z, rem_z, le_z}
use lib.Bits.{bit_and, bit_or, and_shr, or_shr, and_step, or_step}
use Rattle.numbers.specs.Number.{signed32, low32, wrap32, sum32, difference32, product32, quotient32, remainder32}
use Rattle.numbers.proofs.Answers.{clash}
use Rattle.numbers.proofs.Bits.{signed-mag, low_signed, low_below, signed_low, low-add, low-mul}
use Rattle.numbers.proofs.Division.{quotient-mag}

-- ---- wrapping: mag z < 2 ^ 31 says that z is from -2^31 to 2^31 - 1

pub kept : (z : ℤ) → mag z < 2 ^ 31 → wrap32 z ≡ z
unfolding wrap32
kept = signed_low

pub in-range : (z : ℤ) → mag (wrap32 z) < 2 ^ 31
unfolding wrap32
in-range z = signed-mag (low32 z) (low_below z)

pub round : (z : ℤ) → wrap32 (z +ℤ pos (2 ^ 32)) ≡ wrap32 z
unfolding wrap32 low32
round z = ap signed32 (low-add z (pos (2 ^ 32)) ∙ omega (arith, low_below z))

pub one_value : (a b : ℕ) → a < 2 ^ 32 → b < 2 ^ 32 → signed32 a ≡ signed32 b → a ≡ b
one_value a b ha hb e = sym (low_signed a ha) ∙ ap low32 e ∙ low_signed b hb

-- ---- each operation's value is the whole numbers' own, wrapped

module _ (a b : ℕ) where
  pub sum-value : signed32 (sum32 a b) ≡ wrap32 (signed32 a +ℤ signed32 b)
  unfolding wrap32 sum32
  sum-value = refl

  pub difference-value : signed32 (difference32 a b) ≡ wrap32 (signed32 a -ℤ signed32 b)
  unfolding wrap32 difference32
  difference-value = refl

  pub product_value : signed32 (product32 a b) ≡ wrap32 (signed32 a *ℤ signed32 b)
  unfolding wrap32 product32
  product_value = refl

  pub quotient-value : signed32 (quotient32 a b) ≡ wrap32 (quot_z (signed32 a) (signed32 b))
  unfolding wrap32 quotient32
  quotient-value = refl

  pub remainder-value : signed32 (remainder32 a b) ≡ wrap32 (rem_z (signed32 a) (signed32 b))
  unfolding wrap32 remainder32
  remainder-value = refl

  -- a remainder never wraps, and a quotient only by -1
  pub remainder-kept : a < 2 ^ 32 → signed32 (remainder32 a b) ≡ rem_z (signed32 a) (signed32 b)
  remainder-kept h =
      remainder-value ∙ kept (rem_z (signed32 a) (signed32 b)) (lt_of_le_of_lt (mag_rem (signed32 a) (signed32 b)) (signed-mag a h))

  pub quotient-kept : a < 2 ^ 32 → (signed32 b ≡ negsuc 0 → ⊥) → signed32 (quotient32 a b) ≡ quot_z (signed32 a) (signed32 b)
  quotient-kept h n =
      quotient-value ∙ kept (quot_z (signed32 a) (signed32 b)) (quotient-mag (signed32 a) (signed32 b) (signed-mag a h) n)

-- ---- division: quotient times divisor plus remainder is the dividend

times-neg : (q b : ℕ) → neg_ℤ (pos q) *ℤ negsuc b ≡ pos (q * suc b)
times-neg zero b = rw (zero-mul (suc b))
times-neg (suc q) b = refl

times-pos : (q b : ℕ) → neg_ℤ (pos q) *ℤ pos b ≡ neg_ℤ (pos (q * b))
times-pos zero b = rw (zero-mul b)
times-pos (suc q) b = refl

-- the same of the dividend -n
negated : (n d : ℕ) → neg_ℤ (pos (n / d * d)) +ℤ neg_ℤ (pos (n % d)) ≡ neg_ℤ (pos n)
negated n d = sym (neg_ℤ-+ℤ (pos (n / d * d)) (pos (n % d))) ∙ ap (λ (k : ℕ). neg_ℤ (pos k)) (div-add-mod' n d)

pub euclid : (x y : ℤ) → quot_z x y *ℤ y +ℤ rem_z x y ≡ x
euclid (pos a) (pos b) = ap pos (div-add-mod' a b)
euclid (pos a) (negsuc b) = rw (times-neg (a / suc b) b) (ap pos (div-add-mod' a (suc b)))
euclid (negsuc a) (pos b) = rw (times-pos (suc a / b) b) (negated (suc a) b)
euclid (negsuc a) (negsuc b) = negated (suc a) (suc b)

-- the same of variables, the least number by -1 too
low-low : (z : ℤ) → low32 (signed32 (low32 z)) ≡ low32 z
low-low z = low_signed (low32 z) (low_below z)

pub euclid32 : (a b : ℕ) → a < 2 ^ 32 → sum32 (product32 (quotient32 a b) b) (remainder32 a b) ≡ a
unfolding sum32 product32 quotient32 remainder32
euclid32 a b h =
    let q = quot_z (signed32 a) (signed32 b) in
    let r = rem_z (signed32 a) (signed32 b) in
    rw (low-add, low-low r, low-low, low-mul, low-low, ← low-mul q (signed32 b), ← low-add (q *ℤ signed32 b) r, euclid) (low_signed a h)

-- the remainder is smaller than the divisor, and has the dividend's sign
pub remainder-small : (x y : ℤ) → 0 < nat_abs y → nat_abs (rem_z x y) < nat_abs y
remainder-small (pos a) y h = mod-lt a h
remainder-small (negsuc a) y h = rw (abs_neg (suc a % nat_abs y)) (mod-lt (suc a) h)
  where
    abs_neg : (n : ℕ) → nat_abs (neg_ℤ (pos n)) ≡ n
    abs_neg zero = refl
    abs_neg (suc n) = refl

pub remainder-not-negative : (x y : ℤ) → le_z (pos 0) x ≡ true → le_z (pos 0) (rem_z x y) ≡ true
remainder-not-negative (pos a) y e = le-leb 0 (a % nat_abs y) (omega arith)
remainder-not-negative (negsuc a) y e = absurd (clash (cc))

pub remainder-not-positive : (x y : ℤ) → le_z x (pos 0) ≡ true → le_z (rem_z x y) (pos 0) ≡ true
remainder-not-positive (pos a) y e = le-leb (a % nat_abs y) 0 (omega (arith, leb-true a 0 e, mod-le a (nat_abs y)))
remainder-not-positive (negsuc a) y e = neg (suc a % nat_abs y)
  where
    neg : (n : ℕ) → le_z (neg_ℤ (pos n)) (pos 0) ≡ true
    neg zero = refl
    neg (suc n) = refl

-- ---- bit k

pub and-bit : (a b k : ℕ) → bit_and a b / 2 ^ k % 2 ≡ min (a / 2 ^ k % 2) (b / 2 ^ k % 2)
and-bit a b k = rw (and_shr a b k) (omega (arith, and_step (a / 2 ^ k) (b / 2 ^ k)))

pub or-bit : (a b k : ℕ) → bit_or a b / 2 ^ k % 2 ≡ max (a / 2 ^ k % 2) (b / 2 ^ k % 2)
or-bit a b k = rw (or_shr a b k) (omega (arith, or_step (a / 2 ^ k) (b / 2 ^ k)))
