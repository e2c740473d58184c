-- Division on the values of variables: every quotient fits 32 bits but the least number's by -1, which wraps.
use Rattle.std.proofs.Common.{◌≡◌, ℕ, zero, suc, ◌/◌, ◌^◌, ◌<◌, ◌≤◌, true, false, eqb, ℤ, pos, negsuc, neg_ℤ, refl, ap, ◌∙◌, lt_of_le_of_lt, div-le_self, arith, to_z-of_z, w32, to_z, of_z, eq-eqb, ne_eqb, Some, None}
use native.Mathlib.Nat.{div-lt_self}
use lib.Signed.{mag, mag_rem, quot_z, rem_z}
use mir.Facts.{of_z-to_z}
use Rattle.numbers.specs.Number.{signed32, low32, quotient32, remainder32, unless_zero}
use Rattle.numbers.proofs.Answers.{told-first, told-second, clash}
use Rattle.numbers.proofs.Bits.{low_below, low_signed, signed-mag}
use Rattle.numbers.proofs.Machine.{Holds, back, machine-reads, machine-bits}

-- ---- what a division answers, and what an answer tells of the divisor

pub by_zero : (b n : ℕ) → b ≡ 0 → None ≡ unless_zero b n
unfolding unless_zero
by_zero b n e = rw (eq-eqb b 0 e)

pub gives : (b : ℕ) {m n : ℕ} → (b ≡ 0 → ⊥) → m ≡ n → Some m ≡ unless_zero b n
unfolding unless_zero
gives b z e = rw (ne_eqb b 0 z) (ap Some e)

pub told-by-zero : (b n : ℕ) → unless_zero b n ≡ None → eqb b 0 ≡ true
unfolding unless_zero
told-by-zero b n e = (told-first (eqb b 0) (λ g. clash (cc)) e).0

pub told-gives : (b n m : ℕ) → unless_zero b n ≡ Some m → (eqb b 0 ≡ false) × (m ≡ n)
unfolding unless_zero
told-gives b n m e = let t = told-second (eqb b 0) (λ z. clash (cc)) e in (t.0, cc)

-- ---- magnitudes

mag-neg : (r a : ℕ) → r ≤ suc a → mag (neg_ℤ (pos r)) ≤ a
mag-neg zero a h = omega arith
mag-neg (suc r) a h = omega arith

pub quotient-mag : (x y : ℤ) → mag x < 2 ^ 31 → (y ≡ negsuc 0 → ⊥) → mag (quot_z x y) < 2 ^ 31
quotient-mag (pos a) (pos b) h n = omega (arith, div-le_self a b)
quotient-mag (pos a) (negsuc b) h n = omega (arith, mag-neg (a / suc b) a (omega (arith, div-le_self a (suc b))))
quotient-mag (negsuc a) (pos b) h n = omega (arith, mag-neg (suc a / b) a (div-le_self (suc a) b))
quotient-mag (negsuc a) (negsuc zero) h n = absurd (n refl)
quotient-mag (negsuc a) (negsuc (suc b)) h n = omega (arith, div-lt_self {n = suc a} {k = suc (suc b)} (omega arith) (omega arith))

-- the least number by -1 gives 2^31
pub quotient-most : (x y : ℤ) → mag x < 2 ^ 31 → mag (quot_z x y) ≤ 2 ^ 31
quotient-most (pos a) (pos b) h = omega (arith, div-le_self a b)
quotient-most (pos a) (negsuc b) h = omega (arith, mag-neg (a / suc b) a (omega (arith, div-le_self a (suc b))))
quotient-most (negsuc a) (pos b) h = omega (arith, mag-neg (suc a / b) a (div-le_self (suc a) b))
quotient-most (negsuc a) (negsuc b) h = omega (arith, div-le_self (suc a) (suc b))

-- ---- what the machine's division asks and gives, x and y the locals that hold the two values

-- 2^31 wraps to the least number, whose bits it has
wrapped : (z : ℤ) → mag z ≤ 2 ^ 31 → low32 (to_z w32 (of_z w32 z)) ≡ low32 z
wrapped z h =
    let k = low_below z in
    rw (machine-bits z h) (ap low32 (machine-reads (low32 z) k) ∙ low_signed (low32 z) k)

module _ {a b : ℕ} {x y : ℤ} (p : Holds a x) (q : Holds b y) where
  pub division-asks : 0 < b → 0 < of_z w32 (to_z w32 (of_z w32 y))
  division-asks z = rw (back q, ← machine-reads b q.small, of_z-to_z {w = w32} (record { fits = q.small })) z

  pub quotient_is : low32 (to_z w32 (of_z w32 (quot_z (to_z w32 (of_z w32 x)) (to_z w32 (of_z w32 y))))) ≡ quotient32 a b
  unfolding quotient32
  quotient_is = rw (back p, back q) (wrapped (quot_z (signed32 a) (signed32 b)) (quotient-most (signed32 a) (signed32 b) (signed-mag a p.small)))

  pub remainder_is : low32 (to_z w32 (of_z w32 (rem_z (to_z w32 (of_z w32 x)) (to_z w32 (of_z w32 y))))) ≡ remainder32 a b
  unfolding remainder32
  remainder_is =
      rw (back p, back q) (ap low32 (to_z-of_z {w = w32} (record { sfits = lt_of_le_of_lt (mag_rem (signed32 a) (signed32 b)) (signed-mag a p.small) })))
