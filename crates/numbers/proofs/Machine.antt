-- The machine's signed numbers. A signed local holds bits, so that a value z comes back as `to_z w32 (of_z w32 z)`.
use Rattle.std.proofs.Common.{◌≡◌, ℕ, ◌^◌, ◌<◌, ◌≤◌, ltb, ℤ, pos, negsuc, ◌-ℤ◌, ◌∙◌, arith, to_z-of_z, w16, w32, SFits, to_z, of_z, le-ltb, lt-ltb}
use lib.Signed.{mag}
use Rattle.numbers.specs.Number.{signed32, signed16, low32}
use Rattle.numbers.proofs.Answers.{by-test}
use Rattle.numbers.proofs.Bits.{by_sign, signed-mag}

-- z is the value of bits n
pub record Holds (n : ℕ) (z : ℤ) : Type 0 where
  pub small : n < 2 ^ 32
  pub value : z ≡ signed32 n

pub holds_fits : {n : ℕ} {z : ℤ} → Holds n z → SFits w32 z
holds_fits {n} v = rw v.value (record { sfits = signed-mag n v.small })

-- and so it comes back from a local
pub back : {n : ℕ} {z : ℤ} → Holds n z → to_z w32 (of_z w32 z) ≡ signed32 n
back v = to_z-of_z (holds_fits v) ∙ v.value

-- the machine reads the bits as we do
pub machine-reads : (n : ℕ) → n < 2 ^ 32 → to_z w32 n ≡ signed32 n
machine-reads n k = by_sign (λ z. to_z w32 n ≡ z) n k (λ h. rw (lt-ltb n (2 ^ 31) h)) (λ h. rw (le-ltb n (2 ^ 31) h))

pub machine-reads16 : (n : ℕ) → n < 2 ^ 16 → to_z w16 n ≡ signed16 n
unfolding signed16
machine-reads16 n k = by-test (ltb n (2 ^ 15)) (pos n) (pos n -ℤ pos (2 ^ 16)) (λ z. to_z w16 n ≡ z)
    (λ e. rw e) (λ e. rw (e, lt-ltb n (2 ^ 16) k))

-- ---- the machine's bits of a value are its low 32; so are those of 2^31, which wraps to the least number

pub machine-bits : (z : ℤ) → mag z ≤ 2 ^ 31 → of_z w32 z ≡ low32 z
unfolding low32
machine-bits (pos n) h = omega arith
machine-bits (negsuc n) h = omega arith
