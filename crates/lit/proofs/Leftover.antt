-- The leftover low bits, which a mask keeps, and that what is counted fits 32 bits.
use mathlib.Core.Path.{◌≡◌, ap, ◌∙◌}
use Prim.Native.Nat.{ℕ, ◌-◌, ◌*◌, ◌/◌, ◌%◌, ◌^◌, ◌<◌, ◌≤◌}
use native.Mathlib.Omega.{arith}
use native.Mathlib.Nat.{one-mul, mul-le-mul, lt_of_le_of_lt}
use lib.Dec.{lit<}
use lib.Count.{ones, ones-le}
use lib.Bits.{bit_and, and_mask, and_le_l}
use lib.Pow.{shl_exact}

-- what is shifted stays within 32 bits
pub shifted : (b : ℕ) → b < 32 → 1 * 2 ^ b % 2 ^ 32 ≡ 2 ^ b
shifted b h = shl_exact 1 b 32 (lit< tt) (omega arith) ∙ one-mul (2 ^ b)

-- the mask keeps the low bits
pub masked : (p b : ℕ) → b < 32 → ones (bit_and p (1 * 2 ^ b % 2 ^ 32 - 1)) ≡ ones (p % 2 ^ b)
masked p b h = ap (λ (m : ℕ). ones (bit_and p (m - 1))) (shifted b h) ∙ ap ones (and_mask p b)
