-- Squares keep the order.
use mathlib.Core.Path.{◌≡◌, refl}
use Prim.Native.Nat.{ℕ, ◌*◌, ◌<◌, ◌≤◌}
use native.Mathlib.Omega.{arith}
use native.Mathlib.Decide.{dec_lt}
use native.Mathlib.Nat.{mul-le-mul, mul-le-mul_left, mul-lt-mul_of_pos_right}
use lib.IntN.{ℤ, pos, negsuc, nat_abs}
use Rattle.circles.specs.Circle.{square}

pub square_le : (a b : ℕ) → a ≤ b → a * a ≤ b * b
square_le a b h = mul-le-mul h h

pub square-lt : (a b : ℕ) → a < b → a * a < b * b
square-lt a b h =
    let p : a * a ≤ a * b = mul-le-mul_left a (omega arith) in
    let q : a * b < b * b = mul-lt-mul_of_pos_right h (omega arith) in
    omega arith

pub le-square : (a b : ℕ) → a * a ≤ b * b → a ≤ b
le-square a b h = by (dec_lt b a)
  where
    by : Dec (b < a) → a ≤ b
    by (yes l) = let p = square-lt b a l in absurd (omega arith)
    by (no l) = omega arith

pub lt-square : (a b : ℕ) → a * a < b * b → a < b
lt-square a b h = by (dec_lt a b)
  where
    by : Dec (a < b) → a < b
    by (yes l) = l
    by (no l) = let p = square_le b a (omega arith) in absurd (omega arith)

-- the square of a whole number is its size's
pub square-size : (z : ℤ) → square z ≡ pos (nat_abs z * nat_abs z)
square-size (pos n) = refl
square-size (negsuc n) = refl
