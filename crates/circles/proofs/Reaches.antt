-- How far a circle reaches in a row: as many columns as there are squares that, with the row's own, are not above the radius'.
use mathlib.Core.Path.{sym, ◌∙◌}
use Prim.Native.Nat.{ℕ, zero, suc, ◌+◌, ◌-◌, ◌*◌, ◌<◌, ◌≤◌}
use native.Mathlib.Omega.{arith}
use borrow.Author.Tests.{lt-leb}
use lib.Dec.{T, ltb, leb→le, le→leb, ltb→lt, lt→ltb}
use Rattle.raster.proofs.Tests.{same, T_false}
use Rattle.circles.specs.Reaches.{reach, Past, Reaching}
use Rattle.circles.proofs.Squares.{square_le, square-lt, lt-square}

-- ---- the first number whose square is above n
module _ (n e : ℕ) (p : Past n e) where
  pub past-small : n < 32768 * 32768 → e ≤ 32768
  past-small h = let l = lt-square (e - 1) 32768 (omega (arith, p.low)) in omega arith

  pub past_one : 1 ≤ e
  past_one = by e p.high
    where
      by : (e : ℕ) → n < e * e → 1 ≤ e
      by zero h = absurd (omega arith)
      by (suc e) h = omega arith

-- ---- the square of a radius, and what a row leaves of it
pub radius-square : (q : ℕ) → q < 32768 → q * q ≤ 32767 * 32767
radius-square q h = square_le q 32767 (omega arith)

pub left_over : (q b : ℕ) → q < 32768 → q * q - b * b < 32768 * 32768
left_over q b h = omega (arith, radius-square q h)

-- ---- a row b from the centre
module _ (q b : ℕ) where
  -- it has points within the radius
  pub reaches : b ≤ q → (e : ℕ) → e ≤ 32768 → Past (q * q - b * b) e → Reaching q b e
  reaches l e k p = record { columns = λ a. same (reach q a b) (ltb a e) (to a) (back a); small = k }
    where
      row : b * b ≤ q * q
      row = square_le b q l

      to : (a : ℕ) → T (reach q a b) → T (ltb a e)
      to a t =
          let s = leb→le (a * a + b * b) (q * q) t in
          lt→ltb a e (lt-square a e (omega (arith, p.high)))

      back : (a : ℕ) → T (ltb a e) → T (reach q a b)
      back a t =
          let m = ltb→lt a e t in
          let s = square_le a (e - 1) (omega arith) in
          le→leb (a * a + b * b) (q * q) (omega (arith, p.low, row))

  -- it has none
  pub nowhere : q < b → Reaching q b 0
  nowhere l =
      record {
        columns = λ a. let s = square-lt q b l in lt-leb (a * a + b * b) (q * q) (omega arith) ∙ sym (T_false (ltb a 0) (λ t. let m = ltb→lt a 0 t in omega arith));
        small = omega arith;
      }
