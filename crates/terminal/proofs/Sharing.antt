-- Dot i of n shows dots of `size`.
use Prim.Native.Nat.{ℕ, ◌+◌, ◌*◌, ◌/◌, ◌-◌, ◌<◌, ◌≤◌, max}
use mathlib.Core.Path.{◌≡◌, ap}
use native.Mathlib.Nat.{mul_comm, div-mul-le_self, lt_of_mul-lt-mul_right, mul-le-mul_right, mul-lt-mul_of_pos_right}
use native.Mathlib.Omega.{arith}
use Rattle.std.proofs.lemmas.Nat.{le-div}
use Rattle.terminal.specs.declared.span.Span.{Span}
use Rattle.terminal.specs.Spans.{span_of, Inside}
use Rattle.std.proofs.Math.Nat.{div-le_of_le-mul}

module _ (i n size : ℕ) (h : i < n) (p : 1 ≤ size) where
  starts-inside : i * size / n < size
  starts-inside = lt_of_mul-lt-mul_right n (omega (arith, div-mul-le_self (i * size) n, mul-lt-mul_of_pos_right {k = size} h p, mul_comm n size))

  ends-inside : (i + 1) * size / n ≤ size
  ends-inside = let one : i + 1 ≤ n = omega arith in div-le_of_le-mul n (omega (arith, mul-le-mul_right size one))

  pub in-order : i * size / n ≤ (i + 1) * size / n
  in-order =
      let more : i ≤ i + 1 = omega arith in
      le-div (i * size / n) ((i + 1) * size) n (omega arith) (omega (arith, div-mul-le_self (i * size) n, mul-le-mul_right size more))

  pub all-inside : {count : ℕ} → count ≡ max 1 ((i + 1) * size / n - i * size / n) → Inside (record { from = i * size / n; count = count }) size
  all-inside e = record { some = omega arith; within = omega (arith, in-order, starts-inside, ends-inside) }

pub the-span : (i n size : ℕ) {count : ℕ} → count ≡ max 1 ((i + 1) * size / n - i * size / n) → record { from = i * size / n; count = count } ≡ span_of i n size
unfolding span_of
the-span i n size e = let at : ℕ → Span = λ k. record { from = i * size / n; count = k } in ap at e
