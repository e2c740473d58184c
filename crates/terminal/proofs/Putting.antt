-- The room that is left behind bytes, how many digits a byte has, and how they are put.
use Rattle.std.proofs.Common.{◌≡◌, ℕ, ◌+◌, ◌/◌, ◌%◌, ◌<◌, ◌≤◌, List, [], ◌∷◌, length, set, refl, ap, ◌∙◌, arith}
use native.Mathlib.Decide.{dec_lt}
use Rattle.text.specs.Decimal.{decimal}
use Rattle.text.specs.Puts.{Puts}
use Rattle.text.proofs.Decimals.{one-wide, more-wide, put_one, put-more}
use Rattle.text.proofs.Joining.{same-long}

pub room-left : {s l m : List ℕ} {at to : ℕ} → Puts s l at m to → (k n : ℕ) → length s ≤ k → at + (k + n) ≤ length l → to + n ≤ length m
room-left p k n h r = omega (arith, same-long p, p.place)

-- ---- the digits of a byte
two_digits : (n : ℕ) → n < 100 → length (decimal n) ≤ 2
two_digits n h = by (dec_lt n 10)
  where
    by : Dec (n < 10) → length (decimal n) ≤ 2
    by (yes k) = omega (arith, one-wide n k)
    by (no k) = omega (arith, more-wide n (omega arith), one-wide (n / 10) (omega arith))

pub three-digits : (n : ℕ) → n < 1000 → length (decimal n) ≤ 3
three-digits n h = by (dec_lt n 10)
  where
    by : Dec (n < 10) → length (decimal n) ≤ 3
    by (yes k) = omega (arith, one-wide n k)
    by (no k) = omega (arith, more-wide n (omega arith), two_digits (n / 10) (omega arith))

-- ---- stores, one by one
pub byte-put : {l : List ℕ} {at : ℕ} (b : ℕ) → Puts (b ∷ []) l at (set l at b) (at + 1)
byte-put b = record { stored = refl; place = refl }

pub two-put : {l : List ℕ} {at : ℕ} (n : ℕ) → 10 ≤ n → n < 100 → Puts (decimal n) l at (set (set l at (48 + n / 10)) (at + 1) (48 + n % 10)) (at + 2)
two-put n h k =
    let p = put-more n h (put_one (n / 10) (omega arith)) in
    record { stored = p.stored; place = omega (arith, p.place) }

pub three-put : {l : List ℕ} {at : ℕ} (n : ℕ) → 100 ≤ n → n < 1000
    → Puts (decimal n) l at (set (set (set l at (48 + n / 100)) (at + 1) (48 + n / 10 % 10)) (at + 2) (48 + n % 10)) (at + 3)
three-put {l} {at} n h k =
    let tens = two-put {l = l} {at = at} (n / 10) (omega arith) (omega arith) in
    let p = put-more n (omega arith) tens in
    let hundreds : n / 100 ≡ n / 10 / 10 = omega arith in
    let stored = ap (λ (d : ℕ). set (set (set l at (48 + d)) (at + 1) (48 + n / 10 % 10)) (at + 2) (48 + n % 10)) hundreds in
    record { stored = stored ∙ p.stored; place = omega (arith, p.place) }
