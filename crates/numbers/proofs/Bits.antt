-- Values and bits: a value goes by its sign, and sums, differences and products may be taken of the bits.
use Rattle.std.proofs.Common.{◌≡◌, ℕ, zero, suc, ◌+◌, ◌-◌, ◌*◌, ◌%◌, ◌^◌, ◌<◌, ◌≤◌, ltb, ℤ, pos, negsuc, ◌+ℤ◌, ◌-ℤ◌, ◌*ℤ◌, neg_ℤ, sym, refl, ap, ◌∙◌, mul_comm, arith, ltb-false, ltb-true, le-ltb, lt-ltb}
use lib.IntN.{sub_ℕ}
use lib.Signed.{mag}
use Rattle.numbers.specs.Number.{signed32, signed16, low32, sum32, difference32, product32}
use Rattle.numbers.proofs.Answers.{by-test}
use Rattle.numbers.proofs.Modular.{mod-mul-l, mod-mul-r, cancels}

-- ---- the value of 32 bits

pub signed-pos : (n : ℕ) → n < 2 ^ 31 → signed32 n ≡ pos n
unfolding signed32
signed-pos n h = rw (lt-ltb n (2 ^ 31) h)

pub signed-neg : (n : ℕ) → 2 ^ 31 ≤ n → n < 2 ^ 32 → signed32 n ≡ negsuc (2 ^ 32 - suc n)
unfolding signed32
signed-neg n h k = rw (le-ltb n (2 ^ 31) h, lt-ltb n (2 ^ 32) k)

pub by_sign : (P : ℤ → Type 0) (n : ℕ) → n < 2 ^ 32 → (n < 2 ^ 31 → P (pos n)) → (2 ^ 31 ≤ n → P (negsuc (2 ^ 32 - suc n))) → P (signed32 n)
unfolding signed32
by_sign P n k f g =
    by-test (ltb n (2 ^ 31)) (pos n) (pos n -ℤ pos (2 ^ 32)) P (λ e. f (ltb-true _ _ e)) (λ e. rw (lt-ltb n (2 ^ 32) k) (g (ltb-false _ _ e)))

pub signed-mag : (n : ℕ) → n < 2 ^ 32 → mag (signed32 n) < 2 ^ 31
signed-mag n k = by_sign (λ z. mag z < 2 ^ 31) n k (λ h. h) (λ h. omega arith)

-- ---- the bits of a value

pub low_below : (z : ℤ) → low32 z < 2 ^ 32
unfolding low32
low_below (pos n) = omega arith
low_below (negsuc n) = omega arith

pub low_signed : (n : ℕ) → n < 2 ^ 32 → low32 (signed32 n) ≡ n
unfolding low32
low_signed n k = by_sign (λ z. low32 z ≡ n) n k (λ h. omega arith) (λ h. omega arith)

pub signed_low : (z : ℤ) → mag z < 2 ^ 31 → signed32 (low32 z) ≡ z
unfolding low32
signed_low (pos n) h = signed-pos (n % 2 ^ 32) (omega arith) ∙ ap pos (omega arith)
signed_low (negsuc n) h = signed-neg (2 ^ 32 - 1 - n % 2 ^ 32) (omega arith) (omega arith) ∙ ap negsuc (omega arith)

-- ---- a word

pub word-mag : (n : ℕ) → n < 2 ^ 16 → mag (signed16 n) < 2 ^ 15
unfolding signed16
word-mag n k =
    by-test (ltb n (2 ^ 15)) (pos n) (pos n -ℤ pos (2 ^ 16)) (λ z. mag z < 2 ^ 15)
    (λ e. ltb-true n (2 ^ 15) e) (λ e. rw (lt-ltb n (2 ^ 16) k) (omega (arith, ltb-false n (2 ^ 15) e)))

pub word_kept : (n : ℕ) → n < 2 ^ 16 → signed32 (low32 (signed16 n)) ≡ signed16 n
word_kept n k = signed_low (signed16 n) (omega (arith, word-mag n k))

-- ---- sums, differences and products

pub low-sub : (a b : ℕ) → low32 (sub_ℕ a b) ≡ (a % 2 ^ 32 + (2 ^ 32 - b % 2 ^ 32)) % 2 ^ 32
unfolding low32
low-sub a b =
    by-test (ltb a b) (negsuc (b - suc a)) (pos (a - b)) (λ z. low32 z ≡ (a % 2 ^ 32 + (2 ^ 32 - b % 2 ^ 32)) % 2 ^ 32)
    (λ e. omega (arith, ltb-true a b e)) (λ e. omega (arith, ltb-false a b e))

pub low-add : (x y : ℤ) → low32 (x +ℤ y) ≡ (low32 x + low32 y) % 2 ^ 32
unfolding low32
low-add (pos a) (pos b) = omega arith
low-add (pos a) (negsuc b) = low-sub a (suc b) ∙ omega arith
low-add (negsuc a) (pos b) = low-sub b (suc a) ∙ omega arith
low-add (negsuc a) (negsuc b) = omega arith

pub low-neg : (x : ℤ) → low32 (neg_ℤ x) ≡ (2 ^ 32 - low32 x) % 2 ^ 32
unfolding low32
low-neg (pos zero) = refl
low-neg (pos (suc n)) = omega arith
low-neg (negsuc n) = omega arith

low-mul-neg : (a b : ℕ) → low32 (neg_ℤ (pos (a * suc b))) ≡ (a % 2 ^ 32 * (2 ^ 32 - 1 - b % 2 ^ 32)) % 2 ^ 32
unfolding low32
low-mul-neg a b =
    let y = 2 ^ 32 - 1 - b % 2 ^ 32 in
    low-neg (pos (a * suc b)) ∙ omega (arith, mod-mul-l (2 ^ 32) a y, cancels (2 ^ 32) a y (suc b) (omega arith))

pub low-mul : (x y : ℤ) → low32 (x *ℤ y) ≡ (low32 x * low32 y) % 2 ^ 32
unfolding low32
low-mul (pos a) (pos b) = sym (mod-mul-l (2 ^ 32) a (b % 2 ^ 32) ∙ mod-mul-r (2 ^ 32) a b)
low-mul (pos a) (negsuc b) = low-mul-neg a b
low-mul (negsuc a) (pos b) = rw (mul_comm (suc a) b, mul_comm (2 ^ 32 - 1 - a % 2 ^ 32) (b % 2 ^ 32)) (low-mul-neg b a)
low-mul (negsuc a) (negsuc b) =
    let x = 2 ^ 32 - 1 - a % 2 ^ 32 in
    let y = 2 ^ 32 - 1 - b % 2 ^ 32 in
    omega (arith, cancels (2 ^ 32) x y (suc b) (omega arith), cancels (2 ^ 32) (suc b) x (suc a) (omega arith), mul_comm x (suc b), mul_comm (suc b) (suc a))

module _ (a b : ℕ) (ha : a < 2 ^ 32) (hb : b < 2 ^ 32) where
  pub sum_bits : sum32 a b ≡ (a + b) % 2 ^ 32
  unfolding sum32
  sum_bits = low-add (signed32 a) (signed32 b) ∙ rw (low_signed a ha, low_signed b hb)

  pub difference_bits : difference32 a b ≡ (a + (2 ^ 32 - b)) % 2 ^ 32
  unfolding difference32
  difference_bits =
      low-add (signed32 a) (neg_ℤ (signed32 b)) ∙ rw (low-neg (signed32 b), low_signed a ha, low_signed b hb) (omega arith)

  pub product_bits : product32 a b ≡ (a * b) % 2 ^ 32
  unfolding product32
  product_bits = low-mul (signed32 a) (signed32 b) ∙ rw (low_signed a ha, low_signed b hb)
