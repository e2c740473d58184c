-- Coordinates: what lies within a signed word, and what an answer tells.
use Rattle.std.proofs.Common.{◌≡◌, ℕ, ◌^◌, ◌<◌, true, false, ltb, leb, ℤ, pos, negsuc, sym, refl, ◌∙◌, arith, to_z-of_z, w32, to_z, of_z, ltb-true, lt-ltb, le-leb, Some, None, is_some, Bool, cond}
use mathlib.Core.Bool.{and-true}
use lib.Dec.{leb-suc-suc}
use lib.Signed.{mag, le_z}
use Rattle.numbers.specs.Number.{signed32, signed16, low32}
use Rattle.numbers.specs.Coordinate.{in_word, coordinate}
use Rattle.numbers.proofs.Answers.{told-first, clash}
use Rattle.numbers.proofs.Bits.{word-mag, word_kept}

-- ---- within a signed word

pub in-word : (z : ℤ) → in_word z ≡ ltb (mag z) (2 ^ 15)
unfolding in_word
in-word (pos n) = sym (leb-suc-suc n 32767)
in-word (negsuc n) = and-true (leb n 32767) ∙ sym (leb-suc-suc n 32767)

module _ (z : ℤ) where
  pub within-mag : in_word z ≡ true → mag z < 2 ^ 15
  within-mag e = ltb-true (mag z) (2 ^ 15) (sym (in-word z) ∙ e)

  pub mag-within : mag z < 2 ^ 15 → in_word z ≡ true
  mag-within h = in-word z ∙ lt-ltb (mag z) (2 ^ 15) h

  pub between : le_z (negsuc 32767) z ≡ true → le_z z (pos 32767) ≡ true → in_word z ≡ true
  unfolding in_word
  between e f = rw (e, f)

pub bounds : (z : ℤ) → in_word z ≡ true → (le_z (negsuc 32767) z ≡ true) × (le_z z (pos 32767) ≡ true)
bounds (pos n) e = (refl, le-leb n 32767 (omega (arith, within-mag (pos n) e)))
bounds (negsuc n) e = (le-leb n 32767 (omega (arith, within-mag (negsuc n) e)), refl)

-- every operand word is a coordinate
pub word-within : (n : ℕ) → n < 2 ^ 16 → in_word (signed32 (low32 (signed16 n))) ≡ true
word-within n k = rw (word_kept n k) (mag-within (signed16 n) (word-mag n k))

-- ---- what an answer tells

-- that z is within; that the coordinate is z; and that it comes back so from a signed local
pub record Told (z x : ℤ) : Type 0 where
  pub inside : in_word z ≡ true
  pub value : x ≡ z
  pub held : to_z w32 (of_z w32 x) ≡ z

pub told-within : (z x : ℤ) → coordinate z ≡ Some x → Told z x
unfolding coordinate
told-within z x e =
    let t = told-first (in_word z) (λ o. clash (cc)) e in
    let q : x ≡ z = cc in
    record { inside = t.0; value = q; held = rw q (to_z-of_z {w = w32} (record { sfits = omega (arith, within-mag z t.0) })) }

pub some-within : (z : ℤ) → is_some (coordinate z) ≡ in_word z
unfolding coordinate
some-within z = go (in_word z)
  where
    go : (t : Bool) → is_some {T = ℤ} (cond t (Some z) None) ≡ t
    go true = refl
    go false = refl
