-- Word indices and bit addresses: what a target tells, that an index and its address give each other back.
use Rattle.std.proofs.Common.{◌≡◌, ℕ, ◌+◌, ◌-◌, ◌*◌, ◌/◌, ◌%◌, ◌^◌, ◌<◌, ◌≤◌, Bool, true, false, eqb, ltb, ℤ, pos, negsuc, sym, refl, ap, arith, ltb-false, ltb-true, le-ltb, lt-ltb, eq-eqb, eqb-true, Some, None, w32}
use Rattle.std.specs.Int.{FitsUnsigned}
use Rattle.std.proofs.lemmas.Int.{ints}
use Rattle.numbers.specs.Place.{above, index_of, word_of}
use Rattle.numbers.specs.declared.place.VarNo.{VarNo}
use Rattle.numbers.specs.declared.place.WordIndex.{WordIndex}
use Rattle.numbers.specs.declared.place.BitAddress.{BitAddress}
use Rattle.numbers.proofs.Answers.{told-first, clash}

-- ---- variables from v on

module _ (v : VarNo) (n : ℕ) where
  pub is-above : above v n ≡ true → 63 < v.0 + (n - 1)
  unfolding above
  is-above h = ltb-true _ _ h

  pub not-above : above v n ≡ false → v.0 + (n - 1) ≤ 63
  unfolding above
  not-above h = ltb-false _ _ h

  -- as the program compares, without a sum
  pub above_is : 1 ≤ n → n ≤ 64 → ltb (64 - n) v.0 ≡ above v n
  unfolding above
  above_is one most = go (ltb (64 - n) v.0) refl
    where
      go : (t : Bool) → ltb (64 - n) v.0 ≡ t → t ≡ ltb 63 (v.0 + (n - 1))
      go true h = sym (lt-ltb 63 (v.0 + (n - 1)) (omega (arith, one, most, ltb-true (64 - n) v.0 h)))
      go false h = sym (le-ltb 63 (v.0 + (n - 1)) (omega (arith, one, most, ltb-false (64 - n) v.0 h)))

-- ---- a target: below the length, a multiple of 16

pub at-index : (z : ℤ) (words : ℕ) (w : WordIndex) → index_of z words ≡ Some w → (z ≡ pos w.0) × (w.0 < words)
unfolding index_of
at-index (pos n) words w e =
    let t = told-first (ltb n words) (λ r. clash (cc)) e in
    let q : ◌≡◌ {A = WordIndex} (record { 0 = n }) w = cc in
    let k = ap (λ (x : WordIndex). x.0) q in
    (ap pos k, omega (arith, ltb-true n words t.0))
at-index (negsuc n) words w e = absurd (clash (cc))

pub at-word : (a : BitAddress) (words : ℕ) (w : WordIndex) → word_of a words ≡ Some w → (a.0 ≡ 16 * w.0) × (w.0 < words)
unfolding word_of
at-word a words w e =
    let t = told-first (eqb (a.0 % 16) 0) (λ r. clash (cc)) e in
    let i = at-index (pos (a.0 / 16)) words w t.1 in
    let k : a.0 / 16 ≡ w.0 = cc in
    (omega (arith, eqb-true (a.0 % 16) 0 t.0), i.1)

-- and back: the address of a word of the list is a target
pub word-of : (w : WordIndex) (words : ℕ) → w.0 < words → word_of (record { 0 = 16 * w.0 }) words ≡ Some w
unfolding word_of index_of
word-of w words h =
    rw (eq-eqb (16 * w.0 % 16) 0 (omega arith), lt-ltb (16 * w.0 / 16) words (omega arith)) (ap (λ (k : ℕ). Some (record { 0 = k })) (omega arith))

-- a number that no 32 bits make is no index of a list
pub past_32 : (z : ℤ) (words : ℕ) → words < 2 ^ 32 → (FitsUnsigned w32 z → ⊥) → None ≡ index_of z words
unfolding index_of
past_32 (pos n) words k h = rw (le-ltb n words (omega (arith, beyond)))
  where
    beyond : n < words → ⊥
    beyond l = h (grind (arith, ints), grind (arith, ints))
past_32 (negsuc n) words k h = refl
