-- Laws of parts whose bytes lie side by side: a run of bytes, a part of a row, and rows as wide as the screen.
use Rattle.std.proofs.Common.{rules, take, drop, length-take, length-drop, ◌≡◌, ℕ, refl, ◌+◌, ◌-◌, ◌*◌, ◌/◌, ◌%◌, ◌<◌, ◌≤◌, T, ltb, leb, List, [], ◌∷◌, length, replicate, get_or, cond, true, ap, ◌∙◌, subst, mod-lt, div-lt_iff_lt-mul, le-div_iff_mul-le, arith, le→leb, ltb→lt, lt→ltb, leb→le}
use native.Mathlib.Decide.{dec_lt}
use borrow.Rule.Slice.PartMut.{put_mid}
use Rattle.std.specs.List.{FoldsTo}
use Rattle.std.proofs.lemmas.List.{places}
use Rattle.raster.specs.declared.rect.Rect.{Rect}
use Rattle.raster.specs.Paint.{recolour}
use Rattle.raster.specs.Biased.{bias}
use Rattle.raster.specs.Rects.{pixels, in_rect, Room}
use Rattle.raster.specs.Parts.{between, row_part}
use Rattle.raster.proofs.Tests.{same, both, left, right, T_false}
use Rattle.raster.proofs.Recolour.{none, agree, only}
use Rattle.raster.proofs.Pixels.{column, row, byte, inside_is, is-inside}

-- ---- a run of bytes
between_is : (a e k : ℕ) → T (between a e k) → (a ≤ k) × (k < e)
between_is a e k t = (leb→le a k (left (leb a k) (ltb k e) t), ltb→lt k e (right (leb a k) (ltb k e) t))

is-between : (a e k : ℕ) → a ≤ k → k < e → T (between a e k)
is-between a e k p q = both (leb a k) (ltb k e) (le→leb a k p) (lt→ltb k e q)

-- a fill of these bytes
pub filled : (a e c : ℕ) (s ys : List ℕ) → a ≤ e → e ≤ length s → ys ≡ replicate (length (take (e - a) (drop a s))) c → put_mid a (e - a) s ys ≡ recolour (between a e) c s
filled a e c s ys l m p = rw (p ∙ ap (λ (n : ℕ). replicate n c) many) (only (between a e) c s (put_mid a (e - a) s (replicate (e - a) c)) (long) (λ j h. by j h (dec_lt j a) (dec_lt j e)))
  where
    many : length (take (e - a) (drop a s)) ≡ e - a
    many = omega (arith, length-take (e - a) (drop a s), length-drop a s)

    long : length (put_mid a (e - a) s (replicate (e - a) c)) ≡ length s
    long = search (rules, places)

    by : (j : ℕ) → j < length s → Dec (j < a) → Dec (j < e) → get_or (put_mid a (e - a) s (replicate (e - a) c)) j 0 ≡ cond (between a e j) c (get_or s j 0)
    by j h (yes u) d = rw (T_false (between a e j) (λ t. let q = between_is a e j t in omega arith)) (search (rules, places))
    by j h (no u) (yes v) = rw (same (between a e j) true (λ _. tt) (λ _. is-between a e j (omega arith) v)) (search (rules, places))
    by j h (no u) (no v) = rw (T_false (between a e j) (λ t. let q = between_is a e j t in omega arith)) (search (rules, places))

-- bytes that a closure gave, one call for each: as long as it holds c, it gives c and holds it still
module _ {F : Type 0} (gives : F → ℕ → F → Type 0) (c : ℕ) (holds : F → Type 0) (once : (f : F) (x : ℕ) (g : F) → holds f → gives f x g → (x ≡ c) × holds g) where
  pub all-alike : (f : F) (xs : List ℕ) (last : F) → holds f → FoldsTo gives f xs last → xs ≡ replicate (length xs) c
  all-alike f [] last h p = refl
  all-alike f (x ∷ xs) last h p =
      let one = once f x p.0 h p.1 in
      rw one.0 (ap (λ (l : List ℕ). c ∷ l) (all-alike p.0 xs last one.1 p.2))

-- a rectangle with no column or no row has no pixel
pub no-pixel : (w : ℕ) (r : Rect) (c : ℕ) (s : List ℕ) → ((r.l ≤ r.r) × (r.t ≤ r.b) → ⊥) → s ≡ pixels w (in_rect r) c s
no-pixel w r c s n =
    none (λ k. in_rect r (k % w) (k / w)) c s (λ k _ t. let p = inside_is r (k % w + bias) (k / w + bias) t in n (omega arith, omega arith))

-- ---- a part of a row
module _ (w y x0 x1 : ℕ) (s : List ℕ) (h : Room w (row_part y x0 x1) s) (l : x0 ≤ x1) where
  pub as_bytes : (c : ℕ) → recolour (between ((y - bias) * w + (x0 - bias)) ((y - bias) * w + (x1 + 1 - bias))) c s ≡ pixels w (in_rect (row_part y x0 x1)) c s
  as_bytes c =
      agree (between from past) (λ k. in_rect (row_part y x0 x1) (k % w) (k / w)) c s
      (λ k _. same (between from past k) (in_rect (row_part y x0 x1) (k % w) (k / w)) (to k) (back k))
    where
      at : ℕ
      at = (y - bias) * w

      from : ℕ
      from = (y - bias) * w + (x0 - bias)

      past : ℕ
      past = (y - bias) * w + (x1 + 1 - bias)

      to : (k : ℕ) → T (between from past k) → T (in_rect (row_part y x0 x1) (k % w) (k / w))
      to k t =
          let p = between_is from past k t in
          let q : k ≡ at + (k - at) = omega arith in
          let n : k - at < w = omega (arith, h.from_left, h.to_right) in
          let i : k % w ≡ k - at = ap (λ (b : ℕ). b % w) q ∙ column w (k - at) (y - bias) n in
          let j : k / w ≡ y - bias = ap (λ (b : ℕ). b / w) q ∙ row w (k - at) (y - bias) n in
          is-inside (row_part y x0 x1) (k % w + bias) (k / w + bias)
          (omega (arith, i, h.from_left)) (omega (arith, i, h.from_left)) (omega (arith, j, h.from_top)) (omega (arith, j, h.from_top))

      back : (k : ℕ) → T (in_rect (row_part y x0 x1) (k % w) (k / w)) → T (between from past k)
      back k t =
          let p = inside_is (row_part y x0 x1) (k % w + bias) (k / w + bias) t in
          let j : k / w ≡ y - bias = omega arith in
          let b : (y - bias) * w + k % w ≡ k = subst (λ (m : ℕ). m * w + k % w ≡ k) j (byte w k) in
          is-between from past k (omega (arith, h.from_left)) (omega (arith, h.from_left))

-- ---- rows as wide as the screen
module _ (w : ℕ) (r : Rect) (s : List ℕ) (h : Room w r s) where
  pub rows-as-bytes : 0 < w → r.l ≡ bias → r.r + 1 ≡ w + bias → (c : ℕ)
      → recolour (between ((r.t - bias) * w) ((r.b + 1 - bias) * w)) c s ≡ pixels w (in_rect r) c s
  rows-as-bytes hw hl hr c =
      agree (between from past) (λ k. in_rect r (k % w) (k / w)) c s
      (λ k _. same (between from past k) (in_rect r (k % w) (k / w)) (to k) (back k))
    where
      from : ℕ
      from = (r.t - bias) * w

      past : ℕ
      past = (r.b + 1 - bias) * w

      to : (k : ℕ) → T (between from past k) → T (in_rect r (k % w) (k / w))
      to k t =
          let p = between_is from past k t in
          let n : k % w < w = mod-lt k hw in
          let above : k / w < r.b + 1 - bias = (div-lt_iff_lt-mul hw).1 p.1 in
          let below : r.t - bias ≤ k / w = (le-div_iff_mul-le hw).1 p.0 in
          is-inside r (k % w + bias) (k / w + bias) (omega arith) (omega arith) (omega (arith, h.from_top)) (omega arith)

      back : (k : ℕ) → T (in_rect r (k % w) (k / w)) → T (between from past k)
      back k t =
          let p = inside_is r (k % w + bias) (k / w + bias) t in
          is-between from past k ((le-div_iff_mul-le hw).0 (omega arith)) ((div-lt_iff_lt-mul hw).0 (omega arith))
