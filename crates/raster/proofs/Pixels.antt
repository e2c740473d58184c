-- Laws of pixels: a byte's column and row, and a dot that is stored or skipped.
use Rattle.std.proofs.Common.{◌≡◌, ℕ, ◌+◌, ◌-◌, ◌*◌, ◌/◌, ◌%◌, ◌<◌, ◌≤◌, ◌&&◌, T, eqb, leb, List, length, set, sym, ap, ◌∙◌, subst, ap₂, subst₂, add-zero, mul-le-mul_right, mod-eq_of_lt, add-mul, mul-le-mul, one-mul, div-add-mod', arith, le→leb, eqb→eq, leb→le}
use native.Mathlib.Nat.{mul-add-mod_self_right, mul-add-div_right, div-eq_of_lt}
use Rattle.raster.specs.declared.biased.Spot.{Spot}
use Rattle.raster.specs.declared.rect.Rect.{Rect}
use Rattle.raster.specs.Biased.{bias, dot_b}
use Rattle.raster.specs.Rects.{pixels, byte_b, inside_b, in_rect, Room, Placed, Seen}
use Rattle.raster.proofs.Tests.{same, both, left, right, four, quad, eq→T}
use Rattle.raster.proofs.Recolour.{one, none, agree}

-- ---- a byte's column and row, and the byte of a column and a row
pub column : (w x y : ℕ) → x < w → (y * w + x) % w ≡ x
column w x y h = mul-add-mod_self_right y w x ∙ mod-eq_of_lt h

pub row : (w x y : ℕ) → x < w → (y * w + x) / w ≡ y
row w x y h = mul-add-div_right (omega arith) y x ∙ ap (λ (k : ℕ). y + k) (div-eq_of_lt h) ∙ add-zero y

pub byte : (w k : ℕ) → k / w * w + k % w ≡ k
byte w k = div-add-mod' k w

-- ---- a point within a rectangle
module _ (r : Rect) (x y : ℕ) where
  pub inside_is : T (inside_b r x y) → (r.l ≤ x) × (x ≤ r.r) × (r.t ≤ y) × (y ≤ r.b)
  inside_is t =
      let q = four (leb r.l x) (leb x r.r) (leb r.t y) (leb y r.b) t in
      (leb→le r.l x q.0, leb→le x r.r q.1, leb→le r.t y q.2, leb→le y r.b q.3)

  pub is-inside : r.l ≤ x → x ≤ r.r → r.t ≤ y → y ≤ r.b → T (inside_b r x y)
  is-inside a b c d =
      quad (leb r.l x) (leb x r.r) (leb r.t y) (leb y r.b) (le→leb r.l x a) (le→leb x r.r b) (le→leb r.t y c) (le→leb y r.b d)

-- ---- a dot and its pixel
module _ (p : Spot) (i j : ℕ) (t : T (dot_b p i j)) where
  -- the dot of a pixel is the pixel, biased
  at-pixel : (p.x ≡ i + bias) × (p.y ≡ j + bias)
  at-pixel =
      let x = eqb→eq p.x (i + bias) (left (eqb p.x (i + bias)) (eqb p.y (j + bias)) t) in
      let y = eqb→eq p.y (j + bias) (right (eqb p.x (i + bias)) (eqb p.y (j + bias)) t) in
      (x, y)

  -- the pixel is within r where the dot is
  pub pixel-inside : (r : Rect) → inside_b r p.x p.y ≡ in_rect r i j
  pixel-inside r = ap₂ (λ (x y : ℕ). inside_b r x y) at-pixel.0 at-pixel.1

-- a dot that has a byte is one store
pub stored : (w : ℕ) (p : Spot) (c : ℕ) (s : List ℕ) → Placed w p → set s (byte_b w p) c ≡ pixels w (dot_b p) c s
stored w p c s q =
    one (λ k. dot_b p (k % w) (k / w)) c s (byte_b w p)
    (subst₂ (λ (i j : ℕ). T (dot_b p i j)) (sym (column w x y q.x_to)) (sym (row w x y q.x_to))
    (both (eqb p.x (x + bias)) (eqb p.y (y + bias)) (eq→T p.x (x + bias) (omega (arith, q.x_from))) (eq→T p.y (y + bias) (omega (arith, q.y_from)))))
    (λ k l u.
    let e = at-pixel p (k % w) (k / w) u in
    let i : k % w ≡ p.x - bias = omega arith in
    let j : k / w ≡ p.y - bias = omega arith in
    sym (byte w k) ∙ ap₂ (λ (a b : ℕ). a * w + b) j i)
  where
    x : ℕ
    x = p.x - bias

    y : ℕ
    y = p.y - bias

-- ---- a dot within a rectangle that has room in the screen
module _ (w : ℕ) (r : Rect) (p : Spot) where
  pub seen : (s : List ℕ) → Room w r s → T (inside_b r p.x p.y) → Seen w p s
  seen s h t =
      let q = inside_is r p.x p.y t in
      let high : p.y - bias ≤ 2048 = omega (arith, h.to_bottom) in
      let whole : (p.y - bias + 1) * w ≤ (r.b + 1 - bias) * w = mul-le-mul_right w (omega (arith, h.from_top)) in
      let index : byte_b w p < length s = omega (arith, h.from_left, h.to_right, h.down, add-mul (p.y - bias) 1 w, one-mul w) in (
        record {
          x_from = omega (arith, h.from_left);
          y_from = omega (arith, h.from_top);
          x_to = omega (arith, h.from_left, h.to_right);
          narrow = h.narrow;
          rows = mul-le-mul high h.narrow;
        },
        index,
      )

  -- a dot that is seen is one store
  pub stored-inside : (c : ℕ) (s : List ℕ) → Room w r s → T (inside_b r p.x p.y)
      → set s (byte_b w p) c ≡ pixels w (λ i j. in_rect r i j && dot_b p i j) c s
  stored-inside c s h t =
      stored w p c s (seen s h t).0
      ∙ agree (λ k. dot_b p (k % w) (k / w)) (λ k. in_rect r (k % w) (k / w) && dot_b p (k % w) (k / w)) c s
      (λ k _. same (dot_b p (k % w) (k / w)) (in_rect r (k % w) (k / w) && dot_b p (k % w) (k / w))
      (λ u. both (in_rect r (k % w) (k / w)) (dot_b p (k % w) (k / w)) (subst T (pixel-inside p (k % w) (k / w) u r) t) u)
      (right (in_rect r (k % w) (k / w)) (dot_b p (k % w) (k / w))))

  -- a dot that is not within r is none
  pub skipped : (c : ℕ) (s : List ℕ) → (T (inside_b r p.x p.y) → ⊥) → s ≡ pixels w (λ i j. in_rect r i j && dot_b p i j) c s
  skipped c s n =
      none (λ k. in_rect r (k % w) (k / w) && dot_b p (k % w) (k / w)) c s
      (λ k l u.
      let i = k % w in
      let j = k / w in
      n (subst T (sym (pixel-inside p i j (right (in_rect r i j) (dot_b p i j) u) r)) (left (in_rect r i j) (dot_b p i j) u)))
