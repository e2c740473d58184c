-- Row after row: a shape painted within a rectangle, one row at a time.
use Rattle.std.proofs.Common.{◌≡◌, ℕ, ◌+◌, ◌/◌, ◌%◌, ◌<◌, ◌≤◌, Bool, true, ◌&&◌, ◌||◌, eqb, ltb, List, sym, ap, ◌∙◌, arith, eqb→eq, ltb→lt, lt→ltb}
use Rattle.raster.specs.declared.rect.Rect.{Rect}
use Rattle.raster.specs.Biased.{bias}
use Rattle.raster.specs.Rects.{pixels, in_rect}
use Rattle.raster.specs.Parts.{row_part}
use Rattle.raster.proofs.Tests.{same, both, left, right, eq→T, and-true, and-or, or-and, and_same, lt-next}
use Rattle.raster.proofs.Recolour.{none, agree, twice}
use Rattle.raster.proofs.Pixels.{inside_is, is-inside}

module _ (w : ℕ) (r : Rect) (D : ℕ → ℕ → Bool) where
  -- the pixel is one of the shape's, in a row of r above row y
  abbrev in_above : ℕ → ℕ → ℕ → Bool
  in_above y i j = in_rect r i j && (ltb (j + bias) y && D i j)

  -- the screen with these painted
  abbrev pub above : ℕ → ℕ → List ℕ → List ℕ
  above y c s = pixels w (in_above y) c s

  pub no_row : (c : ℕ) (s : List ℕ) → s ≡ above r.t c s
  no_row c s =
      none (λ k. in_above r.t (k % w) (k / w)) c s
      (λ k _ t.
      let j = k / w + bias in
      let p = inside_is r (k % w + bias) j (left (in_rect r (k % w) (k / w)) (ltb j r.t && D (k % w) (k / w)) t) in
      let q = ltb→lt j r.t (left (ltb j r.t) (D (k % w) (k / w)) (right (in_rect r (k % w) (k / w)) (ltb j r.t && D (k % w) (k / w)) t)) in
      omega arith)

  -- R is the shape in row y of r
  pub row_more : (R : ℕ → ℕ → Bool) (y c : ℕ) (s : List ℕ) → ((i j : ℕ) → R i j ≡ (in_rect r i j && (eqb (j + bias) y && D i j)))
      → pixels w R c (above y c s) ≡ above (y + 1) c s
  row_more R y c s e =
      twice (λ k. in_above y (k % w) (k / w)) (λ k. R (k % w) (k / w)) c s
      ∙ agree (λ k. in_above y (k % w) (k / w) || R (k % w) (k / w)) (λ k. in_above (y + 1) (k % w) (k / w)) c s (λ k _. joined (k % w) (k / w))
    where
      joined : (i j : ℕ) → (in_above y i j || R i j) ≡ in_above (y + 1) i j
      joined i j =
          ap (λ (b : Bool). in_above y i j || b) (e i j)
          ∙ sym (and-or (in_rect r i j) (ltb (j + bias) y && D i j) (eqb (j + bias) y && D i j))
          ∙ ap (λ (b : Bool). in_rect r i j && b) (or-and (ltb (j + bias) y) (eqb (j + bias) y) (D i j))
          ∙ ap (λ (b : Bool). in_rect r i j && (b && D i j)) (lt-next (j + bias) y)

  pub every-row : (y c : ℕ) (s : List ℕ) → r.b < y → above y c s ≡ pixels w (λ i j. in_rect r i j && D i j) c s
  every-row y c s l =
      agree (λ k. in_above y (k % w) (k / w)) (λ k. in_rect r (k % w) (k / w) && D (k % w) (k / w)) c s
      (λ k _. and_same (in_rect r (k % w) (k / w)) (ltb (k / w + bias) y && D (k % w) (k / w)) (D (k % w) (k / w))
      (λ t. let p = inside_is r (k % w + bias) (k / w + bias) t in and_lt (D (k % w) (k / w)) (k / w + bias) (omega arith)))
    where
      and_lt : (d : Bool) (j : ℕ) → j < y → (ltb j y && d) ≡ d
      and_lt d j l = same (ltb j y && d) d (right (ltb j y) d) (λ t. both (ltb j y) d (lt→ltb j y l) t)

-- ---- every pixel as the shape
pub whole_row : (r : Rect) (y : ℕ) → r.t ≤ y → y ≤ r.b → (i j : ℕ) → in_rect (row_part y r.l r.r) i j ≡ (in_rect r i j && (eqb (j + bias) y && true))
whole_row r y h k i j =
    same (in_rect (row_part y r.l r.r) i j) (in_rect r i j && (eqb (j + bias) y && true))
    (λ t.
    let p = inside_is (row_part y r.l r.r) (i + bias) (j + bias) t in
    both (in_rect r i j) (eqb (j + bias) y && true) (is-inside r (i + bias) (j + bias) (omega arith) (omega arith) (omega arith) (omega arith))
    (both (eqb (j + bias) y) true (eq→T (j + bias) y (omega arith)) tt))
    (λ t.
    let p = inside_is r (i + bias) (j + bias) (left (in_rect r i j) (eqb (j + bias) y && true) t) in
    let e = eqb→eq (j + bias) y (left (eqb (j + bias) y) true (right (in_rect r i j) (eqb (j + bias) y && true) t)) in
    is-inside (row_part y r.l r.r) (i + bias) (j + bias) (omega arith) (omega arith) (omega arith) (omega arith))

pub whole : (w : ℕ) (r : Rect) (c : ℕ) (s : List ℕ) → pixels w (λ i j. in_rect r i j && true) c s ≡ pixels w (in_rect r) c s
whole w r c s =
    agree (λ k. in_rect r (k % w) (k / w) && true) (λ k. in_rect r (k % w) (k / w)) c s (λ k _. and-true (in_rect r (k % w) (k / w)))
