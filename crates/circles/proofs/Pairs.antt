-- The two rows at one distance, and the columns beside one: a part or two of each.
use mathlib.Core.Path.{◌≡◌, sym, ◌∙◌}
use mathlib.Core.Bool.{Bool, ◌&&◌, ◌||◌}
use mathlib.Core.List.{List}
use Prim.Native.Nat.{ℕ, ◌+◌, ◌-◌, ◌/◌, ◌%◌, ◌<◌, ◌≤◌, min, max}
use native.Mathlib.Omega.{arith}
use native.Mathlib.Decide.{dec_lt}
use lib.Dec.{T, leb, eqb, leb→le, le→leb, eqb→eq}
use lib.ListN.{set}
use Rattle.raster.specs.declared.biased.Spot.{Spot}
use Rattle.raster.specs.declared.rect.Rect.{Rect}
use Rattle.raster.specs.Biased.{bias, dot_b, gap_b}
use Rattle.raster.specs.Rects.{pixels, byte_b, in_rect, Room}
use Rattle.raster.specs.Parts.{row_part}
use Rattle.raster.proofs.Tests.{same, both, left, right, yes-or, or_yes, or_elim, eq→T, and-or, and_same}
use Rattle.raster.proofs.Recolour.{none, agree, twice}
use Rattle.raster.proofs.Pixels.{inside_is, is-inside, stored-inside}
use Rattle.circles.specs.Reaches.{pair_b}

-- ---- shapes within r
module _ (w : ℕ) (r : Rect) (c : ℕ) (s : List ℕ) where
  -- two that agree there
  pub alike : (D E : ℕ → ℕ → Bool) → ((i j : ℕ) → T (in_rect r i j) → D i j ≡ E i j) → pixels w (λ i j. in_rect r i j && D i j) c s ≡ pixels w (λ i j. in_rect r i j && E i j) c s
  alike D E e =
      agree (λ k. in_rect r (k % w) (k / w) && D (k % w) (k / w)) (λ k. in_rect r (k % w) (k / w) && E (k % w) (k / w)) c s
      (λ k _. and_same (in_rect r (k % w) (k / w)) (D (k % w) (k / w)) (E (k % w) (k / w)) (e (k % w) (k / w)))

  -- one after the other
  pub joined : (D E J : ℕ → ℕ → Bool) → ((i j : ℕ) → T (in_rect r i j) → (D i j || E i j) ≡ J i j)
      → pixels w (λ i j. in_rect r i j && E i j) c (pixels w (λ i j. in_rect r i j && D i j) c s) ≡ pixels w (λ i j. in_rect r i j && J i j) c s
  joined D E J e =
      twice (λ k. in_rect r (k % w) (k / w) && D (k % w) (k / w)) (λ k. in_rect r (k % w) (k / w) && E (k % w) (k / w)) c s
      ∙ agree (λ k. in_rect r (k % w) (k / w) && D (k % w) (k / w) || (in_rect r (k % w) (k / w) && E (k % w) (k / w)))
      (λ k. in_rect r (k % w) (k / w) && (D (k % w) (k / w) || E (k % w) (k / w))) c s
      (λ k _. sym (and-or (in_rect r (k % w) (k / w)) (D (k % w) (k / w)) (E (k % w) (k / w))))
      ∙ alike (λ i j. D i j || E i j) J e

  -- one that has no pixel there
  pub empty : (D : ℕ → ℕ → Bool) → ((i j : ℕ) → T (in_rect r i j) → T (D i j) → ⊥) → s ≡ pixels w (λ i j. in_rect r i j && D i j) c s
  empty D n =
      none (λ k. in_rect r (k % w) (k / w) && D (k % w) (k / w)) c s
      (λ k _ t.
      let i = k % w in
      let j = k / w in
      n i j (left (in_rect r i j) (D i j) t) (right (in_rect r i j) (D i j) t))

-- ---- a part of a row
module _ (w : ℕ) (r : Rect) (y x0 x1 : ℕ) (s : List ℕ) (h : Room w r s) (lo : r.l ≤ x0) (hi : x1 ≤ r.r) where
  -- of a row of r
  module _ (ht : r.t ≤ y) (hb : y ≤ r.b) where
    pub part-within : (c : ℕ) → pixels w (in_rect (row_part y x0 x1)) c s ≡ pixels w (λ i j. in_rect r i j && in_rect (row_part y x0 x1) i j) c s
    part-within c =
        agree (λ k. in_rect (row_part y x0 x1) (k % w) (k / w)) (λ k. in_rect r (k % w) (k / w) && in_rect (row_part y x0 x1) (k % w) (k / w)) c s
        (λ k _. same (in_rect (row_part y x0 x1) (k % w) (k / w)) (in_rect r (k % w) (k / w) && in_rect (row_part y x0 x1) (k % w) (k / w))
        (λ t.
        let p = inside_is (row_part y x0 x1) (k % w + bias) (k / w + bias) t in
        both (in_rect r (k % w) (k / w)) (in_rect (row_part y x0 x1) (k % w) (k / w))
        (is-inside r (k % w + bias) (k / w + bias) (omega arith) (omega arith) (omega arith) (omega arith)) t)
        (right (in_rect r (k % w) (k / w)) (in_rect (row_part y x0 x1) (k % w) (k / w))))

    -- where it is one dot
    pub dot-within : x0 ≡ x1 → (c : ℕ) → set s (byte_b w (record { x = x0; y = y })) c ≡ pixels w (λ i j. in_rect r i j && in_rect (row_part y x0 x1) i j) c s
    dot-within e c =
        stored-inside w r p c s h (is-inside r x0 y lo (omega arith) ht hb) ∙ alike w r c s (dot_b p) (in_rect (row_part y x0 x1)) (λ i j _. one i j)
      where
        p : Spot
        p = record { x = x0; y = y }

        one : (i j : ℕ) → dot_b p i j ≡ in_rect (row_part y x0 x1) i j
        one i j =
            same (dot_b p i j) (in_rect (row_part y x0 x1) i j)
            (λ t.
            let a = eqb→eq x0 (i + bias) (left (eqb x0 (i + bias)) (eqb y (j + bias)) t) in
            let b = eqb→eq y (j + bias) (right (eqb x0 (i + bias)) (eqb y (j + bias)) t) in
            is-inside (row_part y x0 x1) (i + bias) (j + bias) (omega arith) (omega arith) (omega arith) (omega arith))
            (λ t.
            let q = inside_is (row_part y x0 x1) (i + bias) (j + bias) t in
            both (eqb x0 (i + bias)) (eqb y (j + bias)) (eq→T x0 (i + bias) (omega arith)) (eq→T y (j + bias) (omega arith)))

  -- of a row that is none of r's
  pub no_part : ((r.t ≤ y) × (y ≤ r.b) → ⊥) → (c : ℕ) → s ≡ pixels w (λ i j. in_rect r i j && in_rect (row_part y x0 x1) i j) c s
  no_part n c =
      empty w r c s (in_rect (row_part y x0 x1))
      (λ i j t u.
      let p = inside_is r (i + bias) (j + bias) t in
      let q = inside_is (row_part y x0 x1) (i + bias) (j + bias) u in
      n (omega arith, omega arith))

-- ---- the two rows d from row y, columns x0 to x1: a and b are the columns that are left of them in r
module _ (r : Rect) (y d x0 x1 a b : ℕ) (ea : a ≡ max r.l x0) (eb : b ≡ min r.r x1) (i j : ℕ) (t : T (in_rect r i j)) where
  abbrev x : ℕ
  x = i + bias

  abbrev z : ℕ
  z = j + bias

  abbrev columns : Bool
  columns = leb x0 x && leb x x1

  inside : (r.l ≤ x) × (x ≤ r.r) × (r.t ≤ z) × (z ≤ r.b)
  inside = inside_is r x z t

  from-part : (v : ℕ) → gap_b y z ≡ d → T (in_rect (row_part v a b) i j) → T (pair_b y d x0 x1 i j)
  from-part v g u =
      let q = inside_is (row_part v a b) x z u in
      both (eqb (gap_b y z) d) columns (eq→T (gap_b y z) d g) (both (leb x0 x) (leb x x1) (le→leb x0 x (omega arith)) (le→leb x x1 (omega arith)))

  at_row : T (in_rect (row_part (y - d) a b) i j) → gap_b y z ≡ d
  at_row u = let q = inside_is (row_part (y - d) a b) x z u in omega arith

  at-row-below : T (in_rect (row_part (y + d) a b) i j) → gap_b y z ≡ d
  at-row-below u = let q = inside_is (row_part (y + d) a b) x z u in omega arith

  to_part : (v : ℕ) → z ≡ v → T columns → T (in_rect (row_part v a b) i j)
  to_part v e u =
      let p = inside in
      let m = leb→le x0 x (left (leb x0 x) (leb x x1) u) in
      let n = leb→le x x1 (right (leb x0 x) (leb x x1) u) in
      is-inside (row_part v a b) x z (omega arith) (omega arith) (omega arith) (omega arith)

  distance : T (pair_b y d x0 x1 i j) → gap_b y z ≡ d
  distance u = eqb→eq (gap_b y z) d (left (eqb (gap_b y z) d) columns u)

  pub both-rows : (in_rect (row_part (y - d) a b) i j || in_rect (row_part (y + d) a b) i j) ≡ pair_b y d x0 x1 i j
  both-rows =
      same (in_rect (row_part (y - d) a b) i j || in_rect (row_part (y + d) a b) i j) (pair_b y d x0 x1 i j)
      (λ u. or_elim (in_rect (row_part (y - d) a b) i j) (in_rect (row_part (y + d) a b) i j) u (λ v. from-part (y - d) (at_row v) v)
      (λ v. from-part (y + d) (at-row-below v) v))
      (λ u. by u (distance u) (right (eqb (gap_b y z) d) columns u) (dec_lt z y))
    where
      by : T (pair_b y d x0 x1 i j) → gap_b y z ≡ d → T columns → Dec (z < y) → T (in_rect (row_part (y - d) a b) i j || in_rect (row_part (y + d) a b) i j)
      by u g v (yes l) = yes-or (in_rect (row_part (y - d) a b) i j) (in_rect (row_part (y + d) a b) i j) (to_part (y - d) (omega arith) v)
      by u g v (no l) = or_yes (in_rect (row_part (y - d) a b) i j) (in_rect (row_part (y + d) a b) i j) (to_part (y + d) (omega arith) v)

  -- they are one where d is 0
  pub one-row : d ≤ 0 → in_rect (row_part (y - d) a b) i j ≡ pair_b y d x0 x1 i j
  one-row l =
      same (in_rect (row_part (y - d) a b) i j) (pair_b y d x0 x1 i j) (λ u. from-part (y - d) (at_row u) u)
      (λ u. to_part (y - d) (let g = distance u in omega arith) (right (eqb (gap_b y z) d) columns u))

  -- and no column is left where a is above b
  pub no-column : b < a → T (pair_b y d x0 x1 i j) → ⊥
  no-column l u =
      let p = inside in
      let v = right (eqb (gap_b y z) d) columns u in
      let m = leb→le x0 x (left (leb x0 x) (leb x x1) v) in
      let n = leb→le x x1 (right (leb x0 x) (leb x x1) v) in
      omega arith
