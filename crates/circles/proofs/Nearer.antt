-- From the farthest rows to the nearest: a shape painted within a rectangle, the rows at one distance from row y at a time.
use mathlib.Core.Path.{◌≡◌, ap, ◌∙◌}
use mathlib.Core.Bool.{Bool, ◌&&◌, ◌||◌}
use mathlib.Core.List.{List}
use Prim.Native.Nat.{ℕ, ◌+◌, ◌≤◌, ◌<◌}
use native.Mathlib.Omega.{arith}
use native.Mathlib.Decide.{dec_lt}
use lib.Dec.{T, leb, eqb, leb→le, le→leb, eqb→eq}
use Rattle.raster.specs.declared.rect.Rect.{Rect}
use Rattle.raster.specs.Biased.{bias, gap_b}
use Rattle.raster.specs.Rects.{pixels, in_rect}
use Rattle.raster.proofs.Tests.{same, both, left, right, yes-or, or_yes, or_elim, eq→T, or-and}
use Rattle.raster.proofs.Pixels.{inside_is}
use Rattle.circles.specs.Reaches.{farthest, nearest}
use Rattle.circles.proofs.Pairs.{alike, joined, empty}

-- d or more is more than d, or d itself
from_next : (d g : ℕ) → (leb (d + 1) g || eqb g d) ≡ leb d g
from_next d g =
    same (leb (d + 1) g || eqb g d) (leb d g)
    (λ t. or_elim (leb (d + 1) g) (eqb g d) t (λ u. le→leb d g (omega (arith, leb→le (d + 1) g u))) (λ u. le→leb d g (omega (arith, eqb→eq g d u))))
    (λ t. by (leb→le d g t) (dec_lt d g))
  where
    by : d ≤ g → Dec (d < g) → T (leb (d + 1) g || eqb g d)
    by h (yes l) = yes-or (leb (d + 1) g) (eqb g d) (le→leb (d + 1) g (omega arith))
    by h (no l) = or_yes (leb (d + 1) g) (eqb g d) (eq→T g d (omega arith))

module _ (w : ℕ) (r : Rect) (y : ℕ) (D : ℕ → ℕ → Bool) where
  -- the screen with the rows painted that are d or more from row y
  abbrev pub beyond : ℕ → ℕ → List ℕ → List ℕ
  beyond d c s = pixels w (λ i j. in_rect r i j && (leb d (gap_b y (j + bias)) && D i j)) c s

  -- the shape has no row further away than q
  pub no_row : (q : ℕ) → ((i j : ℕ) → T (D i j) → gap_b y (j + bias) ≤ q) → (c : ℕ) (s : List ℕ) → s ≡ beyond (farthest r y q + 1) c s
  no_row q near c s =
      empty w r c s (λ i j. leb (farthest r y q + 1) (gap_b y (j + bias)) && D i j)
      (λ i j t u.
      let p = inside_is r (i + bias) (j + bias) t in
      let l = leb→le (farthest r y q + 1) (gap_b y (j + bias)) (left (leb (farthest r y q + 1) (gap_b y (j + bias))) (D i j) u) in
      let m = near i j (right (leb (farthest r y q + 1) (gap_b y (j + bias))) (D i j) u) in
      omega arith)

  pub row_more : (d c : ℕ) (s : List ℕ) → pixels w (λ i j. in_rect r i j && (eqb (gap_b y (j + bias)) d && D i j)) c (beyond (d + 1) c s) ≡ beyond d c s
  row_more d c s =
      joined w r c s (λ i j. leb (d + 1) (gap_b y (j + bias)) && D i j) (λ i j. eqb (gap_b y (j + bias)) d && D i j) (λ i j. leb d (gap_b y (j + bias)) && D i j)
      (λ i j _.
      let g = gap_b y (j + bias) in
      or-and (leb (d + 1) g) (eqb g d) (D i j) ∙ ap (λ (b : Bool). b && D i j) (from_next d g))

  pub every-row : (d c : ℕ) (s : List ℕ) → d ≤ nearest r y → beyond d c s ≡ pixels w (λ i j. in_rect r i j && D i j) c s
  every-row d c s l =
      alike w r c s (λ i j. leb d (gap_b y (j + bias)) && D i j) D
      (λ i j t.
      let p = inside_is r (i + bias) (j + bias) t in
      let m = le→leb d (gap_b y (j + bias)) (omega arith) in
      same (leb d (gap_b y (j + bias)) && D i j) (D i j) (right (leb d (gap_b y (j + bias))) (D i j)) (both (leb d (gap_b y (j + bias))) (D i j) m))
