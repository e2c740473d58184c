-- Painting: a screen is its bytes, row by row from the top left, and the drawable dots of a shape get a colour.
use Rattle.std.specs.Prelude.{ℕ, suc, ◌/◌, ◌%◌, Bool, cond, ◌&&◌, List, [], ◌∷◌, ℤ, pos}
use Rattle.raster.specs.declared.frame.Bounds.{Bounds}
use Rattle.raster.specs.declared.frame.Frame.{Frame}
use Rattle.raster.specs.Shapes.{Shape}
use Rattle.raster.specs.Frame.{drawable}

-- the bytes whose numbers, counted from i, are hit become c; the others stay
unfoldable pub recolour_from : ℕ → (ℕ → Bool) → ℕ → List ℕ → List ℕ
recolour_from i hit c [] = []
recolour_from i hit c (b ∷ bs) = cond (hit i) c b ∷ recolour_from (suc i) hit c bs

abbrev pub recolour : (ℕ → Bool) → ℕ → List ℕ → List ℕ
recolour hit c s = recolour_from 0 hit c s

-- the point that byte k shows
abbrev pub column_of : Bounds → ℕ → ℤ
column_of b k = pos (k % b.width)

abbrev pub row_of : Bounds → ℕ → ℤ
row_of b k = pos (k / b.width)

-- byte k shows a drawable dot of the shape
abbrev pub hit : Frame → Shape → ℕ → Bool
hit f S k = drawable f (column_of f.bounds k) (row_of f.bounds k) && S (column_of f.bounds k) (row_of f.bounds k)

-- every drawable dot of the shape gets the colour c, and every other byte stays
unfoldable pub paint : Frame → Shape → ℕ → List ℕ → List ℕ
paint f S c s = recolour (hit f S) c s
