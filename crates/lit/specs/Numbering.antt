-- How many points a shape has: as many as a list that holds each of them once, and no other.
use Rattle.std.specs.Prelude.{◌≡◌, false, ◌||◌, List, [], ◌∷◌, ℕ, ℤ, length}
use Rattle.raster.specs.declared.dots.Dot.{Dot}
use Rattle.raster.specs.Shapes.{Shape, dot}

-- the points of a list
abbrev pub among : List Dot → Shape
among [] = λ x y. false
among (d ∷ ds) = λ x y. dot d x y || among ds x y

-- none stands in it twice
abbrev pub Once : List Dot → Type 0
Once [] = Unit {0}
Once (d ∷ ds) = (among ds d.x d.y ≡ false) × Once ds

-- the shape has n points
pub record Has (S : Shape) (n : ℕ) : Type 0 where
  pub points : List Dot
  pub each : (x y : ℤ) → S x y ≡ among points x y
  pub once : Once points
  pub many : length points ≡ n
