-- Circles (document 02, request T-01): the filled one, and its outline.
use Rattle.std.specs.Prelude.{Bool, true, false, not, ◌&&◌, ◌||◌, ℤ, pos, ◌+ℤ◌, ◌-ℤ◌, ◌*ℤ◌}
use Rattle.std.specs.Int.Signed.{le_z}
use Rattle.raster.specs.declared.dots.Dot.{Dot}
use Rattle.raster.specs.Shapes.{Shape, shifted}
use Rattle.circles.specs.declared.circle.Circle.{Circle}

abbrev pub square : ℤ → ℤ
square z = z *ℤ z

-- the filled circle: the square of the x distance plus the square of the y distance is at most the square of the radius
unfoldable pub disc : Circle → Shape
disc k = λ x y. le_z (square (x -ℤ k.centre.x) +ℤ square (y -ℤ k.centre.y)) (square k.radius)

-- the points of a shape with at least one of four neighbours, left, right, above and below, outside it
abbrev pub edge : Shape → Shape
edge S = λ x y. S x y && (not (S (x -ℤ pos 1) y) || not (S (x +ℤ pos 1) y) || (not (S x (y -ℤ pos 1)) || not (S x (y +ℤ pos 1))))

-- the circle's outline
unfoldable pub outline : Circle → Shape
outline k = edge (disc k)

-- filled, or the outline alone
abbrev pub circle : Bool → Circle → Shape
circle true k = disc k
circle false k = outline k

-- the circle with its centre moved by o
abbrev pub circle_by : Dot → Circle → Circle
circle_by o k = record { centre = shifted k.centre o; radius = k.radius }
