-- What two values answer as a point, and with a third as a circle.
use Rattle.std.specs.Prelude.{Bool, cond, not, ◌||◌, ℤ, Some, None, Option}
use Rattle.numbers.specs.Coordinate.{is_radius}
use Rattle.raster.specs.declared.dots.Dot.{Dot}
use Rattle.raster.specs.Shapes.{shifted}
use Rattle.circles.specs.declared.circle.Circle.{Circle}
use Rattle.rules.specs.Opcodes.{far}

-- x, unless something is outside
unfoldable pub some_unless : {X : Type 0} → Bool → X → Option X
some_unless out x = cond out None (Some x)

abbrev pub point_of : Dot → Option Dot
point_of p = some_unless (far p) p

-- the point at the offsets d from p
abbrev pub point_by : Dot → Dot → Option Dot
point_by p d = some_unless (far d || far (shifted p d)) (shifted p d)

-- two coordinates that were judged
abbrev pub paired : Option ℤ → Option ℤ → Option Dot
paired (Some x) (Some y) = Some (record { x = x; y = y })
paired (Some x) None = None
paired None y = None

-- the circle around p with the radius z
abbrev pub round_of : Dot → ℤ → Option Circle
round_of p z = some_unless (far p || not (is_radius z)) (record { centre = p; radius = z })
