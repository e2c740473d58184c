-- What a brush may hold: coordinates that are signed words, and radii of 0 to 32,767.
use Rattle.std.specs.Prelude.{Bool, true, ◌&&◌}
use Rattle.numbers.specs.Coordinate.{in_word, is_radius}
use Rattle.raster.specs.declared.dots.Dot.{Dot}
use Rattle.lines.specs.declared.line.Line.{Line}
use Rattle.circles.specs.declared.circle.Circle.{Circle}
use Rattle.brush.specs.declared.Figure.{Figure}
use Rattle.brush.specs.declared.Figure.TheVariants as Figures

abbrev pub near_dot : Dot → Bool
near_dot d = in_word d.x && in_word d.y

abbrev pub near_line : Line → Bool
near_line l = near_dot l.from && near_dot l.to

abbrev pub near_circle : Circle → Bool
near_circle k = near_dot k.centre && is_radius k.radius

abbrev pub is_near : Figure → Bool
is_near (Figures.Dot d) = near_dot d
is_near (Figures.Line l) = near_line l
is_near (Figures.Dashed l pattern) = near_line l
is_near (Figures.Disc k) = near_circle k
is_near (Figures.Outline k) = near_circle k
is_near Figures.Every = true
