-- What a brush paints: the shape that its figure says, relative to an origin.
use Rattle.raster.specs.Shapes.{Shape, dot, all}
use Rattle.lines.specs.Line.{line}
use Rattle.lines.specs.Dashes.{dashed}
use Rattle.circles.specs.Circle.{disc, outline}
use Rattle.brush.specs.declared.Figure.{Figure}
use Rattle.brush.specs.declared.Figure.TheVariants as Figures

abbrev pub shape_of : Figure → Shape
shape_of (Figures.Dot d) = dot d
shape_of (Figures.Line l) = line l
shape_of (Figures.Dashed l pattern) = dashed pattern l
shape_of (Figures.Disc k) = disc k
shape_of (Figures.Outline k) = outline k
shape_of Figures.Every = all
