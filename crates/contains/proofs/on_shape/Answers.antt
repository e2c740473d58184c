-- `on_shape`: a dot that is moved is the moved dot; the other shapes close by `Figures`.
use Rattle.std.proofs.Common.{pos, sym, ap, ◌∙◌}
use Rattle.raster.specs.Shapes.{Shape, dot, moved_by}
use Rattle.raster.proofs.Moved.{dot-moved}
use Rattle.brush.specs.Brush.{shape_of}
use Rattle.contains.proofs.on_shape.Goals as goal

pub returns-in-Dot : goal.returns-in-Dot
returns-in-Dot c =
    let g = c.args in
    c.on_dot.ensures
    ∙ ap (λ (S : Shape). S (pos g.d.column) (pos g.d.row))
    (ap dot c.placed.ensures.value ∙ (dot-moved c.in-Dot.p g.o ∙ ap (λ s. moved_by g.o (shape_of s)) (sym c.in-Dot.is)))
