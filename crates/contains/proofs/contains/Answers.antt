-- `contains`: a dot is painted where it is drawable and the shape's.
use Rattle.std.proofs.Common.{◌≡◌, ℕ, Bool, ◌&&◌, pos, sym, ap, ◌∙◌, ap₂}
use Rattle.raster.specs.Shapes.{moved_by}
use Rattle.raster.specs.Frame.{drawable}
use Rattle.raster.specs.Rects.{inside_b, rect_of}
use Rattle.raster.proofs.Rectangles.{drawable-is}
use Rattle.brush.specs.Brush.{shape_of}
use Rattle.contains.proofs.contains.Goals as goal

-- in both, the test of the rectangle is the rule's
pub returns-then-not-visible : goal.returns-then-not-visible
returns-then-not-visible c =
    let g = c.args in
    let h = c.requires in
    let asked : c.visible.result ≡ drawable g.f (pos g.d.column) (pos g.d.row) =
    c.visible.ensures ∙ ap₂ (λ (x y : ℕ). inside_b (rect_of g.f) x y) c.spot.ensures.0 c.spot.ensures.1 ∙ sym (drawable-is g.f h.0 g.d.column g.d.row h.1 h.2) in
    sym (ap (λ (t : Bool). t && moved_by g.f.origin (shape_of g.brush.figure) (pos g.d.column) (pos g.d.row)) (sym asked ∙ c.if-not-visible.true))

pub returns : goal.returns
returns c =
    let g = c.args in
    let h = c.requires in
    let asked : c.visible.result ≡ drawable g.f (pos g.d.column) (pos g.d.row) =
    c.visible.ensures ∙ ap₂ (λ (x y : ℕ). inside_b (rect_of g.f) x y) c.spot.ensures.0 c.spot.ensures.1 ∙ sym (drawable-is g.f h.0 g.d.column g.d.row h.1 h.2) in
    c.on_shape.ensures
    ∙ sym (ap (λ (t : Bool). t && moved_by g.f.origin (shape_of g.brush.figure) (pos g.d.column) (pos g.d.row)) (sym asked ∙ c.if-not-visible.false))
