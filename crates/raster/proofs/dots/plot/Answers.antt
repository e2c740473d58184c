-- `raster::dots::plot` meets its contract: a dot that is visible is one store, any other none.
use Rattle.std.proofs.Common.{T, sym, ◌∙◌, subst}
use Rattle.raster.specs.Shapes.{dot}
use Rattle.raster.specs.Biased.{dot_of, dot_b}
use Rattle.raster.specs.Rects.{inside_b, rect_of}
use Rattle.raster.proofs.Rectangles.{room}
use Rattle.raster.proofs.Pixels.{seen, stored-inside, skipped}
use Rattle.raster.proofs.Drawings.{painted, dot-is}
use Rattle.raster.proofs.dots.plot.Goals as goal

pub store-requires : goal.store-requires
store-requires c =
    let g = c.args in
    let within : T (inside_b (rect_of g.f) g.p.x g.p.y) = subst T (sym (sym c.visible.ensures ∙ c.if-visible.true)) tt in
    seen g.f.bounds.width (rect_of g.f) g.p g.screen.now (room g.f g.screen.now c.requires) within

-- the dot's pixel is the shape's
pub returns-then-visible : goal.returns-then-visible
returns-then-visible c =
    let g = c.args in
    let within : T (inside_b (rect_of g.f) g.p.x g.p.y) = subst T (sym (sym c.visible.ensures ∙ c.if-visible.true)) tt in
    c.store.ensures
    ∙ stored-inside g.f.bounds.width (rect_of g.f) g.p g.c g.screen.now (room g.f g.screen.now c.requires) within
    ∙ painted g.f g.screen.now c.requires (dot (dot_of g.p)) (dot_b g.p) g.c (dot-is g.p)

pub returns-else-visible : goal.returns-else-visible
returns-else-visible c =
    let g = c.args in
    skipped g.f.bounds.width (rect_of g.f) g.p g.c g.screen.now
    (λ t. subst T (sym c.visible.ensures ∙ c.if-visible.false) t)
    ∙ painted g.f g.screen.now c.requires (dot (dot_of g.p)) (dot_b g.p) g.c (dot-is g.p)
