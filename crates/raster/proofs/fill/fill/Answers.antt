-- `raster::fill::fill` meets its contract: the rectangle is that of the drawable pixels.
use Rattle.std.proofs.Common.{ap, ◌∙◌}
use Rattle.raster.specs.declared.rect.Rect.{Rect}
use Rattle.raster.specs.Rects.{pixels, in_rect}
use Rattle.raster.proofs.Drawings.{all-painted}
use Rattle.raster.proofs.fill.fill.Goals as goal

pub returns : goal.returns
returns c =
    let g = c.args in
    c.fill_rect.ensures
    ∙ ap (λ (q : Rect). pixels g.f.bounds.width (in_rect q) g.c g.screen.now) c.rect_of.ensures
    ∙ all-painted g.f g.screen.now c.requires g.c
