-- `raster::part::row_part` meets its contract: columns of one row are bytes side by side.
use Rattle.std.proofs.Common.{◌∙◌, arith, rules}
use Rattle.raster.specs.Parts.{row_part}
use Rattle.raster.proofs.Parts.{no-pixel, filled, as_bytes}
use Rattle.raster.proofs.part.row_part.Goals as goal

pub returns-then-x0-x1 : goal.returns-then-x0-x1
returns-then-x0-x1 c =
    let g = c.args in
    filled _ _ g.c g.screen.now _ (search rules) (search rules) c.set_bytes.ensures
    ∙ as_bytes g.w g.y g.x0 g.x1 g.screen.now c.requires c.if-x0-x1.true g.c

pub returns-else-x0-x1 : goal.returns-else-x0-x1
returns-else-x0-x1 c =
    let g = c.args in
    no-pixel g.w (row_part g.y g.x0 g.x1) g.c g.screen.now (λ p. omega (arith, p, c.if-x0-x1.false))
