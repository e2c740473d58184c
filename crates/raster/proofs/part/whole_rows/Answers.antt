-- `raster::part::whole_rows` meets its contract: rows as wide as the screen are bytes side by side.
use Rattle.std.proofs.Common.{◌∙◌, arith, rules}
use Rattle.raster.proofs.Parts.{no-pixel, filled, rows-as-bytes}
use Rattle.raster.proofs.part.whole_rows.Goals as goal

pub returns-then-r : goal.returns-then-r
returns-then-r c =
    let g = c.args in
    let h = c.requires.w_nonzero in
    filled _ _ g.c g.screen.now _ (search rules) (search rules) c.set_bytes.ensures
    ∙ rows-as-bytes g.w g.r g.screen.now c.requires.room h.0 h.1 h.2 g.c

pub returns-else-r : goal.returns-else-r
returns-else-r c =
    let g = c.args in
    no-pixel g.w g.r g.c g.screen.now (λ p. omega (arith, p, c.if-r.false))
