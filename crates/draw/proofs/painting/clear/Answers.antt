-- `clear`: every point, in the colour's low 8 bits.
use Rattle.std.proofs.Common.{refl}
use Rattle.raster.specs.Shapes.{all}
use Rattle.lent.proofs.Acting.{drawn, passed-on, taken-is}
use Rattle.draw.proofs.painting.clear.Goals as goal

pub returns-in_err-f : goal.returns-in_err-f
returns-in_err-f c n b vs st = passed-on _ _ c.in_err-f.was c.from_residual.result c.from_residual.ensures

pub returns : goal.returns
returns c n b vs st = taken-is _ _ c.in_ok-f.was (drawn _ _ _ refl refl all _ refl refl c.low8.ensures)
