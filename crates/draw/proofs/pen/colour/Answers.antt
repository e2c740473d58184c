-- `colour`: one register is set.
use Rattle.std.proofs.Common.{refl}
use Rattle.lent.proofs.Acting.{quiet, passed-on, taken-is}
use Rattle.draw.proofs.pen.colour.Goals as goal

pub returns-in_err-f : goal.returns-in_err-f
returns-in_err-f c n b vs st = passed-on _ _ c.in_err-f.was c.from_residual.result c.from_residual.ensures

pub returns : goal.returns
returns c n b vs st = taken-is _ _ c.in_ok-f.was (quiet _ _ _ refl (rw c.low8-registers.ensures refl) refl refl)
