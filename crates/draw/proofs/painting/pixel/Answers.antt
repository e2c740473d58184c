-- `pixel`: a dot in the foreground colour.
use Rattle.lent.proofs.Acting.{passed-on, taken-is}
use Rattle.draw.proofs.painting.pixel.Goals as goal
use Rattle.lent.specs.Shown.{does}

pub returns-in_err-f : goal.returns-in_err-f
returns-in_err-f c n b vs st = passed-on _ _ c.in_err-f.was c.from_residual.result c.from_residual.ensures

pub returns : goal.returns
unfolding does
returns c n b vs st = taken-is _ _ c.in_ok-f.was (c.dot_at.ensures b vs st)
