-- `load`: the operand is put.
use Rattle.lent.proofs.Acting.{passed-on, taken-is}
use Rattle.act.proofs.values.load.Goals as goal

pub returns-in_err-f : goal.returns-in_err-f
returns-in_err-f c n b st = passed-on _ _ c.in_err-f.was c.from_residual.result c.from_residual.ensures

pub returns : goal.returns
returns c n b st = taken-is _ _ c.in_ok-f.was (c.put.ensures b st)
