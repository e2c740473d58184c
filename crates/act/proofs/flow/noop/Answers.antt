-- `noop`: the list goes on.
use Rattle.std.proofs.Common.{refl}
use Rattle.lent.proofs.Acting.{quiet, passed-on, taken-is}
use Rattle.act.proofs.flow.noop.Goals as goal

pub returns-in_err-registers : goal.returns-in_err-registers
returns-in_err-registers c n b vs st = passed-on _ _ c.in_err-registers.was c.from_residual.result c.from_residual.ensures

pub returns : goal.returns
returns c n b vs st = taken-is _ _ c.in_ok-registers.was (quiet _ _ _ refl refl refl refl)
