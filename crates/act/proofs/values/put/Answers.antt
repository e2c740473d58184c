-- `put`: Vd has the value.
use Rattle.std.proofs.Common.{refl}
use Rattle.lent.proofs.Acting.{quiet}
use Rattle.act.proofs.values.put.Goals as goal

pub returns : goal.returns
returns c b st = quiet _ _ _ refl refl refl refl
