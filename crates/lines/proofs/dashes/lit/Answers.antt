-- `lines::dashes::lit` meets its contract: a shift is a division by a power of two.
use Rattle.std.proofs.Common.{refl}
use Rattle.lines.specs.Dashes.{bit}
use Rattle.lines.proofs.dashes.lit.Goals as goal

pub returns : goal.returns
unfolding bit
returns c = refl
