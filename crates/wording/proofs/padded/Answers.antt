-- `wording::padded` meets its contract: the bytes passed stand there, and zeros behind them.
use Rattle.wording.proofs.Padding.{copied}
use Rattle.wording.proofs.padded.Goals as goal

pub returns : goal.returns
returns c = copied _ c.copy_from_slice.ensures.after
