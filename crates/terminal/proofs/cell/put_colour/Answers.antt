-- `terminal::cell::put_colour` meets its contract.
use Rattle.text.proofs.Joining.{and_then}
use Rattle.terminal.proofs.cell.put_colour.Goals as goal

pub returns : goal.returns
returns c = and_then c.put_whole-behind.ensures c.put_paint.ensures
