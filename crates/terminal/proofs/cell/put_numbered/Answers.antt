-- `terminal::cell::put_numbered` meets its contract.
use Rattle.text.proofs.Joining.{and_then}
use Rattle.terminal.proofs.Putting.{byte-put}
use Rattle.terminal.proofs.cell.put_numbered.Goals as goal

pub returns : goal.returns
returns c = and_then (byte-put 53) (rw c.cube.ensures at c.put_number.ensures)
