-- `terminal::cell::put_number` meets its contract.
use Rattle.text.proofs.Joining.{and_then}
use Rattle.terminal.proofs.Putting.{byte-put}
use Rattle.terminal.proofs.cell.put_number.Goals as goal

pub returns : goal.returns
returns c = and_then (byte-put 59) c.put_digits.ensures
