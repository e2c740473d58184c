-- `terminal::cell::put_direct` meets its contract.
use Rattle.std.proofs.Common.{arith}
use Rattle.text.proofs.Joining.{and_then}
use Rattle.terminal.proofs.Putting.{byte-put, room-left, three-digits}
use Rattle.terminal.proofs.cell.put_direct.Goals as goal

pub put_number-b-requires : goal.put_number-b-requires
put_number-b-requires c =
    let k = c.args.colour in
    room-left (and_then (byte-put 50) c.put_number-a.ensures) 5 4 (omega (arith, three-digits k.red (omega arith))) (omega arith)

pub put_number-requires : goal.put_number-requires
put_number-requires c =
    let k = c.args.colour in
    room-left c.put_number-b.ensures 4 4 (omega (arith, three-digits k.green (omega arith)))
    (room-left (and_then (byte-put 50) c.put_number-a.ensures) 5 8 (omega (arith, three-digits k.red (omega arith))) (omega arith))

pub returns : goal.returns
returns c = and_then (and_then (byte-put 50) c.put_number-a.ensures) (and_then c.put_number-b.ensures c.put_number.ensures)
