-- `terminal::cell::put_cell` meets its contract.
use Rattle.std.proofs.Common.{arith}
use Rattle.terminal.specs.Cells.{cell}
use Rattle.terminal.proofs.Painting.{Bytes, thirteen-bytes}
use Rattle.text.proofs.Joining.{and_then}
use Rattle.terminal.proofs.Putting.{room-left}
use Rattle.terminal.proofs.cell.put_cell.Goals as goal

pub put_colour-b-requires : goal.put_colour-b-requires
put_colour-b-requires c =
    let k = c.args in
    let upper : Bytes k.upper = record { red = omega arith; green = omega arith; blue = omega arith } in
    room-left c.put_colour-a.ensures 18 17 (omega (arith, thirteen-bytes k.depth k.upper upper)) (omega arith)

pub put_whole-requires : goal.put_whole-requires
put_whole-requires c =
    let k = c.args in
    let upper : Bytes k.upper = record { red = omega arith; green = omega arith; blue = omega arith } in
    let lower : Bytes k.lower = record { red = omega arith; green = omega arith; blue = omega arith } in
    room-left c.put_colour-b.ensures 17 4 (omega (arith, thirteen-bytes k.depth k.lower lower))
    (room-left c.put_colour-a.ensures 18 21 (omega (arith, thirteen-bytes k.depth k.upper upper)) (omega arith))

pub returns : goal.returns
unfolding cell
returns c = and_then c.put_colour-a.ensures (and_then c.put_colour-b.ensures c.put_whole.ensures)
