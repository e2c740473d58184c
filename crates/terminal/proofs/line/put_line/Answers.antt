-- `terminal::line::put_line` meets its contract: character by character.
use Rattle.std.proofs.Common.{arith}
use Rattle.terminal.proofs.Lining.{no_cell, one_cell, all-cells}
use Rattle.terminal.proofs.Painting.{Bytes}
use Rattle.terminal.proofs.line.put_line.Goals as goal

pub loop-i-init : goal.loop-i-init
loop-i-init c = no_cell

pub loop-i-preserved : goal.loop-i-preserved
loop-i-preserved c =
    let upper : Bytes c.dot-upper.result = record { red = omega arith; green = omega arith; blue = omega arith } in
    let lower : Bytes c.dot-lower.result = record { red = omega arith; green = omega arith; blue = omega arith } in
    one_cell c.loop-i.invariant c.loop-i-test.true c.dot-upper.ensures c.dot-lower.ensures upper lower c.put_cell-at.ensures

pub returns-clause-puts : goal.returns-clause-puts
returns-clause-puts c = all-cells c.loop-i.invariant c.loop-i-test.false c.put_line_end.ensures
