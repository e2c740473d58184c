-- `terminal::line::put_line` meets its contract: character by character.
use Rattle.terminal.proofs.Lining.{Lining}
use Rattle.terminal.proofs.line.put_line.Given as goal

abbrev pub invariant-loop-i : goal.invariant-loop-i
invariant-loop-i l = Lining l.depth l.shown.screen.now l.shown.view l.j l.initial.room l.room l.at l.i
