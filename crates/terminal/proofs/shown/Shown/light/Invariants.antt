-- `terminal::shown::Shown::light` meets its contract: row by row.
use Rattle.terminal.proofs.Summing.{Summed}
use Rattle.terminal.proofs.shown.Shown.light.Given as goal

abbrev pub invariant-loop-n : goal.invariant-loop-n
invariant-loop-n l = Summed l.self.screen.now l.self.view.width l.across l.down.from l.light l.n
