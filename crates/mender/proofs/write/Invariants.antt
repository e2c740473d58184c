-- `write`: list and report, with what is still to be stored in them, are what they will be.
use mathlib.Core.Path.{◌≡◌}
use Rattle.mender.proofs.Writing.{Writing}
use Rattle.mender.proofs.write.Given as goal

abbrev pub invariant-loop-i : goal.invariant-loop-i
invariant-loop-i l =
    (l.written.report.ghost_name ≡ l.initial.written.report.ghost_name)
    × Writing l.initial.list l.initial.written.report.now l.list l.written.report.now l.left l.written.to l.i
