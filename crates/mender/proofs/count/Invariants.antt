-- `count`: what is counted, with what will differ from here on, is what differs.
use Rattle.mender.proofs.Counting.{Counting}
use Rattle.mender.proofs.count.Given as goal

abbrev pub invariant-loop-i : goal.invariant-loop-i
invariant-loop-i l = Counting l.list l.left l.n l.i
