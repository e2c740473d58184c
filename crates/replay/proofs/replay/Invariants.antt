-- `replay`: at the rest of the record, behind k blocks, what is found from here is what is found.
use Rattle.std.proofs.Common.{length}
use Rattle.rules.specs.Environment.{held}
use Rattle.replay.proofs.Going.{Going}
use Rattle.replay.proofs.replay.Given as goal

abbrev pub invariant-loop-block : goal.invariant-loop-block
invariant-loop-block l = Going l.list l.lines (held l.initial.env) l.initial.screen (held l.env) l.screen l.rest l.k

abbrev pub decreases-loop-block : goal.decreases-loop-block
decreases-loop-block l = length l.rest
