-- `lines::walk::walk` meets its contract: its loop keeps what a walk keeps.
use Rattle.std.proofs.Common.{◌-◌}
use Rattle.lines.proofs.Going.{Going}
use Rattle.lines.proofs.walk.walk.Given as goal

abbrev pub invariant-loop-k : goal.invariant-loop-k
invariant-loop-k g l = Going l.w (g.P.Pattern.bits l.pattern) l.l.course l.fn.s.from (l.fn.s.past - 1) l.c l.initial.screen l.screen l.k l.place.at l.place.e
