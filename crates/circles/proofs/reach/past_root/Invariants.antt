-- `circles::reach::past_root` meets its contract: e is never past the first number whose square is above n.
use Rattle.std.proofs.Common.{◌-◌, ◌*◌, ◌≤◌}
use Rattle.circles.proofs.reach.past_root.Given as goal

abbrev pub invariant-loop-e : goal.invariant-loop-e
invariant-loop-e l = (l.e - 1) * (l.e - 1) ≤ l.n
