-- `repeats_fit`: as many repeats are open as the count says.
use Rattle.std.proofs.Common.{rules, ◌≡◌, ◌≤◌, true, length, take}
use Rattle.std.specs.Prelude.{All, ◌↔◌}
use borrow.Author.Tests.{le-leb, lt-leb}
use Rattle.rules.specs.Environment.{over}
use Rattle.rules.specs.Door.{repeat_fits}
use Rattle.rules.proofs.StackLaws.{length-firsts}
use Rattle.run.proofs.Doors.{Passes, first-pass}
use Rattle.run.proofs.door.repeats_fit.Goals as goal

pub returns-then-stack-le8 : goal.returns-then-stack-le8
returns-then-stack-le8 c =
    let n = c.args.stack.now.nesting in
    let repeats = c.args.stack.now.repeats in
    let few : n ≤ length repeats = search rules in
    let is : ((c.all.result ≡ true) ↔ All (Passes repeat_fits) (take n repeats)) = search rules in
    rw (length-firsts over n repeats, le-leb _ _ c.if-stack-le8.true) (first-pass repeat_fits over n repeats c.all.result few is)

pub returns-else-stack-le8 : goal.returns-else-stack-le8
returns-else-stack-le8 c = rw (length-firsts over c.args.stack.now.nesting c.args.stack.now.repeats, lt-leb _ _ c.if-stack-le8.false)
