-- `stack_fits`: the stack of the environment is as long as the depth says.
use Rattle.std.proofs.Common.{rules, ◌≡◌, ◌≤◌, true, length, take}
use Rattle.std.specs.Prelude.{All, ◌↔◌}
use borrow.Author.Tests.{le-leb, lt-leb}
use Rattle.rules.specs.Environment.{start}
use Rattle.rules.specs.Door.{index_fits}
use Rattle.rules.proofs.StackLaws.{length-firsts}
use Rattle.run.proofs.Doors.{Passes, first-pass}
use Rattle.run.proofs.door.stack_fits.Goals as goal

pub returns-then-depth-le16 : goal.returns-then-depth-le16
returns-then-depth-le16 c =
    let depth = c.args.depth in
    let returns = c.args.stack.now.returns in
    let few : depth ≤ length returns = search rules in
    let is : ((c.all.result ≡ true) ↔ All (Passes index_fits) (take depth returns)) = search rules in
    rw (length-firsts start depth returns, le-leb _ _ c.if-depth-le16.true) (first-pass index_fits start depth returns c.all.result few is)

pub returns-else-depth-le16 : goal.returns-else-depth-le16
returns-else-depth-le16 c = rw (length-firsts start c.args.depth c.args.stack.now.returns, lt-leb _ _ c.if-depth-le16.false)
