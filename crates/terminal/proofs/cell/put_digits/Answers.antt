-- `terminal::cell::put_digits` meets its contract.
use Rattle.std.proofs.Common.{arith}
use Rattle.text.proofs.Decimals.{put_one}
use Rattle.terminal.proofs.Putting.{two-put, three-put}
use Rattle.terminal.proofs.cell.put_digits.Goals as goal

pub returns-then-n-lt10 : goal.returns-then-n-lt10
returns-then-n-lt10 c = put_one c.args.n c.if-n-lt10.true

pub returns-then-n-lt100 : goal.returns-then-n-lt100
returns-then-n-lt100 c = two-put c.args.n c.if-n-lt10.false c.if-n-lt100.true

pub returns : goal.returns
returns c = three-put c.args.n c.if-n-lt100.false (omega arith)
