-- `try_mend`: each way out is one law.
use native.Mathlib.Omega.{arith}
use Rattle.mender.proofs.Mending.{few-changes, three-a-change, too_long, no_room, all-mended}
use Rattle.mender.proofs.try_mend.Goals as goal

pub returns-then-list-gt65536 : goal.returns-then-list-gt65536
returns-then-list-gt65536 c = too_long _ _ c.if-list-gt65536.true

pub overflow_cast-changes : goal.overflow_cast-changes
overflow_cast-changes c = omega (arith, c.count-n.ensures, few-changes c.args.list.now, c.if-list-gt65536.false)

pub overflow_mul-n : goal.overflow_mul-n
overflow_mul-n c = omega (arith, c.count-n.ensures, few-changes c.args.list.now, c.if-list-gt65536.false)

pub returns-then-report-n : goal.returns-then-report-n
returns-then-report-n c =
    no_room _ _ c.if-list-gt65536.false (omega (arith, c.count-n.ensures, c.if-report-n.true)) c.count-n.ensures

pub write-requires-clause-list_in_bounds : goal.write-requires-clause-list_in_bounds
write-requires-clause-list_in_bounds c = omega (arith, c.count-n.ensures, three-a-change c.args.list.now, c.if-report-n.false)

pub returns : goal.returns
returns c =
    all-mended _ _ c.if-list-gt65536.false (omega (arith, c.count-n.ensures, c.if-report-n.false)) c.count-n.ensures c.write.ensures.0 c.write.ensures.1
