-- `steps_of`: each way out is one law.
use mathlib.Core.Path.{ap, ◌∙◌}
use Rattle.std.proofs.lemmas.Result.{err_from_is_err_and}
use Rattle.checker.specs.Checked.{refusal}
use Rattle.checker.proofs.Lists.{too_long, tells, stray, enough, too_many}
use Rattle.checker.proofs.steps_of.Goals as goal

pub returns-then-list-gt65536 : goal.returns-then-list-gt65536
returns-then-list-gt65536 c = rw (c.carrying_0.ensures, c.number.ensures) (too_long _ c.if-list-gt65536.true)

pub returns-in_err-whole : goal.returns-in_err-whole
returns-in_err-whole c =
    let p = err_from_is_err_and c.from_residual.result c.from_residual.ensures.1 in
    rw (p.1, p.2) (tells _ c.if-list-gt65536.false c.in_err-whole.ensures)

pub returns-in-Erpt : goal.returns-in-Erpt
returns-in-Erpt c = rw c.refused.ensures (stray _ c.if-list-gt65536.false c.in_ok-whole.ensures c.in-Erpt.is)

pub returns-then-whole-lt1000000 : goal.returns-then-whole-lt1000000
returns-then-whole-lt1000000 c =
    enough _ c.if-list-gt65536.false c.in_ok-whole.ensures c.in-Eodl.is c.if-whole-lt1000000.true

pub returns-else-whole-lt1000000 : goal.returns-else-whole-lt1000000
returns-else-whole-lt1000000 c =
    ap refusal c.carrying_0-else-whole-lt1000000.ensures
    ∙ too_many _ c.if-list-gt65536.false c.in_ok-whole.ensures c.in-Eodl.is c.if-whole-lt1000000.false
