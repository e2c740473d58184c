-- `call_to`: the target is asked for first, and then the depth.
use Rattle.std.proofs.Common.{rules, refl}
use Rattle.lent.specs.Lent.{look}
use Rattle.lent.proofs.Acting.{told, lacking}
use Rattle.act.proofs.CallLaws.{call-27, call-28, call_at}
use Rattle.act.proofs.flow.call_to.Goals as goal

pub returns-in_err-target : goal.returns-in_err-target
returns-in_err-target c b vs =
    let g = c.args in
    let none = c.in_err-target.ensures in
    told (look b g.registers.now vs g.stack.now) (lacking c.from_residual.ensures none.value none.ok_part) c.refused.ensures (call-27 b g.registers.now vs g.stack.now g.next g.target none.ok_part)

pub returns-then-depth-ge16 : goal.returns-then-depth-ge16
returns-then-depth-ge16 c b vs =
    let g = c.args in
    told (look b g.registers.now vs g.stack.now) refl c.refused-then-depth-ge16.ensures
    (call-28 b g.registers.now vs g.stack.now g.next g.target c.in_ok-target.ensures.ok_part c.if-depth-ge16.true)

pub returns : goal.returns
returns c b vs =
    let g = c.args in
    call_at b g.registers.now vs g.stack.now g.next g.target c.in_ok-target.ensures.ok_part (search rules) c.if-depth-ge16.false
