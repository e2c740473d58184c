-- `come_back`: none is stacked, or the last one is taken.
use Rattle.std.proofs.Common.{refl}
use Rattle.lent.specs.Lent.{look}
use Rattle.lent.proofs.Acting.{told, passed-on, taken-is}
use Rattle.act.proofs.CallLaws.{back-29, back_at}
use Rattle.act.proofs.flow.come_back.Goals as goal

pub returns-in_err-f : goal.returns-in_err-f
returns-in_err-f c n b vs = passed-on _ _ c.in_err-f.was c.from_residual.result c.from_residual.ensures

pub returns-then-depth-eq0 : goal.returns-then-depth-eq0
returns-then-depth-eq0 c n b vs =
    let g = c.args in
    taken-is _ _ c.in_ok-f.was
    (told (look b g.registers.now vs g.stack.now) refl c.refused.ensures (back-29 b g.registers.now vs g.stack.now c.in_ok-f.f.next c.in_ok-f.f.operands n c.if-depth-eq0.true))

pub returns : goal.returns
returns c n b vs =
    let g = c.args in
    taken-is _ _ c.in_ok-f.was (back_at b g.registers.now vs g.stack.now c.in_ok-f.f.next c.in_ok-f.f.operands n c.if-depth-eq0.false)
