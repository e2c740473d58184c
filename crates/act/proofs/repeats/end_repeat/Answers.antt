-- `end_repeat`: none is open, or one pass is taken off the innermost.
use Rattle.std.proofs.Common.{rules, refl}
use Rattle.lent.specs.Lent.{look}
use Rattle.lent.proofs.Acting.{told, passed-on, taken-is}
use Rattle.act.proofs.RepeatLaws.{pass-29, closes, goes_back}
use Rattle.act.proofs.repeats.end_repeat.Goals as goal

pub returns-in_err-f : goal.returns-in_err-f
returns-in_err-f c n b vs = passed-on _ _ c.in_err-f.was c.from_residual.result c.from_residual.ensures

pub returns-then-open-eq0 : goal.returns-then-open-eq0
returns-then-open-eq0 c n b vs =
    let g = c.args in
    taken-is _ _ c.in_ok-f.was
    (told (look b g.registers.now vs g.stack.now) refl c.refused.ensures (pass-29 b g.registers.now vs g.stack.now c.in_ok-f.f.next c.in_ok-f.f.operands n c.if-open-eq0.true))

pub returns-then-left-le1 : goal.returns-then-left-le1
returns-then-left-le1 c n b vs =
    let g = c.args in
    taken-is _ _ c.in_ok-f.was (closes b g.registers.now vs g.stack.now c.in_ok-f.f.next c.in_ok-f.f.operands n c.if-open-eq0.false c.if-left-le1.true)

pub returns-else-left-le1 : goal.returns-else-left-le1
returns-else-left-le1 c n b vs =
    let g = c.args in
    taken-is _ _ c.in_ok-f.was
    (goes_back b g.registers.now vs g.stack.now c.in_ok-f.f.next c.in_ok-f.f.operands n c.if-open-eq0.false (search rules) c.requires.nested c.if-left-le1.false)
