-- `repeat`: the count is judged first, and then how many repeats are open.
use Rattle.std.proofs.Common.{rules, refl}
use Rattle.lent.specs.Lent.{look}
use Rattle.lent.proofs.Acting.{told, passed-on, taken-is}
use Rattle.act.proofs.RepeatLaws.{uncountable, some, open-24, open-28, opens}
use Rattle.act.proofs.repeats.repeat.Goals as goal

pub returns-in_err-f : goal.returns-in_err-f
returns-in_err-f c n b vs = passed-on _ _ c.in_err-f.was c.from_residual.result c.from_residual.ensures

pub returns-then-passes-eq0 : goal.returns-then-passes-eq0
returns-then-passes-eq0 c n b vs =
    let g = c.args in
    taken-is _ _ c.in_ok-f.was
    (told (look b g.registers.now vs g.stack.now) refl c.refused.ensures (open-24 b g.registers.now vs g.stack.now c.in_ok-f.f.next c.in_ok-f.f.operands n (uncountable _ c.then-passes-eq0.either)))

pub returns-then-open-ge8 : goal.returns-then-open-ge8
returns-then-open-ge8 c n b vs =
    let g = c.args in
    taken-is _ _ c.in_ok-f.was
    (told (look b g.registers.now vs g.stack.now) refl c.refused-then-open-ge8.ensures
    (open-28 b g.registers.now vs g.stack.now c.in_ok-f.f.next c.in_ok-f.f.operands n (some _ c.if-passes-eq0.false c.if-passes-gt1000.false) c.if-open-ge8.true))

pub returns : goal.returns
returns c n b vs =
    let g = c.args in
    taken-is _ _ c.in_ok-f.was
    (opens b g.registers.now vs g.stack.now c.in_ok-f.f.next c.in_ok-f.f.operands n (some _ c.if-passes-eq0.false c.if-passes-gt1000.false) (search rules) c.if-open-ge8.false)
