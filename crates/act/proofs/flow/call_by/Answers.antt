-- `call_by`: the target is given by its offset.
use Rattle.std.proofs.Common.{ap, ◌∙◌}
use Rattle.rules.specs.Opcodes.{calls}
use Rattle.lent.specs.Lent.{look}
use Rattle.lent.specs.Shown.{does}
use Rattle.lent.proofs.Acting.{passed-on, taken-is}
use Rattle.act.proofs.flow.call_by.Goals as goal

pub returns-in_err-f : goal.returns-in_err-f
returns-in_err-f c b vs = passed-on _ _ c.in_err-f.was c.from_residual.result c.from_residual.ensures

pub returns : goal.returns
unfolding does
returns c b vs =
    let g = c.args in
    taken-is _ _ c.in_ok-f.was
    (c.call_to.ensures b vs ∙ ap (λ t. does (calls t) c.in_ok-f.f.next (look b g.registers.now vs g.stack.now)) c.word_from-target.ensures)
