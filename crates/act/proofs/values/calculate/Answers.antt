-- `calculate`: what is put is what the calculation makes.
use Rattle.std.proofs.Common.{ap, ◌∙◌}
use Rattle.rules.specs.Opcodes.{gives}
use Rattle.lent.specs.Lent.{look}
use Rattle.lent.specs.Shown.{does}
use Rattle.act.proofs.values.calculate.Goals as goal

pub returns : goal.returns
unfolding does
returns g c G makes b st =
    let a = c.args in
    let o = a.f.operands in
    c.put.ensures b st
    ∙ ap (λ v. does (gives v o) a.f.next (look b a.registers.now a.variables.now st)) (makes _ _ c.calculation.ensures ∙ ap (λ x. G x o.a) c.old.ensures)
