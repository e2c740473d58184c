-- `remainder`: refused where the divisor is zero, else the remainder is put.
use Rattle.std.proofs.Common.{refl, sym, ap, ◌∙◌}
use Rattle.numbers.specs.Number.{remainder32}
use Rattle.numbers.proofs.Division.{told-gives}
use Rattle.rules.specs.Op as Op
use Rattle.rules.specs.Opcodes.{gives, old, rule}
use Rattle.lent.specs.Lent.{look}
use Rattle.lent.specs.Shown.{does}
use Rattle.lent.proofs.Acting.{told, lacking, past, passed-on, taken-is}
use Rattle.act.proofs.ValueLaws.{by_zero}
use Rattle.act.proofs.values.remainder.Goals as goal

pub returns-in_err-f : goal.returns-in_err-f
returns-in_err-f c n b st = passed-on _ _ c.in_err-f.was c.from_residual.result c.from_residual.ensures

pub returns-in_err-ok_or : goal.returns-in_err-ok_or
returns-in_err-ok_or c n b st =
    let g = c.args in
    let none = c.in_err-ok_or.ensures in
    taken-is _ _ c.in_ok-f.was
    (told (look b g.registers.now g.variables.now st) (lacking c.from_residual-in_err-ok_or.ensures none.value none.ok_part) c.refused.ensures
    (by_zero c.in_ok-f.f.operands n c.in_ok-f.f.next (look b g.registers.now g.variables.now st) _ c.remainder-remainder.ensures none.ok_part).1)

pub returns : goal.returns
unfolding does
returns c n b st =
    let g = c.args in
    let o = c.in_ok-f.f.operands in
    let e = look b g.registers.now g.variables.now st in
    let got = told-gives o.a _ _ (sym c.remainder-remainder.ensures ∙ c.in_ok-ok_or.ensures.ok_part) in
    taken-is _ _ c.in_ok-f.was
    (past (rule Op.Remainder o n) c.in_ok-f.f.next e (λ e. gives (remainder32 (old o e) o.a) o e) (rw got.0 refl) refl
    (c.put.ensures b st ∙ ap (λ v. does (gives v o) c.in_ok-f.f.next e) (got.1 ∙ ap (λ x. remainder32 x o.a) c.old.ensures)))
