-- `line_to`: a type above 1 is 24, a point outside 25.
use Rattle.std.proofs.Common.{refl, sym, ◌∙◌}
use Rattle.rules.specs.Op as Op
use Rattle.rules.specs.Environment.{Env, moved}
use Rattle.rules.specs.Opcodes.{paints, typed, rule}
use Rattle.lent.specs.Lent.{look}
use Rattle.lent.proofs.Acting.{halts, lacking, past, passed-on, taken-is}
use Rattle.draw.proofs.PointLaws.{near, told-outside, told_at}
use Rattle.draw.proofs.painting.line_to.Goals as goal

pub returns-in_err-f : goal.returns-in_err-f
returns-in_err-f c n b vs st = passed-on _ _ c.in_err-f.was c.from_residual.result c.from_residual.ensures

pub returns-then-other_type : goal.returns-then-other_type
returns-then-other_type c n b vs st = taken-is _ _ c.in_ok-f.was (halts _ _ _ refl c.refused.ensures (rw (sym c.other_type.ensures ∙ c.if-other_type.true) refl))

pub returns-in_err-q : goal.returns-in_err-q
returns-in_err-q c n b vs st =
    let none = c.in_err-q.ensures in
    taken-is _ _ c.in_ok-f.was
    (halts _ _ _ (lacking c.from_residual-in_err-q.ensures none.value none.ok_part) c.refused-2.ensures
    (rw (sym c.other_type.ensures ∙ c.if-other_type.false, told-outside _ _ c.point_of.ensures none.ok_part) refl))

pub draw_to-requires : goal.draw_to-requires
draw_to-requires c = (c.requires, near (told_at _ _ c.point_of.ensures c.in_ok-q.ensures.ok_part))

pub returns : goal.returns
returns c n b vs st =
    let g = c.args in
    let o = c.in_ok-f.f.operands in
    let q = told_at _ _ c.point_of.ensures c.in_ok-q.ensures.ok_part in
    taken-is _ _ c.in_ok-f.was
    (past (rule Op.LineTo o n) c.in_ok-f.f.next (look b g.registers.now vs st)
    (λ (e : Env). paints (typed o.a e.pen.pattern (record { from = e.pen.position; to = c.in_ok-q.q })) e.pen.colour (moved c.in_ok-q.q e))
    (rw (sym c.other_type.ensures ∙ c.if-other_type.false, q.0) refl) (rw q.1 refl) (c.draw_to.ensures b vs st))
