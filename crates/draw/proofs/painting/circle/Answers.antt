-- `circle`: a type other than 0 is 24, a centre or a radius outside 25.
use Rattle.std.proofs.Common.{refl, sym, ap, ◌∙◌}
use Rattle.brush.specs.Brush.{shape_of}
use Rattle.circles.specs.Circle.{circle}
use Rattle.lent.proofs.Acting.{halts, lacking, drawn, passed-on, taken-is}
use Rattle.draw.proofs.PointLaws.{round-near, told-outside, told_at}
use Rattle.draw.proofs.painting.circle.Goals as goal

pub returns-in_err-f : goal.returns-in_err-f
returns-in_err-f c b vs st = passed-on _ _ c.in_err-f.was c.from_residual.result c.from_residual.ensures

pub returns-then-other_type : goal.returns-then-other_type
returns-then-other_type c b vs st = taken-is _ _ c.in_ok-f.was (halts _ _ _ refl c.refused.ensures (rw (sym c.other_type.ensures ∙ c.if-other_type.true) refl))

pub returns-in_err-k : goal.returns-in_err-k
returns-in_err-k c b vs st =
    let none = c.in_err-k.ensures in
    taken-is _ _ c.in_ok-f.was
    (halts _ _ _ (lacking c.from_residual-in_err-k.ensures none.value none.ok_part) c.refused-2.ensures
    (rw (sym c.other_type.ensures ∙ c.if-other_type.false, told-outside _ _ c.circle_of.ensures none.ok_part) refl))

pub invariant_of-result : goal.invariant_of-result
invariant_of-result c = record { near = c.round.ensures.near ∙ round-near _ _ (told_at _ _ c.circle_of.ensures c.in_ok-k.ensures.ok_part) }

pub returns : goal.returns
returns c b vs st =
    let k = told_at _ _ c.circle_of.ensures c.in_ok-k.ensures.ok_part in
    taken-is _ _ c.in_ok-f.was
    (drawn _ _ _ (rw (sym c.other_type.ensures ∙ c.if-other_type.false, k.0) refl) refl (shape_of c.round.result) _ refl
    (c.round.ensures.shape ∙ ap (circle c.args.filled) k.1) refl)
