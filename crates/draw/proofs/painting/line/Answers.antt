-- `line`: a type above 1 is 24, an end outside 25.
use Rattle.std.proofs.Common.{refl, sym, ap₂, ◌∙◌}
use Rattle.brush.specs.Brush.{shape_of}
use Rattle.brush.specs.Near.{near_dot}
use Rattle.raster.specs.declared.dots.Dot.{Dot}
use Rattle.rules.specs.Opcodes.{typed}
use Rattle.rules.proofs.Ranges.{both}
use Rattle.lent.proofs.Acting.{halts, lacking, drawn, passed-on, taken-is}
use Rattle.draw.proofs.PointLaws.{near, told-outside, told_at}
use Rattle.draw.proofs.painting.line.Goals as goal

pub returns-in_err-f : goal.returns-in_err-f
returns-in_err-f c n b vs st = passed-on _ _ c.in_err-f.was c.from_residual.result c.from_residual.ensures

pub returns-then-other_type : goal.returns-then-other_type
returns-then-other_type c n b vs st = taken-is _ _ c.in_ok-f.was (halts _ _ _ refl c.refused.ensures (rw (sym c.other_type.ensures ∙ c.if-other_type.true) refl))

pub returns-in_err-from : goal.returns-in_err-from
returns-in_err-from c n b vs st =
    let none = c.in_err-from.ensures in
    taken-is _ _ c.in_ok-f.was
    (halts _ _ _ (lacking c.from_residual-in_err-from.ensures none.value none.ok_part) c.refused-outside.ensures
    (rw (sym c.other_type.ensures ∙ c.if-other_type.false, told-outside _ _ c.point_of.ensures none.ok_part) refl))

pub returns-in_err-to : goal.returns-in_err-to
returns-in_err-to c n b vs st =
    let none = c.in_err-to.ensures in
    let p = told_at _ _ c.point_of.ensures c.in_ok-from.ensures.ok_part in
    taken-is _ _ c.in_ok-f.was
    (halts _ _ _ (lacking c.from_residual-in_err-to.ensures none.value none.ok_part) c.refused-outside.ensures
    (rw (sym c.other_type.ensures ∙ c.if-other_type.false, p.0, told-outside _ _ c.point_of-2.ensures none.ok_part) refl))

pub invariant_of-result : goal.invariant_of-result
invariant_of-result c =
    record {
      near =
          c.typed.ensures.near
          ∙ both (near_dot c.in_ok-from.from) (near_dot c.in_ok-to.to) (near (told_at _ _ c.point_of.ensures c.in_ok-from.ensures.ok_part))
          (near (told_at _ _ c.point_of-2.ensures c.in_ok-to.ensures.ok_part));
    }

pub returns : goal.returns
returns c n b vs st =
    let g = c.args in
    let p = told_at _ _ c.point_of.ensures c.in_ok-from.ensures.ok_part in
    let q = told_at _ _ c.point_of-2.ensures c.in_ok-to.ensures.ok_part in
    taken-is _ _ c.in_ok-f.was
    (drawn _ _ _ (rw (sym c.other_type.ensures ∙ c.if-other_type.false, p.0, q.0) refl) refl (shape_of c.typed.result) _ refl
    (c.typed.ensures.shape ∙ ap₂ (λ (x y : Dot). typed c.in_ok-f.f.operands.a g.registers.now.pattern (record { from = x; to = y })) p.1 q.1) refl)
