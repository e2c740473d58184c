-- `dot_at`: a point outside is 25, else it is held.
use Rattle.std.proofs.Common.{refl, ap}
use Rattle.raster.specs.Shapes.{dot}
use Rattle.lent.proofs.Acting.{halts, lacking, drawn}
use Rattle.draw.proofs.PointLaws.{near, told-outside, told_at}
use Rattle.draw.proofs.painting.dot_at.Goals as goal

pub returns-in_err-p : goal.returns-in_err-p
returns-in_err-p c b vs st =
    let none = c.in_err-p.ensures in
    halts _ _ _ (lacking c.from_residual.ensures none.value none.ok_part) c.refused.ensures (rw (told-outside _ _ c.point_of.ensures none.ok_part) refl)

pub invariant_of-result : goal.invariant_of-result
invariant_of-result c = record { near = near (told_at _ _ c.point_of.ensures c.in_ok-p.ensures.ok_part) }

pub returns : goal.returns
returns c b vs st =
    let p = told_at _ _ c.point_of.ensures c.in_ok-p.ensures.ok_part in
    drawn _ _ _ (rw p.0 refl) refl (dot c.in_ok-p.p) _ refl (ap dot p.1) refl
