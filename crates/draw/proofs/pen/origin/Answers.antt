-- `origin`: a coordinate or an offset outside is 25.
use Rattle.std.proofs.Common.{refl}
use Rattle.lent.proofs.Acting.{halts, lacking, quiet, passed-on, taken-is}
use Rattle.draw.proofs.PointLaws.{told-outside, told_at}
use Rattle.draw.proofs.pen.origin.Goals as goal

pub returns-in_err-f : goal.returns-in_err-f
returns-in_err-f c n b vs st = passed-on _ _ c.in_err-f.was c.from_residual.result c.from_residual.ensures

pub returns-in_err-registers : goal.returns-in_err-registers
returns-in_err-registers c n b vs st =
    let none = c.in_err-registers.ensures in
    let out = told-outside _ _ c.point_of.ensures none.ok_part in
    taken-is _ _ c.in_ok-f.was (halts _ _ _ (lacking c.from_residual-in_err-registers.ensures none.value none.ok_part) c.refused-outside.ensures (rw out refl))

pub returns : goal.returns
returns c n b vs st =
    let p = told_at _ _ c.point_of.ensures c.in_ok-registers.ensures.ok_part in
    taken-is _ _ c.in_ok-f.was (quiet _ _ _ (rw p.0 refl) (rw p.1 refl) refl refl)
