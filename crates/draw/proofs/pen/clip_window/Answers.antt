-- `clip_window`: a corner outside is 25.
use Rattle.std.proofs.Common.{refl, ◌∙◌, ap₂}
use Rattle.rules.specs.Opcodes.{window}
use Rattle.lent.proofs.Acting.{halts, lacking, quiet, passed-on, taken-is}
use Rattle.draw.proofs.PointLaws.{told-outside, told_at}
use Rattle.draw.proofs.pen.clip_window.Goals as goal

pub returns-in_err-f : goal.returns-in_err-f
returns-in_err-f c n b vs st = passed-on _ _ c.in_err-f.was c.from_residual.result c.from_residual.ensures

pub returns-in_err-p : goal.returns-in_err-p
returns-in_err-p c n b vs st =
    let none = c.in_err-p.ensures in
    taken-is _ _ c.in_ok-f.was
    (halts _ _ _ (lacking c.from_residual-in_err-p.ensures none.value none.ok_part) c.refused-outside.ensures (rw (told-outside _ _ c.point_of.ensures none.ok_part) refl))

pub returns-in_err-q : goal.returns-in_err-q
returns-in_err-q c n b vs st =
    let none = c.in_err-q.ensures in
    let p = told_at _ _ c.point_of.ensures c.in_ok-p.ensures.ok_part in
    taken-is _ _ c.in_ok-f.was
    (halts _ _ _ (lacking c.from_residual-in_err-q.ensures none.value none.ok_part) c.refused-outside.ensures
    (rw (p.0, told-outside _ _ c.point_of-2.ensures none.ok_part) refl))

pub returns : goal.returns
returns c n b vs st =
    let p = told_at _ _ c.point_of.ensures c.in_ok-p.ensures.ok_part in
    let q = told_at _ _ c.point_of-2.ensures c.in_ok-q.ensures.ok_part in
    taken-is _ _ c.in_ok-f.was (quiet _ _ _ (rw (p.0, q.0) refl) (rw (c.window-registers.ensures ∙ ap₂ window p.1 q.1) refl) refl refl)
