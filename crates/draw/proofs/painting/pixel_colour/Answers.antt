-- `pixel_colour`: a dot in the colour's low 8 bits.
use Rattle.std.proofs.Common.{ap, ◌∙◌}
use Rattle.rules.specs.Opcodes.{dots, point}
use Rattle.lent.specs.Lent.{look}
use Rattle.lent.specs.Shown.{does}
use Rattle.lent.proofs.Acting.{passed-on, taken-is}
use Rattle.draw.proofs.painting.pixel_colour.Goals as goal

pub returns-in_err-f : goal.returns-in_err-f
returns-in_err-f c n b vs st = passed-on _ _ c.in_err-f.was c.from_residual.result c.from_residual.ensures

pub returns : goal.returns
unfolding does
returns c n b vs st =
    let o = c.in_ok-f.f.operands in
    taken-is _ _ c.in_ok-f.was
    (c.dot_at.ensures b vs st ∙ ap (λ k. does (dots (point o.a o.b) k) c.in_ok-f.f.next (look b c.args.registers.now vs st)) c.low8.ensures)
