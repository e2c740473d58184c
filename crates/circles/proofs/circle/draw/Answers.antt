-- `draw`: all its dots within the drawable rectangle are the drawable ones.
use mathlib.Core.Path.{◌∙◌}
use Rattle.circles.proofs.Distances.{circle-painted}
use Rattle.circles.proofs.Columns.{flag}
use Rattle.circles.proofs.circle.draw.Goals as goal

pub returns : goal.returns
returns g c =
    let a = c.args in
    c.circle_in.ensures ∙ circle-painted (flag g.row.FILLED) a.f a.screen.now c.requires.fitting c.rect_of-r.result c.rect_of-r.ensures a.p a.q a.c
