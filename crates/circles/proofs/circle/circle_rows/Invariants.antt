-- `circle_rows`: after each turn the rows are painted that are d or more from the centre's.
use mathlib.Core.Path.{◌≡◌}
use Rattle.circles.specs.Reaches.{circle_b, Reaching}
use Rattle.circles.specs.Sheets.{showing}
use Rattle.circles.proofs.Columns.{flag}
use Rattle.circles.proofs.Nearer.{beyond}
use Rattle.circles.proofs.circle.circle_rows.Given as goal

abbrev pub invariant-loop-d : goal.invariant-loop-d
invariant-loop-d g l =
    let s = l.initial.s in
    (l.s ≡ showing s (beyond s.w s.r l.k.p.y (circle_b (flag g.row.FILLED) l.k.p l.k.q) l.d s.c s.screen.now)) × Reaching l.k.q l.d l.g
