-- `on_disc`: the distances' squares.
use Rattle.std.proofs.Common.{true, ◌∙◌}
use Rattle.contains.proofs.Distances.{by-distances}
use Rattle.contains.proofs.circle.on_disc.Goals as goal

pub returns : goal.returns
returns c =
    let g = c.args in
    c.reaches.ensures ∙ by-distances true g.p c.spot-s.result g.q g.d.column g.d.row c.abs_diff.ensures c.abs_diff-2.ensures c.spot-s.ensures
