-- `on_outline`: the distances, and those of the points one further out.
use Rattle.std.proofs.Common.{false, ◌∙◌}
use Rattle.contains.proofs.Distances.{by-distances}
use Rattle.contains.proofs.circle.on_outline.Goals as goal

pub returns : goal.returns
returns c =
    let g = c.args in
    c.at_edge.ensures ∙ by-distances false g.p c.spot-s.result g.q g.d.column g.d.row c.abs_diff.ensures c.abs_diff-2.ensures c.spot-s.ensures
