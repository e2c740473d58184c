-- `point_by`: the offsets are judged as a point, and each sum as a coordinate.
use Rattle.std.proofs.Common.{rules, ◌≡◌, ◌∙◌, None}
use Rattle.draw.proofs.PointLaws.{no-offset, sum-judged, told-outside, told_at}
use Rattle.draw.proofs.point.point_by.Goals as goal

pub returns-in_err-by : goal.returns-in_err-by
returns-in_err-by c =
    let none : c.from_residual.result ≡ None = search rules in
    none ∙ no-offset c.args.from _ (told-outside _ _ c.point_of.ensures c.in_err-by.was)

pub returns : goal.returns
returns c =
    let is = told_at _ _ c.point_of.ensures c.in_ok-by.was in
    c.paired.ensures
    ∙ rw (c.shifted.ensures, c.shifted-2.ensures)
    (sum-judged c.args.from _ _ is (search rules) (search rules) (search rules) (search rules))
