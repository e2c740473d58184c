-- `circle_of`: the centre is judged as a point, and the radius as one.
use Rattle.std.proofs.Common.{rules, ◌≡◌, sym, ◌∙◌, None}
use Rattle.draw.proofs.PointLaws.{told-outside, told_at, no-centre, no-radius, round-judged}
use Rattle.draw.proofs.point.circle_of.Goals as goal

pub returns-in_err-centre : goal.returns-in_err-centre
returns-in_err-centre c =
    let none : c.from_residual.result ≡ None = search rules in
    none ∙ no-centre _ _ (told-outside _ _ c.point_of.ensures c.in_err-centre.was)

pub returns-in_err-radius : goal.returns-in_err-radius
returns-in_err-radius c =
    let none : c.from_residual-in_err-radius.result ≡ None = search rules in
    let centre = told_at _ _ c.point_of.ensures c.in_ok-centre.was in
    none ∙ no-radius _ _ centre.0 (sym c.radius_of.ensures ∙ c.in_err-radius.was)

pub returns : goal.returns
returns c =
    let centre = told_at _ _ c.point_of.ensures c.in_ok-centre.was in
    round-judged _ _ centre (sym c.radius_of.ensures ∙ c.in_ok-radius.was)
