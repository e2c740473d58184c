-- `point_of`: each value is judged as a coordinate.
use mathlib.Core.Path.{◌∙◌}
use Rattle.draw.proofs.PointLaws.{judged}
use Rattle.draw.proofs.point.point_of.Goals as goal

pub returns : goal.returns
returns c = c.paired.ensures ∙ rw (c.coordinate_of.ensures, c.coordinate_of-2.ensures) (judged _)
