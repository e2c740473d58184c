-- `radius_of`: the radius is not below 0.
use Rattle.std.proofs.Common.{arith}
use Rattle.brush.proofs.Brushes.{radius-small, radius-natural, radius-back}
use Rattle.brush.proofs.radius_of.Goals as goal

pub overflow_cast-result : goal.overflow_cast-result
overflow_cast-result c =
    let small = radius-small _ c.requires in
    rw (radius-back c.args.k.radius c.requires) (tt, record { fits = omega (arith, small) })

pub returns-clause-small : goal.returns-clause-small
returns-clause-small c = rw (radius-back c.args.k.radius c.requires) (radius-small _ c.requires)

pub returns-clause-value : goal.returns-clause-value
returns-clause-value c = rw (radius-back c.args.k.radius c.requires) (radius-natural _ c.requires)
