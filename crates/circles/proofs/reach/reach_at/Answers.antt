-- `reach_at`: nowhere beyond the radius, else by the root, looked for from 0.
use Rattle.circles.proofs.Reaches.{past-small, left_over, reaches}
use Rattle.circles.proofs.reach.reach_at.Goals as goal

pub returns : goal.returns
returns c =
    let p = c.past_root.ensures in
    let e = c.past_root.result in
    reaches c.args.q c.args.d c.if-q-d.false e (past-small _ e p (left_over c.args.q c.args.d c.requires.0)) p
