-- `reach_from`: the rows one further out reach no farther, so that the root is looked for from there.
use Rattle.circles.proofs.Reaches.{past-small, left_over, past_one, reaches}
use Rattle.circles.proofs.reach.reach_from.Goals as goal

pub returns : goal.returns
returns c =
    let p = c.past_root.ensures in
    let e = c.past_root.result in
    (reaches c.args.q c.args.d c.requires.1 e (past-small _ e p (left_over c.args.q c.args.d c.requires.0)) p, past_one _ e p)
