use Rattle.desk.proofs.Deskwise.{same_desk}
use Rattle.desk.proofs.desk.Desk.with_env.Goals as goal

pub returns : goal.returns
returns c = same_desk _ _ _ _ _ _ _ _
