-- `pass`: by what is left, each way is one law.
use Rattle.mender.proofs.Walking.{operand, rest}
use Rattle.mender.proofs.walk.pass.Goals as goal

pub returns-in-Some : goal.returns-in-Some
returns-in-Some c = let some = rw c.in-Some.is at c.in-Some.n-test in operand _ _ _ c.in-Some.is some.1

pub returns-in-None : goal.returns-in-None
returns-in-None c = rest _ _ _ c.in-None.is
