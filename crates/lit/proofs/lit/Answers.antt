-- `lit`: 0 and the count, or 25 where there is none.
use Rattle.std.proofs.Common.{arith}
use Rattle.std.proofs.lemmas.Grind.{common_steps}
use Rattle.lit.specs.Lit.{lit_of}
use Rattle.lit.proofs.lit.Goals as goal

pub returns-in-Some : goal.returns-in-Some
unfolding lit_of
returns-in-Some c = grind (arith, common_steps)

pub returns-in-None : goal.returns-in-None
unfolding lit_of
returns-in-None c = grind (arith, common_steps)
