-- `record::read_block` meets its contract.
use Rattle.std.proofs.Common.{ap, ◌∙◌, rules}
use Rattle.record.specs.Read.{due}
use Rattle.record.proofs.Blocks.{text-ends, opened}
use Rattle.record.proofs.read_block.Goals as goal

pub returns-then-is_empty : goal.returns-then-is_empty
returns-then-is_empty c = text-ends _ (search rules)

pub returns-in-Some : goal.returns-in-Some
returns-in-Some c = ap due c.in-Some.ensures ∙ opened _ (search rules)

pub returns-in-None : goal.returns-in-None
returns-in-None c = ap due c.in-None.ensures ∙ opened _ (search rules)
