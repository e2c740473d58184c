-- `errand::path::is_from_top` meets its contract.
use Rattle.errand.proofs.Paths.{no_name, by_first}
use Rattle.errand.proofs.path.is_from_top.Goals as goal

pub returns-then-not-is_empty : goal.returns-then-not-is_empty
returns-then-not-is_empty c = by_first _ c.is_empty.ensures c.if-not-is_empty.true

pub returns-else-not-is_empty : goal.returns-else-not-is_empty
returns-else-not-is_empty c = no_name _ c.is_empty.ensures c.if-not-is_empty.false
