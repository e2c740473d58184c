-- `errand::line::has_no_list` meets its contract.
use Rattle.errand.proofs.Lines.{empty-line, by_first}
use Rattle.errand.proofs.line.has_no_list.Goals as goal

pub returns-then-is_empty : goal.returns-then-is_empty
returns-then-is_empty c = empty-line _ c.is_empty.ensures c.if-is_empty.true

pub returns-else-is_empty : goal.returns-else-is_empty
returns-else-is_empty c = by_first _ c.is_empty.ensures c.if-is_empty.false
