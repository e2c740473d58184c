-- `errand::line::has_five_items` meets its contract.
use Rattle.errand.proofs.Lines.{no-fifth, no-sixth}
use Rattle.errand.proofs.line.has_five_items.Goals as goal

pub returns-then-not-is_empty : goal.returns-then-not-is_empty
returns-then-not-is_empty c =
    no-sixth _ c.item.ensures c.is_empty.ensures c.if-not-is_empty.true c.item-then-not-is_empty.ensures c.is_empty-then-not-is_empty.ensures

pub returns-else-not-is_empty : goal.returns-else-not-is_empty
returns-else-not-is_empty c = no-fifth _ c.item.ensures c.is_empty.ensures c.if-not-is_empty.false
