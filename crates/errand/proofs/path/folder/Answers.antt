-- `errand::path::folder` meets its contract.
use Rattle.io.proofs.Counting.{prefix_len_of_le}
use Rattle.errand.proofs.Paths.{in_path, from_above, from-here}
use Rattle.errand.proofs.path.folder.Goals as goal

pub returns-then-is_from_top : goal.returns-then-is_from_top
returns-then-is_from_top c = from_above _ _ c.is_from_top.ensures c.if-is_from_top.true

pub slice_bounds-result-end-else-is_from_top : goal.slice_bounds-result-end-else-is_from_top
slice_bounds-result-end-else-is_from_top c = (prefix_len_of_le _ _ (in_path _ c.behind_slash.ensures)).1

pub returns-else-is_from_top : goal.returns-else-is_from_top
returns-else-is_from_top c = from-here _ _ c.is_from_top.ensures c.if-is_from_top.false c.behind_slash.ensures
