-- `cap` meets its contract.
use mathlib.Core.Path.{◌∙◌}
use Rattle.checker.proofs.Caps.{least}
use Rattle.checker.proofs.sums.cap.Goals as goal

pub returns : goal.returns
returns c = c.min.ensures ∙ least _
