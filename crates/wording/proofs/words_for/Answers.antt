-- `wording::words_for` meets its contract: every number's words fit.
use mathlib.Core.Path.{ap}
use native.Mathlib.Omega.{arith}
use lib.ListN.{length}
use Rattle.wording.proofs.Terminated.{short}
use Rattle.wording.proofs.words_for.Goals as goal

pub padded-requires : goal.padded-requires
padded-requires c = omega (arith, ap length c.text_of.ensures, short c.args.number)
