-- `lines::dashes::Solid::paints` meets its contract: all ones paint every dot.
use Rattle.std.proofs.Common.{sym}
use Rattle.lines.proofs.Patterns.{lit-solid}
use Rattle.lines.proofs.dashes.SolidPattern.paints.Goals as goal

pub returns : goal.returns
returns c = sym (lit-solid c.args._number)
