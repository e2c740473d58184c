-- `long`: the values in their order.
use mathlib.Core.Path.{ap, refl, ◌∙◌}
use native.Mathlib.Omega.{arith}
use borrow.Author.Rules.{rules}
use Rattle.std.specs.Prelude.{Ok, Err}
use Rattle.fetch.proofs.Taking.{short, three}
use Rattle.fetch.proofs.read.Opcode.long.Goals as goal

pub returns-then-left-lt3 : goal.returns-then-left-lt3
returns-then-left-lt3 c vs = ap Err c.cut.ensures ∙ short _ _ _ vs (omega arith)

pub returns : goal.returns
returns c vs = ap Ok c.values.ensures ∙ three _ _ _ vs (omega arith) (omega arith) (search rules) refl (omega arith)
