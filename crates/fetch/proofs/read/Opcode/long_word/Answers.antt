-- `long_word`: the values in their order.
use mathlib.Core.Path.{ap, refl, ◌∙◌}
use native.Mathlib.Omega.{arith}
use borrow.Author.Rules.{rules}
use Rattle.std.specs.Prelude.{Ok, Err}
use Rattle.fetch.proofs.Taking.{short, three}
use Rattle.fetch.proofs.read.Opcode.long_word.Goals as goal

pub returns-then-left-lt4 : goal.returns-then-left-lt4
returns-then-left-lt4 c vs = ap Err c.cut.ensures ∙ short _ _ _ vs (omega arith)

pub returns : goal.returns
returns c vs = ap Ok c.values.ensures ∙ three _ _ _ vs (omega arith) (omega arith) (search rules) refl (omega arith)
