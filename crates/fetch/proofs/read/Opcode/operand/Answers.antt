-- `operand`: the test tells whether there is a value k among the n.
use mathlib.Core.Path.{sym, ◌∙◌}
use native.Mathlib.Omega.{arith}
use Rattle.fetch.proofs.Taking.{nth-word, past_words}
use Rattle.fetch.proofs.read.Opcode.operand.Goals as goal

pub returns-then-n-k : goal.returns-then-n-k
returns-then-n-k c vs = sym (past_words _ _ _ _ vs _ c.if-n-k.true)

pub returns : goal.returns
returns c vs = c.signed.ensures ∙ sym (nth-word _ _ _ _ vs _ _ (omega arith) c.if-n-k.false)
