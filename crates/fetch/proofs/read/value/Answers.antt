-- `value`: the test tells whether there is a value k among the n.
use mathlib.Core.Path.{sym}
use native.Mathlib.Omega.{arith}
use Rattle.fetch.proofs.Taking.{nth-variable, past-variables}
use Rattle.fetch.proofs.read.value.Goals as goal

pub returns-then-n-k : goal.returns-then-n-k
returns-then-n-k c = sym (past-variables _ _ _ _ _ c.if-n-k.true)

pub returns : goal.returns
returns c = sym (nth-variable _ _ _ _ _ _ (omega arith) c.if-n-k.false)
