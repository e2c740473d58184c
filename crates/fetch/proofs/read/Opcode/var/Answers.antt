-- `var`: the word behind the opcode names the destination.
use mathlib.Core.Path.{ap, refl, ◌∙◌}
use native.Mathlib.Omega.{arith}
use borrow.Author.Rules.{rules}
use borrow.Author.Tests.{lt-ltb}
use Rattle.std.specs.Prelude.{Err}
use Rattle.fetch.proofs.Taking.{short, onto}
use Rattle.fetch.proofs.read.Opcode.var.Goals as goal

pub returns-then-left-lt2 : goal.returns-then-left-lt2
returns-then-left-lt2 c = (λ vs. ap Err c.cut.ensures ∙ short _ _ _ vs (omega arith), tt)

pub returns : goal.returns
returns c = (λ vs. c.onto.ensures.0 ∙ onto _ _ _ vs (omega arith) _ _ (omega arith) (omega arith) (λ h. rw (lt-ltb _ _ h)) (search rules) refl, c.onto.ensures.1)
