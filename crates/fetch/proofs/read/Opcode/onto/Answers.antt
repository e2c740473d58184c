-- `onto`: the arms are those of `onto_of`.
use mathlib.Core.Path.{ap, sym, ◌∙◌}
use native.Mathlib.Omega.{arith}
use Rattle.numbers.proofs.Places.{not-above}
use Rattle.std.specs.Prelude.{Err}
use Rattle.fetch.proofs.Taking.{above, below}
use Rattle.fetch.proofs.read.Opcode.onto.Goals as goal

pub returns-then-above : goal.returns-then-above
returns-then-above c =
    (ap Err c.misnamed.ensures ∙ above _ _ _ _ c.named-d.ensures _ (sym c.above.ensures ∙ c.if-above.true), tt)

pub returns : goal.returns
returns c =
    let low = sym c.above.ensures ∙ c.if-above.false in
    (below _ _ _ _ c.named-d.ensures _ c.past.ensures low, omega (arith, not-above _ 1 low))
