-- `variables`: the tests tell whether the list ends inside the opcode, and whether the last of the n is above 63.
use mathlib.Core.Path.{ap, sym, ◌∙◌}
use native.Mathlib.Omega.{arith}
use Rattle.numbers.proofs.Places.{is-above, not-above}
use Rattle.std.specs.Prelude.{Err}
use Rattle.fetch.proofs.Taking.{short, over_first, from-variable}
use Rattle.fetch.proofs.read.Opcode.variables.Goals as goal

pub returns-then-left-lt2 : goal.returns-then-left-lt2
returns-then-left-lt2 c = ap Err c.cut.ensures ∙ short _ _ _ _ (omega arith)

pub returns-then-above : goal.returns-then-above
returns-then-above c =
    let high = is-above _ _ (sym c.above.ensures ∙ c.if-above.true) in
    ap Err c.misnamed.ensures ∙ over_first _ _ c.named-v.ensures _ _ _ (omega arith) high

pub followers-requires : goal.followers-requires
followers-requires c = omega (arith, not-above _ _ (sym c.above.ensures ∙ c.if-above.false))

pub returns : goal.returns
returns c =
    let low = not-above _ _ (sym c.above.ensures ∙ c.if-above.false) in
    from-variable _ _ _ _ _ (omega arith) (omega arith) (omega (arith, low)) (omega (arith, low)) c.followers.ensures (omega arith)
