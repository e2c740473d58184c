-- `var_var`: the source is judged, and the destination's answer is handed on.
use mathlib.Core.Path.{ap, refl, sym, ◌∙◌}
use native.Mathlib.Omega.{arith}
use Rattle.numbers.proofs.Places.{is-above, not-above}
use Rattle.std.specs.Prelude.{Err}
use Rattle.fetch.proofs.Taking.{short, onto, over_first, next-over}
use Rattle.fetch.proofs.read.Opcode.var_var.Goals as goal

pub returns-then-left-lt3 : goal.returns-then-left-lt3
returns-then-left-lt3 c = (ap Err c.cut.ensures ∙ short _ _ _ _ (omega arith), tt)

pub returns-then-above : goal.returns-then-above
returns-then-above c =
    let high = is-above _ 1 (sym c.above.ensures ∙ c.if-above.true) in
    (ap Err c.misnamed.ensures ∙ over_first _ _ c.named-s.ensures 1 _ _ (omega arith) high, tt)

pub value-requires : goal.value-requires
value-requires c = omega (arith, not-above _ 1 (sym c.above.ensures ∙ c.if-above.false))

pub returns : goal.returns
returns c =
    let a = c.args in
    let low = not-above _ 1 (sym c.above.ensures ∙ c.if-above.false) in
    (c.onto.ensures.0 ∙ onto _ _ _ _ (omega arith) _ _ (omega arith) (omega (arith, low)) (λ h. next-over a.self.words.now a.self.pc.0 c.named-s.ensures (omega (arith, low)) h) (cc) refl, c.onto.ensures.1)
