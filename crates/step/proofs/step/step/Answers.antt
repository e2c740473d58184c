-- `step`: the word has its form, and its group does what the form must show.
use Rattle.std.proofs.Common.{◌≡◌, ℕ, List, Err, sym, ap, ◌∙◌}
use Rattle.rules.specs.declared.opcode.Form.{Form}
use Rattle.rules.specs.Table.{form_of}
use Rattle.rules.specs.Meaning.{meaning}
use Rattle.rules.specs.Operands.{at}
use Rattle.lent.specs.Lent.{look}
use Rattle.lent.specs.Shown.{seen}
use Rattle.step.proofs.Stepping.{reaches, positioned, stacked, step-20, step-21, is-step}
use Rattle.step.proofs.step.step.Goals as goal

-- what the form means that was found
means : (w : List ℕ) (i : ℕ) {g f : Form} → g ≡ form_of (at w i) → g ≡ f → meaning (form_of (at w i)) ≡ meaning f
means w i e is = ap meaning (sym e ∙ is)

pub returns-then-words-at : goal.returns-then-words-at
returns-then-words-at c b =
    let g = c.args in
    ap (λ v. seen (Err v) (look b g.registers.now g.vars.now g.stack.now)) c.refused.ensures ∙ step-20 c.requires c.if-words-at.true b

pub step-requires : goal.step-requires
step-requires c = stacked c.requires

pub step-requires-in-Paint : goal.step-requires-in-Paint
step-requires-in-Paint c = positioned c.requires

pub invariant_of-here : goal.invariant_of-here
invariant_of-here c = record { reaches = reaches c.requires c.if-words-at.false }

pub returns-in-Unknown : goal.returns-in-Unknown
returns-in-Unknown c b =
    let g = c.args in
    ap (λ v. seen (Err v) (look b g.registers.now g.vars.now g.stack.now)) c.refused-in-Unknown.ensures
    ∙ step-21 c.requires c.if-words-at.false (means g.words.now _ c.form_of.ensures c.in-Unknown.is) b

pub returns-in-Flow : goal.returns-in-Flow
returns-in-Flow c b =
    let g = c.args in
    let z = c.step.new in
    ap (λ u. seen u (look b z.registers g.vars.now z.stack)) c.hand_over.ensures
    ∙ c.step.ensures b g.vars.now ∙ is-step c.requires c.if-words-at.false (means g.words.now _ c.form_of.ensures c.in-Flow.is) b

pub returns-in-Value : goal.returns-in-Value
returns-in-Value c b =
    let g = c.args in
    let z = c.step-in-Value.new in
    ap (λ u. seen u (look b z.registers z.vars g.stack.now)) c.hand_over-in-Value.ensures
    ∙ c.step-in-Value.ensures b g.stack.now ∙ is-step c.requires c.if-words-at.false (means g.words.now _ c.form_of.ensures c.in-Value.is) b

pub returns-in-Pen : goal.returns-in-Pen
returns-in-Pen c b =
    let g = c.args in
    let z = c.step-in-Pen.new in
    ap (λ u. seen u (look b z.registers g.vars.now g.stack.now)) c.hand_over-in-Pen.ensures
    ∙ c.step-in-Pen.ensures b g.vars.now g.stack.now ∙ is-step c.requires c.if-words-at.false (means g.words.now _ c.form_of.ensures c.in-Pen.is) b

pub returns-in-Paint : goal.returns-in-Paint
returns-in-Paint c b =
    let g = c.args in
    let z = c.step-in-Paint.new in
    ap (λ u. seen u (look b z.registers g.vars.now g.stack.now)) c.hand_over-in-Paint.ensures
    ∙ c.step-in-Paint.ensures b g.vars.now g.stack.now ∙ is-step c.requires c.if-words-at.false (means g.words.now _ c.form_of.ensures c.in-Paint.is) b
