-- `record::line::read_line` meets its contract.
use Rattle.std.proofs.Common.{sym, ◌∙◌, rules}
use borrow.Author.Tests.{tests}
use Rattle.std.proofs.lemmas.Iterator.{YieldsList-from_slice}
use Rattle.std.proofs.lemmas.Iterator.Search.{position_from_yields_List}
use Rattle.text.proofs.Parting.{same-pointwise}
use Rattle.record.proofs.Lines.{rest, is_feed, endless, other_name, no-feed, by-item}
use Rattle.record.proofs.line.read_line.Goals as goal

pub returns-in_err-rest : goal.returns-in_err-rest
returns-in_err-rest c = c.from_residual.ensures ∙ other_name _ _ (same-pointwise _ _ ∙ c.in_err-rest.ensures.cases)

pub returns-in_err-end : goal.returns-in_err-end
returns-in_err-end c =
    let led = c.in_ok-rest.ensures.cases in
    c.from_residual-in_err-end.ensures
    ∙ no-feed _ _ (same-pointwise _ _ ∙ led.0)
    (endless (rest c.args.label.now c.args.text.now)
    (sym c.in_err-end.was
    ∙ position_from_yields_List is_feed _ _ _ c.position.ensures.ran (YieldsList-from_slice _ (c.iter.ensures.rest ∙ led.1)) (λ x b q k. search (rules, tests))))

pub returns-in_err-number : goal.returns-in_err-number
returns-in_err-number c =
    let led = c.in_ok-rest.ensures.cases in
    c.from_residual-in_err-number.ensures
    ∙ by-item _ _ led.0 led.1
    (sym c.in_ok-end.was
    ∙ position_from_yields_List is_feed _ _ _ c.position.ensures.ran (YieldsList-from_slice c.in_ok-rest.rest.now c.iter.ensures.rest) (λ x b q k. search (rules, tests)))
    c.unpadded.ensures c.in_err-number.ensures.value

pub returns : goal.returns
returns c =
    let led = c.in_ok-rest.ensures.cases in
    by-item _ _ led.0 led.1
    (sym c.in_ok-end.was
    ∙ position_from_yields_List is_feed _ _ _ c.position.ensures.ran (YieldsList-from_slice c.in_ok-rest.rest.now c.iter.ensures.rest) (λ x b q k. search (rules, tests)))
    c.unpadded.ensures c.in_ok-number.ensures.value
