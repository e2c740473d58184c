-- `text::number::signed` meets its contract.
use Rattle.std.proofs.Common.{sym, ◌∙◌, rules}
use Rattle.std.proofs.lemmas.Result.{err_from_is_err_and}
use Rattle.text.proofs.Reading.{signed-minus, signed-plain, bits-of-minus, no_minus}
use Rattle.text.proofs.number.signed.Goals as goal

pub returns-in_err-at_most-in-Some : goal.returns-in_err-at_most-in-Some
returns-in_err-at_most-in-Some c =
    let p = err_from_is_err_and c.from_residual.result c.from_residual.ensures.1 in
    let led = c.in-Some.ensures.cases in
    rw (p.1, p.2) (no_minus (sym c.in_err-at_most-in-Some.ensures) ∙ signed-minus _ led.0 led.1)

pub returns-in_ok-at_most-in-Some : goal.returns-in_ok-at_most-in-Some
returns-in_ok-at_most-in-Some c =
    let led = c.in-Some.ensures.cases in
    bits-of-minus (sym c.in_ok-at_most-in-Some.ensures) (search rules) (search rules) c.wrapping_neg.ensures ∙ signed-minus _ led.0 led.1

pub returns-in-None : goal.returns-in-None
returns-in-None c = c.at_most-in-None.ensures ∙ signed-plain _ c.in-None.ensures.cases
