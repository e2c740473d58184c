-- `text::number::with_digit` meets its contract.
use Rattle.std.proofs.Common.{[], sym, ◌∙◌, arith}
use Rattle.text.specs.Number.{digit}
use Rattle.text.proofs.Reading.{grows-large, stops, digit-read}
use Rattle.text.proofs.number.with_digit.Goals as goal

pub returns-then-not-is_ascii_digit : goal.returns-then-not-is_ascii_digit
unfolding digit
returns-then-not-is_ascii_digit c = sym (stops _ _ _ (sym c.is_ascii_digit.ensures.value ∙ c.if-not-is_ascii_digit.true))

pub returns-then-more-gt-MOST : goal.returns-then-more-gt-MOST
unfolding digit
returns-then-more-gt-MOST c =
    sym (grows-large _ _ _ (sym c.is_ascii_digit.ensures.value ∙ c.if-not-is_ascii_digit.false) (omega (arith, c.if-more-gt-MOST.true)))

pub returns : goal.returns
unfolding digit
returns c =
    digit-read _ _ [] (sym c.is_ascii_digit.ensures.value ∙ c.if-not-is_ascii_digit.false) (omega (arith, c.from.ensures, c.from-2.ensures))
    c.if-more-gt-MOST.false
