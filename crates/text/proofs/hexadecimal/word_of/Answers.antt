-- `text::hexadecimal::word_of` meets its contract.
use Rattle.std.proofs.Common.{refl, ◌∙◌, arith}
use Rattle.text.proofs.Spelling.{small, short, long}
use Rattle.text.proofs.hexadecimal.word_of.Goals as goal

pub returns-in_default : goal.returns-in_default
returns-in_default c = short _ c.in_default.len_below

pub returns-in_err-worth : goal.returns-in_err-worth
returns-in_err-worth c = c.from_residual.ensures ∙ long _ c.in-len4-up.len_at_least c.in_err-worth.ensures refl refl refl

pub returns-in_err-worth-2 : goal.returns-in_err-worth-2
returns-in_err-worth-2 c =
    c.from_residual-in_err-worth-2.ensures ∙ long _ c.in-len4-up.len_at_least c.in_ok-worth.ensures c.in_err-worth-2.ensures refl refl

pub returns-in_err-worth-3 : goal.returns-in_err-worth-3
returns-in_err-worth-3 c =
    c.from_residual-in_err-worth-3.ensures
    ∙ long _ c.in-len4-up.len_at_least c.in_ok-worth.ensures c.in_ok-worth-2.ensures c.in_err-worth-3.ensures refl

pub returns-in_err-worth-4 : goal.returns-in_err-worth-4
returns-in_err-worth-4 c =
    c.from_residual-in_err-worth-4.ensures
    ∙ long _ c.in-len4-up.len_at_least c.in_ok-worth.ensures c.in_ok-worth-2.ensures c.in_ok-worth-3.ensures c.in_err-worth-4.ensures

pub overflow_mul-result : goal.overflow_mul-result
overflow_mul-result c = omega (arith, small _ c.in_ok-worth.ensures)

pub overflow_add-result : goal.overflow_add-result
overflow_add-result c = omega (arith, small _ c.in_ok-worth.ensures, small _ c.in_ok-worth-2.ensures)

pub overflow_add-result-2 : goal.overflow_add-result-2
overflow_add-result-2 c = omega (arith, small _ c.in_ok-worth.ensures, small _ c.in_ok-worth-2.ensures, small _ c.in_ok-worth-3.ensures)

pub overflow_add-result-3 : goal.overflow_add-result-3
overflow_add-result-3 c =
    omega (arith, small _ c.in_ok-worth.ensures, small _ c.in_ok-worth-2.ensures, small _ c.in_ok-worth-3.ensures, small _ c.in_ok-worth-4.ensures)

pub returns : goal.returns
returns c = long _ c.in-len4-up.len_at_least c.in_ok-worth.ensures c.in_ok-worth-2.ensures c.in_ok-worth-3.ensures c.in_ok-worth-4.ensures
