-- `text::number::at_most` meets its contract.
use Rattle.std.proofs.Common.{sym}
use Rattle.std.proofs.lemmas.Result.{err_from_is_err_and}
use Rattle.text.proofs.Reading.{too_large, within, still-wrong}
use Rattle.text.proofs.number.at_most.Goals as goal

pub returns-in_err-n : goal.returns-in_err-n
returns-in_err-n c =
    let p = err_from_is_err_and c.from_residual.result c.from_residual.ensures.1 in
    rw (p.1, p.2) (still-wrong _ (sym c.in_err-n.ensures))

pub returns-then-most-n : goal.returns-then-most-n
returns-then-most-n c = too_large _ (sym c.in_ok-n.ensures) c.if-most-n.true

pub returns : goal.returns
returns c = within _ (sym c.in_ok-n.ensures) c.if-most-n.false
