-- `text::number::unsigned` meets its contract: what will be read from here is what is read.
use Rattle.std.proofs.Common.{sym, rules}
use Rattle.std.proofs.lemmas.Result.{err_from_is_err_and}
use Rattle.text.proofs.Reading.{begun, nothing, at-end, one_on, ended}
use Rattle.text.proofs.number.unsigned.Goals as goal

pub returns-then-is_empty : goal.returns-then-is_empty
returns-then-is_empty c = nothing _ (search rules)

pub loop-b-init : goal.loop-b-init
loop-b-init c = begun _ (search rules)

pub returns-in_err-n : goal.returns-in_err-n
returns-in_err-n c =
    let p = err_from_is_err_and c.from_residual.result c.from_residual.ensures.1 in
    rw (p.1, p.2) (ended _ _ _ c.loop-b.invariant c.loop-b-test.true (sym c.in_err-n.ensures))

pub loop-b-preserved : goal.loop-b-preserved
loop-b-preserved c = one_on _ _ _ c.loop-b.invariant c.loop-b-test.true (sym c.in_ok-n.ensures)

pub returns : goal.returns
returns c = at-end _ _ _ c.loop-b.invariant c.loop-b-test.false
