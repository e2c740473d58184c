-- `text::number::unpadded` meets its contract.
use Rattle.std.proofs.Common.{sym, ◌∙◌, arith}
use Rattle.text.proofs.Numbers.{lone, leads-zero, leads_no-zero}
use Rattle.text.proofs.number.unpadded.Goals as goal
use Rattle.text.proofs.number.unpadded.Goals.{else-item-gt1-via-then-item-gt1+else-starts_with, else-item-gt1-via-else-item-gt1}

pub returns-then-starts_with : goal.returns-then-starts_with
returns-then-starts_with c = leads-zero _ c.if-item-gt1.true (sym c.starts_with.ensures.value ∙ c.if-starts_with.true)

pub returns : goal.returns
returns c =
    c.unsigned.ensures
    ∙ elim c.else-item-gt1.branch [
      | else-item-gt1-via-then-item-gt1+else-starts_with w ↦ leads_no-zero _ w.if-item-gt1.true (sym w.starts_with.ensures.value ∙ w.if-starts_with.false)
      | else-item-gt1-via-else-item-gt1 w ↦ lone _ (omega (arith, w.if-item-gt1.false))
    ]
