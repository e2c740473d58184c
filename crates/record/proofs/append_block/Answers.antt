-- `record::append_block` meets its contract.
use Rattle.std.proofs.Common.{◌∙◌, arith}
use Rattle.text.proofs.Decimals.{few-digits}
use Rattle.text.proofs.Joining.{same-long}
use Rattle.record.specs.Block.{budget_label, answer_label, steps_label}
use Rattle.record.proofs.Lines.{length-line}
use Rattle.record.proofs.Blocks.{length-block, block-put}
use Rattle.record.proofs.Appends.{taken, too_large, same-asked, large-budget, large-answer, large-steps, no_room, appended}
use Rattle.record.proofs.append_block.Goals as goal

pub returns-in_err-budget : goal.returns-in_err-budget
returns-in_err-budget c =
    rw c.from_residual.ensures (large-budget _ _ _ _ _ (too_large _ c.try_from.ensures c.in_err-budget.ensures.value))

pub returns-in_err-answer : goal.returns-in_err-answer
returns-in_err-answer c =
    let b = taken _ c.try_from.ensures c.in_ok-budget.ensures.value in
    rw c.from_residual-in_err-answer.ensures
    (large-answer _ _ _ _ _ (omega (arith, b.0, b.1)) (too_large _ c.try_from-2.ensures c.in_err-answer.ensures.value))

pub returns-in_err-steps : goal.returns-in_err-steps
returns-in_err-steps c =
    let b = taken _ c.try_from.ensures c.in_ok-budget.ensures.value in
    let a = taken _ c.try_from-2.ensures c.in_ok-answer.ensures.value in
    rw c.from_residual-in_err-steps.ensures
    (large-steps _ _ _ _ _ (omega (arith, b.0, b.1)) (omega (arith, a.0, a.1)) (too_large _ c.try_from-3.ensures c.in_err-steps.ensures.value))

pub overflow_add-size : goal.overflow_add-size
overflow_add-size c = omega (arith, c.width.ensures, c.width-2.ensures, few-digits c.in_ok-budget.budget, few-digits c.in_ok-answer.answer)

pub overflow_add-size-2 : goal.overflow_add-size-2
overflow_add-size-2 c =
    omega (
      arith,
      c.width.ensures,
      c.width-2.ensures,
      c.width-3.ensures,
      few-digits c.in_ok-budget.budget,
      few-digits c.in_ok-answer.answer,
      few-digits c.in_ok-steps.steps,
    )

pub overflow_add-size-3 : goal.overflow_add-size-3
overflow_add-size-3 c =
    omega (
      arith,
      c.width.ensures,
      c.width-2.ensures,
      c.width-3.ensures,
      few-digits c.in_ok-budget.budget,
      few-digits c.in_ok-answer.answer,
      few-digits c.in_ok-steps.steps,
    )

-- the three widths are the block's size
pub returns-in_err-checked_sub : goal.returns-in_err-checked_sub
returns-in_err-checked_sub c =
    let b = taken _ c.try_from.ensures c.in_ok-budget.ensures.value in
    let a = taken _ c.try_from-2.ensures c.in_ok-answer.ensures.value in
    let s = taken _ c.try_from-3.ensures c.in_ok-steps.ensures.value in
    rw c.from_residual-in_err-checked_sub.ensures
    (no_room _ _ _ _ _ b.1 a.1 s.1 (omega (arith, c.in_err-checked_sub.ensures)) ∙ same-asked _ _ b.0 a.0 s.0)

pub returns-then-branch-size : goal.returns-then-branch-size
returns-then-branch-size c =
    let b = taken _ c.try_from.ensures c.in_ok-budget.ensures.value in
    let a = taken _ c.try_from-2.ensures c.in_ok-answer.ensures.value in
    let s = taken _ c.try_from-3.ensures c.in_ok-steps.ensures.value in
    no_room _ _ _ _ _ b.1 a.1 s.1
    (omega (
      arith,
      length-block c.in_ok-budget.budget c.in_ok-answer.answer c.in_ok-steps.steps,
      c.width.ensures,
      c.width-2.ensures,
      c.width-3.ensures,
      c.in_ok-checked_sub.ensures,
      c.if-branch-size.true,
    ))
    ∙ same-asked _ _ b.0 a.0 s.0

-- there is room for it
pub put_line-second-requires : goal.put_line-second-requires
put_line-second-requires c =
    omega (
      arith,
      c.width.ensures,
      c.width-2.ensures,
      c.width-3.ensures,
      c.in_ok-checked_sub.ensures,
      c.if-branch-size.false,
      length-line budget_label c.in_ok-budget.budget,
    )

pub put_line-third-requires : goal.put_line-third-requires
put_line-third-requires c =
    let p = c.put_line-second.ensures in
    omega (
      arith,
      c.width.ensures,
      c.width-2.ensures,
      c.width-3.ensures,
      c.in_ok-checked_sub.ensures,
      c.if-branch-size.false,
      length-line budget_label c.in_ok-budget.budget,
      length-line answer_label c.in_ok-answer.answer,
      p.place,
      same-long p,
    )

pub put_line-requires : goal.put_line-requires
put_line-requires c =
    let p = c.put_line-second.ensures in
    let q = c.put_line-third.ensures in
    omega (
      arith,
      c.width.ensures,
      c.width-2.ensures,
      c.width-3.ensures,
      c.in_ok-checked_sub.ensures,
      c.if-branch-size.false,
      length-line budget_label c.in_ok-budget.budget,
      length-line answer_label c.in_ok-answer.answer,
      length-line steps_label c.in_ok-steps.steps,
      p.place,
      same-long p,
      q.place,
      same-long q,
    )

pub returns : goal.returns
returns c =
    let b = taken _ c.try_from.ensures c.in_ok-budget.ensures.value in
    let a = taken _ c.try_from-2.ensures c.in_ok-answer.ensures.value in
    let s = taken _ c.try_from-3.ensures c.in_ok-steps.ensures.value in
    appended _ _ _ _ _ b.1 a.1 s.1
    (omega (
      arith,
      length-block c.in_ok-budget.budget c.in_ok-answer.answer c.in_ok-steps.steps,
      c.width.ensures,
      c.width-2.ensures,
      c.width-3.ensures,
      c.in_ok-checked_sub.ensures,
      c.if-branch-size.false,
    ))
    (block-put _ _ _ c.put_line-second.ensures c.put_line-third.ensures c.put_line.ensures)
    ∙ same-asked _ _ b.0 a.0 s.0
