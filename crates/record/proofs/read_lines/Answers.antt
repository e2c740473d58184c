-- `record::read_lines` meets its contract: no line goes past the text's end.
use Rattle.std.proofs.Common.{ℕ, arith, length-take, length-drop}
use Rattle.record.specs.Block.{budget_label, answer_label, steps_label}
use Rattle.record.proofs.Lines.{line-ends}
use Rattle.record.proofs.read_lines.Goals as goal

pub slice_bounds-behind-count : goal.slice_bounds-behind-count
slice_bounds-behind-count c = (line-ends budget_label c.args.text.now c.in_ok-budget.ensures).1

pub slice_bounds-behind-start : goal.slice_bounds-behind-start
slice_bounds-behind-start c = (line-ends budget_label c.args.text.now c.in_ok-budget.ensures).1

pub slice_bounds-behind-count-2 : goal.slice_bounds-behind-count-2
slice_bounds-behind-count-2 c = (line-ends answer_label _ c.in_ok-answer.ensures).1

pub slice_bounds-behind-start-2 : goal.slice_bounds-behind-start-2
slice_bounds-behind-start-2 c = (line-ends answer_label _ c.in_ok-answer.ensures).1

pub overflow_add-result : goal.overflow_add-result
overflow_add-result c =
    let b = line-ends budget_label c.args.text.now c.in_ok-budget.ensures in
    let a = line-ends answer_label _ c.in_ok-answer.ensures in
    omega (arith, b.1, a.1, length-take {A = ℕ}, length-drop {A = ℕ}, c.well_formed)

pub overflow_add-result-2 : goal.overflow_add-result-2
overflow_add-result-2 c =
    let b = line-ends budget_label c.args.text.now c.in_ok-budget.ensures in
    let a = line-ends answer_label _ c.in_ok-answer.ensures in
    let s = line-ends steps_label _ c.in_ok-steps.ensures in
    omega (arith, b.1, a.1, s.1, length-take {A = ℕ}, length-drop {A = ℕ}, c.well_formed)
