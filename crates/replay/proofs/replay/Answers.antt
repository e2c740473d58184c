-- `replay::replay` meets its contract.
use Rattle.std.proofs.Common.{ℕ, ap, ◌∙◌, arith, length-take, length-drop}
use borrow.Author.Rules.{part_to_end}
use Rattle.replay.specs.declared.Replayed.{Replayed}
use Rattle.replay.specs.Replay.{found}
use Rattle.replay.proofs.Going.{begun, at-end, at-spoilt, differs, further, goes_on, differ, agree}
use Rattle.replay.proofs.replay.Goals as goal

pub loop-block-init : goal.loop-block-init
loop-block-init c = begun _ _ _ _

pub returns-in-Ok-None : goal.returns-in-Ok-None
returns-in-Ok-None c =
    ap (λ (r : Replayed). found r c.loop-block.screen) c.told.ensures
    ∙ at-end c.loop-block.invariant (rw c.in-Ok-None.field-0-is at c.in-Ok-None.ensures)

pub returns-in-Err : goal.returns-in-Err
returns-in-Err c = ap (λ (r : Replayed). found r c.loop-block.screen) c.told-in-Err.ensures ∙ at-spoilt c.loop-block.invariant c.in-Err.ensures

pub returns-then-ne : goal.returns-then-ne
returns-then-ne c =
    rw c.from.ensures
    (differs c.loop-block.invariant (rw c.in-Ok-Some.field-0-is at c.in-Ok-Some.ensures) c.run-r.ensures
    (differ _ (rw c.from.ensures at c.ne.ensures) c.if-ne.true))

pub slice_bounds-rest-count : goal.slice_bounds-rest-count
slice_bounds-rest-count c = (further c.loop-block.invariant (rw c.in-Ok-Some.field-0-is at c.in-Ok-Some.ensures) c.run-r.ensures).1

pub slice_bounds-rest-start : goal.slice_bounds-rest-start
slice_bounds-rest-start c = (further c.loop-block.invariant (rw c.in-Ok-Some.field-0-is at c.in-Ok-Some.ensures) c.run-r.ensures).1

pub loop-block-smaller : goal.loop-block-smaller
loop-block-smaller c =
    let on = further c.loop-block.invariant (rw c.in-Ok-Some.field-0-is at c.in-Ok-Some.ensures) c.run-r.ensures in
    omega (arith, on.0, on.1, length-take {A = ℕ}, length-drop {A = ℕ})

pub loop-block-preserved : goal.loop-block-preserved
loop-block-preserved c =
    rw part_to_end
    (goes_on c.loop-block.invariant (rw c.in-Ok-Some.field-0-is at c.in-Ok-Some.ensures) c.run-r.ensures
    (agree _ (rw c.from.ensures at c.ne.ensures) c.if-ne.false))
