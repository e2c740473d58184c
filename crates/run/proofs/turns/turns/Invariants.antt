-- `turns`: the run from the start is the run from here, with what is left of the budget.
use mathlib.Core.Path.{◌≡◌}
use Rattle.lent.specs.Lent.{look}
use Rattle.run.proofs.Going.{Going}
use Rattle.run.proofs.turns.turns.Given as goal

-- where the loop is, the state runs
abbrev pub invariant-loop-steps : goal.invariant-loop-steps
invariant-loop-steps g l =
    let e₀ = look l.b l.initial.registers l.initial.vars l.initial.stack in
    Going (g.I.Ink.hue l.ink) l.words l.b e₀ l.initial.screen l.budget l.registers l.vars l.stack l.screen l.steps × (l.registers.state ≡ 0)
