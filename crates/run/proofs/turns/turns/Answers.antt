-- `turns`: the run from the start is the run from here, with what is left of the budget.
use Rattle.std.proofs.Common.{refl, arith}
use Rattle.player.proofs.Turning.{Turned}
use Rattle.rules.specs.Step.{afgis}
use Rattle.lent.specs.Lent.{look}
use Rattle.step.specs.Steps.{came}
use Rattle.run.specs.Inks.{inked}
use Rattle.run.proofs.Inks.{quiet-in, painted-in}
use Rattle.run.proofs.Going.{began, rests, spent, refuses, may-paint, went_on}
use Rattle.run.proofs.turns.turns.Goals.{then-painted, else-painted}
use Rattle.run.proofs.turns.turns.Goals as goal

pub returns-then-registers-ne0 : goal.returns-then-registers-ne0
returns-then-registers-ne0 g c = rests (began (g.I.Ink.hue c.args.ink.now) c.args.budget c.requires) c.if-registers-ne0.true

pub loop-steps-init : goal.loop-steps-init
loop-steps-init g c = (began (g.I.Ink.hue c.args.ink.now) c.args.budget c.requires, c.if-registers-ne0.false)

pub paint-requires : goal.paint-requires
paint-requires g c =
    let z = c.step.new in
    let i = c.loop-steps.invariant in
    may-paint i.0 i.1 (came c.step.result z.brush) z.registers z.vars z.stack c.step.ensures {p = z.brush} (rw (c.in-Ok.is, c.if-painted.true) refl) refl (c.frame.ensures z.vars z.stack)

pub returns-in-Err : goal.returns-in-Err
returns-in-Err g c =
    let z = c.step.new in
    let i = c.loop-steps.invariant in
    refuses i.0 i.1 (came c.step.result z.brush) z.registers z.vars z.stack c.step.ensures (rw c.in-Err.is refl) c.stop.ensures c.loop-steps-test.true

pub returns-then-registers-ne0-2 : goal.returns-then-registers-ne0-2
returns-then-registers-ne0-2 g c =
    let a = c.args in
    let z = c.step.new in
    let i = c.loop-steps in
    let h = g.I.Ink.hue a.ink.now in
    let e = look a.b i.registers i.vars i.stack in
    let e₁ = look a.b z.registers z.vars z.stack in
    let turned : Turned (inked h (afgis a.words.now)) e i.screen e₁ c.if-painted.screen = elim c.if-painted.branch [
      | then-painted w ↦ painted-in h a.words.now e (came c.step.result z.brush) e₁ (c.step.ensures a.b) {p = z.brush} w.dipped.result (rw (c.in-Ok.is, w.if-painted.true) refl) refl
          w.dipped.ensures.figure w.dipped.ensures.colour (w.frame.ensures z.vars z.stack) w.screen-is w.paint.ensures
      | else-painted w ↦ quiet-in h a.words.now e (came c.step.result z.brush) e₁ (c.step.ensures a.b) (rw (c.in-Ok.is, w.if-painted.false) refl) refl w.screen-is
    ] in
    rests (went_on i.invariant.0 i.invariant.1 (came c.step.result z.brush) z.registers z.vars z.stack c.step.ensures turned c.loop-steps-test.true) c.if-registers-ne0-2.true

pub loop-steps-preserved : goal.loop-steps-preserved
loop-steps-preserved g c =
    let a = c.args in
    let z = c.step.new in
    let i = c.loop-steps in
    let h = g.I.Ink.hue a.ink.now in
    let e = look a.b i.registers i.vars i.stack in
    let e₁ = look a.b z.registers z.vars z.stack in
    let turned : Turned (inked h (afgis a.words.now)) e i.screen e₁ c.if-painted.screen = elim c.if-painted.branch [
      | then-painted w ↦ painted-in h a.words.now e (came c.step.result z.brush) e₁ (c.step.ensures a.b) {p = z.brush} w.dipped.result (rw (c.in-Ok.is, w.if-painted.true) refl) refl
          w.dipped.ensures.figure w.dipped.ensures.colour (w.frame.ensures z.vars z.stack) w.screen-is w.paint.ensures
      | else-painted w ↦ quiet-in h a.words.now e (came c.step.result z.brush) e₁ (c.step.ensures a.b) (rw (c.in-Ok.is, w.if-painted.false) refl) refl w.screen-is
    ] in
    (went_on i.invariant.0 i.invariant.1 (came c.step.result z.brush) z.registers z.vars z.stack c.step.ensures turned c.loop-steps-test.true, c.if-registers-ne0-2.false)

pub returns : goal.returns
returns g c = spent c.loop-steps.invariant.0 (omega (arith, c.loop-steps-test.false, c.loop-steps.auto.steps-end))
