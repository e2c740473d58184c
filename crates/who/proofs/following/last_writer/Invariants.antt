-- `last_writer`: after k opcodes it has named who wrote the dot last among them, and the rest of the run may name a later one.
use Rattle.std.proofs.Common.{◌≡◌, ℕ, suc, ◌-◌, List}
use Rattle.raster.specs.declared.frame.Bounds.{Bounds}
use Rattle.raster.specs.declared.dots.Dot.{Dot}
use Rattle.player.proofs.Writings as Writings
use Rattle.rules.specs.declared.environment.Registers.{Registers}
use Rattle.rules.specs.Environment.{Env}
use Rattle.rules.specs.Step.{afgis}
use Rattle.lent.specs.declared.Stack.{Stack}
use Rattle.lent.specs.Lent.{look}
use Rattle.who.specs.declared.Writer.{Writer}
use Rattle.who.specs.Who.{naming, found}
use Rattle.who.specs.Following.{Ready, pixel}
use Rattle.who.proofs.following.last_writer.Given as goal

-- of a run that began with e, k opcodes are carried out, and r is named of them
pub record Going (w : List ℕ) (b : Bounds) (e : Env) (budget : ℕ) (d : Dot) (g : Registers) (vs : List ℕ) (st : Stack) (r : Writer) (k : ℕ) : Type 0 where
  pub ready : Ready w b g vs st
  pub same : found w e budget d ≡ Writings.rest naming (afgis w) d r (suc k) (budget - k) (look b g vs st)

-- where the loop is, the state runs
abbrev pub invariant-loop-steps : goal.invariant-loop-steps
invariant-loop-steps l =
    Going l.words l.b (look l.b l.initial.registers l.initial.vars l.initial.stack) l.budget (pixel l.d.column l.d.row)
    l.registers l.vars l.stack l.writer l.steps
    × (l.registers.state ≡ 0)
