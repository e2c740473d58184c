-- What one opcode asks and promises, of what the program holds.
use Rattle.std.specs.Prelude.{ℕ, ◌≤◌, ◌≡◌, Bool, true, false, List, length, Option, Some, None, Result, Ok, Err}
use Rattle.raster.specs.declared.frame.Bounds.{Bounds}
use Rattle.brush.specs.declared.Brush.{Brush}
use Rattle.player.specs.declared.Verdict.{Verdict}
use Rattle.player.specs.Player.{fault}
use Rattle.player.specs.Shown.{halted}
use Rattle.rules.specs.declared.environment.Registers.{Registers}
use Rattle.rules.specs.Meaning.{Meaning, Unknown, Known}
use Rattle.rules.specs.Opcodes.{rule}
use Rattle.rules.specs.Step.{step}
use Rattle.rules.specs.Door.{fits}
use Rattle.lent.specs.declared.Stack.{Stack}
use Rattle.lent.specs.Lent.{look}
use Rattle.fetch.specs.Stages.{taken_of}
use Rattle.lent.specs.Shown.{Upshot, seen, shown, answers}
use Rattle.lent.specs.Leaves.{Showing}

-- what the opcode at pc must show, by what it means
unfoldable pub shows : Meaning → List ℕ → ℕ → List ℕ → Showing
shows Unknown w pc vs = λ e. halted (fault 21 (record { 0 = pc })) e
shows (Known op source) w pc vs = answers (taken_of source w pc vs) (λ o. rule op o (length w))

-- what the door establishes, and every opcode leaves: with some size and pane, all is in range
pub record Able (w : List ℕ) (r : Registers) (vs : List ℕ) (st : Stack) : Type 0 where
  pub few : length w ≤ 65536
  pub bounds : Bounds
  pub ranges : fits (look bounds r vs st) ≡ true

-- what came back from one opcode is what the rules say, with all that is lent before and after, whatever the size and the pane
abbrev pub Steps : Upshot → List ℕ → Registers → List ℕ → Stack → Registers → List ℕ → Stack → Type 0
Steps u w r vs st r' vs' st' = (b : Bounds) → seen u (look b r' vs' st') ≡ shown (step w (look b r vs st)) (look b r vs st)

-- what an answer, with the brush that is left, comes to
abbrev pub came : Result Bool Verdict → Brush → Upshot
came (Ok true) p = Ok (Some p)
came (Ok false) p = Ok None
came (Err v) p = Err v
