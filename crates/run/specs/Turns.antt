-- What a run of opcodes asks and promises, of what the program holds.
use Rattle.std.specs.Prelude.{ℕ, ◌*◌, ◌≤◌, ◌≡◌, true, List, length}
use Rattle.raster.specs.declared.frame.Bounds.{Bounds}
use Rattle.player.specs.Run.{Answer, answer}
use Rattle.player.specs.Shown.{verdict_of}
use Rattle.rules.specs.declared.environment.Registers.{Registers}
use Rattle.rules.specs.Environment.{Env}
use Rattle.rules.specs.Door.{size_fits, fits}
use Rattle.lent.specs.declared.Stack.{Stack}
use Rattle.lent.specs.Lent.{look}

-- what the door establishes, and every opcode leaves
pub record Ready (w : List ℕ) (b : Bounds) (r : Registers) (vs : List ℕ) (st : Stack) (s : List ℕ) : Type 0 where
  pub few : length w ≤ 65536
  pub size : size_fits b ≡ true
  pub ranges : fits (look b r vs st) ≡ true
  pub area : length s ≡ b.width * b.height

-- what a run of opcodes left, as an answer
abbrev pub left : Env → List ℕ → ℕ → Answer Env
left e s k = answer (verdict_of e.state) e s k
