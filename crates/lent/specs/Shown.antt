-- What is seen of an opcode from outside: what `player` says of any player, at this one.
use Rattle.std.specs.Prelude.{Ok, Err}
use Rattle.numbers.specs.declared.place.WordIndex.{WordIndex}
use Rattle.player.specs.Shown as AnyPlayer
use Rattle.player.specs.declared.Verdict.{Verdict}
use Rattle.player.specs.declared.State.TheVariants.{Stopped}
use Rattle.player.specs.Player.{Outcome}
use Rattle.player.specs.Shown.{halted}
use Rattle.rules.specs.declared.opcode.Operands.{Operands}
use Rattle.rules.specs.Environment.{Env, goto, stated, frame}
use Rattle.rules.specs.Opcodes.{Rule}
use Rattle.rules.specs.Step.{carried}
use Rattle.fetch.specs.Stages.{Taken}

abbrev pub Shown : Type 0
Shown = AnyPlayer.Shown Env

abbrev pub Upshot : Type 0
Upshot = AnyPlayer.Upshot

-- a refusal stops the environment and changes no other part of it
abbrev pub stop : Verdict → Env → Env
stop v e = stated (Stopped v) e

abbrev pub seen : Upshot → Env → Shown
seen u e = AnyPlayer.seen frame u e

abbrev pub shown : Outcome Env → Env → Shown
shown o e = AnyPlayer.shown o e

-- a rule carried out, with the next opcode at an index
unfoldable pub does : (Env → Rule) → WordIndex → Env → Shown
does rule next e = shown (carried (rule (goto next e)) e) e

-- the same by what was taken
unfoldable pub answers : Taken → (Operands → Env → Rule) → Env → Shown
answers (Err v) rule e = halted v e
answers (Ok f) rule e = does (rule f.operands) f.next e
