-- Document 02, T-08, who painted this dot: the whole answer.
use Rattle.std.specs.Prelude.{ℕ, zero, suc, ◌*◌, ◌≡◌, List}
use Rattle.raster.specs.declared.dots.Dot.{Dot}
use Rattle.raster.specs.Frame.{on_screen}
use Rattle.player.specs.Run.{trace}
use Rattle.player.specs.Hosted.{Request}
use Rattle.player.specs.Door.{unless}
use Rattle.player.specs.Writing.{writer, told}
use Rattle.rules.specs.declared.environment.Env as Held
use Rattle.rules.specs.Environment.{Env, held}
use Rattle.rules.specs.Step.{afgis}
use Rattle.rules.specs.Door as Door
use Rattle.who.specs.declared.Writer.{Writer}

-- no screen is lent: the door of a run on a screen of just the environment's size, so that 11 is not given
abbrev pub door : Request (List ℕ) → Env → ℕ
door q e = Door.door q e (e.bounds.width * e.bounds.height)

-- a number, or else another
abbrev pub or_then : ℕ → ℕ → ℕ
or_then zero n = n
or_then (suc m) n = suc m

-- 10, 12, 13 or 14, then 25 for a dot outside the screen, else 0
abbrev pub number_of : Request (List ℕ) → Env → Dot → ℕ
number_of q e d = or_then (door q e) (unless 25 (on_screen e.bounds d.x d.y) 0)

-- a number, and nobody named
abbrev pub saying : ℕ → Writer
saying n = record { number = n; colour = 0; step = 0; opcode = record { 0 = 0 } }

-- the step of number k, which began with the environment e, so at its opcode's word index, and painted in the colour c
abbrev pub naming : ℕ → Env → ℕ → Writer
naming k e c = record { number = 0; colour = c; step = k; opcode = e.flow.counter }

-- of the opcodes that a run carries out, counted from 1, the last that wrote the dot
abbrev pub found : List ℕ → Env → ℕ → Dot → Writer
found w e budget d = told naming (saying 0) (writer 1 (trace (afgis w) budget e) d)

abbrev pub answer : ℕ → Writer → Writer
answer zero f = f
answer (suc n) f = saying (suc n)

unfoldable pub who : List ℕ → Env → ℕ → Dot → Writer
who w e budget d = answer (number_of (record { list = w; budget = budget }) e d) (found w e budget d)

-- what is promised of any list, environment, budget and dot
abbrev pub Promise : List ℕ → Held.Env → ℕ → Dot → Writer → Type 0
Promise w e budget d r = r ≡ who w (held e) budget d
