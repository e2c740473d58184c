-- Each opcode has a tint, told by its word index: the machine of the rules whose opcodes paint in their tints.
use Rattle.std.specs.Prelude.{ℕ, ◌+◌, ◌*◌, ◌%◌, ◌≡◌, List}
use Rattle.numbers.specs.declared.place.WordIndex.{WordIndex}
use Rattle.player.specs.Player.{Player}
use Rattle.player.specs.Hosted.{Hosted, answered}
use Rattle.player.specs.Tinted.{tinted}
use Rattle.rules.specs.declared.environment.Env as Held
use Rattle.rules.specs.declared.answer.Answer as Came
use Rattle.rules.specs.Environment.{Env, held}
use Rattle.rules.specs.Step.{afgis}
use Rattle.rules.specs.Door.{door, said}

-- 16 to 255; opcodes that are less than 240 words apart differ
abbrev pub tint : WordIndex → ℕ
tint i = 16 + i.0 * 149 % 240

abbrev pub tint_at : Env → ℕ
tint_at e = tint e.flow.counter

abbrev pub hued : List ℕ → Player Env
hued w = tinted tint_at (afgis w)

abbrev pub machine : Hosted
machine = record { Env = Env; Words = List ℕ; bounds = λ e. e.bounds; door = door; player = hued }

-- what a tinted run promises: its answer, with the screen that it leaves, is that machine's whole answer
abbrev pub Promise : List ℕ → List ℕ → Held.Env → ℕ → Came.Answer → List ℕ → Type 0
Promise w s e budget a t = said a t ≡ answered machine (record { list = w; budget = budget }) (held e) s
