-- A player whose opcodes paint in the colours of an ink, told by the opcode's word index and its own colour, and do all else alike.
use Rattle.std.specs.Prelude.{ℕ, List}
use Rattle.numbers.specs.declared.place.WordIndex.{WordIndex}
use Rattle.player.specs.Player.{Outcome, done, refused, Player}
use Rattle.player.specs.Tinted.{in_colour}
use Rattle.player.specs.Hosted.{Hosted}
use Rattle.rules.specs.Environment.{Env}
use Rattle.rules.specs.Step.{afgis}
use Rattle.rules.specs.Door.{door}

abbrev pub Hue : Type 0
Hue = WordIndex → ℕ → ℕ

abbrev pub outcome_by : (ℕ → ℕ) → Outcome Env → Outcome Env
outcome_by h (done e' p) = done e' (in_colour (h p.colour) p)
outcome_by h (refused v) = refused v

abbrev pub inked : Hue → Player Env → Player Env
inked h P = record { state = P.state; stop = P.stop; step = λ e. outcome_by (h e.flow.counter) (P.step e) }

-- the machine of the rules, in such colours
abbrev pub machine : Hue → Hosted
machine h = record { Env = Env; Words = List ℕ; bounds = λ e. e.bounds; door = door; player = λ w. inked h (afgis w) }
