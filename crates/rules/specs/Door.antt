-- Document 01, the ranges of 'What a call is given' with those of document 02, and 10 to 14 of 'Numbers that come back': the door, and the whole answer of a call.
use Rattle.std.specs.Prelude.{ℕ, ◌≡◌, Bool, true, ◌&&◌, List, [], ◌∷◌, length, leb}
use Rattle.numbers.specs.Coordinate.{in_word}
use Rattle.player.specs.Player.{fault}
use Rattle.player.specs.Run.{Answer, answer}
use Rattle.player.specs.Hosted.{Request, Hosted, answered}
use Rattle.player.specs.Door.{door_of}
pub use Rattle.player.specs.Door.{between, size_fits, pane_fits}
use Rattle.rules.specs.Types.{WordIndex, Window, Repeat, State, Running, Ended, Stopped}
use Rattle.rules.specs.declared.environment.Env as Held
use Rattle.rules.specs.declared.answer.Answer as Came
use Rattle.rules.specs.Environment.{Pen, Flow, Env, held}
pub use Rattle.rules.specs.Opcodes.{dot_fits, countable}
use Rattle.rules.specs.Step.{afgis}

-- ---- ranges: those of size and pane, and the order of 10 to 14, are every player's

-- four signed words
abbrev pub window_fits : Window → Bool
window_fits w = in_word w.x0 && in_word w.y0 && (in_word w.x1 && in_word w.y1)

-- a word index, 0 to 65,536
abbrev pub index_fits : WordIndex → Bool
index_fits i = leb i.0 65536

-- a word index and 1 to 1,000 passes left
abbrev pub repeat_fits : Repeat → Bool
repeat_fits r = index_fits r.start && countable r.left

-- each of a list
abbrev pub every : {A : Type 0} → (A → Bool) → List A → Bool
every t [] = true
every t (x ∷ xs) = t x && every t xs

-- at most 16 stacked return indices, and at most eight open repeats
abbrev pub stack_fits : List WordIndex → Bool
stack_fits st = leb (length st) 16 && every index_fits st

abbrev pub repeats_fit : List Repeat → Bool
repeats_fit rs = leb (length rs) 8 && every repeat_fits rs

-- running, ended, or stopped with a number 20 to 29 at a place 0 to 65,536
abbrev pub state_fits : State → Bool
state_fits Running = true
state_fits Ended = true
state_fits (Stopped v) = between 20 29 v.number && index_fits v.place

-- position, origin and window are signed words, the clip mode is 0 to 2; any colour and any pattern is in range by its type
abbrev pub pen_fits : Pen → Bool
pen_fits p = dot_fits p.position && (dot_fits p.origin && (leb p.mode 2 && window_fits p.window))

-- compared values are in range by their types
abbrev pub flow_fits : Flow → Bool
flow_fits f = index_fits f.counter && (stack_fits f.stack && repeats_fit f.repeats)

-- every field but the size; variables are in range by their types
abbrev pub fits : Env → Bool
fits e = pane_fits e.bounds && (pen_fits e.pen && (flow_fits e.flow && state_fits e.state))

-- ---- the door: the lowest of 10 to 14 that applies, or 0, of a list and a budget, an environment, and the bytes of the screen counted
unfoldable pub door : Request (List ℕ) → Env → ℕ → ℕ
door q e bytes = door_of q e.bounds (fits e) bytes

-- ---- the whole answer of a call: refused at the door, all as it was, or run
abbrev pub machine : Hosted
machine = record { Env = Env; Words = List ℕ; bounds = λ e. e.bounds; door = door; player = afgis }

abbrev pub whole : List ℕ → List ℕ → Env → ℕ → Answer Env
whole w s e budget = answered machine (record { list = w; budget = budget }) e s

-- what a run promises: its answer, with the screen that it leaves, is the whole answer
abbrev pub said : Came.Answer → List ℕ → Answer Env
said a s = answer (fault a.number a.place) (held a.env) s a.steps

abbrev pub Promise : List ℕ → List ℕ → Held.Env → ℕ → Came.Answer → List ℕ → Type 0
Promise w s e budget a t = said a t ≡ whole w s (held e) budget
