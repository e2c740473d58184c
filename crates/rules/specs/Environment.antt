-- Document 01, 'What a call is given', and document 02, T-03, T-06 and T-09: the environment, and what the program's struct stands for.
-- A variable and a compared value are their 32 bits; `signed32` of numbers is their value. Coordinates are whole numbers.
use Rattle.std.specs.Prelude.{ℕ, zero, suc, ◌-◌, Bool, cond, ◌&&◌, List, [], ◌∷◌, ◌++◌, length, take, set, get_or, eqb}
use Rattle.player.specs.Player.{fault, verdict}
use Rattle.numbers.specs.Place.{past}
use Rattle.rules.specs.Types.{VarNo, WordIndex, Bounds, Window, Frame, Dot, Verdict, State, Running, Ended, Stopped, Registers, Repeat}
use Rattle.rules.specs.declared.environment.Env as Held

-- how is drawn
pub record Pen : Type 0 where
  pub position : Dot  -- relative to the origin
  pub origin : Dot  -- the logical origin
  pub colour : ℕ  -- the foreground colour
  pub pattern : ℕ  -- the line pattern, 32 bits
  pub mode : ℕ  -- the clip mode
  pub window : Window  -- the clip window

-- where the list goes on
pub record Flow : Type 0 where
  pub counter : WordIndex  -- the program counter
  pub stack : List WordIndex  -- the stacked return indices, the last one at the end
  pub repeats : List Repeat  -- the open repeats, the innermost at the end
  pub first : ℕ  -- the two values last compared
  pub second : ℕ

pub record Env : Type 0 where
  pub bounds : Bounds  -- screen width and height, and the pane
  pub variables : List ℕ  -- V0 to V63
  pub pen : Pen
  pub flow : Flow
  pub state : State

abbrev pub env : Bounds → List ℕ → Pen → Flow → State → Env
env b vs p f q = record { bounds = b; variables = vs; pen = p; flow = f; state = q }

-- the index of the list's first word
abbrev pub start : WordIndex
start = record { 0 = 0 }

-- a repeat whose block begins at an index, with so many passes left; and one at the list's start with none
abbrev pub repeat : WordIndex → ℕ → Repeat
repeat i n = record { start = i; left = n }

abbrev pub over : Repeat
over = repeat start 0

-- ---- the environment with one part changed
abbrev pub penned : Pen → Env → Env
penned p e = env e.bounds e.variables p e.flow e.state

abbrev pub flowed : Flow → Env → Env
flowed f e = env e.bounds e.variables e.pen f e.state

abbrev pub stated : State → Env → Env
stated q e = env e.bounds e.variables e.pen e.flow q

-- ---- with one thing changed
abbrev pub put : VarNo → ℕ → Env → Env
put d v e = env e.bounds (set e.variables d.0 v) e.pen e.flow e.state

abbrev pub moved : Dot → Env → Env
moved p e = let k = e.pen in penned (record { position = p; origin = k.origin; colour = k.colour; pattern = k.pattern; mode = k.mode; window = k.window }) e

abbrev pub based : Dot → Env → Env
based o e = let k = e.pen in penned (record { position = k.position; origin = o; colour = k.colour; pattern = k.pattern; mode = k.mode; window = k.window }) e

abbrev pub coloured : ℕ → Env → Env
coloured c e = let k = e.pen in penned (record { position = k.position; origin = k.origin; colour = c; pattern = k.pattern; mode = k.mode; window = k.window }) e

abbrev pub patterned : ℕ → Env → Env
patterned o e = let k = e.pen in penned (record { position = k.position; origin = k.origin; colour = k.colour; pattern = o; mode = k.mode; window = k.window }) e

abbrev pub clipped : ℕ → Env → Env
clipped m e = let k = e.pen in penned (record { position = k.position; origin = k.origin; colour = k.colour; pattern = k.pattern; mode = m; window = k.window }) e

abbrev pub windowed : Window → Env → Env
windowed w e = let k = e.pen in penned (record { position = k.position; origin = k.origin; colour = k.colour; pattern = k.pattern; mode = k.mode; window = w }) e

abbrev pub goto : WordIndex → Env → Env
goto i e = let k = e.flow in flowed (record { counter = i; stack = k.stack; repeats = k.repeats; first = k.first; second = k.second }) e

-- n words further on
abbrev pub onward : ℕ → Env → Env
onward n e = goto (past e.flow.counter n) e

abbrev pub stacked : List WordIndex → Env → Env
stacked st e = let k = e.flow in flowed (record { counter = k.counter; stack = st; repeats = k.repeats; first = k.first; second = k.second }) e

abbrev pub repeating : List Repeat → Env → Env
repeating rs e = let k = e.flow in flowed (record { counter = k.counter; stack = k.stack; repeats = rs; first = k.first; second = k.second }) e

abbrev pub compared : ℕ → ℕ → Env → Env
compared a b e = let k = e.flow in flowed (record { counter = k.counter; stack = k.stack; repeats = k.repeats; first = a; second = b }) e

-- one return more on the stack, one less, and the last one
abbrev pub pushed : WordIndex → Env → Env
pushed i e = stacked (e.flow.stack ++ (i ∷ [])) e

abbrev pub popped : Env → Env
popped e = stacked (take (length e.flow.stack - 1) e.flow.stack) e

abbrev pub top : Env → WordIndex
top e = get_or e.flow.stack (length e.flow.stack - 1) start

-- one open repeat more, the innermost closed, and the innermost
abbrev pub opened : Repeat → Env → Env
opened r e = repeating (e.flow.repeats ++ (r ∷ [])) e

abbrev pub closed : Env → Env
closed e = repeating (take (length e.flow.repeats - 1) e.flow.repeats) e

abbrev pub innermost : Env → Repeat
innermost e = get_or e.flow.repeats (length e.flow.repeats - 1) over

-- what may be drawn on, and from where: screen and pane, origin, mode and window
abbrev pub frame : Env → Frame
frame e = record { bounds = e.bounds; origin = e.pen.origin; mode = e.pen.mode; window = e.pen.window }

-- ---- what the program's struct stands for

-- this number, and the place 0
abbrev pub carries0 : Verdict → ℕ → Bool
carries0 v n = eqb v.number n && eqb v.place.0 0

-- 0 running and 1 ended, both with the place 0; any other number and place stopped with them
unfoldable pub state_of : Verdict → State
state_of v = cond (carries0 v 0) Running (cond (carries0 v 1) Ended (Stopped v))

-- what a state is kept as
abbrev pub kept : State → Verdict
kept Running = verdict 0
kept Ended = verdict 1
kept (Stopped v) = v

-- the first n of a list, and d for each that it lacks: so n is the length, whatever the list
unfoldable pub firsts : {A : Type 0} → A → ℕ → List A → List A
firsts d zero xs = []
firsts d (suc n) [] = d ∷ firsts d n []
firsts d (suc n) (x ∷ xs) = x ∷ firsts d n xs

abbrev pub pen_of : Registers → Pen
pen_of r = record { position = r.position; origin = r.origin; colour = r.colour; pattern = r.pattern; mode = r.mode; window = r.window }

-- what lies past the last return stacked and past the last repeat open, of n, is no part of it
abbrev pub flow_of : Registers → List WordIndex → ℕ → List Repeat → Flow
flow_of r st n rs = record { counter = r.counter; stack = firsts start r.depth st; repeats = firsts over n rs; first = r.first; second = r.second }

abbrev pub view : Bounds → Registers → List ℕ → List WordIndex → ℕ → List Repeat → Env
view b r vs st n rs = env b vs (pen_of r) (flow_of r st n rs) (state_of (fault r.state r.place))

abbrev pub held : Held.Env → Env
held e = view e.bounds e.registers e.variables e.stack e.nesting e.repeats
