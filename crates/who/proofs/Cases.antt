-- T-08 on a screen of 5 x 3, worked out by hand: two lines that share a corner, in the same colour.
use mathlib.Core.Path.{◌≡◌, refl}
use mathlib.Core.List.{List, [], ◌∷◌, map}
use Prim.Native.Nat.{ℕ}
use lib.IntN.{ℤ, pos, negsuc}
use Rattle.numbers.specs.Number.{signed32, signed16, low32}
use Rattle.numbers.specs.Coordinate.{in_word}
use Rattle.raster.specs.Shapes.{some_below}
use Rattle.raster.specs.Frame.{drawable}
use Rattle.lines.specs.Line.{line, side}
use Rattle.player.specs.Run.{trace}
use Rattle.player.specs.Door.{door_of}
use Rattle.player.specs.Player.{verdict}
use Rattle.player.specs.declared.State.TheVariants.{Stopped}
use Rattle.player.specs.Writing.{writer}
use Rattle.rules.specs.Table.{form_of}
use Rattle.rules.specs.Environment.{Env, stated}
use Rattle.rules.specs.Step.{carried, step}
use Rattle.rules.specs.Door.{door}
use Rattle.rules.specs.Fresh.{fresh}
use Rattle.who.specs.declared.Writer.{Writer}
use Rattle.who.specs.Who.{saying, who}

-- the pane is column x to 4
abbrev e : ℕ → Env
e x = fresh (record { width = 5; height = 3; pane = record { left = x; top = 0; right = 4; bottom = 2 } })

-- from (0, 0) to (4, 2), at word 6 from (0, 0) to (0, 2), at word 12 the end
abbrev list : List ℕ
list = 0x0074 ∷ 0 ∷ 0 ∷ 0 ∷ 4 ∷ 2 ∷ 0x0074 ∷ 0 ∷ 0 ∷ 0 ∷ 0 ∷ 2 ∷ 0x0001 ∷ []

-- the same, stopped by a word that is no opcode
abbrev broken : List ℕ
broken = 0x0074 ∷ 0 ∷ 0 ∷ 0 ∷ 4 ∷ 2 ∷ 0xFFFF ∷ []

pub record Case : Type 0 where
  pub list : List ℕ
  pub env : Env
  pub budget : ℕ
  pub x : ℤ
  pub y : ℤ

abbrev answered : Case → Writer
answered c = who c.list c.env c.budget (record { x = c.x; y = c.y })

abbrev by : ℕ → ℕ → Writer
by k i = record { number = 0; colour = 15; step = k; opcode = record { 0 = i } }

pub all-cases : map answered (
    record { list = list; env = e 0; budget = 9; x = pos 0; y = pos 0 } ∷  -- both wrote it, in one colour: the later one
    record { list = list; env = e 0; budget = 1; x = pos 0; y = pos 0 } ∷  -- the budget ends before that
    record { list = list; env = e 0; budget = 9; x = pos 2; y = pos 1 } ∷
    record { list = list; env = e 0; budget = 9; x = pos 0; y = pos 2 } ∷
    record { list = list; env = e 0; budget = 9; x = pos 4; y = pos 0 } ∷  -- nobody did
    record { list = list; env = e 1; budget = 9; x = pos 0; y = pos 0 } ∷  -- outside the pane nobody writes
    record { list = list; env = e 0; budget = 0; x = pos 0; y = pos 0 } ∷  -- nothing is carried out
    record { list = broken; env = e 0; budget = 9; x = pos 4; y = pos 2 } ∷  -- what comes before a refusal stands
    record { list = list; env = stated (Stopped (verdict 20)) (e 0); budget = 9; x = pos 0; y = pos 0 } ∷  -- a stopped environment
    record { list = list; env = e 0; budget = 9; x = pos 5; y = pos 0 } ∷  -- outside the screen
    record { list = list; env = e 0; budget = 9; x = negsuc 0; y = pos 0 } ∷
    record { list = list; env = e 0; budget = 1000001; x = negsuc 0; y = pos 0 } ∷  -- 14 comes before 25
    record { list = list; env = e 5; budget = 1000001; x = negsuc 0; y = pos 0 } ∷  -- and 12 before both
    [])
    ≡ by 2 6 ∷ by 1 0 ∷ by 1 0 ∷ by 2 6 ∷ saying 0 ∷ saying 0 ∷ saying 0 ∷ by 1 0 ∷ saying 0 ∷ saying 25 ∷ saying 25 ∷ saying 14 ∷ saying 12 ∷ []
unfolding signed32 signed16 low32 in_word some_below drawable line side form_of carried step door_of door trace writer who
all-cases = refl
