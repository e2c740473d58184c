-- Document 01, 'Cases, whole answers': the starred cases with their variants, as one table of whole answers; some edges; the places of 23; the seven conditions; and document 02's circles, dashed lines, origins and repeats.
use Prim.Native.Nat.{ℕ, ◌+◌, ◌-◌, ◌*◌, ◌^◌}
use mathlib.Core.Path.{◌≡◌, refl}
use mathlib.Core.List.{List, [], ◌∷◌, map}
use lib.IntN.{pos}
use lib.ListN.{replicate}
use Rattle.numbers.specs.Number.{signed32, signed16, low32, sum32, quotient32, remainder32}
use Rattle.numbers.specs.Coordinate.{in_word, is_radius}
use Rattle.numbers.specs.Place.{word_of, index_of}
use Rattle.raster.specs.Shapes.{some_below}
use Rattle.raster.specs.Frame.{drawable}
use Rattle.raster.specs.Paint.{recolour_from, paint}
use Rattle.lines.specs.Line.{line, side}
use Rattle.lines.specs.Dashes.{bit, dashed}
use Rattle.circles.specs.Circle.{disc, outline}
use Rattle.player.specs.Player.{fault, verdict}
use Rattle.player.specs.Run.{Answer, answer, runs}
use Rattle.player.specs.Hosted.{answered}
use Rattle.player.specs.Door.{door_of}
use Rattle.rules.specs.Types.{Bounds, Repeat, Running, Ended, Stopped}
use Rattle.rules.specs.Table.{form_of}
use Rattle.rules.specs.Conditions.{allowed, met}
use Rattle.rules.specs.Environment.{Env, env, start, put, moved, based, patterned, clipped, windowed, goto, stacked, repeat, repeating, stated, compared}
use Rattle.rules.specs.Step.{carried, step}
use Rattle.rules.specs.Door.{door, whole}
use Rattle.rules.specs.Fresh.{fresh}

-- a screen of 5 x 3, its pane from column x on
abbrev pub bounds : ℕ → Bounds
bounds x = record { width = 5; height = 3; pane = record { left = x; top = 0; right = 4; bottom = 2 } }

abbrev pub e₀ : Env
e₀ = fresh (bounds 0)

abbrev pub e₂ : Env
e₂ = fresh (bounds 2)

abbrev pub blank : List ℕ
blank = replicate 15 0

-- ---- what is wanted: the counter at word n, Vn with a value, stopped with a number at a place, ended at word n, and a variable's bits where its value is -n
abbrev pub at : ℕ → Env → Env
at n e = goto (record { 0 = n }) e

abbrev pub var : ℕ → ℕ → Env → Env
var n v e = put (record { 0 = n }) v e

abbrev pub stopped : ℕ → ℕ → Env → Env
stopped n i e = stated (Stopped (fault n (record { 0 = i }))) e

abbrev pub ended : ℕ → Env → Env
ended n e = at n (stated Ended e)

abbrev pub minus : ℕ → ℕ
minus n = 2 ^ 32 - n

-- ---- lists and screens of more than one line

-- V0 = -7 and V1 = 2, and V0 by V1 in an opcode
abbrev pub seven_by_two : ℕ → List ℕ
seven_by_two op = 0x0065 ∷ 0xFFF9 ∷ 0x0000 ∷ 0x0065 ∷ 0x0002 ∷ 0x0001 ∷ op ∷ 0x0001 ∷ 0x0000 ∷ 0x0001 ∷ []

-- a line from (0, 0) to (4, 2), on the whole screen and in the pane from column 2 on
abbrev pub slope : List ℕ
slope = 0x0074 ∷ 0x0000 ∷ 0x0000 ∷ 0x0000 ∷ 0x0004 ∷ 0x0002 ∷ 0x0001 ∷ []

abbrev pub sloped : List ℕ
sloped =
    15 ∷ 0 ∷ 0 ∷ 0 ∷ 0 ∷
    0 ∷ 15 ∷ 15 ∷ 0 ∷ 0 ∷
    0 ∷ 0 ∷ 0 ∷ 15 ∷ 15 ∷ []

abbrev pub sloped_in : List ℕ
sloped_in =
    0 ∷ 0 ∷ 0 ∷ 0 ∷ 0 ∷
    0 ∷ 0 ∷ 15 ∷ 0 ∷ 0 ∷
    0 ∷ 0 ∷ 0 ∷ 15 ∷ 15 ∷ []

-- ---- the cases: the list, the number, the environment and the steps; from e₀ with budget 100, and no dot, unless said. A list that is stopped has its place
-- behind the number, and the environment as it was
pub record Case : Type 0 where
  pub words : List ℕ
  pub env : Env
  pub budget : ℕ
  pub want : Answer Env

abbrev pub case : List ℕ → ℕ → Env → ℕ → Case
case w n e k = record { words = w; env = e₀; budget = 100; want = answer (verdict n) e blank k }

abbrev pub stops : List ℕ → ℕ → ℕ → Env → ℕ → Case
stops w n i e k = record { words = w; env = e₀; budget = 100; want = answer (fault n (record { 0 = i })) (stopped n i e) blank k }

abbrev pub within : ℕ → Case → Case
within b c = record { words = c.words; env = c.env; budget = b; want = c.want }

abbrev pub shows : Env → List ℕ → Case → Case
shows e s c = record { words = c.words; env = e; budget = c.budget; want = answer c.want.verdict c.want.env s c.want.steps }

abbrev pub cases : List Case
cases =
    stops [] 20 0 e₀ 0 ∷  -- 1
    case (0x0001 ∷ []) 0 (ended 1 e₀) 1 ∷  -- 2
    within 0 (case (0x0001 ∷ []) 1 e₀ 0) ∷
    case (0x0066 ∷ 0xFFFF ∷ 0x7FFF ∷ 0x0000 ∷ 0x005D ∷ 0x0000 ∷ 0x0001 ∷ []) 0 (ended 7 (var 0 (minus 2147483648) e₀)) 3 ∷  -- 3
    stops (0x0066 ∷ 0x0000 ∷ 0x0001 ∷ 0x0005 ∷ 0x0083 ∷ 0x0004 ∷ 0x0001 ∷ []) 25 4 (at 4 (var 5 65536 e₀)) 1 ∷  -- 4
    case (seven_by_two 0x0045) 0 (ended 10 (var 0 (minus 3) (var 1 2 e₀))) 4 ∷  -- 5
    case (seven_by_two 0x0081) 0 (ended 10 (var 0 (minus 1) (var 1 2 e₀))) 4 ∷
    stops (0x0045 ∷ 0x0001 ∷ 0x0000 ∷ []) 26 0 e₀ 0 ∷  -- 6
    stops (0x0003 ∷ 0x0040 ∷ 0x0000 ∷ []) 23 1 e₀ 0 ∷  -- 7
    stops (0x0003 ∷ 0x003F ∷ 0x0000 ∷ []) 20 3 (at 3 e₀) 1 ∷
    stops (0x0066 ∷ 0x0000 ∷ []) 22 0 e₀ 0 ∷  -- 8
    shows e₀ sloped (case slope 0 (ended 7 e₀) 2) ∷  -- 9
    shows e₂ sloped_in (case slope 0 (ended 7 e₂) 2) ∷  -- 10
    stops (0x010E ∷ 0xFFFE ∷ []) 28 0 (stacked (replicate 16 (record { 0 = 2 })) e₀) 16 ∷  -- 11
    within 16 (case (0x010E ∷ 0xFFFE ∷ []) 1 (stacked (replicate 16 (record { 0 = 2 })) e₀) 16) ∷
    stops (0x000E ∷ 0x0008 ∷ 0x0000 ∷ []) 27 0 e₀ 0 ∷  -- 12
    []

-- ---- beside document 01's list: where an order or an edge shows

-- the window from (1, 0) to (3, 1), cleared to 7 in mode 1: both corners are inside
abbrev pub cleared : List ℕ
cleared =
    0x0018 ∷ 0x0001 ∷ 0x0000 ∷ 0x0003 ∷ 0x0001 ∷ 0x0016 ∷ 0x0001 ∷ 0x0188 ∷ 0x0007 ∷ 0x0000 ∷ 0x0000 ∷ 0x0001 ∷ []

-- V0 = 2 and V1 = 65,536, and a line of that type from that column: 24 comes before 25
abbrev pub wrong_twice : List ℕ
wrong_twice = 0x0065 ∷ 0x0002 ∷ 0x0000 ∷ 0x0066 ∷ 0x0000 ∷ 0x0001 ∷ 0x0001 ∷ 0x0075 ∷ 0x0000 ∷ []

abbrev pub edges : List Case
edges =
    shows e₀
    (0 ∷ 7 ∷ 7 ∷ 7 ∷ 0 ∷
    0 ∷ 7 ∷ 7 ∷ 7 ∷ 0 ∷
    0 ∷ 0 ∷ 0 ∷ 0 ∷ 0 ∷ [])
    (case cleared 0 (ended 12 (clipped 1 (windowed (record { x0 = pos 1; y0 = pos 0; x1 = pos 3; y1 = pos 1 }) e₀))) 4) ∷
    stops wrong_twice 24 7 (at 7 (var 0 2 (var 1 65536 e₀))) 2 ∷
    []

-- ---- the places of 23: behind a NOOP, the first operand word that names a variable above 63, or one with such followers
abbrev pub misnamed : List ℕ → ℕ → Case
misnamed w i = stops (0x0000 ∷ w) 23 i (at 1 e₀) 1

abbrev pub places : List Case
places =
    misnamed (0x005D ∷ 0x0040 ∷ []) 2 ∷  -- INCV V64
    misnamed (0x0003 ∷ 0x0040 ∷ 0x003F ∷ []) 2 ∷  -- ADVV V64 V63
    misnamed (0x0003 ∷ 0x003F ∷ 0x0040 ∷ []) 3 ∷  -- ADVV V63 V64
    misnamed (0x0003 ∷ 0x0040 ∷ 0x0040 ∷ []) 2 ∷  -- ADVV V64 V64
    misnamed (0x0065 ∷ 0x0040 ∷ 0x0040 ∷ []) 3 ∷  -- LDIV 64 V64
    misnamed (0x0002 ∷ 0x0040 ∷ 0x0040 ∷ 0x0040 ∷ []) 4 ∷  -- ADIV 4194368 V64
    misnamed (0x0019 ∷ 0x003D ∷ []) 2 ∷  -- CLIPWINV V61, so V64
    []

-- ---- the seven conditions, in order of their numbers

-- a value as a word, the high word of it as a long, and its bits in a variable
pub record Value : Type 0 where
  pub word : ℕ
  pub high : ℕ
  pub bits : ℕ

abbrev pub one : Value
one = record { word = 0x0001; high = 0x0000; bits = 1 }

abbrev pub minus_one : Value
minus_one = record { word = 0xFFFF; high = 0xFFFF; bits = minus 1 }

-- V0 = a is compared with b, and JUMPR on condition k goes over a NOOP: the steps tell whether it was taken
abbrev pub jumping : Value → Value → ℕ → ℕ → Case
jumping a b k steps =
    case (0x0065 ∷ a.word ∷ 0x0000 ∷ 0x0033 ∷ b.word ∷ b.high ∷ 0x0000 ∷ 0x010C ∷ k ∷ 0x0001 ∷ 0x0000 ∷ 0x0001 ∷ [])
    0 (ended 12 (compared a.bits b.bits (var 0 a.bits e₀))) steps

abbrev pub taken : ℕ
taken = 4

abbrev pub passed : ℕ
passed = 5

-- condition k where V0 is less, equal and greater
abbrev pub on : ℕ → ℕ → ℕ → ℕ → List Case → List Case
on k less equal greater cs = jumping minus_one one k less ∷ jumping one one k equal ∷ jumping one minus_one k greater ∷ cs

abbrev pub conditions : List Case
conditions =
    on 0x0 taken taken taken  -- always
    (on 0x4 taken passed passed  -- less
    (on 0x5 passed taken taken  -- greater or equal
    (on 0x6 taken taken passed  -- less or equal
    (on 0x7 passed passed taken  -- greater
    (on 0xA passed taken passed  -- equal
    (on 0xB taken passed taken  -- not equal
    []))))))

-- ---- circles around (2, 1)
abbrev pub around : ℕ → ℕ → List ℕ
around op radius = op ∷ 0x0000 ∷ 0x0002 ∷ 0x0001 ∷ radius ∷ 0x0001 ∷ []

abbrev pub one_dot : List ℕ
one_dot =
    0 ∷ 0 ∷ 0 ∷ 0 ∷ 0 ∷
    0 ∷ 0 ∷ 15 ∷ 0 ∷ 0 ∷
    0 ∷ 0 ∷ 0 ∷ 0 ∷ 0 ∷ []

-- the last four by variables from V0 on
abbrev pub circles : List Case
circles =
    shows e₀ one_dot (case (around 0x0012 0x0000) 0 (ended 6 e₀) 2) ∷  -- CIR, radius 0
    shows e₀ one_dot (case (around 0x0014 0x0000) 0 (ended 6 e₀) 2) ∷  -- CIRS
    shows e₀  -- CIR, radius 2
    (0 ∷ 15 ∷ 0 ∷ 15 ∷ 0 ∷
    15 ∷ 0 ∷ 0 ∷ 0 ∷ 15 ∷
    0 ∷ 15 ∷ 0 ∷ 15 ∷ 0 ∷ [])
    (case (around 0x0012 0x0002) 0 (ended 6 e₀) 2) ∷
    shows e₂  -- CIRS, radius 2, in the pane from column 2 on
    (0 ∷ 0 ∷ 15 ∷ 15 ∷ 0 ∷
    0 ∷ 0 ∷ 15 ∷ 15 ∷ 15 ∷
    0 ∷ 0 ∷ 15 ∷ 15 ∷ 0 ∷ [])
    (case (around 0x0014 0x0002) 0 (ended 6 e₂) 2) ∷
    stops (0x0065 ∷ 0x0001 ∷ 0x0000 ∷ 0x0066 ∷ 0x8000 ∷ 0x0000 ∷ 0x0003 ∷ 0x0015 ∷ 0x0000 ∷ []) 24 7 (at 7 (var 0 1 (var 3 32768 e₀))) 2 ∷  -- CIRSV, type 1 and radius 32,768: 24 comes before 25
    stops (0x0066 ∷ 0x8000 ∷ 0x0000 ∷ 0x0003 ∷ 0x0015 ∷ 0x0000 ∷ []) 25 4 (at 4 (var 3 32768 e₀)) 1 ∷  -- radius 32,768
    stops (0x0065 ∷ 0xFFFF ∷ 0x0003 ∷ 0x0015 ∷ 0x0000 ∷ []) 25 3 (at 3 (var 3 (minus 1) e₀)) 1 ∷  -- radius -1
    stops (0x0066 ∷ 0x0000 ∷ 0x0001 ∷ 0x0001 ∷ 0x0013 ∷ 0x0000 ∷ []) 25 4 (at 4 (var 1 65536 e₀)) 1 ∷  -- CIRV, x 65,536
    []

-- ---- dashed lines between (0, 0) and (4, 2)

-- LINEPATN of two equal words, and a list behind it
abbrev pub dashing : ℕ → List ℕ → List ℕ
dashing half w = 0x0078 ∷ half ∷ half ∷ w

-- LINE in a type, from the first point or from the second
abbrev pub ahead : ℕ → List ℕ
ahead type = 0x0074 ∷ type ∷ 0x0000 ∷ 0x0000 ∷ 0x0004 ∷ 0x0002 ∷ 0x0001 ∷ []

abbrev pub back : ℕ → List ℕ
back type = 0x0074 ∷ type ∷ 0x0004 ∷ 0x0002 ∷ 0x0000 ∷ 0x0000 ∷ 0x0001 ∷ []

-- the pattern of two equal halves
abbrev pub twice : ℕ → ℕ
twice half = half * 65536 + half

abbrev pub first_dot : List ℕ
first_dot =
    15 ∷ 0 ∷ 0 ∷ 0 ∷ 0 ∷
    0 ∷ 0 ∷ 0 ∷ 0 ∷ 0 ∷
    0 ∷ 0 ∷ 0 ∷ 0 ∷ 0 ∷ []

abbrev pub dashes : List Case
dashes =
    shows e₀ sloped (case (ahead 0x0001) 0 (ended 7 e₀) 2) ∷  -- a fresh pattern is all ones
    shows e₀  -- dots 0, 3, 4: bits 0, 3, 4 of 1001 1001 .., from the first point
    (15 ∷ 0 ∷ 0 ∷ 0 ∷ 0 ∷
    0 ∷ 0 ∷ 0 ∷ 0 ∷ 0 ∷
    0 ∷ 0 ∷ 0 ∷ 15 ∷ 15 ∷ [])
    (case (dashing 0x9999 (ahead 0x0001)) 0 (ended 10 (patterned (twice 0x9999) e₀)) 3) ∷
    shows e₀  -- and from the second
    (15 ∷ 0 ∷ 0 ∷ 0 ∷ 0 ∷
    0 ∷ 15 ∷ 0 ∷ 0 ∷ 0 ∷
    0 ∷ 0 ∷ 0 ∷ 0 ∷ 15 ∷ [])
    (case (dashing 0x9999 (back 0x0001)) 0 (ended 10 (patterned (twice 0x9999) e₀)) 3) ∷
    shows e₀ sloped (case (dashing 0x9999 (back 0x0000)) 0 (ended 10 (patterned (twice 0x9999) e₀)) 3) ∷  -- type 0 asks no pattern
    case (dashing 0x0000 (ahead 0x0001)) 0 (ended 10 (patterned 0 e₀)) 3 ∷  -- zero bits paint nothing
    shows e₀ first_dot  -- LINEPATNV V0, where V0 is 1, and LINETO (4, 2), which moves the position
    (case (0x0065 ∷ 0x0001 ∷ 0x0000 ∷ 0x0079 ∷ 0x0000 ∷ 0x007C ∷ 0x0001 ∷ 0x0004 ∷ 0x0002 ∷ 0x0001 ∷ []) 0
    (ended 10 (moved (record { x = pos 4; y = pos 2 }) (patterned 1 (var 0 1 e₀)))) 4) ∷
    stops (ahead 0x0002) 24 0 e₀ 0 ∷  -- type 2
    stops (0x0014 ∷ 0x0001 ∷ 0x0002 ∷ 0x0001 ∷ 0x0001 ∷ 0x0001 ∷ []) 24 0 e₀ 0 ∷  -- CIRS in type 1
    []

-- ---- origins

-- XYORG to (x, y), and a list behind it
abbrev pub sliding : ℕ → ℕ → List ℕ → List ℕ
sliding x y w = 0x0100 ∷ x ∷ y ∷ w

abbrev pub from : ℕ → ℕ → Env → Env
from x y e = based (record { x = pos x; y = pos y }) e

-- the window of the dot (0, 0), in a mode, cleared to 7
abbrev pub clearing : ℕ → List ℕ
clearing mode = 0x0018 ∷ 0x0000 ∷ 0x0000 ∷ 0x0000 ∷ 0x0000 ∷ 0x0016 ∷ mode ∷ 0x0188 ∷ 0x0007 ∷ 0x0000 ∷ 0x0000 ∷ 0x0001 ∷ []

abbrev pub cleared_in : ℕ → Env → Env
cleared_in mode e = ended 15 (clipped mode (windowed (record { x0 = pos 0; y0 = pos 0; x1 = pos 0; y1 = pos 0 }) (from 2 1 e)))

abbrev pub origins : List Case
origins =
    shows e₀ one_dot (case (sliding 2 1 (0x009E ∷ 0x0000 ∷ 0x0000 ∷ 0x0001 ∷ [])) 0 (ended 7 (from 2 1 e₀)) 3) ∷  -- PIXEL (0, 0)
    shows e₀ one_dot (case (sliding 3 2 (sliding 2 1 (0x009E ∷ 0x0000 ∷ 0x0000 ∷ 0x0001 ∷ []))) 0 (ended 10 (from 2 1 e₀)) 4) ∷  -- not added to the old one
    shows e₀  -- LINETO (1, 0), which moves the position there and no further
    (0 ∷ 0 ∷ 0 ∷ 0 ∷ 0 ∷
    0 ∷ 0 ∷ 15 ∷ 15 ∷ 0 ∷
    0 ∷ 0 ∷ 0 ∷ 0 ∷ 0 ∷ [])
    (case (sliding 2 1 (0x007C ∷ 0x0000 ∷ 0x0001 ∷ 0x0000 ∷ 0x0001 ∷ [])) 0 (ended 8 (moved (record { x = pos 1; y = pos 0 }) (from 2 1 e₀))) 3) ∷
    shows e₂  -- LINE from (-4, 0) to (0, 2), in the pane from column 2 on, which stays
    sloped_in (case (sliding 4 0 (0x0074 ∷ 0x0000 ∷ 0xFFFC ∷ 0x0000 ∷ 0x0000 ∷ 0x0002 ∷ 0x0001 ∷ [])) 0 (ended 10 (from 4 0 e₂)) 3) ∷
    shows e₀  -- a window in mode 1
    (0 ∷ 0 ∷ 0 ∷ 0 ∷ 0 ∷
    0 ∷ 0 ∷ 7 ∷ 0 ∷ 0 ∷
    0 ∷ 0 ∷ 0 ∷ 0 ∷ 0 ∷ [])
    (case (sliding 2 1 (clearing 0x0001)) 0 (cleared_in 1 e₀) 5) ∷
    shows e₀  -- and in mode 2
    (7 ∷ 0 ∷ 0 ∷ 0 ∷ 0 ∷
    0 ∷ 0 ∷ 0 ∷ 0 ∷ 0 ∷
    0 ∷ 0 ∷ 0 ∷ 0 ∷ 0 ∷ [])
    (case (sliding 2 1 (clearing 0x0002)) 0 (cleared_in 2 e₀) 5) ∷
    case (sliding 0x7FFF 0x7FFF (0x009E ∷ 0x7FFF ∷ 0x7FFF ∷ 0x0001 ∷ [])) 0 (ended 7 (from 0x7FFF 0x7FFF e₀)) 3 ∷  -- PIXEL (32,767, 32,767): 65,534, no dot
    stops (0x0066 ∷ 0x8000 ∷ 0x0000 ∷ 0x0001 ∷ 0x0101 ∷ 0x0000 ∷ []) 25 4 (at 4 (var 1 32768 e₀)) 1 ∷  -- XYORGV, y 32,768
    []

-- ---- repeats

-- the open repeat whose block begins at word i
abbrev pub open_at : ℕ → ℕ → Repeat
open_at i n = repeat (record { 0 = i }) n

-- RPT of n passes, and a list behind it
abbrev pub times : ℕ → List ℕ → List ℕ
times n w = 0x00B7 ∷ n ∷ w

-- INCV V0
abbrev pub counting : List ℕ → List ℕ
counting w = 0x005D ∷ 0x0000 ∷ w

-- nine blocks in one another, of one pass each, and the eight that are opened
abbrev pub nine : List ℕ
nine = times 1 (times 1 (times 1 (times 1 (times 1 (times 1 (times 1 (times 1 (times 1 []))))))))

abbrev pub eight : List Repeat
eight = open_at 2 1 ∷ open_at 4 1 ∷ open_at 6 1 ∷ open_at 8 1 ∷ open_at 10 1 ∷ open_at 12 1 ∷ open_at 14 1 ∷ open_at 16 1 ∷ []

abbrev pub repeats : List Case
repeats =
    case (times 2 (counting (0x004F ∷ 0x0001 ∷ []))) 0 (ended 6 (var 0 2 e₀)) 6 ∷  -- RPT once, INCV and ERPT once a pass, EODL
    case (times 3 (times 2 (counting (0x004F ∷ 0x004F ∷ 0x0001 ∷ [])))) 0 (ended 9 (var 0 6 e₀)) 20 ∷  -- a block in a block
    within 4 (case (times 3 (times 2 (counting (0x004F ∷ 0x004F ∷ 0x0001 ∷ [])))) 1 (at 4 (repeating (open_at 2 3 ∷ open_at 4 1 ∷ []) (var 0 1 e₀))) 4) ∷  -- cut behind the inner ERPT
    within 1 (case (times 1000 []) 1 (at 2 (repeating (open_at 2 1000 ∷ []) e₀)) 1) ∷  -- 1,000 passes
    stops (times 0 []) 24 0 e₀ 0 ∷
    stops (times 1001 []) 24 0 e₀ 0 ∷
    stops (times 0xFFFF []) 24 0 e₀ 0 ∷  -- -1
    stops (0x00B7 ∷ []) 22 0 e₀ 0 ∷
    stops (0x004F ∷ []) 29 0 e₀ 0 ∷
    stops nine 28 16 (at 16 (repeating eight e₀)) 8 ∷
    []

abbrev pub played : Case → Answer Env
played c = whole c.words blank c.env c.budget

pub starred : map played cases ≡ map (λ (c : Case). c.want) cases
unfolding signed32 signed16 low32 sum32 quotient32 remainder32 in_word word_of index_of recolour_from some_below drawable paint line side form_of carried step door_of door answered runs
starred = refl

pub edged : map played edges ≡ map (λ (c : Case). c.want) edges
unfolding signed32 signed16 low32 in_word recolour_from some_below drawable paint line form_of carried step door_of door answered runs
edged = refl

pub placed : map played places ≡ map (λ (c : Case). c.want) places
unfolding form_of carried step recolour_from drawable paint door_of door answered runs in_word
placed = refl

pub conditioned : map played conditions ≡ map (λ (c : Case). c.want) conditions
unfolding signed32 signed16 low32 allowed met in_word index_of recolour_from drawable paint form_of carried step door_of door answered runs
conditioned = refl

pub circled : map played circles ≡ map (λ (c : Case). c.want) circles
unfolding signed32 signed16 low32 in_word is_radius recolour_from some_below drawable paint disc outline form_of carried step door_of door answered runs
circled = refl

pub dashed-lines : map played dashes ≡ map (λ (c : Case). c.want) dashes
unfolding signed32 signed16 low32 in_word is_radius recolour_from some_below drawable paint line side dashed bit disc form_of carried step door_of door answered runs
dashed-lines = refl

pub slid : map played origins ≡ map (λ (c : Case). c.want) origins
unfolding signed32 signed16 low32 in_word recolour_from some_below drawable paint line side form_of carried step door_of door answered runs
slid = refl

pub repeated : map played repeats ≡ map (λ (c : Case). c.want) repeats
unfolding signed32 signed16 low32 sum32 in_word recolour_from some_below drawable paint form_of carried step door_of door answered runs
repeated = refl

-- the fresh environment, field by field
pub fresh-fields : e₀
    ≡ env (bounds 0) (replicate 64 0)
    (record { position = record { x = pos 0; y = pos 0 }; origin = record { x = pos 0; y = pos 0 }; colour = 15; pattern = 0xFFFFFFFF; mode = 0; window = record { x0 = pos 0; y0 = pos 0; x1 = pos 4; y1 = pos 2 } })
    (record { counter = start; stack = []; repeats = []; first = 0; second = 0 })
    Running
fresh-fields = refl
