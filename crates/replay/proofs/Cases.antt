-- Replays at the edges, by computing, on a screen of one dot.
use Prim.Native.Nat.{ℕ}
use mathlib.Core.Path.{◌≡◌, refl}
use mathlib.Core.List.{List, [], ◌∷◌, ◌++◌, map}
use Rattle.numbers.specs.Coordinate.{in_word}
use Rattle.raster.specs.declared.frame.Bounds.{Bounds}
use Rattle.raster.specs.Paint.{paint, recolour_from}
use Rattle.player.specs.Run.{runs}
use Rattle.player.specs.Hosted.{answered}
use Rattle.player.specs.Door.{door_of}
use Rattle.rules.specs.Table.{form_of}
use Rattle.rules.specs.Step.{carried, step}
use Rattle.rules.specs.Fresh.{fresh}
use Rattle.rules.specs.Door.{door}
use Rattle.text.specs.Bytes.{bytes}
use Rattle.text.specs.Decimal.{digits, decimal}
use Rattle.text.specs.Number.{digit, reading, decimal_of, unpadded_of}
use Rattle.text.specs.Items.{place_of, same}
use Rattle.record.specs.Block.{line_text, block_text}
use Rattle.record.specs.Read.{line_of, block_of}
use Rattle.replay.specs.declared.Pair.{Pair}
use Rattle.replay.specs.Entries.{entries_in, entries}
use Rattle.replay.specs.Replay.{pair, none, replay_from, replay}

abbrev dot : Bounds
dot = record { width = 1; height = 1; pane = record { left = 0; top = 0; right = 0; bottom = 0 } }

-- what is told
record Told : Type 0 where
  number : ℕ
  block : ℕ
  recorded : Pair
  came : Pair

abbrev told : ℕ → ℕ → Pair → Pair → Told
told n k p q = record { number = n; block = k; recorded = p; came = q }

record Case : Type 0 where
  list : List ℕ
  text : List ℕ
  is : Told

abbrev case : List ℕ → List ℕ → Told → Case
case w t x = record { list = w; text = t; is = x }

-- NOOP, NOOP, EODL
abbrev three : List ℕ
three = 0x0000 ∷ 0x0000 ∷ 0x0001 ∷ []

abbrev cases : List Case
cases =
    -- all agree, and how many; ended and stopped lists answer their number again
    case three [] (told 0 0 none none) ∷
    case three (block_text 100 0 3) (told 0 1 none none) ∷
    case three (block_text 1 1 1 ++ (block_text 1 1 1 ++ (block_text 100 0 1 ++ block_text 100 0 0))) (told 0 4 none none) ∷
    case [] (block_text 100 20 0 ++ block_text 100 20 0) (told 0 2 none none) ∷
    -- a budget above 1,000,000 is run, and answers 14
    case three (block_text 1000001 14 0 ++ block_text 100 0 3) (told 0 2 none none) ∷
    -- a block differs: in its steps, in its answer
    case three (block_text 2 1 2 ++ block_text 100 0 2) (told 33 2 (pair 0 2) (pair 0 1)) ∷
    case three (block_text 100 1 3) (told 33 1 (pair 1 3) (pair 0 3)) ∷
    -- a block is malformed, and nothing behind it is run; one that differs before it is told first
    case three (block_text 1 1 1 ++ (bytes "budget" ++ block_text 1 9 9)) (told 34 2 none none) ∷
    case three (10 ∷ []) (told 34 1 none none) ∷
    case three (block_text 1 1 0 ++ (10 ∷ [])) (told 33 1 (pair 1 0) (pair 1 1)) ∷
    []

abbrev telling : Case → Told
telling c = let r = replay c.list c.text (fresh dot) (0 ∷ []) in told r.number r.block r.recorded r.came

pub all : map (λ c. telling c) cases ≡ map (λ c. c.is) cases
unfolding in_word paint recolour_from form_of step carried runs answered door_of door digits decimal digit reading decimal_of unpadded_of place_of same line_text block_text line_of block_of entries_in entries replay_from replay
all = refl
