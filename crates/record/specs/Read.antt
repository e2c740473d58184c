-- Document 02, T-12: what is read where a block is due. A number is 0 to 4,294,967,295, as `text` reads it.
use Rattle.std.specs.Prelude.{ℕ, ◌+◌, cond, ◌&&◌, Option, Some, None, Result, Ok, Err, List, [], ◌∷◌, ltb, length, take, drop}
use Rattle.text.specs.declared.number.Flaw.{Flaw}
use Rattle.text.specs.Number.{unpadded_of}
use Rattle.text.specs.Items.{place_of, same}
use Rattle.record.specs.declared.line.Line.{Line}
use Rattle.record.specs.declared.Block.{Block}
use Rattle.record.specs.declared.Malformed.{Malformed}
use Rattle.record.specs.Block.{budget_label, answer_label, steps_label}

-- ---- a line that stands first in a text, and how many bytes it takes

abbrev pub line : ℕ → ℕ → Line
line n size = record { number = n; size = size }

-- by what is read between its name and its line feed
abbrev pub numbered : Result ℕ Flaw → ℕ → Option Line
numbered (Ok n) size = Some (line n size)
numbered (Err f) size = None

-- its name, a number without leading zeros, and a line feed
unfoldable pub line_of : List ℕ → List ℕ → Option Line
line_of label s =
    let rest = drop (length label) s in
    let feed = place_of 10 rest in
    cond (same (take (length label) s) label && ltb feed (length rest)) (numbered (unpadded_of (take feed rest)) (length label + feed + 1)) None

-- ---- a block that stands first in a text, and how many bytes it takes: three lines, or it is malformed

abbrev pub block : ℕ → ℕ → ℕ → ℕ → Block
block b a n size = record { budget = b; answer = a; steps = n; size = size }

abbrev pub third : ℕ → ℕ → ℕ → Option Line → Option Block
third b a i None = None
third b a i (Some l) = Some (block b a l.number (i + l.size))

abbrev pub second : List ℕ → ℕ → ℕ → Option Line → Option Block
second s b i None = None
second s b i (Some l) = third b l.number (i + l.size) (line_of steps_label (drop (i + l.size) s))

abbrev pub first : List ℕ → Option Line → Option Block
first s None = None
first s (Some l) = second s l.number l.size (line_of answer_label (drop l.size s))

abbrev pub three_lines : List ℕ → Option Block
three_lines s = first s (line_of budget_label s)

abbrev pub due : Option Block → Result (Option Block) Malformed
due None = Err (record {})
due (Some b) = Ok (Some b)

-- where the text ends no block is due
unfoldable pub block_of : List ℕ → Result (Option Block) Malformed
block_of [] = Ok None
block_of (x ∷ xs) = due (three_lines (x ∷ xs))
