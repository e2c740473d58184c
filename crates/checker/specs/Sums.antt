-- How the program keeps steps: as they are up to 1,000,000, and more as 1,000,001.
use Rattle.std.specs.Prelude.{ℕ, cond, leb, Ok, Err}
use Rattle.checker.specs.Reading.{Reading, Block, closed, behind}

unfoldable pub cap : ℕ → ℕ
cap n = cond (leb n 1000000) n 1000001

abbrev pub capped : Reading → Reading
capped (Err v) = Err v
capped (Ok c) = Ok (closed c.by c.place (cap c.steps))

abbrev pub capped_block : Block → Block
capped_block (Err v) = Err v
capped_block (Ok b) = Ok (behind b.next (cap b.steps))
