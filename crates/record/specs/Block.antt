-- Document 02, T-12: how a block is written, three lines in this order.
use Rattle.std.specs.Prelude.{ℕ, List, [], ◌∷◌, ◌++◌}
use Rattle.text.specs.Bytes.{bytes}
use Rattle.text.specs.Decimal.{decimal}

abbrev pub budget_label : List ℕ
budget_label = bytes "budget="

abbrev pub answer_label : List ℕ
answer_label = bytes "answer="

abbrev pub steps_label : List ℕ
steps_label = bytes "steps="

-- a number in decimal without leading zeros, ended by a line feed
unfoldable pub line_text : List ℕ → ℕ → List ℕ
line_text label n = label ++ (decimal n ++ (10 ∷ []))

unfoldable pub block_text : ℕ → ℕ → ℕ → List ℕ
block_text budget answer steps = line_text budget_label budget ++ (line_text answer_label answer ++ line_text steps_label steps)
