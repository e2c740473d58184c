-- The words for each number that a call answers.
use Rattle.std.specs.Prelude.{ℕ, ◌-◌, ◌≡◌, cond, List, [], ◌∷◌, ◌++◌, eqb, length, replicate}
use Prim.Native.String.{String}
use Rattle.text.specs.Bytes.{bytes}
use Rattle.wording.specs.declared.Words.{Words}

pub record Line : Type 0 where
  pub number : ℕ
  pub words : String

infixl 70 ◌says◌
abbrev pub ◌says◌ : ℕ → String → Line
n says t = record { number = n; words = t }

-- a whole call's numbers
abbrev pub calls : List Line
calls =
    0 says "the list has ended" ∷
    1 says "the budget is used up, the list still runs" ∷
    10 says "the width or the height is not 1 to 2,048" ∷
    11 says "the screen's bytes are not width x height" ∷
    12 says "the pane is empty or not within the screen, or another field is out of its range" ∷
    13 says "the list is above 65,536 words" ∷
    14 says "the budget is above 1,000,000" ∷
    []

-- an opcode's, at which the list stopped; 30 and 31 are told by the checker alone, 32 by the mender
abbrev pub opcodes : List Line
opcodes =
    20 says "the counter is at or past the list's end" ∷
    21 says "no opcode" ∷
    22 says "the list ends inside the opcode" ∷
    23 says "a variable above 63" ∷
    24 says "a mode, type, condition or count that is not allowed" ∷
    25 says "a coordinate or offset not -32,768 to 32,767, a radius not 0 to 32,767, a length above 65,536, a dot outside the screen" ∷
    26 says "the divisor is zero" ∷
    27 says "a target that is not allowed" ∷
    28 says "a call with 16 returns stacked, or a repeat with eight open" ∷
    29 says "a return with none stacked, or the end of a repeat with none open" ∷
    30 says "an EODL inside a repeat" ∷
    31 says "more than 1,000,000 steps are needed" ∷
    32 says "the report has no room for every change" ∷
    []

abbrev pub others : String
others = "no number of the box's"

-- what the first line with the number says
abbrev pub said : List Line → ℕ → String
said [] n = others
said (l ∷ ls) n = cond (eqb n l.number) l.words (said ls n)

abbrev pub table : List Line
table = calls ++ opcodes

unfoldable pub text_of : ℕ → List ℕ
text_of n = bytes (said table n)

-- zeros behind the words, 127 bytes in all
unfoldable pub words_of : List ℕ → Words
words_of t = record { length = length t; text = t ++ replicate (127 - length t) 0 }

-- what is known, and that no line has the number
abbrev pub Without : Type 0 → List Line → ℕ → Type 0
Without known [] n = known
Without known (l ∷ ls) n = Without (known × (n ≡ l.number → ⊥)) ls n

abbrev pub None : List Line → ℕ → Type 0
None ls n = Without (Unit {0}) ls n
