-- Document 02, T-14: the walk from word 0 through the end of a list, opcode after opcode. What becomes of a word is said word by word: the definition goes down the list.
use Rattle.std.specs.Prelude.{ℕ, ◌-◌, cond, List, [], ◌∷◌, eqb, ltb, length, Option, Some, None}
use Rattle.rules.specs.Meaning.{Meaning, Unknown, Known, meaning}
use Rattle.rules.specs.Table.{form_of}
use Rattle.rules.specs.Operands.{size_of}
use Rattle.mender.specs.declared.walk.Passed.{Passed}

abbrev pub passed : ℕ → Option ℕ → Passed
passed x p = record { word = x; left = p }

-- an opcode of n words that begins with the word x, `have` words being there, x among them: one cut by the end has its first word made 0001
abbrev pub begun : ℕ → ℕ → ℕ → Passed
begun x n have = cond (ltb have n) (passed 0x0001 None) (passed x (Some (n - 1)))

-- an opcode is due: a word that is none becomes 0000, and the walk goes on at the next word
abbrev pub due : Meaning → ℕ → ℕ → Passed
due Unknown x have = passed 0x0000 (Some 0)
due (Known op s) x have = begun x (size_of s) have

-- an operand stays as it is; the rest of a cut opcode becomes 0000
unfoldable pub passing : Option ℕ → ℕ → ℕ → Passed
passing None x have = passed 0x0000 None
passing (Some n) x have = cond (eqb n 0) (due (meaning (form_of x)) x have) (passed x (Some (n - 1)))

-- the words from a phase on
unfoldable pub mended_from : Option ℕ → List ℕ → List ℕ
mended_from p [] = []
mended_from p (x ∷ xs) = let t = passing p x (length (x ∷ xs)) in t.word ∷ mended_from t.left xs

-- the whole list
unfoldable pub mended : List ℕ → List ℕ
mended w = mended_from (Some 0) w
