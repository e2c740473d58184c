-- How a word index is written.
use Rattle.std.specs.Prelude.{ℕ, ◌%◌, ◌++◌, List, [], ◌∷◌, cond, nat_lt}
use Rattle.text.specs.Hexadecimal.{hex_digits}

-- a 1 before the digits of 65,536
abbrev pub index_digits : ℕ → List ℕ
index_digits i = cond (nat_lt 65535 i) (49 ∷ []) [] ++ hex_digits (i % 65536)
