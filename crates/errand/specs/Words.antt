-- The words that bytes spell, low byte first.
use Rattle.std.specs.Prelude.{ℕ, ◌+◌, ◌*◌, List, [], ◌∷◌}

abbrev pub word : ℕ → ℕ → ℕ
word low high = high * 256 + low

-- a last byte alone spells none
unfoldable pub words_in : List ℕ → List ℕ
words_in [] = []
words_in (low ∷ []) = []
words_in (low ∷ (high ∷ bytes)) = word low high ∷ words_in bytes
