-- The bytes that spell words, low byte first.
use Rattle.std.specs.Prelude.{ℕ, ◌/◌, ◌%◌, List, [], ◌∷◌}

abbrev pub low_of : ℕ → ℕ
low_of w = w % 256

abbrev pub high_of : ℕ → ℕ
high_of w = w / 256

-- two bytes for each word
unfoldable pub bytes_of : List ℕ → List ℕ
bytes_of [] = []
bytes_of (w ∷ ws) = low_of w ∷ (high_of w ∷ bytes_of ws)
