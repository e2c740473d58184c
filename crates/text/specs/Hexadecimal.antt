-- A word's four hexadecimal digits, the highest first.
use Rattle.std.specs.Prelude.{ℕ, ◌+◌, ◌-◌, ◌*◌, ◌/◌, ◌%◌, Bool, cond, ◌&&◌, ◌||◌, Option, Some, None, List, [], ◌∷◌, length, nat_le, nat_lt, slice_index}
use Rattle.text.specs.Number.{digit}

-- 0 to 9 and A to F
unfoldable pub hex_digit : ℕ → Bool
hex_digit b = digit b || (nat_le 65 b && nat_le b 70)

-- what a digit is worth
abbrev pub worth : ℕ → ℕ
worth b = cond (digit b) (b - 48) (b - 55)

unfoldable pub spelt : ℕ → ℕ → ℕ → ℕ → Option ℕ
spelt a b c d =
    cond (hex_digit a && (hex_digit b && (hex_digit c && hex_digit d)))
    (Some (worth a * 4096 + worth b * 256 + worth c * 16 + worth d))
    None

-- what the first four bytes spell
unfoldable pub hex_of : List ℕ → Option ℕ
hex_of s = cond (nat_lt (length s) 4) None (spelt (slice_index s 0) (slice_index s 1) (slice_index s 2) (slice_index s 3))

-- the last digit of a number
unfoldable pub last_digit : ℕ → ℕ
last_digit n = cond (nat_lt (n % 16) 10) (n % 16 + 48) (n % 16 + 55)

-- how a word is written
abbrev pub hex_digits : ℕ → List ℕ
hex_digits w = last_digit (w / 4096) ∷ last_digit (w / 256) ∷ last_digit (w / 16) ∷ last_digit w ∷ []
