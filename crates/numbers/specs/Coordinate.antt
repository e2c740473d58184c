-- Document 01, number 25: a coordinate, an offset or a new position is within -32,768 to 32,767 or not. Document 02, T-01: a radius is within 0 to 32,767 or not.
use Rattle.std.specs.Prelude.{Bool, cond, ◌&&◌, ℤ, pos, negsuc, int_le, Some, None, Option}

-- within a signed word: negsuc 32767 is -32,768
unfoldable pub in_word : ℤ → Bool
in_word z = int_le (negsuc 32767) z && int_le z (pos 32767)

unfoldable pub coordinate : ℤ → Option ℤ
coordinate z = cond (in_word z) (Some z) None

-- a circle's radius
unfoldable pub is_radius : ℤ → Bool
is_radius z = int_le (pos 0) z && int_le z (pos 32767)

unfoldable pub radius : ℤ → Option ℤ
radius z = cond (is_radius z) (Some z) None
