-- Decimal numbers, read byte by byte from the left; zeros may lead where nothing else is said.
use Rattle.std.specs.Prelude.{ℕ, ◌+◌, ◌-◌, ◌*◌, ◌%◌, ◌^◌, Bool, cond, ◌&&◌, Result, Ok, Err, List, [], ◌∷◌, length, ◌==◌, nat_le, nat_lt, slice_index}
use Rattle.text.specs.declared.number.Flaw.{Flaw}
use Rattle.text.specs.declared.number.Flaw.TheVariants.{Foreign, Large}

abbrev pub limit : ℕ
limit = 2 ^ 32 - 1

-- 0 to 9
unfoldable pub digit : ℕ → Bool
digit b = nat_le 48 b && nat_le b 57

-- the number so far and one digit more
abbrev pub with_digit : ℕ → ℕ → ℕ
with_digit n b = n * 10 + (b - 48)

-- the number so far, and the bytes behind: the first that is no digit or makes the number too large decides
unfoldable pub reading : ℕ → List ℕ → Result ℕ Flaw
reading n [] = Ok n
reading n (b ∷ bs) = cond (digit b) (cond (nat_lt limit (with_digit n b)) (Err Large) (reading (with_digit n b) bs)) (Err Foreign)

unfoldable pub decimal_of : List ℕ → Result ℕ Flaw
decimal_of [] = Err Foreign
decimal_of (b ∷ bs) = reading 0 (b ∷ bs)

-- the same, but that no zero leads: a 0 stands alone
unfoldable pub unpadded_of : List ℕ → Result ℕ Flaw
unpadded_of s = cond (slice_index s 0 == 48 && nat_lt 1 (length s)) (Err Foreign) (decimal_of s)

unfoldable pub at_most : ℕ → Result ℕ Flaw → Result ℕ Flaw
at_most most (Ok n) = cond (nat_lt most n) (Err Large) (Ok n)
at_most most (Err f) = Err f

-- the bits of -n
unfoldable pub negated : Result ℕ Flaw → Result ℕ Flaw
negated (Ok n) = Ok ((2 ^ 32 - n) % 2 ^ 32)
negated (Err f) = Err f

-- the bits of a number that a minus sign may lead
unfoldable pub signed_of : List ℕ → Result ℕ Flaw
signed_of [] = Err Foreign
signed_of (b ∷ bs) = cond (b == 45) (negated (at_most (2 ^ 31) (decimal_of bs))) (at_most (2 ^ 31 - 1) (decimal_of (b ∷ bs)))
