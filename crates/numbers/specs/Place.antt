-- Document 01, 'a variable number, a word index and a bit address never stand for one another': what is asked of each.
use Rattle.std.specs.Prelude.{ℕ, ◌+◌, ◌-◌, ◌/◌, ◌%◌, Bool, cond, ℤ, pos, negsuc, ◌==◌, nat_lt, Some, None, Option}
use Rattle.numbers.specs.declared.place.VarNo.{VarNo}
use Rattle.numbers.specs.declared.place.WordIndex.{WordIndex}
use Rattle.numbers.specs.declared.place.BitAddress.{BitAddress}

-- there are V0 to V63: the last of n variables from v on is above 63
unfoldable pub above : VarNo → ℕ → Bool
above v n = nat_lt 63 (v.0 + (n - 1))

-- the index n words further on
abbrev pub past : WordIndex → ℕ → WordIndex
past i n = record { 0 = i.0 + n }

-- a target must be a word index below the list's length
unfoldable pub index_of : ℤ → ℕ → Option WordIndex
index_of (pos n) words = cond (nat_lt n words) (Some (record { 0 = n })) None
index_of (negsuc n) words = None

-- a bit address from the list's start: a multiple of 16
unfoldable pub word_of : BitAddress → ℕ → Option WordIndex
word_of a words = cond (a.0 % 16 == 0) (index_of (pos (a.0 / 16)) words) None
