-- Document 01's cases, as far as they are about numbers and places: the definitions give what the cases say.
use Rattle.std.proofs.Common.{◌≡◌, true, false, pos, negsuc, ◌+ℤ◌, refl, Some, None}
use Rattle.numbers.specs.Number.{signed32, signed16, low32, long_of, sum32, quotient32, remainder32}
use Rattle.numbers.specs.Coordinate.{in_word, coordinate}
use Rattle.numbers.specs.Place.{above, index_of, word_of}

-- 2,147,483,647 and 1 more
case-3 : signed32 (sum32 (long_of 0xffff 0x7fff) 1) ≡ negsuc 2147483647
unfolding signed32 low32 sum32
case-3 = refl

-- 65,536 is no coordinate
case-4 : coordinate (signed32 (long_of 0x0000 0x0001)) ≡ None
unfolding signed32 in_word coordinate
case-4 = refl

-- -7 by 2
case-5 : (signed32 (quotient32 (low32 (signed16 0xfff9)) 2) ≡ negsuc 2) × (signed32 (remainder32 (low32 (signed16 0xfff9)) 2) ≡ negsuc 0)
unfolding signed32 signed16 low32 quotient32 remainder32
case-5 = (refl, refl)

-- -2,147,483,648 by -1
least_by_minus_one : (quotient32 0x8000_0000 0xffff_ffff ≡ 0x8000_0000) × (remainder32 0x8000_0000 0xffff_ffff ≡ 0)
unfolding signed32 low32 quotient32 remainder32
least_by_minus_one = (refl, refl)

-- V64 is above 63, V63 is not, and V61 is with three followers
case-7 : (above (record { 0 = 0x40 }) 1 ≡ true) × (above (record { 0 = 0x3f }) 1 ≡ false) × (above (record { 0 = 61 }) 4 ≡ true)
unfolding above
case-7 = (refl, refl, refl)

-- the next opcode's index is 2, the offset -2
case-11 : index_of (pos 2 +ℤ signed32 (low32 (signed16 0xfffe))) 2 ≡ Some (record { 0 = 0 })
unfolding signed32 signed16 low32 index_of
case-11 = refl

case-12 : word_of (record { 0 = long_of 0x0008 0x0000 }) 3 ≡ None
unfolding word_of
case-12 = refl
