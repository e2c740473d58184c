-- Document 01, 'Opcodes of the base': numbers. A variable is 32 bits; its value is a whole number from -2^31 to 2^31 - 1.
use Rattle.std.specs.Prelude.{ℕ, ◌+◌, ◌-◌, ◌*◌, ◌%◌, ◌^◌, cond, ℤ, pos, negsuc, ◌+ℤ◌, ◌-ℤ◌, ◌*ℤ◌, ◌==◌, int_div, int_rem, nat_lt, Some, None, Option}

-- the value of 32 bits that make the number n: n below 2^31, and n - 2^32 from there on
unfoldable pub signed32 : ℕ → ℤ
signed32 n = cond (nat_lt n (2 ^ 31)) (pos n) (pos n -ℤ pos (2 ^ 32))

-- a word as signed
unfoldable pub signed16 : ℕ → ℤ
signed16 n = cond (nat_lt n (2 ^ 15)) (pos n) (pos n -ℤ pos (2 ^ 16))

-- a long is two words, low word first
abbrev pub long_of : ℕ → ℕ → ℕ
long_of low high = low + 2 ^ 16 * high

-- the low 8 bits
abbrev pub low8 : ℕ → ℕ
low8 n = n % 256

-- the low 32 bits in two's complement: a whole number modulo 2^32 (negsuc n is -(n + 1))
unfoldable pub low32 : ℤ → ℕ
low32 (pos n) = n % 2 ^ 32
low32 (negsuc n) = (2 ^ 32 - 1) - n % 2 ^ 32

-- a variable wraps at 32 bits
unfoldable pub wrap32 : ℤ → ℤ
wrap32 z = signed32 (low32 z)

-- ---- what is left of two variables, given as their bits

unfoldable pub sum32 : ℕ → ℕ → ℕ
sum32 a b = low32 (signed32 a +ℤ signed32 b)

unfoldable pub difference32 : ℕ → ℕ → ℕ
difference32 a b = low32 (signed32 a -ℤ signed32 b)

unfoldable pub product32 : ℕ → ℕ → ℕ
product32 a b = low32 (signed32 a *ℤ signed32 b)

-- a by b, cut toward zero; -2^31 by -1 leaves the low bits of 2^31, which are those of -2^31
unfoldable pub quotient32 : ℕ → ℕ → ℕ
quotient32 a b = low32 (int_div (signed32 a) (signed32 b))

-- a remainder takes the dividend's sign
unfoldable pub remainder32 : ℕ → ℕ → ℕ
remainder32 a b = low32 (int_rem (signed32 a) (signed32 b))

-- a division answers n, unless the divisor b is zero
unfoldable pub unless_zero : ℕ → ℕ → Option ℕ
unless_zero b n = cond (b == 0) None (Some n)
