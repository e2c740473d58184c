-- A dashed line's dots (request T-03): those of the line that a pattern of 32 bits paints.
use Rattle.std.specs.Prelude.{ℕ, suc, ◌-◌, ◌/◌, ◌%◌, ◌^◌, Bool, cond, ◌&&◌, ◌==◌}
use Rattle.raster.specs.Shapes.{Shape, dot, some_below}
use Rattle.lines.specs.declared.line.Line.{Line}
use Rattle.lines.specs.Line.{long, rising, line_dot}

-- bit b of the pattern is one, bit 0 the lowest
unfoldable pub bit : ℕ → ℕ → Bool
bit pattern b = pattern / 2 ^ b % 2 == 1

-- the dot with this number is painted: bit number modulo 32 is one
abbrev pub lit : ℕ → ℕ → Bool
lit pattern number = bit pattern (number % 32)

-- dot k's number, counted along the long axis from the first point given: k is counted from the end with the smaller coordinate
abbrev pub number_of : Line → ℕ → ℕ
number_of l k = cond (rising l) k (long l - k)

-- the dots that are painted
unfoldable pub dashed : ℕ → Line → Shape
dashed pattern l = λ x y. some_below (suc (long l)) (λ k. lit pattern (number_of l k) && dot (line_dot l k) x y)

-- all ones
abbrev pub solid : ℕ
solid = 0xFFFFFFFF
