-- The bytes of a character, by the terminal's escape sequences.
use Rattle.std.specs.Prelude.{ℕ, ◌+◌, ◌*◌, ◌-◌, ◌/◌, cond, List, [], ◌∷◌, ◌++◌, ltb}
use Rattle.text.specs.Bytes.{bytes}
use Rattle.picture.specs.declared.palette.Colour.{Colour}
use Rattle.terminal.specs.declared.cell.Depth.{Depth}
use Rattle.terminal.specs.declared.cell.Depth.TheVariants.{Direct, Cube}
use Rattle.text.specs.Decimal.{decimal}

-- which of 0, 95, 135, 175, 215 and 255 is the nearest
unfoldable pub level : ℕ → ℕ
level v = cond (ltb v 48) 0 (cond (ltb v 115) 1 ((v - 35) / 40))

abbrev pub cube : Colour → ℕ
cube c = 16 + 36 * level c.red + 6 * level c.green + level c.blue

abbrev pub direct : Colour → List ℕ
direct c = bytes "2;" ++ (decimal c.red ++ (bytes ";" ++ (decimal c.green ++ (bytes ";" ++ decimal c.blue))))

abbrev pub numbered : Colour → List ℕ
numbered c = bytes "5;" ++ decimal (cube c)

unfoldable pub paint : Depth → Colour → List ℕ
paint Direct c = direct c
paint Cube c = numbered c

abbrev pub escape : List ℕ
escape = 27 ∷ bytes "["

-- U+2580
abbrev pub upper_half_block : List ℕ
upper_half_block = 0xe2 ∷ (0x96 ∷ (0x80 ∷ []))

unfoldable pub cell : Depth → Colour → Colour → List ℕ
cell d upper lower = (escape ++ bytes "38;") ++ (paint d upper ++ (bytes ";48;" ++ (paint d lower ++ (bytes "m" ++ upper_half_block))))

-- the colours as they were, and a line feed
abbrev pub line_end : List ℕ
line_end = escape ++ (bytes "0m" ++ (10 ∷ []))
