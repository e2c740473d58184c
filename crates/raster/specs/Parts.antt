-- Parts of the screen whose bytes lie side by side.
use Rattle.std.specs.Prelude.{ℕ, Bool, ◌&&◌, nat_le, nat_lt}
use Rattle.raster.specs.declared.rect.Rect.{Rect}

-- byte k is one of a to e - 1
abbrev pub between : ℕ → ℕ → ℕ → Bool
between a e k = nat_le a k && nat_lt k e

-- columns x0 to x1 of row y, both ends inside: none where x0 is above x1
abbrev pub row_part : ℕ → ℕ → ℕ → Rect
row_part y x0 x1 = record { l = x0; t = y; r = x1; b = y }
