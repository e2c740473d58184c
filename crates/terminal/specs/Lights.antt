-- The mean light of dots.
use Rattle.std.specs.Prelude.{ℕ, zero, suc, ◌+◌, ◌*◌, ◌/◌, ◌≤◌, cond, List, [], ◌∷◌, leb}
use Rattle.picture.specs.declared.palette.Colour.{Colour}
use Rattle.picture.specs.Colours.{rgb, colour_of}
use Rattle.terminal.specs.declared.light.Light.{Light}

abbrev pub square : ℕ → ℕ
square v = v * v

abbrev pub light : ℕ → ℕ → ℕ → Light
light r g b = record { red = r; green = g; blue = b }

abbrev pub dark : Light
dark = light 0 0 0

abbrev pub with_colour : Light → Colour → Light
with_colour l c = light (l.red + square c.red) (l.green + square c.green) (l.blue + square c.blue)

-- the squares of the dots' colours more
unfoldable pub with_dots : Light → List ℕ → Light
with_dots l [] = l
with_dots l (d ∷ ds) = with_dots (with_colour l (colour_of d)) ds

-- the largest number up to k whose square is at most n
unfoldable pub root_up_to : ℕ → ℕ → ℕ
root_up_to zero n = 0
root_up_to (suc k) n = cond (leb (square (suc k)) n) (suc k) (root_up_to k n)

unfoldable pub root_of : ℕ → ℕ
root_of n = root_up_to 255 n

-- the root of the mean of the squares
abbrev pub shade : Light → ℕ → Colour
shade sum dots = rgb (root_of (sum.red / dots)) (root_of (sum.green / dots)) (root_of (sum.blue / dots))

pub record Small (l : Light) (most : ℕ) : Type 0 where
  pub red : l.red ≤ most
  pub green : l.green ≤ most
  pub blue : l.blue ≤ most

pub record Grown (l m : Light) (by : ℕ) : Type 0 where
  pub red : m.red ≤ l.red + by
  pub green : m.green ≤ l.green + by
  pub blue : m.blue ≤ l.blue + by
