-- What the loop asks, of what the program holds, and a dot as column and row.
use Rattle.std.specs.Prelude.{ℕ, ◌≤◌, ◌<◌, ◌≡◌, true, false, List, length, ℤ, pos, Option, Some, None}
use Rattle.std.specs.Int.Signed.{le_z}
use Rattle.raster.specs.declared.dots.Dot.{Dot}
use Rattle.raster.specs.declared.frame.Bounds.{Bounds}
use Rattle.raster.specs.Frame.{on_screen}
use Rattle.contains.specs.declared.pixel.Pixel.{Pixel}
use Rattle.rules.specs.Door.{size_fits, fits}
use Rattle.rules.specs.declared.environment.Registers.{Registers}
use Rattle.lent.specs.declared.Stack.{Stack}
use Rattle.lent.specs.Lent.{look}

-- what the door establishes, and every opcode leaves
pub record Ready (w : List ℕ) (b : Bounds) (r : Registers) (vs : List ℕ) (st : Stack) : Type 0 where
  pub few : length w ≤ 65536
  pub size : size_fits b ≡ true
  pub ranges : fits (look b r vs st) ≡ true

-- the dot in a column of a row
abbrev pub pixel : ℕ → ℕ → Dot
pixel column row = record { x = pos column; y = pos row }

-- a number for a coordinate, above every side where it is negative
pub record Unsigned (z : ℤ) (n : ℕ) : Type 0 where
  pub from_0 : le_z (pos 0) z ≡ true → pos n ≡ z
  pub negative : le_z (pos 0) z ≡ false → n ≡ 0xFFFFFFFF

-- a pixel of the screen, which is the dot
pub record Shows (b : Bounds) (d : Dot) (p : Pixel) : Type 0 where
  pub column : p.column < b.width
  pub row : p.row < b.height
  pub dot : pixel p.column p.row ≡ d
  pub on : on_screen b d.x d.y ≡ true

-- it, or none where the dot is outside
abbrev pub PixelOf : Bounds → Dot → Option Pixel → Type 0
PixelOf b d None = on_screen b d.x d.y ≡ false
PixelOf b d (Some p) = Shows b d p
