-- Shapes: a shape says of each point whether it is one of its dots.
use Rattle.std.specs.Prelude.{ℕ, zero, suc, Bool, true, false, ◌&&◌, ◌||◌, ℤ, pos, negsuc, ◌+ℤ◌, ◌-ℤ◌, ◌==◌, unsigned_abs}
use Rattle.raster.specs.declared.dots.Dot.{Dot}

-- column x, row y; (0, 0) is the top left
abbrev pub Shape : Type 0
Shape = ℤ → ℤ → Bool

abbrev pub top_left : Dot
top_left = record { x = pos 0; y = pos 0 }

-- two whole numbers are the same
abbrev pub eq_z : ℤ → ℤ → Bool
eq_z (pos a) (pos b) = a == b
eq_z (pos a) (negsuc b) = false
eq_z (negsuc a) (pos b) = false
eq_z (negsuc a) (negsuc b) = a == b

-- their absolute difference
abbrev pub gap : ℤ → ℤ → ℕ
gap a b = unsigned_abs (b -ℤ a)

-- the one dot d
abbrev pub dot : Dot → Shape
dot d = λ x y. eq_z d.x x && eq_z d.y y

-- the dot p moved by o
abbrev pub shifted : Dot → Dot → Dot
shifted p o = record { x = p.x +ℤ o.x; y = p.y +ℤ o.y }

-- the shape S moved by o: what it had at (0, 0) is at o
abbrev pub moved_by : Dot → Shape → Shape
moved_by o S = λ x y. S (x -ℤ o.x) (y -ℤ o.y)

-- every point
abbrev pub all : Shape
all = λ x y. true

-- one of p 0, p 1, .., p (k - 1) holds
unfoldable pub some_below : ℕ → (ℕ → Bool) → Bool
some_below zero p = false
some_below (suc k) p = some_below k p || p k
