-- Coordinates biased by 65,536, so that they are natural numbers: names that end in B speak of such.
use Rattle.std.specs.Prelude.{ℕ, suc, ◌+◌, ◌-◌, Bool, cond, ◌&&◌, ℤ, pos, negsuc, ◌==◌}
use Rattle.std.proofs.Math.IntN.{sub_ℕ}
use Rattle.raster.specs.declared.dots.Dot.{Dot}
use Rattle.raster.specs.declared.biased.Spot.{Spot}
use Rattle.raster.specs.Frame.{Word, Coord}

-- what is added to a coordinate
abbrev pub bias : ℕ
bias = 65536

abbrev pub biased : ℤ → ℕ
biased (pos n) = n + bias
biased (negsuc n) = bias - suc n

abbrev pub spot_of : Dot → Spot
spot_of d = record { x = biased d.x; y = biased d.y }

-- and down again
abbrev pub dot_of : Spot → Dot
dot_of p = record { x = sub_ℕ p.x bias; y = sub_ℕ p.y bias }

-- both are signed words
abbrev pub WordB : Spot → Type 0
WordB p = Word (dot_of p).x × Word (dot_of p).y

-- both are coordinates
abbrev pub NearB : Spot → Type 0
NearB p = Coord (dot_of p).x × Coord (dot_of p).y

-- the dot p moved by o
abbrev pub shifted_b : Spot → Dot → Spot
shifted_b p o = record { x = p.x + biased o.x - bias; y = p.y + biased o.y - bias }

-- the pixel in column i of row j is the dot p
abbrev pub dot_b : Spot → ℕ → ℕ → Bool
dot_b p i j = p.x == i + bias && p.y == j + bias

abbrev pub gap_b : ℕ → ℕ → ℕ
gap_b a b = (b - a) + (a - b)

-- q up from b, or down
abbrev pub aside : Bool → ℕ → ℕ → ℕ
aside up b q = cond up (b + q) (b - q)
