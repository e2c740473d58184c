-- How far a circle reaches in a row, by distances from its centre. Names that end in B speak of biased coordinates.
use Rattle.std.specs.Prelude.{Bool, true, false, not, ◌&&◌, ◌||◌, ◌≡◌, ℕ, ◌+◌, ◌-◌, ◌*◌, ◌≤◌, ◌<◌, min, max, pos, leb, ltb, eqb}
use Rattle.raster.specs.declared.biased.Spot.{Spot}
use Rattle.raster.specs.declared.rect.Rect.{Rect}
use Rattle.raster.specs.Biased.{bias, dot_of, gap_b}
use Rattle.circles.specs.declared.circle.Circle.{Circle}

-- the circle around p with the radius q
abbrev pub circle_of : Spot → ℕ → Circle
circle_of p q = record { centre = dot_of p; radius = pos q }

-- a point a columns and b rows from the centre is within the radius q
abbrev pub reach : ℕ → ℕ → ℕ → Bool
reach q a b = leb (a * a + b * b) (q * q)

-- it is a dot of the filled circle, or of the outline alone: of two neighbours in a row or in a column the further one tells
abbrev pub circle_at : Bool → ℕ → ℕ → ℕ → Bool
circle_at true q a b = reach q a b
circle_at false q a b = reach q a b && (not (reach q (a + 1) b) || not (reach q a (b + 1)))

-- the pixel in column i of row j is a dot of the circle around p
abbrev pub circle_b : Bool → Spot → ℕ → ℕ → ℕ → Bool
circle_b filled p q i j = circle_at filled q (gap_b p.x (i + bias)) (gap_b p.y (j + bias))

-- e is the first number whose square is above n
pub record Past (n e : ℕ) : Type 0 where
  pub low : (e - 1) * (e - 1) ≤ n
  pub high : n < e * e

-- of the rows b from the centre, the points within the radius are those less than e columns from it
pub record Reaching (q b e : ℕ) : Type 0 where
  pub columns : (a : ℕ) → reach q a b ≡ ltb a e
  pub small : e ≤ 32768

-- the rectangle between two corners
abbrev pub cornered : Spot → Spot → Rect
cornered p q = record { l = p.x; t = p.y; r = q.x; b = q.y }

-- the distance from row y of the row of r that is farthest from it, where that is q at most, and of the nearest
abbrev pub farthest : Rect → ℕ → ℕ → ℕ
farthest r y q = min q (max (y - r.t) (r.b - y))

abbrev pub nearest : Rect → ℕ → ℕ
nearest r y = max (r.t - y) (y - r.b)

-- the pixel in column i of row j is in one of columns x0 to x1, both ends inside, of the two rows d from row y
abbrev pub pair_b : ℕ → ℕ → ℕ → ℕ → ℕ → ℕ → Bool
pair_b y d x0 x1 i j = eqb (gap_b y (j + bias)) d && (leb x0 (i + bias) && leb (i + bias) x1)
