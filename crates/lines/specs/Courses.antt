-- A line's course, biased: from its end with the smaller coordinate on the long axis, and each dot's place on it.
use Rattle.std.specs.Prelude.{◌≡◌, ℕ, suc, ◌+◌, ◌-◌, ◌*◌, ◌/◌, ◌<◌, ◌≤◌, min, max, Bool, false, cond, ◌&&◌, nat_le}
use Rattle.raster.specs.declared.biased.Spot.{Spot}
use Rattle.raster.specs.Shapes.{some_below}
use Rattle.raster.specs.Biased.{dot_of, dot_b, gap_b, aside}
use Rattle.lines.specs.declared.line.Line.{Line}
use Rattle.lines.specs.declared.course.Course.{Course}
use Rattle.lines.specs.Dashes.{lit}

-- the line between two dots that are biased
abbrev pub line_of : Spot → Spot → Line
line_of p q = record { from = dot_of p; to = dot_of q }

-- the coordinate on the long axis, and on the other, where t says that x is the long axis
abbrev pub along_b : Bool → Spot → ℕ
along_b t p = cond t p.x p.y

abbrev pub across_b : Bool → Spot → ℕ
across_b t p = cond t p.y p.x

abbrev pub long_b : Spot → Spot → ℕ
long_b p q = max (gap_b p.x q.x) (gap_b p.y q.y)

abbrev pub short_b : Spot → Spot → ℕ
short_b p q = min (gap_b p.x q.x) (gap_b p.y q.y)

abbrev pub flat_b : Spot → Spot → Bool
flat_b p q = nat_le (gap_b p.y q.y) (gap_b p.x q.x)

abbrev pub rising_b : Bool → Spot → Spot → Bool
rising_b t p q = nat_le (along_b t p) (along_b t q)

-- from p, whose coordinate on the long axis is not the larger, to q; r says that p was given first
abbrev pub course_from : Bool → Bool → ℕ → ℕ → Spot → Spot → Course
course_from t r n m p q =
    record { flat = t; ahead = r; along = along_b t p; across = across_b t p; up = nat_le (across_b t p) (across_b t q); n = n; m = m }

-- r says that p is the start
abbrev pub course_by : Bool → Bool → Spot → Spot → Course
course_by t r p q = course_from t r (long_b p q) (short_b p q) (cond r p q) (cond r q p)

abbrev pub course_of : Spot → Spot → Course
course_of p q = course_by (flat_b p q) (rising_b (flat_b p q) p q) p q

-- no dot leaves the biased numbers
pub record Fair (l : Course) : Type 0 where
  pub short : l.m ≤ l.n
  pub far : l.along + l.n < 131072
  pub wide : l.across < 131072
  pub deep : l.up ≡ false → l.m ≤ l.across

-- the dot k along the long axis and q aside
abbrev pub spot_at : Course → ℕ → ℕ → Spot
spot_at l k q =
    record {
      x = cond l.flat (l.along + k) (aside l.up l.across q);
      y = cond l.flat (aside l.up l.across q) (l.along + k);
    }

-- what is added before the division: n where the other axis rises, and one less where it falls, as there halves are rounded up
abbrev pub half : Bool → ℕ → ℕ
half up n = cond up n (n - 1)

-- how far aside dot k is
unfoldable pub offset : ℕ → ℕ → ℕ → ℕ → ℕ
offset n m h k = (2 * k * m + h) / (2 * n)

abbrev pub offset_of : Course → ℕ → ℕ
offset_of l k = offset l.n l.m (half l.up l.n) k

-- dot k
abbrev pub line_spot : Course → ℕ → Spot
line_spot l k = spot_at l k (offset_of l k)

-- its number, counted from the first point given, and whether the pattern o paints it
abbrev pub number_b : Course → ℕ → ℕ
number_b l k = cond l.ahead k (l.n - k)

abbrev pub lit_b : ℕ → Course → ℕ → Bool
lit_b o l k = lit o (number_b l k)

-- all the dots that it paints
unfoldable pub dashed_b : ℕ → Course → ℕ → ℕ → Bool
dashed_b o l i j = some_below (suc l.n) (λ k. lit_b o l k && dot_b (line_spot l k) i j)
