-- Which dots of a course are within a rectangle: those from one dot on, before another.
use Rattle.std.specs.Prelude.{ℕ, ◌+◌, ◌-◌, ◌<◌, ◌≤◌, Bool, true, cond, ◌&&◌, T, ◌==◌, nat_lt}
use Rattle.raster.specs.declared.biased.Spot.{Spot}
use Rattle.raster.specs.declared.rect.Rect.{Rect}
use Rattle.raster.specs.Rects.{inside_b}
use Rattle.lines.specs.declared.course.Course.{Course}
use Rattle.lines.specs.declared.span.Span.{Span}
use Rattle.lines.specs.Courses.{along_b, across_b, offset_of, line_spot}

-- the steps from a, up or down, that end at lo to hi: from `from` on, before `past`
abbrev pub span_of : Bool → ℕ → ℕ → ℕ → Span
span_of up a lo hi = record { from = cond up (lo - a) (a - hi); past = cond up (hi + 1 - a) (a + 1 - lo) }

-- the numbers 0 to n are all in the span
abbrev pub covers_b : Span → ℕ → Bool
covers_b s n = s.from == 0 && nat_lt n s.past

-- the corners of r with the smallest and the largest coordinates
abbrev pub low_b : Rect → Spot
low_b r = record { x = r.l; y = r.t }

abbrev pub high_b : Rect → Spot
high_b r = record { x = r.r; y = r.b }

-- the steps along the long axis, and those aside, that end within r
abbrev pub along_span : Rect → Course → Span
along_span r l = span_of true l.along (along_b l.flat (low_b r)) (along_b l.flat (high_b r))

abbrev pub across_span : Rect → Course → Span
across_span r l = span_of l.up l.across (across_b l.flat (low_b r)) (across_b l.flat (high_b r))

-- every dot from dot f on is q aside, or more, and no dot before it is
pub record First (l : Course) (q f : ℕ) : Type 0 where
  pub before : (k : ℕ) → k < f → k ≤ l.n → offset_of l k < q
  pub from : (k : ℕ) → f ≤ k → k ≤ l.n → q ≤ offset_of l k
  pub limit : f ≤ l.n + 1

-- the dots within r are those from dot a on, before dot b
pub record DotsWithin (r : Rect) (l : Course) (a b : ℕ) : Type 0 where
  pub inside : (k : ℕ) → a ≤ k → k < b → T (inside_b r (line_spot l k).x (line_spot l k).y)
  pub only : (k : ℕ) → k ≤ l.n → T (inside_b r (line_spot l k).x (line_spot l k).y) → (a ≤ k) × (k < b)
  pub limit : b ≤ l.n + 1
