-- A walk along a line's course: what it has painted, and how it finds the next dot and its byte.
use Rattle.std.specs.Prelude.{◌≡◌, ℕ, ◌+◌, ◌-◌, ◌*◌, ◌%◌, ◌^◌, ◌<◌, ◌≤◌, max, Bool, true, false, cond, not, ◌&&◌, List, nat_le, nat_lt}
use Rattle.raster.specs.Shapes.{some_below}
use Rattle.raster.specs.Biased.{dot_b}
use Rattle.raster.specs.Rects.{Seen}
use Rattle.lines.specs.declared.course.Course.{Course}
use Rattle.lines.specs.declared.walk.Pace.{Pace}
use Rattle.lines.specs.declared.walk.Place.{Place}
use Rattle.lines.specs.Courses.{half, offset_of, line_spot, lit_b}

-- the dots from dot a on, before dot b, that the pattern o paints
unfoldable pub stretch_b : ℕ → Course → ℕ → ℕ → ℕ → ℕ → Bool
stretch_b o l a b i j = some_below b (λ k. nat_le a k && (lit_b o l k && dot_b (line_spot l k) i j))

-- all of them lie within a screen w wide whose bytes are s
abbrev pub AllSeen : ℕ → Course → ℕ → ℕ → List ℕ → Type 0
AllSeen w l a b s = (k : ℕ) → a ≤ k → k < b → Seen w (line_spot l k) s

-- dot k is q aside, and e is left there, in parts of 2n
pub record Reached (l : Course) (k q e : ℕ) : Type 0 where
  pub sum : 2 * l.n * q + e ≡ 2 * k * l.m + half l.up l.n
  pub left : e < max 1 (2 * l.n)
  pub is_offset : q ≡ offset_of l k

-- the bytes from a dot to its neighbour in the row, or else in the column
abbrev pub stride : Bool → ℕ → ℕ
stride in_row w = cond in_row 1 w

-- the bytes from a dot of the course to the next: straight on, and one aside besides, which is taken modulo 2^64
pub record Paced (w : ℕ) (l : Course) (p : Pace) : Type 0 where
  pub straight : p.on ≡ stride l.flat w
  pub rises : l.up ≡ true → p.aside ≡ p.on + stride (not l.flat) w
  pub falls : l.up ≡ false → (p.aside + stride (not l.flat) w) % 2 ^ 64 ≡ p.on

-- one step along the long axis: aside too where 2m more make 2n or more, which is where e is not below 2 (n - m)
abbrev pub next_place : Course → Pace → ℕ → ℕ → Place
next_place l p at e =
    record {
      at = cond (nat_lt e (2 * (l.n - l.m))) (at + p.on) ((at + p.aside) % 2 ^ 64);
      e = cond (nat_lt e (2 * (l.n - l.m))) (e + 2 * l.m) (e - 2 * (l.n - l.m));
    }
