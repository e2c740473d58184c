-- Moved lines: with both ends moved by o a line, solid or dashed, is the line moved by o; each dot keeps its number.
use Rattle.std.proofs.Common.{◌≡◌, ℕ, suc, ◌-◌, max, Bool, true, false, cond, ◌&&◌, leb, ℤ, pos, ◌+ℤ◌, ◌-ℤ◌, refl, ap, ◌∙◌, ap₂}
use Rattle.raster.specs.declared.dots.Dot.{Dot}
use Rattle.raster.specs.Shapes.{dot, shifted, moved_by, some_below}
use Rattle.raster.proofs.Moved.{sum-swap, difference-shift, gap-shift, le-shift, dot-moved}
use Rattle.lines.specs.declared.line.Line.{Line}
use Rattle.lines.specs.Line.{long, flat, rising, start, finish, side, dot_from, line_dot, line, line_by}
use Rattle.lines.specs.Dashes.{lit, number_of, dashed}

-- ---- one dot, from the ends
-- what is added to a coordinate by the difference alone is added to the moved one
added : (a b o : ℤ) (f : ℤ → ℤ) → a +ℤ o +ℤ f ((b +ℤ o) -ℤ (a +ℤ o)) ≡ a +ℤ f (b -ℤ a) +ℤ o
added a b o f = ap (λ (z : ℤ). a +ℤ o +ℤ f z) (difference-shift b a o) ∙ sum-swap a o (f (b -ℤ a))

from-moved : (t : Bool) (n : ℕ) (p q o : Dot) (k : ℕ) → dot_from t n (shifted p o) (shifted q o) k ≡ shifted (dot_from t n p q k) o
from-moved t n p q o k =
    (λ i. record {
      x = added p.x q.x o.x (λ d. cond t (pos k) (side n d k)) i;
      y = added p.y q.y o.y (λ d. cond t (side n d k) (pos k)) i;
    })

chosen-moved : (r : Bool) (p q o : Dot) → cond r (shifted p o) (shifted q o) ≡ shifted (cond r p q) o
chosen-moved true p q o = refl
chosen-moved false p q o = refl

-- ---- what the differences of the ends and their order decide stays
module _ (o : Dot) (l : Line) where
  pub long-moved : long (line_by o l) ≡ long l
  long-moved = ap₂ (λ (a b : ℕ). max a b) (gap-shift l.from.x l.to.x o.x) (gap-shift l.from.y l.to.y o.y)

  flat-moved : flat (line_by o l) ≡ flat l
  flat-moved = ap₂ (λ (a b : ℕ). leb a b) (gap-shift l.from.y l.to.y o.y) (gap-shift l.from.x l.to.x o.x)

  rising-moved : rising (line_by o l) ≡ rising l
  rising-moved = λ i. cond (flat-moved i) (le-shift l.from.x l.to.x o.x i) (le-shift l.from.y l.to.y o.y i)

  start-moved : start (line_by o l) ≡ shifted (start l) o
  start-moved = ap (λ (r : Bool). cond r (shifted l.from o) (shifted l.to o)) rising-moved ∙ chosen-moved (rising l) l.from l.to o

  finish-moved : finish (line_by o l) ≡ shifted (finish l) o
  finish-moved = ap (λ (r : Bool). cond r (shifted l.to o) (shifted l.from o)) rising-moved ∙ chosen-moved (rising l) l.to l.from o

  -- T-02: dot k is dot k, moved
  pub line-dot-moved : (k : ℕ) → line_dot (line_by o l) k ≡ shifted (line_dot l k) o
  line-dot-moved k =
      (λ i. dot_from (flat-moved i) (long-moved i) (start-moved i) (finish-moved i) k) ∙ from-moved (flat l) (long l) (start l) (finish l) o k

  -- T-03: its number stays
  pub number-moved : (k : ℕ) → number_of (line_by o l) k ≡ number_of l k
  number-moved k = λ i. cond (rising-moved i) k (long-moved i - k)

  dots-moved : (k : ℕ) → dot (line_dot (line_by o l) k) ≡ moved_by o (dot (line_dot l k))
  dots-moved k = ap dot (line-dot-moved k) ∙ dot-moved (line_dot l k) o

-- ---- all the dots, and those that a pattern paints
pub line-moved : (o : Dot) (l : Line) → line (line_by o l) ≡ moved_by o (line l)
unfolding line
line-moved o l = λ i x y. some_below (suc (long-moved o l i)) (λ k. dots-moved o l k i x y)

pub dashed-moved : (pattern : ℕ) (o : Dot) (l : Line) → dashed pattern (line_by o l) ≡ moved_by o (dashed pattern l)
unfolding dashed
dashed-moved pattern o l = λ i x y. some_below (suc (long-moved o l i)) (λ k. lit pattern (number-moved o l k i) && dots-moved o l k i x y)
