-- Request T-04 of lines: the dots of a dashed line, clipping aside, number what a walk of its length counts.
use mathlib.Core.Path.{◌≡◌, refl, sym, ap, ◌∙◌, subst}
use mathlib.Core.Bool.{Bool, true, false, cond, ◌&&◌}
use Prim.Native.Nat.{ℕ, suc, ◌-◌, ◌^◌, ◌<◌, ◌≤◌}
use native.Mathlib.Omega.{arith}
use lib.IntN.{ℤ, pos, negsuc}
use lib.Signed.{mag}
use Rattle.numbers.specs.Coordinate.{in_word}
use Rattle.numbers.proofs.Coordinates.{within-mag}
use Rattle.raster.specs.declared.dots.Dot.{Dot}
use Rattle.raster.specs.Shapes.{gap, dot, some_below}
use Rattle.raster.specs.Frame.{Coord}
use Rattle.raster.specs.Biased.{biased, gap_b}
use Rattle.raster.proofs.Tests.{T_false}
use Rattle.raster.proofs.Points.{dot-same}
use Rattle.raster.proofs.Coordinates.{gap_is}
use Rattle.lines.specs.declared.line.Line.{Line}
use Rattle.lines.specs.Line.{long, flat, rising, line_dot}
use Rattle.lines.specs.Dashes.{lit, number_of, dashed}
use Rattle.lines.proofs.Patterns.{along, counted}
use Rattle.lit.specs.Lit.{count_below, lit_among, lit_of}
use Rattle.lit.specs.Numbering.{Has}
use Rattle.lit.proofs.Limit.{within}
use Rattle.lit.proofs.Counting.{count-back}
use Rattle.lit.proofs.Gathering.{as_many}

module _ (l : Line) where
  abbrev n : ℕ
  n = long l

  -- two dots have two numbers
  number-apart : (j k : ℕ) → j < k → k ≤ n → number_of l j ≡ number_of l k → ⊥
  number-apart j k h m = by (rising l)
    where
      by : (r : Bool) → cond r j (n - j) ≡ cond r k (n - k) → ⊥
      by true e = omega arith
      by false e = omega arith

  -- so they are two points: the number is how far a dot is from the first point given
  apart : (j k : ℕ) → j < k → k < suc n → dot (line_dot l j) (line_dot l k).x (line_dot l k).y ≡ false
  apart j k h m =
      T_false (dot (line_dot l j) (line_dot l k).x (line_dot l k).y)
      (λ t. number-apart j k h (omega arith)
      (sym (counted l j (omega arith))
      ∙ ap (λ (d : Dot). gap (along (flat l) l.from) (along (flat l) d)) (dot-same (line_dot l j) (line_dot l k).x (line_dot l k).y t)
      ∙ counted l k (omega arith)))

  -- whichever end they are reckoned from, their numbers are 0 to n
  pub either_end : (o : ℕ) → count_below (suc n) (λ k. lit o (number_of l k)) ≡ lit_among (suc n) o
  either_end o = by (rising l)
    where
      by : (r : Bool) → count_below (suc n) (λ k. lit o (cond r k (n - k))) ≡ count_below (suc n) (lit o)
      by true = refl
      by false = count-back n (lit o)

  -- T-04: a line is n + 1 dots long
  pub dashed-has : (o : ℕ) → Has (dashed o l) (lit_among (suc n) o)
  unfolding dashed
  dashed-has o =
      subst (Has (λ x y. some_below (suc n) (λ k. lit o (number_of l k) && dot (line_dot l k) x y))) (either_end o)
      (as_many (line_dot l) (λ k. lit o (number_of l k)) (suc n) apart)

-- ---- every line of a list
-- from one signed word to another there are at most 65,535 steps
gap-fits : (a b : ℤ) → in_word a ≡ true → in_word b ≡ true → gap a b < 65536
gap-fits a b h k = subst (λ (g : ℕ). g < 65536) (sym (gap_is a b (near a h) (near b k))) (by (biased-word a (within-mag a h)) (biased-word b (within-mag b k)))
  where
    near : (z : ℤ) → in_word z ≡ true → Coord z
    near z e = record { small = omega (arith, within-mag z e) }

    biased-word : (z : ℤ) → mag z < 2 ^ 15 → (32768 ≤ biased z) × (biased z < 98304)
    biased-word (pos m) e = (omega arith, omega arith)
    biased-word (negsuc m) e = (omega arith, omega arith)

    by : (32768 ≤ biased a) × (biased a < 98304) → (32768 ≤ biased b) × (biased b < 98304) → gap_b (biased a) (biased b) < 65536
    by p q = omega (arith, p.0, p.1, q.0, q.1)

-- the ends of a line are signed words, as those of a list's lines are
pub record WordEnds (l : Line) : Type 0 where
  pub from : (in_word l.from.x ≡ true) × (in_word l.from.y ≡ true)
  pub to : (in_word l.to.x ≡ true) × (in_word l.to.y ≡ true)

short : (l : Line) → WordEnds l → suc (long l) ≤ 65536
short l w = omega (arith, gap-fits l.from.x l.to.x w.from.0 w.to.0, gap-fits l.from.y l.to.y w.from.1 w.to.1)

-- T-04: it is not too long, and its dots, clipping aside, number `lit` of its length in dots and the pattern
pub line-lit : (o : ℕ) (l : Line) → WordEnds l → ((lit_of (suc (long l)) o).number ≡ 0) × Has (dashed o l) (lit_of (suc (long l)) o).count
line-lit o l w = rw (within (suc (long l)) o (short l w)) (refl, dashed-has l o)
