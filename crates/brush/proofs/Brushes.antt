-- What a brush holds is near: its coordinates are signed words, and its radius comes back whole from a call.
use Rattle.std.proofs.Common.{◌≡◌, ◌<◌, ◌&&◌, Bool, true, false, ℕ, ℤ, pos, negsuc, refl, sym, arith, to_z, of_z, w32}
use mathlib.Core.Bool.{true≢false}
use borrow.Author.Tests.{leb-true}
use lib.IntN.{nat_abs}
use mir.Facts.{to_z-of_z}
use Rattle.numbers.specs.Coordinate.{in_word, is_radius}
use Rattle.raster.specs.declared.dots.Dot.{Dot}
use Rattle.raster.specs.Frame.{Word}
use Rattle.lines.specs.declared.line.Line.{Line}
use Rattle.circles.specs.declared.circle.Circle.{Circle}
use Rattle.brush.specs.declared.Figure.{Figure}
use Rattle.brush.specs.declared.Figure.TheVariants as Figures
use Rattle.brush.specs.Near.{near_dot, near_line, near_circle, is_near}

both : (s t : Bool) → (s && t) ≡ true → (s ≡ true) × (t ≡ true)
both true true p = (refl, refl)
both true false p = absurd (true≢false (sym p))
both false t p = absurd (true≢false (sym p))

pub word : (z : ℤ) → in_word z ≡ true → Word z
unfolding in_word
word (pos n) h = let l = leb-true n 32767 h in record { small = omega (arith, l) }
word (negsuc n) h = let l = leb-true n 32767 (both _ _ h).0 in record { small = omega (arith, l) }

abbrev Words : Dot → Type 0
Words d = Word d.x × Word d.y

pub words : (d : Dot) → near_dot d ≡ true → Words d
words d h = let p = both (in_word d.x) (in_word d.y) h in (word d.x p.0, word d.y p.1)

ends : (l : Line) → near_line l ≡ true → Words l.from × Words l.to
ends l h = let p = both (near_dot l.from) (near_dot l.to) h in (words l.from p.0, words l.to p.1)

round : (k : Circle) → near_circle k ≡ true → Words k.centre × (is_radius k.radius ≡ true)
round k h = let p = both (near_dot k.centre) (is_radius k.radius) h in (words k.centre p.0, p.1)

-- ---- by what the figure is
module _ {g : Figure} (near : is_near g ≡ true) where
  pub of-dot : {d : Dot} → g ≡ Figures.Dot d → Words d
  of-dot {d} e = words d (rw e at near)

  pub of-line : {l : Line} → g ≡ Figures.Line l → Words l.from × Words l.to
  of-line {l} e = ends l (rw e at near)

  pub of-dashed : {l : Line} {pattern : ℕ} → g ≡ Figures.Dashed l pattern → Words l.from × Words l.to
  of-dashed {l} e = ends l (rw e at near)

  pub of-disc : {k : Circle} → g ≡ Figures.Disc k → Words k.centre × (is_radius k.radius ≡ true)
  of-disc {k} e = round k (rw e at near)

  pub of-outline : {k : Circle} → g ≡ Figures.Outline k → Words k.centre × (is_radius k.radius ≡ true)
  of-outline {k} e = round k (rw e at near)

-- nothing is asked of every dot
pub unasked : is_near Figures.Every ≡ true
unasked = refl

-- ---- a radius is a natural number
pub radius-small : (z : ℤ) → is_radius z ≡ true → nat_abs z < 32768
unfolding is_radius
radius-small (pos n) h = let l = leb-true n 32767 (both _ _ h).1 in omega (arith, l)
radius-small (negsuc n) h = absurd (true≢false (sym h))

pub radius-natural : (z : ℤ) → is_radius z ≡ true → pos (nat_abs z) ≡ z
unfolding is_radius
radius-natural (pos n) h = refl
radius-natural (negsuc n) h = absurd (true≢false (sym h))

pub radius-back : (z : ℤ) → is_radius z ≡ true → to_z w32 (of_z w32 z) ≡ pos (nat_abs z)
radius-back z h = rw (sym (radius-natural z h)) (to_z-of_z {w = w32} (record { sfits = omega (arith, radius-small z h) }))
