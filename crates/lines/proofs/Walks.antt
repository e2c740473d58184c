-- Laws of a walk: none of its dots is painted yet, and one dot more; where it begins, and the step from one dot to the next.
use Rattle.std.proofs.Common.{◌≡◌, ℕ, suc, ◌+◌, ◌*◌, ◌/◌, ◌%◌, ◌<◌, ◌≤◌, Bool, true, false, cond, ◌&&◌, ◌||◌, T, leb, List, set, sym, refl, ap, ◌∙◌, subst, lt_of_lt_of_le, mod-lt, add-mul, arith, le-leb}
use mathlib.Core.Path.{subst⁻¹}
use native.Mathlib.Nat.{div-add-mod}
use borrow.Author.Tests.{lt-leb}
use Rattle.raster.specs.Shapes.{some_below}
use Rattle.raster.specs.Biased.{dot_b}
use Rattle.raster.specs.Rects.{pixels, byte_b, Placed}
use Rattle.raster.proofs.Recolour.{none, agree, twice}
use Rattle.raster.proofs.SomeBelow.{some-none}
use Rattle.raster.proofs.Pixels.{stored}
use Rattle.lines.specs.declared.course.Course.{Course}
use Rattle.lines.specs.Courses.{half, offset, line_spot, lit_b}
use Rattle.lines.specs.Walks.{stretch_b, Reached}
use Rattle.lines.proofs.Sides.{is_offset, offset-first, half_le, offset-to}

-- ---- the dots from a on, before b, that the pattern o paints
-- the screen with these painted
abbrev pub stretched : ℕ → ℕ → Course → ℕ → ℕ → ℕ → List ℕ → List ℕ
stretched w o l a b c s = pixels w (stretch_b o l a b) c s

module _ (w o : ℕ) (l : Course) (a c : ℕ) (s : List ℕ) where
  -- dot k's pixel, where the pattern paints it
  abbrev dash_at : ℕ → ℕ → ℕ → Bool
  dash_at k i j = lit_b o l k && dot_b (line_spot l k) i j

  pub none_yet : (b : ℕ) → b ≤ a → s ≡ stretched w o l a b c s
  unfolding stretch_b
  none_yet b h =
      none (λ k. stretch_b o l a b (k % w) (k / w)) c s
      (λ k _ t.
      subst T
      (some-none b (λ j. leb a j && dash_at j (k % w) (k / w)) (λ j g. ap (λ (u : Bool). u && dash_at j (k % w) (k / w)) (lt-leb a j (lt_of_lt_of_le g h))))
      t)

  one_more : (k : ℕ) → a ≤ k → pixels w (dash_at k) c (stretched w o l a k c s) ≡ stretched w o l a (suc k) c s
  unfolding stretch_b some_below
  one_more k h =
      twice (λ b. stretch_b o l a k (b % w) (b / w)) (λ b. dash_at k (b % w) (b / w)) c s
      ∙ agree (λ b. stretch_b o l a k (b % w) (b / w) || dash_at k (b % w) (b / w)) (λ b. stretch_b o l a (suc k) (b % w) (b / w)) c s
      (λ b _. ap (λ (t : Bool). stretch_b o l a k (b % w) (b / w) || (t && dash_at k (b % w) (b / w))) (sym (le-leb a k h)))

  -- dot k stored where the pattern paints it, where those before it are painted
  pub put : (k at : ℕ) (t : List ℕ) → a ≤ k → at ≡ byte_b w (line_spot l k) → Placed w (line_spot l k) → t ≡ stretched w o l a k c s
      → cond (lit_b o l k) (set t at c) t ≡ stretched w o l a (suc k) c s
  put k at t h e p q = by (lit_b o l k) ∙ ap (λ (u : List ℕ). pixels w (dash_at k) c u) q ∙ one_more k h
    where
      by : (b : Bool) → cond b (set t at c) t ≡ pixels w (λ i j. b && dot_b (line_spot l k) i j) c t
      by true = ap (λ (b : ℕ). set t b c) e ∙ stored w (line_spot l k) c t p
      by false = none (λ _. false) c t (λ _ _ n. n)

-- ---- how far aside a dot is: at the start, at any dot, at the next one, and never further than the end
pub begin : (l : Course) → Reached l 0 0 (half l.up l.n)
begin l =
    let g = half_le l.up l.n in
    record { sum = omega arith; left = omega (arith, g); is_offset = sym (offset-first l.n l.m (half l.up l.n) g) }

-- dot k by a division
pub reached : (l : Course) (k : ℕ) → 0 < l.n → let t = 2 * k * l.m + half l.up l.n in Reached l k (t / (2 * l.n)) (t % (2 * l.n))
unfolding offset
reached l k p =
    let t = 2 * k * l.m + half l.up l.n in
    record { sum = div-add-mod t (2 * l.n); left = omega (arith, mod-lt t {m = 2 * l.n} (omega arith)); is_offset = refl }

-- 2m more
pub go : (l : Course) (k q e q' e' : ℕ) → Reached l k q e → 2 * l.n * q' + e' ≡ 2 * l.n * q + e + 2 * l.m → e' < 2 * l.n → Reached l (k + 1) q' e'
go l k q e q' e' r s b =
    record { sum = again; left = omega arith; is_offset = is_offset l.n l.m (half l.up l.n) (k + 1) q' e' again b }
  where
    two-more : 2 * (k + 1) * l.m ≡ 2 * k * l.m + 2 * l.m
    two-more = ap (λ (a : ℕ). a * l.m) (omega arith) ∙ add-mul (2 * k) 2 l.m

    again : 2 * l.n * q' + e' ≡ 2 * (k + 1) * l.m + half l.up l.n
    again = omega (arith, r.sum, s, two-more)

pub at_most : (l : Course) (k q e : ℕ) → k ≤ l.n → Reached l k q e → q ≤ l.m
at_most l k q e h r = subst⁻¹ (λ (a : ℕ). a ≤ l.m) r.is_offset (offset-to l k h)
