-- Whether a pixel is a dot of a course: there is one dot to ask, the one as far along.
use mathlib.Core.Path.{◌≡◌, sym, subst}
use mathlib.Core.Bool.{Bool, true, false, cond, ◌&&◌}
use Prim.Native.Nat.{ℕ, suc, ◌+◌, ◌≤◌}
use native.Mathlib.Omega.{arith}
use lib.Dec.{T, eqb, eqb→eq}
use Rattle.raster.specs.declared.biased.Spot.{Spot}
use Rattle.raster.specs.Biased.{bias, dot_b, aside}
use Rattle.raster.proofs.Tests.{same, both, left, right, T_false, eq→T}
use Rattle.raster.proofs.SomeBelow.{some-intro, some-elim}
use Rattle.lines.specs.declared.course.Course.{Course}
use Rattle.lines.specs.Courses.{along_b, across_b, offset_of, line_spot, lit_b, dashed_b}

-- ---- a pixel by the axes
to-axes : (t : Bool) (a b x y : ℕ) → T (eqb (cond t a b) x && eqb (cond t b a) y) → (a ≡ cond t x y) × (b ≡ cond t y x)
to-axes true a b x y h = (eqb→eq a x (left (eqb a x) (eqb b y) h), eqb→eq b y (right (eqb a x) (eqb b y) h))
to-axes false a b x y h = (eqb→eq a y (right (eqb b x) (eqb a y) h), eqb→eq b x (left (eqb b x) (eqb a y) h))

from-axes : (t : Bool) (a b x y : ℕ) → a ≡ cond t x y → b ≡ cond t y x → T (eqb (cond t a b) x && eqb (cond t b a) y)
from-axes true a b x y p q = both (eqb a x) (eqb b y) (eq→T a x p) (eq→T b y q)
from-axes false a b x y p q = both (eqb b x) (eqb a y) (eq→T b x q) (eq→T a y p)

module _ (o : ℕ) (l : Course) (i j : ℕ) where
  -- the pixel, biased
  abbrev here : Spot
  here = record { x = i + bias; y = j + bias }

  -- dot k's coordinate on the other axis
  abbrev beside : ℕ → ℕ
  beside k = aside l.up l.across (offset_of l k)

  abbrev hits : ℕ → Bool
  hits k = lit_b o l k && dot_b (line_spot l k) i j

  where-hit : (k : ℕ) → T (hits k) → (l.along + k ≡ along_b l.flat here) × (beside k ≡ across_b l.flat here)
  where-hit k t = to-axes l.flat (l.along + k) (beside k) (i + bias) (j + bias) (right (lit_b o l k) (dot_b (line_spot l k) i j) t)

  pub missed : ((k : ℕ) → k ≤ l.n → l.along + k ≡ along_b l.flat here → ⊥) → dashed_b o l i j ≡ false
  unfolding dashed_b
  missed none = T_false (dashed_b o l i j) (λ t. some-elim (suc l.n) hits t (λ k h u. none k (omega arith) (where-hit k u).0))

  pub asked : (k : ℕ) → l.along + k ≡ along_b l.flat here → k ≤ l.n → dashed_b o l i j ≡ (eqb (across_b l.flat here) (beside k) && lit_b o l k)
  unfolding dashed_b
  asked k e h =
      same (dashed_b o l i j) (eqb (across_b l.flat here) (beside k) && lit_b o l k)
      (λ t. some-elim (suc l.n) hits t
      (λ g _ u.
      let v = subst (λ (a : ℕ). T (hits a)) (one (where-hit g u).0) u in
      both (eqb (across_b l.flat here) (beside k)) (lit_b o l k) (eq→T (across_b l.flat here) (beside k) (sym (where-hit k v).1)) (left (lit_b o l k) (dot_b (line_spot l k) i j) v)))
      (λ t. some-intro (suc l.n) k hits (omega arith)
      (both (lit_b o l k) (dot_b (line_spot l k) i j) (right (eqb (across_b l.flat here) (beside k)) (lit_b o l k) t)
      (from-axes l.flat (l.along + k) (beside k) (i + bias) (j + bias) e
      (sym (eqb→eq (across_b l.flat here) (beside k) (left (eqb (across_b l.flat here) (beside k)) (lit_b o l k) t))))))
    where
      one : {g : ℕ} → l.along + g ≡ along_b l.flat here → g ≡ k
      one q = omega arith
