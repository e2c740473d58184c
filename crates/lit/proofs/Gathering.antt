-- A shape that is made of dots that differ has as many points as dots.
use mathlib.Core.Path.{◌≡◌, refl, sym, ap, ◌∙◌}
use mathlib.Core.Bool.{Bool, true, false, cond, ◌&&◌, ◌||◌, and-false, or-false, or_comm}
use mathlib.Core.List.{List, [], ◌∷◌}
use Prim.Native.Nat.{ℕ, zero, suc, ◌+◌, ◌<◌}
use native.Mathlib.Omega.{arith}
use lib.IntN.{ℤ}
use lib.ListN.{length}
use Rattle.raster.specs.declared.dots.Dot.{Dot}
use Rattle.raster.specs.Shapes.{Shape, dot, some_below}
use Rattle.raster.proofs.SomeBelow.{some-none}
use Rattle.lit.specs.Lit.{count_below}
use Rattle.lit.specs.Numbering.{among, Once, Has}

-- of the dots d 0, d 1, .. those are there of which p says so
module _ (d : ℕ → Dot) (p : ℕ → Bool) where
  abbrev shape : ℕ → Shape
  shape n = λ x y. some_below n (λ k. p k && dot (d k) x y)

  abbrev gathered : ℕ → List Dot
  gathered zero = []
  gathered (suc k) = cond (p k) (d k ∷ gathered k) (gathered k)

  each-one : (n : ℕ) (x y : ℤ) → shape n x y ≡ among (gathered n) x y
  unfolding some_below
  each-one zero x y = refl
  each-one (suc n) x y = ap (λ (b : Bool). b || (p n && dot (d n) x y)) (each-one n x y) ∙ by (p n)
    where
      by : (t : Bool) → (among (gathered n) x y || (t && dot (d n) x y)) ≡ among (cond t (d n ∷ gathered n) (gathered n)) x y
      by true = or_comm (among (gathered n) x y) (dot (d n) x y)
      by false = or-false (among (gathered n) x y)

  as-counted : (n : ℕ) → length (gathered n) ≡ count_below n p
  unfolding count_below
  as-counted zero = refl
  as-counted (suc n) = by (p n) (as-counted n)
    where
      by : (t : Bool) → length (gathered n) ≡ count_below n p → length (cond t (d n ∷ gathered n) (gathered n)) ≡ count_below n p + cond t 1 0
      by true e = omega arith
      by false e = omega arith

  abbrev Differ : ℕ → Type 0
  Differ n = (j k : ℕ) → j < k → k < n → dot (d j) (d k).x (d k).y ≡ false

  none-twice : (n : ℕ) → Differ n → Once (gathered n)
  none-twice zero a = tt
  none-twice (suc n) a = by (p n) (none-twice n (λ j k h l. a j k h (omega arith)))
    where
      nowhere : (k : ℕ) → k < n → (p k && dot (d k) (d n).x (d n).y) ≡ false
      nowhere k h = ap (λ (b : Bool). p k && b) (a k n h (omega arith)) ∙ and-false (p k)

      new : among (gathered n) (d n).x (d n).y ≡ false
      new = sym (each-one n (d n).x (d n).y) ∙ some-none n (λ k. p k && dot (d k) (d n).x (d n).y) nowhere

      by : (t : Bool) → Once (gathered n) → Once (cond t (d n ∷ gathered n) (gathered n))
      by true o = (new, o)
      by false o = o

  pub as_many : (n : ℕ) → Differ n → Has (shape n) (count_below n p)
  as_many n a = record { points = gathered n; each = each-one n; once = none-twice n a; many = as-counted n }
