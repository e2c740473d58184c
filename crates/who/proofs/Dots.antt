-- A dot as a column and a row: on the screen it is the pixel there.
use Prim.Native.Nat.{ℕ, ◌<◌, ◌≤◌}
use mathlib.Core.Path.{◌≡◌, refl, ap, ap₂, ◌∙◌, subst}
use mathlib.Core.Bool.{Bool, true, false, ◌&&◌, and-false}
use native.Mathlib.Omega.{arith}
use borrow.Author.Tests.{lt-ltb, le-ltb}
use lib.IntN.{ℤ, pos}
use lib.Signed.{le_z, lt_z}
use Rattle.raster.specs.declared.dots.Dot.{Dot}
use Rattle.raster.specs.declared.frame.Bounds.{Bounds}
use Rattle.raster.specs.Frame.{on_screen, Sound}
use Rattle.who.specs.Following.{pixel, Unsigned}

-- ---- one axis: a side of n columns or rows
module _ (z : ℤ) (i n : ℕ) (u : Unsigned z i) where
  abbrev inside : Bool
  inside = le_z (pos 0) z && lt_z z (pos n)

  beyond : n ≤ i → inside ≡ false
  beyond h = by (le_z (pos 0) z) refl
    where
      by : (t : Bool) → le_z (pos 0) z ≡ t → (t && lt_z z (pos n)) ≡ false
      by true e = subst (λ (y : ℤ). lt_z y (pos n) ≡ false) (u.from_0 e) (le-ltb i n h)
      by false e = refl

  within : n ≤ 2048 → i < n → (pos i ≡ z) × (inside ≡ true)
  within s h = by (le_z (pos 0) z) refl
    where
      by : (t : Bool) → le_z (pos 0) z ≡ t → (pos i ≡ z) × ((t && lt_z z (pos n)) ≡ true)
      by true e = (u.from_0 e, subst (λ (y : ℤ). lt_z y (pos n) ≡ true) (u.from_0 e) (lt-ltb i n h))
      by false e = absurd (omega (arith, u.negative e, s, h))

-- ---- both
module _ (b : Bounds) (d : Dot) (i j : ℕ) (x : Unsigned d.x i) (y : Unsigned d.y j) where
  pub past-columns : b.width ≤ i → on_screen b d.x d.y ≡ false
  past-columns h = rw (beyond d.x i b.width x h)

  pub past-rows : b.height ≤ j → on_screen b d.x d.y ≡ false
  past-rows h = ap (λ (t : Bool). inside d.x i b.width x && t) (beyond d.y j b.height y h) ∙ and-false (inside d.x i b.width x)

  pub on-screen : Sound b → i < b.width → j < b.height → (pixel i j ≡ d) × (on_screen b d.x d.y ≡ true)
  on-screen s h k =
      let p = within d.x i b.width x s.width_to h in
      let q = within d.y j b.height y s.height_to k in
      (λ t. record { x = p.0 t; y = q.0 t }, ap₂ (λ (u v : Bool). u && v) p.1 q.1)
