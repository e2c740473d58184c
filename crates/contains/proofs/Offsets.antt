-- Whether a quotient is a number, told without a division; and whether a dot that is a quotient aside is at a place.
use mathlib.Core.Path.{◌≡◌, refl, sym, ap, ◌∙◌}
use mathlib.Core.Bool.{Bool, true, false, cond}
use Prim.Native.Nat.{ℕ, ◌+◌, ◌-◌, ◌*◌, ◌/◌, ◌<◌, ◌≤◌}
use native.Mathlib.Omega.{arith}
use native.Mathlib.Nat.{div-eq_of_lt-le, div-add-mod', mod-lt, mul_comm, mul-add}
use lib.Dec.{ltb, eqb, ltb→lt, lt→ltb, eqb→eq}
use borrow.Author.Tests.{ne_eqb}
use Rattle.raster.specs.Biased.{aside}
use Rattle.raster.proofs.Tests.{same, eq→T}

-- ---- q is t / d
module _ (t d q : ℕ) (some : 0 < d) where
  is : q ≡ t / d → d * q ≡ t / d * d
  is e = ap (λ (a : ℕ). d * a) e ∙ mul_comm d (t / d)

  pub too_far : t < d * q → eqb q (t / d) ≡ false
  too_far h = ne_eqb q (t / d) (λ e. omega (arith, is e, div-add-mod' t d))

  pub quotient : d * q ≤ t → ltb (t - d * q) d ≡ eqb q (t / d)
  quotient h =
      same (ltb (t - d * q) d) (eqb q (t / d))
      (λ u. eq→T q (t / d) (fits (ltb→lt (t - d * q) d u)))
      (λ u. lt→ltb (t - d * q) d (omega (arith, is (eqb→eq q (t / d) u), div-add-mod' t d, mod-lt t {m = d} some)))
    where
      fits : t - d * q < d → q ≡ t / d
      fits l = sym (div-eq_of_lt-le d (omega (arith, mul_comm q d)) (omega (arith, mul_comm (q + 1) d, mul-add d q 1)))

-- ---- b is v aside from c, where its own distance, on the side that is asked for, is v
abbrev pub distance : Bool → ℕ → ℕ → ℕ
distance up c b = cond up (b - c) (c - b)

module _ (c b v : ℕ) where
  pub elsewhere : (up : Bool) → (up ≡ false → v ≤ c) → (b ≡ aside up c (distance up c b) → ⊥) → eqb b (aside up c v) ≡ false
  elsewhere true h n = ne_eqb b (c + v) (λ e. n (omega arith))
  elsewhere false h n = let g = h refl in ne_eqb b (c - v) (λ e. n (omega arith))

  pub by-distance : (up : Bool) → (up ≡ false → v ≤ c) → b ≡ aside up c (distance up c b) → eqb (distance up c b) v ≡ eqb b (aside up c v)
  by-distance true h p =
      same (eqb (b - c) v) (eqb b (c + v)) (λ u. let e = eqb→eq (b - c) v u in eq→T b (c + v) (omega arith)) (λ u. let e = eqb→eq b (c + v) u in eq→T (b - c) v (omega arith))
  by-distance false h p =
      let g = h refl in
      same (eqb (c - b) v) (eqb b (c - v)) (λ u. let e = eqb→eq (c - b) v u in eq→T b (c - v) (omega arith)) (λ u. let e = eqb→eq b (c - v) u in eq→T (c - b) v (omega arith))
