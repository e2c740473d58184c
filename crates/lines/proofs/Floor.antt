-- `floor` rounds toward minus infinity: it is the largest whole number that is not above z / m.
use Rattle.std.proofs.Common.{ℕ, zero, suc, ◌+◌, ◌*◌, ◌/◌, ◌<◌, ◌≤◌, ℤ, pos, negsuc, ◌+ℤ◌, ◌*ℤ◌, neg_ℤ, ◌≤ℤ◌, ◌<ℤ◌, ap, ◌∙◌, subst, add-one, arith, le→leb, lt→ltb}
use mathlib.Core.Path.{subst⁻¹}
use native.Mathlib.Nat.{mul-div-le, lt-mul-div-succ}
use Rattle.raster.proofs.Coordinates.{sub-lt}
use Rattle.lines.specs.Line.{floor}

-- -x against -(a + 1)
neg-le : (x a : ℕ) → suc a ≤ x → neg_ℤ (pos x) ≤ℤ negsuc a
neg-le zero a h = absurd (omega arith)
neg-le (suc x) a h = record { le = le→leb a x (omega arith) }

lt-neg : (x a : ℕ) → x ≤ a → negsuc a <ℤ neg_ℤ (pos x)
lt-neg zero a h = record { lt = tt }
lt-neg (suc x) a h = record { lt = lt→ltb x a (omega arith) }

-- not above z / m
pub not-above : (z : ℤ) (m : ℕ) → 0 < m → (pos m *ℤ floor z m) ≤ℤ z
not-above (pos a) m h = record { le = le→leb (m * (a / m)) a (mul-div-le a m) }
not-above (negsuc a) m h = neg-le (m * suc (a / m)) a (subst (λ (q : ℕ). a < m * q) (add-one (a / m)) (lt-mul-div-succ a h))

-- and one more is
pub one-more-is : (z : ℤ) (m : ℕ) → 0 < m → z <ℤ (pos m *ℤ (floor z m +ℤ pos 1))
one-more-is (pos a) m h = record { lt = lt→ltb a (m * (a / m + 1)) (lt-mul-div-succ a h) }
one-more-is (negsuc a) m h = above (a / m) (mul-div-le a m)
  where
    above : (q : ℕ) → m * q ≤ a → negsuc a <ℤ (pos m *ℤ (negsuc q +ℤ pos 1))
    above zero l = record { lt = tt }
    above (suc q) l = subst⁻¹ (λ (z : ℤ). negsuc a <ℤ (pos m *ℤ z)) (sub-lt 1 (suc (suc q)) (omega arith) ∙ ap negsuc (omega arith)) (lt-neg (m * suc q) a l)
