-- Two coordinates, and two points, are the same where the test says so.
use Rattle.std.proofs.Common.{◌≡◌, true, false, T, ℤ, pos, negsuc, refl, ap, eqb→eq, eq-eqb, ne_eqb}
use Rattle.raster.specs.declared.dots.Dot.{Dot}
use Rattle.raster.specs.Shapes.{eq_z, dot}
use Rattle.raster.proofs.Tests.{left, right}

pub eq_z-refl : (x : ℤ) → eq_z x x ≡ true
eq_z-refl (pos a) = eq-eqb a a refl
eq_z-refl (negsuc a) = eq-eqb a a refl

pub eq_z-apart : (x y : ℤ) → (x ≡ y → ⊥) → eq_z x y ≡ false
eq_z-apart (pos a) (pos b) n = ne_eqb a b (λ e. n (ap pos e))
eq_z-apart (pos a) (negsuc b) n = refl
eq_z-apart (negsuc a) (pos b) n = refl
eq_z-apart (negsuc a) (negsuc b) n = ne_eqb a b (λ e. n (ap negsuc e))

eq_z-same : (x y : ℤ) → T (eq_z x y) → x ≡ y
eq_z-same (pos a) (pos b) t = ap pos (eqb→eq a b t)
eq_z-same (pos a) (negsuc b) t = absurd t
eq_z-same (negsuc a) (pos b) t = absurd t
eq_z-same (negsuc a) (negsuc b) t = ap negsuc (eqb→eq a b t)

-- a dot is its own point, and no other point's
pub dot-self : (d : Dot) → dot d d.x d.y ≡ true
dot-self d = rw (eq_z-refl d.x, eq_z-refl d.y)

pub dot-same : (d : Dot) (x y : ℤ) → T (dot d x y) → d ≡ record { x = x; y = y }
dot-same d x y t =
    let a = eq_z-same d.x x (left (eq_z d.x x) (eq_z d.y y) t) in
    let b = eq_z-same d.y y (right (eq_z d.x x) (eq_z d.y y) t) in
    λ i. record { x = a i; y = b i }
