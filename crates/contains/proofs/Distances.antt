-- A circle asked by the distances that the library finds, from its centre to a pixel's spot.
use mathlib.Core.Path.{◌≡◌, sym, ap₂, ◌∙◌}
use mathlib.Core.Bool.{Bool}
use Prim.Native.Nat.{ℕ, ◌+◌}
use native.Mathlib.Omega.{arith}
use lib.IntN.{pos}
use Rattle.std.specs.Int.{abs_diff}
use Rattle.raster.specs.declared.biased.Spot.{Spot}
use Rattle.raster.specs.Biased.{bias, gap_b}
use Rattle.circles.specs.Circle.{circle}
use Rattle.circles.specs.Reaches.{circle_of, circle_at}
use Rattle.circles.proofs.Distances.{circle-is}

apart : (a : ℕ) {d s t : ℕ} → d ≡ abs_diff a s → s ≡ t → d ≡ gap_b a t
apart a e at = omega arith

pub by-distances : (filled : Bool) (p s : Spot) (q i j : ℕ) {a b : ℕ} → a ≡ abs_diff p.x s.x → b ≡ abs_diff p.y s.y → (s.x ≡ i + bias) × (s.y ≡ j + bias)
    → circle_at filled q a b ≡ circle filled (circle_of p q) (pos i) (pos j)
by-distances filled p s q i j e h at = ap₂ (circle_at filled q) (apart p.x e at.0) (apart p.y h at.1) ∙ sym (circle-is filled p q i j)
