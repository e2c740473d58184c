-- What follows of circles: radius 0 is one dot, filled and as outline; an outline's dots are the filled circle's; and two small pictures, by computation.
use mathlib.Core.Path.{◌≡◌, refl, sym, ap, ap₂, ◌∙◌, subst, subst₂}
use mathlib.Core.Bool.{Bool, not, ◌&&◌, ◌||◌}
use mathlib.Core.List.{[], ◌∷◌}
use Prim.Native.Nat.{ℕ, ◌+◌, ◌*◌, ◌≤◌}
use native.Mathlib.Omega.{arith}
use borrow.Author.Tests.{lt-leb}
use lib.IntN.{ℤ, pos, negsuc, nat_abs, ◌+ℤ◌, ◌-ℤ◌, +ℤ_idl, +ℤ_invr, -ℤ-+ℤ_cancel}
use lib.Dec.{T, leb, leb→le}
use lib.ListN.{replicate}
use Rattle.raster.specs.declared.dots.Dot.{Dot}
use Rattle.raster.specs.declared.frame.Frame.{Frame}
use Rattle.raster.specs.Shapes.{top_left, gap, dot}
use Rattle.raster.specs.Frame.{drawable}
use Rattle.raster.specs.Paint.{recolour_from, paint}
use Rattle.raster.proofs.Tests.{same, left, and-true}
use Rattle.raster.proofs.Points.{dot-self, dot-same}
use Rattle.circles.specs.declared.circle.Circle.{Circle}
use Rattle.circles.specs.Circle.{disc, outline}
use Rattle.circles.specs.Reaches.{reach}
use Rattle.circles.proofs.Squares.{le-square}
use Rattle.circles.proofs.Distances.{disc-at, outline-at}

-- ---- radius 0
zero-size : (z : ℤ) → nat_abs z ≡ 0 → z ≡ pos 0
zero-size (pos n) e = ap pos e
zero-size (negsuc n) e = absurd (omega arith)

no_gap : (a x : ℤ) → gap a x ≡ 0 → a ≡ x
no_gap a x e = sym (sym (-ℤ-+ℤ_cancel x a) ∙ ap (λ (z : ℤ). z +ℤ a) (zero-size (x -ℤ a) e) ∙ +ℤ_idl a)

gap_same : (a x : ℤ) → a ≡ x → gap a x ≡ 0
gap_same a x e = ap (λ (z : ℤ). nat_abs (x -ℤ z)) e ∙ ap nat_abs (+ℤ_invr x)

none : (a b : ℕ) → a * a + b * b ≤ 0 * 0 → (a ≡ 0) × (b ≡ 0)
none a b h = (let p : a ≤ 0 = le-square a 0 (omega arith) in omega arith, let p : b ≤ 0 = le-square b 0 (omega arith) in omega arith)

reach-zero : (c : Dot) (x y : ℤ) → reach 0 (gap c.x x) (gap c.y y) ≡ dot c x y
reach-zero c x y =
    same (reach 0 (gap c.x x) (gap c.y y)) (dot c x y)
    (λ t.
    let h = none (gap c.x x) (gap c.y y) (leb→le (gap c.x x * gap c.x x + gap c.y y * gap c.y y) (0 * 0) t) in
    subst₂ (λ (u v : ℤ). T (dot c u v)) (no_gap c.x x h.0) (no_gap c.y y h.1) (subst T (sym (dot-self c)) tt))
    (λ t.
    let e = dot-same c x y t in
    let a = gap_same c.x x (ap (λ (d : Dot). d.x) e) in
    let b = gap_same c.y y (ap (λ (d : Dot). d.y) e) in
    subst (λ (n : ℕ). T (leb n (0 * 0))) (sym (ap₂ (λ (u v : ℕ). u * u + v * v) a b)) tt)

pub one-dot : (c : Dot) (x y : ℤ) → disc (record { centre = c; radius = pos 0 }) x y ≡ dot c x y
one-dot c x y = disc-at (record { centre = c; radius = pos 0 }) x y ∙ reach-zero c x y

-- the point one further out in its row is outside
pub one-dot-outline : (c : Dot) (x y : ℤ) → outline (record { centre = c; radius = pos 0 }) x y ≡ dot c x y
one-dot-outline c x y =
    outline-at (record { centre = c; radius = pos 0 }) x y
    ∙ ap (λ (b : Bool). reach 0 a (gap c.y y) && (not b || not (reach 0 a (gap c.y y + 1)))) (lt-leb ((a + 1) * (a + 1) + gap c.y y * gap c.y y) (0 * 0) (omega arith))
    ∙ and-true (reach 0 a (gap c.y y))
    ∙ reach-zero c x y
  where
    a : ℕ
    a = gap c.x x

-- ---- an outline's dots are the filled circle's
pub outline-inside : (k : Circle) (x y : ℤ) → T (outline k x y) → T (disc k x y)
unfolding outline
outline-inside k x y t = left (disc k x y) _ t

-- ---- radius 2 around (2, 2) on a 5 x 5 screen, in colour 7
abbrev five : Frame
five =
    record {
      bounds = record { width = 5; height = 5; pane = record { left = 0; top = 0; right = 4; bottom = 4 } };
      origin = top_left;
      mode = 0;
      window = record { x0 = pos 0; y0 = pos 0; x1 = pos 4; y1 = pos 4 };
    }

abbrev two : Circle
two = record { centre = record { x = pos 2; y = pos 2 }; radius = pos 2 }

pub picture-disc : paint five (disc two) 7 (replicate 25 0)
    ≡ 0 ∷ 0 ∷ 7 ∷ 0 ∷ 0
    ∷ 0 ∷ 7 ∷ 7 ∷ 7 ∷ 0
    ∷ 7 ∷ 7 ∷ 7 ∷ 7 ∷ 7
    ∷ 0 ∷ 7 ∷ 7 ∷ 7 ∷ 0
    ∷ 0 ∷ 0 ∷ 7 ∷ 0 ∷ 0 ∷ []
unfolding paint drawable disc recolour_from
picture-disc = refl

pub picture-outline : paint five (outline two) 7 (replicate 25 0)
    ≡ 0 ∷ 0 ∷ 7 ∷ 0 ∷ 0
    ∷ 0 ∷ 7 ∷ 0 ∷ 7 ∷ 0
    ∷ 7 ∷ 0 ∷ 0 ∷ 0 ∷ 7
    ∷ 0 ∷ 7 ∷ 0 ∷ 7 ∷ 0
    ∷ 0 ∷ 0 ∷ 7 ∷ 0 ∷ 0 ∷ []
unfolding paint drawable outline disc recolour_from
picture-outline = refl
