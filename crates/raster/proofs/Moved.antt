-- Moved shapes: with its points moved by o a shape is the shape moved by o, no coordinate bounded.
use Rattle.std.proofs.Common.{◌≡◌, Bool, ◌&&◌, ℤ, ◌+ℤ◌, ◌-ℤ◌, neg_ℤ, nat_abs, sym, ap, ◌∙◌, ap₂}
use lib.IntN.{ℤ_discrete, +ℤ_idr, +ℤ_comm, +ℤ_assoc, neg_ℤ-+ℤ, +ℤ-neg_ℤ_cancel, -ℤ-+ℤ_cancel}
use lib.Signed.{le_z, non_neg}
use Rattle.raster.specs.declared.dots.Dot.{Dot}
use Rattle.raster.specs.Shapes.{Shape, top_left, eq_z, gap, dot, shifted, moved_by}
use Rattle.raster.specs.Frame.{within}
use Rattle.raster.proofs.Points.{eq_z-refl, eq_z-apart}
use Rattle.raster.proofs.Coordinates.{rises}

-- of two summands either can come first
pub sum-swap : (a b c : ℤ) → a +ℤ b +ℤ c ≡ a +ℤ c +ℤ b
sum-swap a b c = +ℤ_assoc a b c ∙ ap (λ (z : ℤ). a +ℤ z) (+ℤ_comm b c) ∙ sym (+ℤ_assoc a c b)

-- ---- two numbers moved alike keep their difference, and so their order, and are one where they were one
pub difference-shift : (a b o : ℤ) → (a +ℤ o) -ℤ (b +ℤ o) ≡ a -ℤ b
difference-shift a b o =
    ap (λ (z : ℤ). a +ℤ o +ℤ z) (neg_ℤ-+ℤ b o ∙ +ℤ_comm (neg_ℤ b) (neg_ℤ o))
    ∙ sym (+ℤ_assoc (a +ℤ o) (neg_ℤ o) (neg_ℤ b))
    ∙ ap (λ (z : ℤ). z -ℤ b) (+ℤ-neg_ℤ_cancel a o)

pub gap-shift : (a b o : ℤ) → gap (a +ℤ o) (b +ℤ o) ≡ gap a b
gap-shift a b o = ap nat_abs (difference-shift b a o)

pub le-shift : (a b o : ℤ) → le_z (a +ℤ o) (b +ℤ o) ≡ le_z a b
le-shift a b o = rises (a +ℤ o) (b +ℤ o) ∙ ap non_neg (difference-shift b a o) ∙ sym (rises a b)

eq-shift : (a b o : ℤ) → eq_z (a +ℤ o) (b +ℤ o) ≡ eq_z a b
eq-shift a b o = by (ℤ_discrete a b)
  where
    back : a +ℤ o ≡ b +ℤ o → a ≡ b
    back e = sym (+ℤ-neg_ℤ_cancel a o) ∙ ap (λ (z : ℤ). z -ℤ o) e ∙ +ℤ-neg_ℤ_cancel b o

    by : Dec (a ≡ b) → eq_z (a +ℤ o) (b +ℤ o) ≡ eq_z a b
    by (yes e) = rw (e, eq_z-refl (b +ℤ o), eq_z-refl b)
    by (no n) = eq_z-apart (a +ℤ o) (b +ℤ o) (λ e. n (back e)) ∙ sym (eq_z-apart a b n)

-- ---- what such numbers keep is the same with one moved back as with the other moved on
module _ {A : Type 0} (f : ℤ → ℤ → A) (kept : (a b o : ℤ) → f (a +ℤ o) (b +ℤ o) ≡ f a b) where
  second-moved : (a o x : ℤ) → f a (x -ℤ o) ≡ f (a +ℤ o) x
  second-moved a o x = sym (kept a (x -ℤ o) o) ∙ ap (λ (z : ℤ). f (a +ℤ o) z) (-ℤ-+ℤ_cancel x o)

  first-moved : (b o x : ℤ) → f (x -ℤ o) b ≡ f x (b +ℤ o)
  first-moved b o x = sym (kept (x -ℤ o) b o) ∙ ap (λ (z : ℤ). f z (b +ℤ o)) (-ℤ-+ℤ_cancel x o)

pub difference-moved : (a o x : ℤ) → x -ℤ o -ℤ a ≡ x -ℤ (a +ℤ o)
difference-moved = first-moved ◌-ℤ◌ difference-shift

le-moved : (a o x : ℤ) → le_z a (x -ℤ o) ≡ le_z (a +ℤ o) x
le-moved = second-moved le_z le-shift

moved-le : (b o x : ℤ) → le_z (x -ℤ o) b ≡ le_z x (b +ℤ o)
moved-le = first-moved le_z le-shift

eq-moved : (a o x : ℤ) → eq_z a (x -ℤ o) ≡ eq_z (a +ℤ o) x
eq-moved = second-moved eq_z eq-shift

-- ---- a dot, what lies between two ends, and any shape that is moved by nothing
pub dot-moved : (d o : Dot) → dot (shifted d o) ≡ moved_by o (dot d)
dot-moved d o = sym (λ i x y. eq-moved d.x o.x x i && eq-moved d.y o.y y i)

pub within-moved : (a b o x : ℤ) → within a b (x -ℤ o) ≡ within (a +ℤ o) (b +ℤ o) x
within-moved a b o x = ap₂ (λ (s t : Bool). s && t) (le-moved a o x) (moved-le b o x)

pub not-moved : (S : Shape) → moved_by top_left S ≡ S
not-moved S = λ i x y. S (+ℤ_idr x i) (+ℤ_idr y i)
