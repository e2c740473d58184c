-- Points: what two coordinates that are judged make of a point, what an answer tells of it, and dots there. And circles: what a radius makes of one.
use Prim.Native.Nat.{◌^◌, ◌<◌}
use mathlib.Core.Path.{◌≡◌, refl, sym, ◌∙◌}
use mathlib.Core.Bool.{Bool, true, false, cond, not, ◌&&◌, ◌||◌}
use borrow.Author.Tests.{not-false}
use lib.IntN.{ℤ, ◌+ℤ◌}
use lib.Signed.{mag}
use mir.Syntax.{w32}
use mir.Val.{to_z, of_z}
use mir.Facts.{to_z-of_z}
use Rattle.std.specs.Prelude.{Some, None, Option}
use Rattle.numbers.specs.Coordinate.{in_word, coordinate, is_radius, radius}
use Rattle.numbers.proofs.Answers.{told-first, told-second, clash}
use Rattle.raster.specs.declared.dots.Dot.{Dot}
use Rattle.raster.specs.Shapes.{shifted}
use Rattle.circles.specs.declared.circle.Circle.{Circle}
use Rattle.brush.specs.Near.{near_dot, near_circle}
use Rattle.brush.proofs.Brushes.{radius-natural, radius-back}
use Rattle.rules.specs.Opcodes.{far}
use Rattle.rules.proofs.Ranges.{both, neither}
use Rattle.draw.specs.Point.{some_unless, point_of, point_by, paired, round_of}

-- s and t: x and y are within a signed word
by_both : (s t : Bool) (x y : ℤ)
    → paired (cond s (Some x) None) (cond t (Some y) None) ≡ cond (not (s && t)) None (Some (record { x = x; y = y }))
by_both true true x y = refl
by_both true false x y = refl
by_both false t x y = refl

pub judged : (p : Dot) → paired (coordinate p.x) (coordinate p.y) ≡ point_of p
unfolding coordinate some_unless
judged p = by_both (in_word p.x) (in_word p.y) p.x p.y

-- a value as the machine has it, in 32 bits
abbrev in32 : ℤ → ℤ
in32 z = to_z w32 (of_z w32 z)

-- offsets outside are refused; others, which the program holds as q, are added, and the sums judged
pub no-offset : (p d : Dot) → far d ≡ true → None ≡ point_by p d
unfolding some_unless
no-offset p d e = rw e

pub sum-judged : (p d q : Dot) → (far d ≡ false) × (q ≡ d) → mag p.x < 2 ^ 31 → mag p.y < 2 ^ 31 → mag q.x < 2 ^ 31 → mag q.y < 2 ^ 31
    → paired (coordinate (in32 p.x +ℤ in32 q.x)) (coordinate (in32 p.y +ℤ in32 q.y)) ≡ point_by p d
sum-judged p d q is px py qx qy = rw (same p.x px, same p.y py, same q.x qx, same q.y qy, is.1, is.0) (judged (shifted p d))
  where
    same : (z : ℤ) → mag z < 2 ^ 31 → in32 z ≡ z
    same z h = to_z-of_z {w = w32} (record { sfits = h })

-- ---- what a brush asks of what it holds: a point that is not far
pub near : {p q : Dot} → (far p ≡ false) × (q ≡ p) → near_dot q ≡ true
near h = rw h.1 (not-false _ h.0)

pub near-by : {p q : Dot} (d : Dot) → ((far d || far p) ≡ false) × (q ≡ p) → near_dot q ≡ true
near-by d h = near ((neither _ _ h.0).1, h.1)

-- ---- what the answer r tells of x, a point or a circle
module _ {X : Type 0} {r : Option X} (out : Bool) (x : X) (is : r ≡ some_unless out x) where
  pub told-outside : r ≡ None → out ≡ true
  unfolding some_unless
  told-outside e = (told-first out (λ o. clash (cc)) (sym is ∙ e)).0

  pub told_at : {y : X} → r ≡ Some y → (out ≡ false) × (y ≡ x)
  unfolding some_unless
  told_at e = let t = told-second out (λ o. clash (cc)) (sym is ∙ e) in (t.0, cc)

-- ---- circles: the centre is judged, and then the radius
module _ (p : Dot) (z : ℤ) where
  pub no-centre : far p ≡ true → None ≡ round_of p z
  unfolding some_unless
  no-centre e = rw e

  pub no-radius : far p ≡ false → radius z ≡ None → None ≡ round_of p z
  unfolding some_unless radius
  no-radius e r = rw (e, (told-second (is_radius z) (λ o. clash (cc)) r).0)

  pub round-judged : {q : Dot} {x : ℤ} → (far p ≡ false) × (q ≡ p) → radius z ≡ Some x → Some (record { centre = q; radius = in32 x }) ≡ round_of p z
  unfolding some_unless radius
  round-judged {q} {x} is r =
      let t = told-first (is_radius z) (λ o. clash (cc)) r in
      let same : x ≡ z = cc in
      rw (same, radius-back z t.0, radius-natural z t.0, is.1, is.0, t.0)

pub round-near : {l : Circle} (p : Dot) (z : ℤ) → ((far p || not (is_radius z)) ≡ false) × (l ≡ record { centre = p; radius = z }) → near_circle l ≡ true
round-near p z t =
    let g = neither _ _ t.0 in
    rw t.1 (both (near_dot p) (is_radius z) (not-false _ g.0) (not-false (is_radius z) g.1))
