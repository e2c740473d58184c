-- A painting is stores one after the other: a dot is one store, and numbered dots are 0, 1, .., each stored or skipped.
use Rattle.std.proofs.Common.{◌≡◌, ℕ, zero, suc, ◌+◌, ◌*◌, ◌/◌, ◌%◌, ◌<◌, Bool, true, false, cond, ◌&&◌, T, List, set, ℤ, pos, negsuc, nat_abs, sym, refl, ap, ◌∙◌, subst, ap₂, subst₂, ltb→lt}
use lib.Signed.{le_z, lt_z}
use Rattle.raster.specs.declared.dots.Dot.{Dot}
use Rattle.raster.specs.declared.frame.Frame.{Frame}
use Rattle.raster.specs.Shapes.{dot, some_below}
use Rattle.raster.specs.Frame.{drawable}
use Rattle.raster.specs.Paint.{recolour, hit, paint}
use Rattle.raster.specs.Stores.{store, store_first}
use Rattle.raster.proofs.Tests.{left, right, both, four}
use Rattle.raster.proofs.Points.{dot-self, dot-same}
use Rattle.raster.proofs.Recolour.{one, none}
use Rattle.raster.proofs.Pixels.{column, row, byte}
use Rattle.raster.proofs.Paintings.{drawable-pixel, union, nothing}

-- a drawable point has a column and a row
record Placed (w : ℕ) (x y : ℤ) : Type 0 where
  column-is : x ≡ pos (nat_abs x)
  row_is : y ≡ pos (nat_abs y)
  narrow : nat_abs x < w

placed : (f : Frame) (x y : ℤ) → T (drawable f x y) → Placed f.bounds.width x y
placed f x y t =
    by x y (four (le_z (pos 0) x) (lt_z x (pos f.bounds.width)) (le_z (pos 0) y) (lt_z y (pos f.bounds.height)) (drawable-pixel f x y t).0)
  where
    by : (x y : ℤ) → T (le_z (pos 0) x) × T (lt_z x (pos f.bounds.width)) × T (le_z (pos 0) y) × T (lt_z y (pos f.bounds.height))
        → Placed f.bounds.width x y
    by (pos i) (pos j) q = record { column-is = refl; row_is = refl; narrow = ltb→lt i f.bounds.width q.1 }
    by (pos i) (negsuc j) q = absurd q.2
    by (negsuc i) y q = absurd q.0

module _ (f : Frame) (c : ℕ) (d : Dot) (s : List ℕ) where
  abbrev w : ℕ
  w = f.bounds.width

  -- where the dot of a byte is
  at_byte : (k : ℕ) → T (hit f (dot d) k) → (d.x ≡ pos (k % w)) × (d.y ≡ pos (k / w))
  at_byte k u =
      let e = dot-same d (pos (k % w)) (pos (k / w)) (right (drawable f (pos (k % w)) (pos (k / w))) (dot d (pos (k % w)) (pos (k / w))) u) in
      (ap (λ (p : Dot). p.x) e, ap (λ (p : Dot). p.y) e)

  dot-in : T (drawable f d.x d.y) → set s (nat_abs d.y * w + nat_abs d.x) c ≡ recolour (hit f (dot d)) c s
  dot-in t =
      let x = nat_abs d.x in
      let y = nat_abs d.y in
      let p = placed f d.x d.y t in
      one (hit f (dot d)) c s (y * w + x)
      (subst₂ (λ (i j : ℕ). T (drawable f (pos i) (pos j) && dot d (pos i) (pos j))) (sym (column w x y p.narrow)) (sym (row w x y p.narrow))
      (subst₂ (λ (u v : ℤ). T (drawable f u v && dot d u v)) p.column-is p.row_is
      (both (drawable f d.x d.y) (dot d d.x d.y) t (subst T (sym (dot-self d)) tt))))
      (λ k l u.
      let e = at_byte k u in
      sym (byte w k) ∙ ap₂ (λ (i j : ℕ). i * w + j) (sym (ap nat_abs e.1)) (sym (ap nat_abs e.0)))

  dot-out : (T (drawable f d.x d.y) → ⊥) → s ≡ recolour (hit f (dot d)) c s
  dot-out n =
      none (hit f (dot d)) c s
      (λ k l u.
      let e = at_byte k u in
      let x = pos (k % w) in
      let y = pos (k / w) in
      n (subst₂ (λ (u v : ℤ). T (drawable f u v)) (sym e.0) (sym e.1) (left (drawable f x y) (dot d x y) u)))

  pub paint-dot : paint f (dot d) c s ≡ store f c d s
  unfolding paint
  paint-dot = by (drawable f d.x d.y) refl
    where
      by : (b : Bool) → drawable f d.x d.y ≡ b → recolour (hit f (dot d)) c s ≡ cond b (set s (nat_abs d.y * w + nat_abs d.x) c) s
      by true e = sym (dot-in (subst T (sym e) tt))
      by false e = sym (dot-out (λ t. subst T e t))

-- numbered dots
pub paint-first : (f : Frame) (c : ℕ) (D : ℕ → Dot) (k : ℕ) (s : List ℕ) → paint f (λ x y. some_below k (λ q. dot (D q) x y)) c s ≡ store_first f c D k s
unfolding some_below
paint-first f c D zero s = nothing f c s
paint-first f c D (suc k) s =
    sym (union f (λ x y. some_below k (λ q. dot (D q) x y)) (dot (D k)) c s)
    ∙ paint-dot f c (D k) (paint f (λ x y. some_below k (λ q. dot (D q) x y)) c s)
    ∙ ap (λ (t : List ℕ). store f c (D k) t) (paint-first f c D k s)
