-- A circle by distances from its centre, for every point: of two neighbours in a row or in a column the further one tells.
use mathlib.Core.Path.{◌≡◌, refl, ap, ap₂, ◌∙◌}
use mathlib.Core.Bool.{Bool, true, false, not, ◌&&◌, ◌||◌}
use mathlib.Core.List.{List}
use Prim.Native.Nat.{ℕ, zero, suc, ◌+◌, ◌*◌, ◌≤◌}
use native.Mathlib.Omega.{arith}
use lib.IntN.{ℤ, pos, negsuc, nat_abs, suc_ℤ, pred_ℤ, neg_ℤ, ◌+ℤ◌, ◌-ℤ◌, +ℤ_one, -ℤ_one, pred_ℤ-+ℤ, suc_ℤ-+ℤ}
use lib.Signed.{le_z}
use lib.Dec.{T, leb→le, le→leb}
use Rattle.raster.specs.declared.biased.Spot.{Spot}
use Rattle.raster.specs.declared.frame.Frame.{Frame}
use Rattle.raster.specs.declared.rect.Rect.{Rect}
use Rattle.raster.specs.Shapes.{gap}
use Rattle.raster.specs.Frame.{Fitting}
use Rattle.raster.specs.Paint.{paint}
use Rattle.raster.specs.Rects.{pixels, in_rect, rect_of}
use Rattle.raster.proofs.Coordinates.{gap-pos}
use Rattle.raster.proofs.Drawings.{painted}
use Rattle.circles.specs.declared.circle.Circle.{Circle}
use Rattle.circles.specs.Circle.{disc, outline, circle}
use Rattle.circles.specs.Reaches.{circle_of, reach, circle_at, circle_b}
use Rattle.circles.proofs.Squares.{square_le, square-size}

-- ---- the filled circle
pub disc-at : (k : Circle) (x y : ℤ) → disc k x y ≡ reach (nat_abs k.radius) (gap k.centre.x x) (gap k.centre.y y)
unfolding disc
disc-at k x y = λ i. le_z (square-size (x -ℤ k.centre.x) i +ℤ square-size (y -ℤ k.centre.y) i) (square-size k.radius i)

-- ---- what holds at a distance holds at any shorter one
module _ (P : ℕ → Bool) (shorter : (m n : ℕ) → m ≤ n → T (P n) → T (P m)) where
  further : (m n : ℕ) → m ≤ n → (not (P m) || not (P n)) ≡ not (P n)
  further m n l = by (P m) (P n) (shorter m n l)
    where
      by : (u v : Bool) → (T v → T u) → (not u || not v) ≡ not v
      by true v f = refl
      by false true f = absurd (f tt)
      by false false f = refl

  nearer : (m n : ℕ) → m ≤ n → (not (P n) || not (P m)) ≡ not (P n)
  nearer m n l = by (P m) (P n) (shorter m n l)
    where
      by : (u v : Bool) → (T v → T u) → (not v || not u) ≡ not v
      by true true f = refl
      by u false f = refl
      by false true f = absurd (f tt)

  outer : (z : ℤ) → (not (P (nat_abs (pred_ℤ z))) || not (P (nat_abs (suc_ℤ z)))) ≡ not (P (nat_abs z + 1))
  outer (pos zero) = further 1 1 (omega arith)
  outer (pos (suc n)) = further n (suc (suc n)) (omega arith) ∙ ap (λ (m : ℕ). not (P m)) (omega arith)
  outer (negsuc zero) = nearer 0 2 (omega arith)
  outer (negsuc (suc n)) = nearer (suc n) (suc (suc (suc n))) (omega arith) ∙ ap (λ (m : ℕ). not (P m)) (omega arith)

  neighbours : (a x : ℤ) → (not (P (gap a (x -ℤ pos 1))) || not (P (gap a (x +ℤ pos 1)))) ≡ not (P (gap a x + 1))
  neighbours a x = ap₂ (λ (m n : ℕ). not (P m) || not (P n)) before after ∙ outer (x -ℤ a)
    where
      before : gap a (x -ℤ pos 1) ≡ nat_abs (pred_ℤ (x -ℤ a))
      before = ap (λ (z : ℤ). nat_abs (z -ℤ a)) (-ℤ_one x) ∙ ap nat_abs (pred_ℤ-+ℤ x (neg_ℤ a))

      after : gap a (x +ℤ pos 1) ≡ nat_abs (suc_ℤ (x -ℤ a))
      after = ap (λ (z : ℤ). nat_abs (z -ℤ a)) (+ℤ_one x) ∙ ap nat_abs (suc_ℤ-+ℤ x (neg_ℤ a))

shorter-row : (q b m n : ℕ) → m ≤ n → T (reach q n b) → T (reach q m b)
shorter-row q b m n h t =
    let p = leb→le (n * n + b * b) (q * q) t in
    let s = square_le m n h in
    le→leb (m * m + b * b) (q * q) (omega arith)

shorter-column : (q a m n : ℕ) → m ≤ n → T (reach q a n) → T (reach q a m)
shorter-column q a m n h t =
    let p = leb→le (a * a + n * n) (q * q) t in
    let s = square_le m n h in
    le→leb (a * a + m * m) (q * q) (omega arith)

-- ---- the outline
pub outline-at : (k : Circle) (x y : ℤ) → outline k x y ≡ circle_at false (nat_abs k.radius) (gap k.centre.x x) (gap k.centre.y y)
unfolding outline
outline-at k x y =
    let q = nat_abs k.radius in
    let a = gap k.centre.x x in
    let b = gap k.centre.y y in
    (λ i. disc-at k x y i && (not (disc-at k (x -ℤ pos 1) y i) || not (disc-at k (x +ℤ pos 1) y i) || (not (disc-at k x (y -ℤ pos 1) i) || not (disc-at k x (y +ℤ pos 1) i))))
    ∙ ap₂ (λ (t u : Bool). reach q a b && (t || u)) (neighbours (λ m. reach q m b) (shorter-row q b) k.centre.x x)
    (neighbours (λ m. reach q a m) (shorter-column q a) k.centre.y y)

-- ---- either, on the screen
circle-at : (filled : Bool) (k : Circle) (x y : ℤ) → circle filled k x y ≡ circle_at filled (nat_abs k.radius) (gap k.centre.x x) (gap k.centre.y y)
circle-at true k x y = disc-at k x y
circle-at false k x y = outline-at k x y

pub circle-is : (filled : Bool) (p : Spot) (q i j : ℕ) → circle filled (circle_of p q) (pos i) (pos j) ≡ circle_b filled p q i j
circle-is filled p q i j = circle-at filled (circle_of p q) (pos i) (pos j) ∙ ap₂ (λ (a b : ℕ). circle_at filled q a b) (gap-pos p.x i) (gap-pos p.y j)

-- what is painted within the drawable rectangle r is what is to be painted
pub circle-painted : (filled : Bool) (f : Frame) (s : List ℕ) → Fitting f s → (r : Rect) → r ≡ rect_of f → (p : Spot) (q c : ℕ)
    → pixels f.bounds.width (λ i j. in_rect r i j && circle_b filled p q i j) c s ≡ paint f (circle filled (circle_of p q)) c s
circle-painted filled f s h r e p q c =
    ap (λ (r : Rect). pixels f.bounds.width (λ i j. in_rect r i j && circle_b filled p q i j) c s) e
    ∙ painted f s h (circle filled (circle_of p q)) (circle_b filled p q) c (circle-is filled p q)
