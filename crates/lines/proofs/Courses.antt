-- A line's course is its rule, biased, with any pattern.
use Rattle.std.proofs.Common.{◌≡◌, ℕ, suc, ◌+◌, ◌-◌, ◌<◌, ◌≤◌, max, Bool, true, false, cond, ◌&&◌, eqb, leb, ℤ, pos, ◌+ℤ◌, ◌-ℤ◌, refl, ap, ◌∙◌, ap₂, arith, leb-false, leb-true}
use lib.IntN.{sub_ℕ}
use lib.Signed.{le_z}
use Rattle.raster.specs.declared.dots.Dot.{Dot}
use Rattle.raster.specs.declared.biased.Spot.{Spot}
use Rattle.raster.specs.Shapes.{eq_z, gap, dot, some_below}
use Rattle.raster.specs.Frame.{Coord}
use Rattle.raster.specs.Biased.{bias, biased, spot_of, dot_b, gap_b, aside}
use Rattle.raster.proofs.Coordinates.{biased-lt, gap_is, le_is, plus, minus, apart, sub-ge, sub-lt, sub-pos}
use Rattle.raster.proofs.SomeBelow.{some_same}
use Rattle.lines.specs.declared.line.Line.{Line}
use Rattle.lines.specs.Line.{side, dot_from}
use Rattle.lines.specs.Dashes.{lit, dashed}
use Rattle.lines.specs.Courses.{along_b, across_b, long_b, short_b, flat_b, rising_b, course_from, course_by, course_of, half, offset, line_spot, dashed_b, Fair}
use Rattle.lines.proofs.Sides.{side-up, side-down, offset-le}

-- ---- start and end
-- n and m are the differences on the long axis and on the other, and p's coordinate on the long axis is not the larger
record Ordered (t : Bool) (n m : ℕ) (p q : Spot) : Type 0 where
  far : along_b t p + n ≡ along_b t q
  wide : m ≡ gap_b (across_b t p) (across_b t q)
  less : m ≤ n

ordered : (p q : Spot) (t r : Bool) → flat_b p q ≡ t → rising_b t p q ≡ r → Ordered t (long_b p q) (short_b p q) (cond r p q) (cond r q p)
ordered p q true true e h =
    let g = leb-true (gap_b p.y q.y) (gap_b p.x q.x) e in
    let l = leb-true p.x q.x h in
    record { far = omega arith; wide = omega arith; less = omega arith }
ordered p q true false e h =
    let g = leb-true (gap_b p.y q.y) (gap_b p.x q.x) e in
    let l = leb-false p.x q.x h in
    record { far = omega arith; wide = omega arith; less = omega arith }
ordered p q false true e h =
    let g = leb-false (gap_b p.y q.y) (gap_b p.x q.x) e in
    let l = leb-true p.y q.y h in
    record { far = omega arith; wide = omega arith; less = omega arith }
ordered p q false false e h =
    let g = leb-false (gap_b p.y q.y) (gap_b p.x q.x) e in
    let l = leb-false p.y q.y h in
    record { far = omega arith; wide = omega arith; less = omega arith }

-- ---- no dot leaves the biased numbers
abbrev Low : Spot → Type 0
Low p = (p.x < 131072) × (p.y < 131072)

low : (d : Dot) → Coord d.x × Coord d.y → Low (spot_of d)
low d h = (biased-lt d.x h.0.small, biased-lt d.y h.1.small)

either : (r : Bool) (p q : Spot) → Low p → Low q → Low (cond r p q)
either true p q h k = h
either false p q h k = k

pub low-along : (t : Bool) (p : Spot) → Low p → along_b t p < 131072
low-along true p h = h.0
low-along false p h = h.1

pub low-across : (t : Bool) (p : Spot) → Low p → across_b t p < 131072
low-across true p h = h.1
low-across false p h = h.0

fairly : (t r : Bool) (n m : ℕ) (p q : Spot) → Low p → Low q → Ordered t n m p q → Fair (course_from t r n m p q)
fairly t r n m p q hp hq o =
    record {
      short = o.less;
      far = omega (arith, o.far, low-along t q hq);
      wide = low-across t p hp;
      deep = λ e. omega (arith, o.wide, leb-false (across_b t p) (across_b t q) e);
    }

pub fair : (d e : Dot) → Coord d.x × Coord d.y → Coord e.x × Coord e.y → Fair (course_of (spot_of d) (spot_of e))
fair d e hd he =
    let p = spot_of d in
    let q = spot_of e in
    let t = flat_b p q in
    let r = rising_b t p q in
    fairly t r (long_b p q) (short_b p q) (cond r p q) (cond r q p) (either r p q (low d hd) (low e he)) (either r q p (low e he) (low d hd)) (ordered p q t r refl refl)

-- ---- a dot's coordinates, biased
along-at : (a : ℤ) (k i : ℕ) → Coord a → eq_z (a +ℤ pos k) (pos i) ≡ eqb (biased a + k) (i + bias)
along-at a k i h = ap (λ (z : ℤ). eq_z z (pos i)) (plus a k h.small) ∙ sub-pos (biased a + k) i

module _ (a b : ℤ) (n m k : ℕ) (ha : Coord a) (hb : Coord b) (e : m ≡ gap_b (biased a) (biased b)) (g : m ≤ n) (l : k ≤ n) where
  across-is : (u : Bool) → leb (biased a) (biased b) ≡ u → a +ℤ side n (b -ℤ a) k ≡ sub_ℕ (aside u (biased a) (offset n m (half u n) k)) bias
  across-is true h =
      ap (λ (z : ℤ). a +ℤ side n z k) (apart a b ha.small hb.small ∙ sub-ge (biased b) (biased a) (leb-true (biased a) (biased b) h) ∙ ap pos d)
      ∙ ap (λ (z : ℤ). a +ℤ z) (side-up n m k)
      ∙ plus a (offset n m n k) ha.small
    where
      d : biased b - biased a ≡ m
      d = omega (arith, leb-true (biased a) (biased b) h, e)
  across-is false h =
      ap (λ (z : ℤ). a +ℤ side n z k) (apart a b ha.small hb.small ∙ sub-lt (biased b) (biased a) (leb-false (biased a) (biased b) h))
      ∙ ap (λ (z : ℤ). a +ℤ z) (side-down n (biased a - suc (biased b)) k (omega (arith, leb-false (biased a) (biased b) h, e)))
      ∙ ap (λ (u : ℕ). a -ℤ pos (offset n u (n - 1) k)) d
      ∙ minus a (offset n m (n - 1) k) ha.small (omega (arith, offset-le n m (n - 1) k (omega arith) l, leb-false (biased a) (biased b) h, e))
    where
      d : suc (biased a - suc (biased b)) ≡ m
      d = omega (arith, leb-false (biased a) (biased b) h, e)

  across-at : (i : ℕ) → let u = leb (biased a) (biased b) in eq_z (a +ℤ side n (b -ℤ a) k) (pos i) ≡ eqb (aside u (biased a) (offset n m (half u n) k)) (i + bias)
  across-at i =
      let u = leb (biased a) (biased b) in
      ap (λ (z : ℤ). eq_z z (pos i)) (across-is u refl) ∙ sub-pos (aside u (biased a) (offset n m (half u n) k)) i

-- dot k from p to q
dot_at : (t r : Bool) (n m k : ℕ) (p q : Dot) → Coord p.x × Coord p.y → Coord q.x × Coord q.y → Ordered t n m (spot_of p) (spot_of q) → k ≤ n
    → (i j : ℕ) → dot (dot_from t n p q k) (pos i) (pos j) ≡ dot_b (line_spot (course_from t r n m (spot_of p) (spot_of q)) k) i j
dot_at true r n m k p q hp hq o l i j =
    ap₂ (λ (a b : Bool). a && b) (along-at p.x k i hp.0) (across-at p.y q.y n m k hp.1 hq.1 o.wide o.less l j)
dot_at false r n m k p q hp hq o l i j =
    ap₂ (λ (a b : Bool). a && b) (across-at p.x q.x n m k hp.0 hq.0 o.wide o.less l i) (along-at p.y k j hp.1)

-- ---- the line
module _ (l : Line) (hp : Coord l.from.x × Coord l.from.y) (hq : Coord l.to.x × Coord l.to.y) (i j : ℕ) where
  abbrev p : Spot
  p = spot_of l.from

  abbrev q : Spot
  q = spot_of l.to

  -- dot k, where n, the long axis and the order of the ends are given
  abbrev dot_by : ℕ → Bool → Bool → ℕ → Bool
  dot_by n t r k = dot (dot_from t n (cond r l.from l.to) (cond r l.to l.from) k) (pos i) (pos j)

  at : (t r : Bool) → flat_b p q ≡ t → rising_b t p q ≡ r → (k : ℕ) → k ≤ long_b p q → dot_by (long_b p q) t r k ≡ dot_b (line_spot (course_by t r p q) k) i j
  at t true e h k b = dot_at t true (long_b p q) (short_b p q) k l.from l.to hp hq (ordered p q t true e h) b i j
  at t false e h k b = dot_at t false (long_b p q) (short_b p q) k l.to l.from hq hp (ordered p q t false e h) b i j

  -- the ends' differences and order, biased
  gx : gap l.from.x l.to.x ≡ gap_b p.x q.x
  gx = gap_is l.from.x l.to.x hp.0 hq.0

  gy : gap l.from.y l.to.y ≡ gap_b p.y q.y
  gy = gap_is l.from.y l.to.y hp.1 hq.1

  order : (t : Bool) → cond t (le_z l.from.x l.to.x) (le_z l.from.y l.to.y) ≡ rising_b t p q
  order true = le_is l.from.x l.to.x hp.0.small hq.0.small
  order false = le_is l.from.y l.to.y hp.1.small hq.1.small

  -- whether the pattern paints it
  abbrev lit_by : ℕ → ℕ → Bool → ℕ → Bool
  lit_by o n r k = lit o (cond r k (n - k))

  pub dashed-is : (o : ℕ) → dashed o l (pos i) (pos j) ≡ dashed_b o (course_of p q) i j
  unfolding dashed dashed_b
  dashed-is o =
      let t = flat_b p q in
      let r = rising_b t p q in
      let n = long_b p q in
      (λ u.
      let n = max (gx u) (gy u) in
      let t = leb (gy u) (gx u) in
      some_below (suc n) (λ k. lit_by o n (order t u) k && dot_by n t (order t u) k))
      ∙ some_same (suc n) (λ k. lit_by o n r k && dot_by n t r k) (λ k. lit_by o n r k && dot_b (line_spot (course_of p q) k) i j)
      (λ k h. ap (λ (b : Bool). lit_by o n r k && b) (at t r refl refl k (omega arith)))
