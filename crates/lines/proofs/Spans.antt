-- Which dots of a line are within a rectangle: those from one on, before another.
use Rattle.std.proofs.Common.{◌≡◌, ℕ, suc, ◌+◌, ◌-◌, ◌*◌, ◌/◌, ◌<◌, ◌≤◌, min, max, Bool, true, false, cond, ◌&&◌, T, eqb, ltb, leb, sym, refl, ap, ◌∙◌, subst, subst₂, mul_assoc, mul_comm, div-lt_iff_lt-mul, add-mul, mul-le-mul_left, one-mul, le-div_iff_mul-le, arith, le→leb, eqb→eq, ltb→lt, leb→le}
use Rattle.raster.specs.declared.rect.Rect.{Rect}
use Rattle.raster.specs.Shapes.{some_below}
use Rattle.raster.specs.Biased.{dot_b, aside}
use Rattle.raster.specs.Rects.{inside_b, in_rect}
use Rattle.raster.proofs.Tests.{same, both, left, right}
use Rattle.raster.proofs.SomeBelow.{some-intro, some-elim}
use Rattle.raster.proofs.Pixels.{inside_is, is-inside, pixel-inside}
use Rattle.lines.specs.declared.course.Course.{Course}
use Rattle.lines.specs.declared.span.Span.{Span}
use Rattle.lines.specs.Courses.{along_b, across_b, half, offset, offset_of, line_spot, lit_b, dashed_b, Fair}
use Rattle.lines.specs.Spans.{span_of, covers_b, low_b, high_b, along_span, across_span, First, DotsWithin}
use Rattle.lines.specs.Walks.{stretch_b}
use Rattle.lines.proofs.Sides.{half_le, offset-to, offset-down}

-- ---- the first dot that is q aside
first-none : (l : Course) → First l 0 0
first-none l = record { before = λ k h g. absurd (omega arith); from = λ k h g. omega arith; limit = omega arith }

pub first-never : (l : Course) (q : ℕ) → l.m < q → First l q (l.n + 1)
first-never l q h =
    record {
      before = λ k b t. let p = offset-to l k t in omega arith;
      from = λ k b t. absurd (omega arith);
      limit = omega arith;
    }

-- 2m in parts, as often as k
often : (k m : ℕ) → k * (2 * m) ≡ 2 * k * m
often k m = sym (mul_assoc k 2 m) ∙ ap (λ (a : ℕ). a * m) (mul_comm k 2)

module _ (l : Course) (f : Fair l) (q : ℕ) (q1 : 0 < q) (qm : q ≤ l.m) where
  abbrev n : ℕ
  n = l.n

  abbrev m : ℕ
  m = l.m

  abbrev h : ℕ
  h = half l.up l.n

  -- (2nq - h) / 2m, rounded up
  abbrev first_of : ℕ
  first_of = (2 * n * q - h + (2 * m - 1)) / (2 * m)

  -- 2n fits q times where h is taken off
  room_for : h ≤ 2 * n * q
  room_for = omega (arith, half_le l.up l.n, mul-le-mul_left (2 * n) q1)

  ends_by : 2 * n * q ≤ n * (2 * m)
  ends_by = omega (arith, mul-le-mul_left (2 * n) qm, often n m)

  first-limit : first_of ≤ n
  first-limit = less ((div-lt_iff_lt-mul (omega arith)).1 (omega (arith, ends_by, add-mul n 1 (2 * m), one-mul (2 * m))))
    where
      less : {a b : ℕ} → a < b + 1 → a ≤ b
      less l = omega arith

  not_yet : (k : ℕ) → k < first_of → offset_of l k < q
  unfolding offset
  not_yet k g =
      let a : (k + 1) * (2 * m) ≤ 2 * n * q - h + (2 * m - 1) = (le-div_iff_mul-le {k = 2 * m} {x = k + 1} {y = 2 * n * q - h + (2 * m - 1)} (omega arith)).0 (up g) in
      (div-lt_iff_lt-mul {k = 2 * n} {x = 2 * k * m + h} {y = q} (omega (arith, f.short))).1
      (omega (arith, a, room_for, add-mul k 1 (2 * m), one-mul (2 * m), often k m, mul_comm q (2 * n)))
    where
      up : {a b : ℕ} → a < b → a + 1 ≤ b
      up p = omega arith

  by-then : (k : ℕ) → first_of ≤ k → q ≤ offset_of l k
  unfolding offset
  by-then k g =
      let a : 2 * n * q - h + (2 * m - 1) < (k + 1) * (2 * m) = (div-lt_iff_lt-mul {k = 2 * m} {x = 2 * n * q - h + (2 * m - 1)} {y = k + 1} (omega arith)).0 (on g) in
      (le-div_iff_mul-le {k = 2 * n} {x = q} {y = 2 * k * m + h} (omega (arith, f.short))).1
      (omega (arith, a, add-mul k 1 (2 * m), one-mul (2 * m), often k m, mul_comm q (2 * n)))
    where
      on : {a b : ℕ} → a ≤ b → a < b + 1
      on p = omega arith

  pub first-is : First l q first_of
  first-is = record { before = λ k g t. not_yet k g; from = λ k g t. by-then k g; limit = omega (arith, first-limit) }

-- ---- steps that end within two numbers
module _ (a q lo hi : ℕ) where
  span_to : (up : Bool) → (up ≡ false → q ≤ a) → lo ≤ aside up a q → aside up a q ≤ hi → ((span_of up a lo hi).from ≤ q) × (q < (span_of up a lo hi).past)
  span_to true d p r = (omega arith, omega arith)
  span_to false d p r = let e = d refl in (omega arith, omega arith)

  span-from : (up : Bool) → (up ≡ false → q ≤ a) → (span_of up a lo hi).from ≤ q → q < (span_of up a lo hi).past → (lo ≤ aside up a q) × (aside up a q ≤ hi)
  span-from true d p r = (omega arith, omega arith)
  span-from false d p r = let e = d refl in (omega arith, omega arith)

-- ---- within a rectangle, by the axes: A on the long one, B on the other
abbrev Both : Bool → Rect → ℕ → ℕ → Type 0
Both t r A B = (along_b t (low_b r) ≤ A) × (A ≤ along_b t (high_b r)) × (across_b t (low_b r) ≤ B) × (B ≤ across_b t (high_b r))

to-axes : (t : Bool) (r : Rect) (A B : ℕ) → T (inside_b r (cond t A B) (cond t B A)) → Both t r A B
to-axes true r A B h = inside_is r A B h
to-axes false r A B h = let q = inside_is r B A h in (q.2, q.3, q.0, q.1)

from-axes : (t : Bool) (r : Rect) (A B : ℕ) → Both t r A B → T (inside_b r (cond t A B) (cond t B A))
from-axes true r A B q = is-inside r A B q.0 q.1 q.2 q.3
from-axes false r A B q = is-inside r B A q.2 q.3 q.0 q.1

-- ---- the dots of a course that are within a rectangle
module _ (r : Rect) (l : Course) (f : Fair l) (x y : ℕ) (first : First l (across_span r l).from x) (past : First l (across_span r l).past y) where
  from-span : (k : ℕ) → max (along_span r l).from x ≤ k → k < min (along_span r l).past y → T (inside_b r (line_spot l k).x (line_spot l k).y)
  from-span k a b =
      let h : k ≤ l.n = omega (arith, past.limit) in
      let A = span-from l.along k (along_b l.flat (low_b r)) (along_b l.flat (high_b r)) true (λ e. absurd (subst T e tt)) (omega arith) (omega arith) in
      let B = span-from l.across (offset_of l k) (across_b l.flat (low_b r)) (across_b l.flat (high_b r)) l.up (offset-down l f k h)
      (first.from k (omega arith) h) (past.before k (omega arith) h) in
      from-axes l.flat r (l.along + k) (aside l.up l.across (offset_of l k)) (A.0, A.1, B.0, B.1)

  to-span : (k : ℕ) → k ≤ l.n → T (inside_b r (line_spot l k).x (line_spot l k).y) → (max (along_span r l).from x ≤ k) × (k < min (along_span r l).past y)
  to-span k h t =
      let q = to-axes l.flat r (l.along + k) (aside l.up l.across (offset_of l k)) t in
      let A = span_to l.along k (along_b l.flat (low_b r)) (along_b l.flat (high_b r)) true (λ e. absurd (subst T e tt)) q.0 q.1 in
      let B = span_to l.across (offset_of l k) (across_b l.flat (low_b r)) (across_b l.flat (high_b r)) l.up (offset-down l f k h) q.2 q.3 in
      let X : x ≤ k = not-before (λ e. clash (first.before k e h) B.0) in
      let Y : k < y = not-from (λ e. clash B.1 (past.from k e h)) in
      (omega (arith, A.0, X), omega (arith, A.1, Y))
    where
      clash : {a b : ℕ} → a < b → b ≤ a → ⊥
      clash p q = omega arith

      not-before : (k < x → ⊥) → x ≤ k
      not-before g = omega arith

      not-from : (y ≤ k → ⊥) → k < y
      not-from g = omega arith

  pub dots-within : DotsWithin r l (max (along_span r l).from x) (min (along_span r l).past y)
  dots-within = record { inside = from-span; only = to-span; limit = omega (arith, past.limit) }

-- where both axes' steps all end within r, every dot is
covered : (s : Span) (n : ℕ) → covers_b s n ≡ true → (s.from ≡ 0) × (n < s.past)
covered s n e =
    let t = subst T (sym e) tt in
    (eqb→eq s.from 0 (left (eqb s.from 0) (ltb n s.past) t), ltb→lt n s.past (right (eqb s.from 0) (ltb n s.past) t))

pub all-within : (r : Rect) (l : Course) → Fair l → covers_b (along_span r l) l.n ≡ true → covers_b (across_span r l) l.m ≡ true → DotsWithin r l 0 (l.n + 1)
all-within r l f p q =
    let a = covered (along_span r l) l.n p in
    let b = covered (across_span r l) l.m q in
    subst₂ (λ (x y : ℕ). DotsWithin r l x y) (omega (arith, a)) (omega (arith, a))
    (dots-within r l f 0 (l.n + 1) (subst (λ (x : ℕ). First l x 0) (sym b.0) (first-none l)) (first-never l (across_span r l).past b.1))

-- ---- the line's pixels within r are those of these dots, whatever the pattern
pub line-within : (o : ℕ) (r : Rect) (l : Course) (a b : ℕ) → DotsWithin r l a b → (i j : ℕ) → stretch_b o l a b i j ≡ (in_rect r i j && dashed_b o l i j)
unfolding stretch_b dashed_b
line-within o r l a b v i j = same (some_below b some) (in_rect r i j && some_below (suc l.n) every) to back
  where
    every : ℕ → Bool
    every k = lit_b o l k && dot_b (line_spot l k) i j

    -- dot k and its pixel lie within r alike
    pixel : (k : ℕ) → T (every k) → inside_b r (line_spot l k).x (line_spot l k).y ≡ in_rect r i j
    pixel k d = pixel-inside (line_spot l k) i j (right (lit_b o l k) (dot_b (line_spot l k) i j) d) r

    some : ℕ → Bool
    some k = leb a k && every k

    to : T (some_below b some) → T (in_rect r i j && some_below (suc l.n) every)
    to t =
        some-elim b some t
        (λ k h u.
        let d = right (leb a k) (every k) u in
        both (in_rect r i j) (some_below (suc l.n) every)
        (subst T (pixel k d) (v.inside k (leb→le a k (left (leb a k) (every k) u)) h))
        (some-intro (suc l.n) k every (omega (arith, v.limit)) d))

    back : T (in_rect r i j && some_below (suc l.n) every) → T (some_below b some)
    back t =
        some-elim (suc l.n) every (right (in_rect r i j) (some_below (suc l.n) every) t)
        (λ k h d.
        let p = v.only k (omega arith) (subst T (sym (pixel k d)) (left (in_rect r i j) (some_below (suc l.n) every) t)) in
        some-intro b k some p.1 (both (leb a k) (every k) (le→leb a k p.0) d))
