-- What follows of dashes (request T-03): with a pattern of all ones they are the line, with none no dot, with any the line's; and the dots are counted from the first point given.
use Rattle.std.proofs.Common.{◌≡◌, ℕ, zero, suc, ◌+◌, ◌-◌, ◌%◌, ◌^◌, ◌<◌, ◌≤◌, Bool, true, false, cond, ◌&&◌, T, eqb, ℤ, pos, ◌+ℤ◌, ◌-ℤ◌, nat_abs, sym, refl, ap, ◌∙◌, subst, mod-lt, arith}
use native.Mathlib.Decide.{dec_lt}
use native.Mathlib.Nat.{zero-div}
use lib.IntN.{+ℤ_comm, +ℤ_assoc, +ℤ-neg_ℤ_cancel}
use Rattle.raster.specs.declared.dots.Dot.{Dot}
use Rattle.raster.specs.Shapes.{gap, dot}
use Rattle.raster.proofs.Tests.{left, right}
use Rattle.raster.proofs.SomeBelow.{some_same, some-none, some-intro, some-elim}
use Rattle.lines.specs.declared.line.Line.{Line}
use Rattle.lines.specs.Line.{long, flat, rising, start, finish, dot_from, line_dot, line}
use Rattle.lines.specs.Dashes.{bit, lit, number_of, dashed, solid}
use Rattle.lines.proofs.LineEnds.{last-dot}
use Rattle.lines.proofs.Directions.{gap-swap}

-- ---- all ones
-- p 0, p 1, .., p (n - 1) hold
abbrev every : ℕ → (ℕ → Bool) → Bool
every zero p = true
every (suc n) p = every n p && p n

every-at : (n : ℕ) (p : ℕ → Bool) → T (every n p) → (b : ℕ) → b < n → T (p b)
every-at zero p t b h = absurd (omega arith)
every-at (suc n) p t b h = by (dec_lt b n) (λ l. every-at n p (left (every n p) (p n) t) b l)
  where
    by : Dec (b < n) → (b < n → T (p b)) → T (p b)
    by (yes l) f = f l
    by (no l) f = subst (λ (a : ℕ). T (p a)) (last n b h l) (right (every n p) (p n) t)
      where
        last : (n b : ℕ) → b < suc n → (b < n → ⊥) → n ≡ b
        last n b h f = omega arith

holds : (b : Bool) → T b → b ≡ true
holds true t = refl
holds false t = absurd t

-- every bit of 32 ones is one, by computation
bit-solid : (b : ℕ) → b < 32 → bit solid b ≡ true
unfolding bit
bit-solid b h = holds (bit solid b) (every-at 32 (bit solid) tt b h)

pub lit-solid : (number : ℕ) → lit solid number ≡ true
lit-solid number = bit-solid (number % 32) (mod-lt number (omega arith))

-- T-03: with an all_ones pattern type 1 equals type 0, dot for dot
pub all_ones : (l : Line) (x y : ℤ) → dashed solid l x y ≡ line l x y
unfolding dashed line
all_ones l x y =
    some_same (suc (long l)) (λ k. lit solid (number_of l k) && dot (line_dot l k) x y) (λ k. dot (line_dot l k) x y)
    (λ k h. ap (λ (t : Bool). t && dot (line_dot l k) x y) (lit-solid (number_of l k)))

-- and as shapes
pub solid-line : (l : Line) → dashed solid l ≡ line l
solid-line l = λ i x y. all_ones l x y i

-- ---- none
lit-none : (number : ℕ) → lit 0 number ≡ false
unfolding bit
lit-none number = ap (λ (a : ℕ). eqb (a % 2) 1) (zero-div (2 ^ (number % 32)))

-- T-03: zero bits paint nothing
pub no_ones : (l : Line) (x y : ℤ) → dashed 0 l x y ≡ false
unfolding dashed
no_ones l x y =
    some-none (suc (long l)) (λ k. lit 0 (number_of l k) && dot (line_dot l k) x y)
    (λ k h. ap (λ (t : Bool). t && dot (line_dot l k) x y) (lit-none (number_of l k)))

-- ---- some
-- whatever the pattern, the dots are the line's
pub on-the-line : (o : ℕ) (l : Line) (x y : ℤ) → T (dashed o l x y) → T (line l x y)
unfolding dashed line
on-the-line o l x y t =
    some-elim (suc (long l)) (λ k. lit o (number_of l k) && dot (line_dot l k) x y) t
    (λ k h u. some-intro (suc (long l)) k (λ k. dot (line_dot l k) x y) h (right (lit o (number_of l k)) (dot (line_dot l k) x y) u))

-- ---- counted along the long axis from the first point given
-- the coordinate on the long axis, where t says that it is x
abbrev pub along : Bool → Dot → ℤ
along t d = cond t d.x d.y

-- dot k is k further on there than the start
further : (t : Bool) (n : ℕ) (p q : Dot) (k : ℕ) → along t (dot_from t n p q k) ≡ along t p +ℤ pos k
further true n p q k = refl
further false n p q k = refl

gap-on : (a : ℤ) (k : ℕ) → gap a (a +ℤ pos k) ≡ k
gap-on a k = ap nat_abs (ap (λ (z : ℤ). z -ℤ a) (+ℤ_comm a (pos k)) ∙ +ℤ-neg_ℤ_cancel (pos k) a)

gap_back : (a : ℤ) (n k : ℕ) → k ≤ n → gap (a +ℤ pos n) (a +ℤ pos k) ≡ n - k
gap_back a n k h =
    ap (λ (m : ℕ). gap (a +ℤ pos m) (a +ℤ pos k)) (whole k n h)
    ∙ ap (λ (z : ℤ). gap z (a +ℤ pos k)) (sym (+ℤ_assoc a (pos k) (pos (n - k))))
    ∙ gap-swap (a +ℤ pos k +ℤ pos (n - k)) (a +ℤ pos k)
    ∙ gap-on (a +ℤ pos k) (n - k)
  where
    whole : (k n : ℕ) → k ≤ n → n ≡ k + (n - k)
    whole k n h = omega arith

-- T-03: a dot's number is how far it is on the long axis from the first point given
pub counted : (l : Line) (k : ℕ) → k ≤ long l → gap (along (flat l) l.from) (along (flat l) (line_dot l k)) ≡ number_of l k
counted l k h = ap (λ (z : ℤ). gap (along t l.from) z) (further t n (start l) (finish l) k) ∙ by (rising l) refl
  where
    t : Bool
    t = flat l

    n : ℕ
    n = long l

    -- the first point given is the start, or it is the last dot
    by : (r : Bool) → rising l ≡ r → gap (along t l.from) (along t (cond r l.from l.to) +ℤ pos k) ≡ cond r k (n - k)
    by true e = gap-on (along t l.from) k
    by false e = ap (λ (z : ℤ). gap z (along t l.to +ℤ pos k)) (last e) ∙ gap_back (along t l.to) n k h
      where
        last : rising l ≡ false → along t l.from ≡ along t l.to +ℤ pos n
        last e =
            ap (along t) (sym (last-dot l ∙ ap (λ (r : Bool). cond r l.to l.from) e))
            ∙ further t n (start l) (finish l) n
            ∙ ap (λ (r : Bool). along t (cond r l.from l.to) +ℤ pos n) e
