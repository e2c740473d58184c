-- Laws of `side`, and of `offset`, which is its size: only these look inside the rule.
use Rattle.std.proofs.Common.{◌≡◌, ℕ, zero, suc, ◌+◌, ◌-◌, ◌*◌, ◌/◌, ◌<◌, ◌≤◌, Bool, true, false, ℤ, pos, negsuc, ◌+ℤ◌, neg_ℤ, nat_abs, sym, refl, ap, ◌∙◌, le_trans, le_of_eq, mul-le-mul_right, mul_comm, div-lt_iff_lt-mul, add-mul, one-mul, zero-add, mul-add, add-one, arith}
use native.Mathlib.Decide.{dec_lt}
use native.Mathlib.Nat.{div-eq_of_lt-le, div-zero, div-eq_of_lt, add-div_right}
use lib.IntN.{sub_ℕ, zero-*ℤ}
use Rattle.raster.proofs.Coordinates.{sub-ge, sub-lt}
use Rattle.lines.specs.declared.course.Course.{Course}
use Rattle.lines.specs.Line.{floor, side}
use Rattle.lines.specs.Courses.{half, offset, offset_of, Fair}

-- ---- offset
-- q is the quotient where e is what is left
pub is_offset : (n m h k q e : ℕ) → 2 * n * q + e ≡ 2 * k * m + h → e < 2 * n → q ≡ offset n m h k
unfolding offset
is_offset n m h k q e p l = sym (div-eq_of_lt-le (2 * n) (omega (arith, mul_comm q (2 * n))) (omega (arith, mul_comm (q + 1) (2 * n), mul-add (2 * n) q 1)))

-- the one dot of a line without length is not aside
offset-none : (m h k : ℕ) → offset 0 m h k ≡ 0
unfolding offset
offset-none m h k = div-zero (2 * k * m + h)

-- no dot is further aside than the line's end
pub offset-le : (n m h k : ℕ) → h ≤ n → k ≤ n → offset n m h k ≤ m
unfolding offset
offset-le zero m h k g l = omega (arith, le_of_eq (offset-none m h k))
offset-le (suc n) m h k g l =
    le-of-lt-suc
    ((div-lt_iff_lt-mul (omega arith)).1
    (omega (arith, mul-le-mul_right m (le-two k (suc n) l), mul_comm m (2 * suc n), add-mul m 1 (2 * suc n), one-mul (2 * suc n))))
  where
    le-of-lt-suc : {a b : ℕ} → a < b + 1 → a ≤ b
    le-of-lt-suc l = omega arith

    le-two : (a b : ℕ) → a ≤ b → 2 * a ≤ 2 * b
    le-two a b l = omega arith

-- the first dot is not aside
pub offset-first : (n m h : ℕ) → h ≤ n → offset n m h 0 ≡ 0
offset-first zero m h g = offset-none m h 0
offset-first (suc n) m h g = sym (is_offset (suc n) m h 0 0 h (omega arith) (omega arith))

-- the last dot is as far aside as the end
offset-last : (n m h : ℕ) → m ≤ n → h ≤ n → offset n m h n ≡ m
offset-last zero m h l g = offset-none m h 0 ∙ omega arith
offset-last (suc n) m h l g = sym (is_offset (suc n) m h (suc n) m h refl (omega arith))

-- ---- offset, of a course
pub half_le : (t : Bool) (n : ℕ) → half t n ≤ n
half_le true n = omega arith
half_le false n = omega arith

pub offset-to : (l : Course) (k : ℕ) → k ≤ l.n → offset_of l k ≤ l.m
offset-to l k h = offset-le l.n l.m (half l.up l.n) k (half_le l.up l.n) h

-- no dot falls below 0
pub offset-down : (l : Course) → Fair l → (k : ℕ) → k ≤ l.n → l.up ≡ false → offset_of l k ≤ l.across
offset-down l f k h e = le_trans (offset-to l k h) (f.deep e)

-- ---- side: `offset` up where the difference is not negative, and down where it is
pub side-up : (n d k : ℕ) → side n (pos d) k ≡ pos (offset n d n k)
unfolding side offset
side-up n d k = refl

neg-plus : (x n : ℕ) → neg_ℤ (pos x) +ℤ pos n ≡ sub_ℕ n x
neg-plus zero n = ap pos (omega arith) ∙ sym (sub-ge n 0 (omega arith))
neg-plus (suc x) n = refl

div-none : (n x : ℕ) → (n - x) / (2 * n) ≡ 0
div-none zero x = div-zero (0 - x)
div-none (suc n) x = div-eq_of_lt (omega arith)

-- rounded down below 0 is rounded up above: floor ((n - x) / 2n) is -floor ((x + n - 1) / 2n)
fall : (n x : ℕ) → n < x → 0 < n → (x + (n - 1)) / (2 * n) ≡ suc ((x - suc n) / (2 * n))
fall n x h p = ap (λ (a : ℕ). a / (2 * n)) eq ∙ add-div_right (x - suc n) (omega arith) ∙ add-one ((x - suc n) / (2 * n))
  where
    eq : x + (n - 1) ≡ x - suc n + 2 * n
    eq = omega arith

pub side-down : (n p k : ℕ) → 0 < n → side n (negsuc p) k ≡ neg_ℤ (pos (offset n (suc p) (n - 1) k))
unfolding side offset
side-down n p k h = ap (λ (z : ℤ). floor z (2 * n)) (neg-plus (2 * k * suc p) n) ∙ by (2 * k * suc p) (dec_lt n (2 * k * suc p))
  where
    by : (x : ℕ) → Dec (n < x) → floor (sub_ℕ n x) (2 * n) ≡ neg_ℤ (pos ((x + (n - 1)) / (2 * n)))
    by x (yes l) = ap (λ (z : ℤ). floor z (2 * n)) (sub-lt n x l) ∙ ap (λ (q : ℕ). neg_ℤ (pos q)) (sym (fall n x l h))
    by x (no l) =
        ap (λ (z : ℤ). floor z (2 * n)) (sub-ge n x (omega arith))
        ∙ ap pos (div-none n x)
        ∙ ap (λ (q : ℕ). neg_ℤ (pos q)) (sym (div-eq_of_lt {n = x + (n - 1)} {m = 2 * n} (omega arith)))

-- at the first dot nothing is added, at the last one the whole difference
pub side-first : (n : ℕ) (d : ℤ) → side n d 0 ≡ pos 0
unfolding side
side-first n d = ap (λ (z : ℤ). floor (z +ℤ pos n) (2 * n)) (zero-*ℤ d) ∙ ap (λ (a : ℕ). pos (a / (2 * n))) (zero-add n) ∙ ap pos (none n)
  where
    none : (n : ℕ) → n / (2 * n) ≡ 0
    none zero = div-zero 0
    none (suc n) = div-eq_of_lt (omega arith)

pub side-last : (n : ℕ) (d : ℤ) → nat_abs d ≤ n → side n d n ≡ d
side-last n (pos d) h = side-up n d n ∙ ap pos (offset-last n d n h (omega arith))
side-last n (negsuc p) h = side-down n p n (omega arith) ∙ ap (λ (q : ℕ). neg_ℤ (pos q)) (offset-last n (suc p) (n - 1) h (omega arith))
