-- `at_offset`: the first dot is not aside, and at any other the quotient is told by products.
use Rattle.std.proofs.Common.{◌≡◌, ℕ, ◌+◌, ◌-◌, ◌*◌, ◌<◌, ◌≤◌, ltb, eqb, sym, ap, ◌∙◌, subst₂, arith}
use borrow.Author.Tests.{lt-leb}
use Rattle.lines.specs.Courses.{half, offset, offset_of}
use Rattle.lines.proofs.Sides.{half_le, offset-first}
use Rattle.contains.proofs.Offsets.{too_far, quotient}
use Rattle.contains.proofs.line.at_offset.Goals as goal

-- a dot that is not the first has others behind it
more : (k n : ℕ) → (k ≡ 0 → ⊥) → k ≤ n → 0 < 2 * n
more k n f h = omega arith

pub returns-then-k-eq0 : goal.returns-then-k-eq0
returns-then-k-eq0 c =
    let g = c.args in
    let l = g.fair.course in
    sym (ap (λ (k : ℕ). eqb g.q (offset_of l k)) c.if-k-eq0.true ∙ ap (eqb g.q) (offset-first l.n l.m (half l.up l.n) (half_le l.up l.n)))

-- in both, t is the sum before the division, and the code compares it
pub returns-then-t-low : goal.returns-then-t-low
unfolding offset
returns-then-t-low c =
    let g = c.args in
    let l = g.fair.course in
    let t : ℕ = 2 * g.k * l.m + half l.up l.n in
    let p = c.twice_of.ensures.0 in
    let h = c.from.ensures ∙ c.half.ensures in
    let t-is : c.twice_of.result + c.from.result ≡ t = λ i. p i + h i in
    let low = c.twice_of-low.ensures.0 in
    (λ i. ltb (t-is i - low i) (2 * c.from-then-t-low.ensures i))
    ∙ quotient t (2 * l.n) g.q (more g.k l.n c.if-k-eq0.false c.requires.0) (subst₂ (λ (x y : ℕ). x ≤ y) low t-is c.if-t-low.true)

pub returns-else-t-low : goal.returns-else-t-low
unfolding offset
returns-else-t-low c =
    let g = c.args in
    let l = g.fair.course in
    let t : ℕ = 2 * g.k * l.m + half l.up l.n in
    let p = c.twice_of.ensures.0 in
    let h = c.from.ensures ∙ c.half.ensures in
    let t-is : c.twice_of.result + c.from.result ≡ t = λ i. p i + h i in
    lt-leb c.twice_of-low.result (c.twice_of.result + c.from.result) c.if-t-low.false
    ∙ sym (too_far t (2 * l.n) g.q (more g.k l.n c.if-k-eq0.false c.requires.0) (subst₂ (λ (x y : ℕ). x < y) t-is c.twice_of-low.ensures.0 c.if-t-low.false))
