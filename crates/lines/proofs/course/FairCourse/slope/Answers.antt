-- `lines::course::FairCourse::slope` meets its contract: nothing at the first dot, and one division at any other.
use Rattle.std.proofs.Common.{◌≡◌, ℕ, ◌+◌, ◌*◌, ◌/◌, ◌%◌, ◌<◌, ◌≤◌, sym, ◌∙◌, subst₂, arith}
use Rattle.lines.specs.Walks.{Reached}
use Rattle.lines.proofs.Walks.{begin, reached}
use Rattle.lines.proofs.course.FairCourse.slope.Goals as goal

some : (k n : ℕ) → (k ≡ 0 → ⊥) → k ≤ n → 0 < n
some k n f h = omega arith

-- what the code divides is the law's
quotient : {t h m a b d : ℕ} → t ≡ a → h ≡ b → m ≡ d → (t + h) / (2 * m) ≡ (a + b) / (2 * d)
quotient t h m = λ i. (t i + h i) / (2 * m i)

remainder : {t h m a b d : ℕ} → t ≡ a → h ≡ b → m ≡ d → (t + h) % (2 * m) ≡ (a + b) % (2 * d)
remainder t h m = λ i. (t i + h i) % (2 * m i)

pub returns-then-k-eq0 : goal.returns-then-k-eq0
returns-then-k-eq0 c =
    subst₂ (λ (k e : ℕ). Reached c.args.self.course k 0 e) (sym c.if-k-eq0.true) (sym c.half-h.ensures) (begin c.args.self.course)

pub returns : goal.returns
returns c =
    let l = c.args.self.course in
    subst₂ (λ (q e : ℕ). Reached l c.args.k q e)
    (sym (quotient c.twice_of.ensures.0 (c.from.ensures ∙ c.half-h.ensures) c.from-d.ensures))
    (sym (remainder c.twice_of.ensures.0 (c.from.ensures ∙ c.half-h.ensures) c.from-d.ensures))
    (reached l c.args.k (some c.args.k l.n c.if-k-eq0.false c.requires))
