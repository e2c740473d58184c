-- `lines::course::FairCourse::first` meets its contract: none, or one division rounded up.
use Rattle.std.proofs.Common.{◌≡◌, ℕ, ◌+◌, ◌-◌, ◌*◌, ◌/◌, ◌<◌, ◌∙◌, arith}
use mathlib.Core.Path.{subst⁻¹}
use Rattle.lines.specs.Spans.{First}
use Rattle.lines.proofs.Spans.{first-never, first-is}
use Rattle.lines.proofs.course.FairCourse.first.Goals as goal

some : (q : ℕ) → (q ≡ 0 → ⊥) → 0 < q
some q n = omega arith

-- what the code divides is the law's
found : {t h m a b d : ℕ} → t ≡ a → h ≡ b → m ≡ d → (t - h + (2 * m - 1)) / (2 * m) ≡ (a - b + (2 * d - 1)) / (2 * d)
found t h m = λ i. (t i - h i + (2 * m i - 1)) / (2 * m i)

pub returns-then-l-q : goal.returns-then-l-q
returns-then-l-q c = first-never c.args.self.course c.args.q c.if-l-q.true

pub returns : goal.returns
returns c =
    subst⁻¹ (λ (u : ℕ). First c.args.self.course c.args.q u) (found c.twice_of.ensures.0 (c.from.ensures ∙ c.half.ensures) c.from-d.ensures)
    (first-is c.args.self.course c.args.self.fair c.args.q (some c.args.q c.if-q-eq0.false) c.if-l-q.false)
