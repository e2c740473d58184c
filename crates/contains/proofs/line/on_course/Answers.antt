-- `on_course`: before the course, behind it, beside it, or a dot of it that the pattern paints or not.
use Rattle.std.proofs.Common.{◌≡◌, ℕ, ◌+◌, ◌-◌, ◌≤◌, Bool, true, false, ◌&&◌, eqb, sym, ap, ◌∙◌, arith}
use Rattle.raster.specs.declared.biased.Spot.{Spot}
use Rattle.raster.specs.Biased.{bias, aside}
use Rattle.lines.specs.declared.course.Course.{Course}
use Rattle.lines.specs.Dashes.{lit}
use Rattle.lines.specs.Courses.{offset_of, along_b, across_b, lit_b, dashed_b}
use Rattle.contains.proofs.Members.{missed, asked}
use Rattle.contains.proofs.line.on_course.Goals as goal

-- the pixel, biased
here : (i j : ℕ) {p : Spot} → (p.x ≡ i + bias) × (p.y ≡ j + bias) → p ≡ record { x = i + bias; y = j + bias }
here i j e = λ k. record { x = e.0 k; y = e.1 k }

pub returns-then-a-l : goal.returns-then-a-l
returns-then-a-l c =
    let g = c.args in
    let l = g.fair.course in
    let a = c.along_of-a.ensures ∙ ap (along_b l.flat) (here g.d.column g.d.row c.spot-p.ensures) in
    sym (missed g.pattern l g.d.column g.d.row (λ k h e. omega (arith, c.if-a-l.true, a, e)))

pub returns-then-l-k : goal.returns-then-l-k
returns-then-l-k c =
    let g = c.args in
    let l = g.fair.course in
    let a = c.along_of-a.ensures ∙ ap (along_b l.flat) (here g.d.column g.d.row c.spot-p.ensures) in
    sym (missed g.pattern l g.d.column g.d.row (λ k h e. omega (arith, c.if-l-k.true, a, e, h)))

-- a is as far along as the pixel, and b its other coordinate: dot a - l.along is the one to ask, and t tells whether it is beside it
module _ (o : ℕ) (l : Course) (i j a b : ℕ) where
  decided : a ≡ along_b l.flat (record { x = i + bias; y = j + bias }) → l.along ≤ a → a - l.along ≤ l.n
      → b ≡ across_b l.flat (record { x = i + bias; y = j + bias }) → (t : Bool)
      → t ≡ eqb b (aside l.up l.across (offset_of l (a - l.along))) → (t && lit_b o l (a - l.along)) ≡ dashed_b o l i j
  decided e h k f t q =
      ap (λ (t : Bool). t && lit_b o l (a - l.along)) (q ∙ ap (λ (b : ℕ). eqb b (aside l.up l.across (offset_of l (a - l.along)))) f)
      ∙ sym (asked o l i j (a - l.along) (back l.along a h ∙ e) k)
    where
      back : (a b : ℕ) → a ≤ b → a + (b - a) ≡ b
      back a b h = omega arith

pub returns-then-at_step : goal.returns-then-at_step
returns-then-at_step c =
    let g = c.args in
    let l = g.fair.course in
    let p = here g.d.column g.d.row c.spot-p.ensures in
    c.lit.ensures
    ∙ ap (lit g.pattern) c.number.ensures
    ∙ decided g.pattern l g.d.column g.d.row c.along_of-a.result c.across_of.result (c.along_of-a.ensures ∙ ap (along_b l.flat) p) c.if-a-l.false c.if-l-k.false
    (c.across_of.ensures ∙ ap (across_b l.flat) p) true (sym c.if-at_step.true ∙ c.at_step.ensures)

pub returns-else-at_step : goal.returns-else-at_step
returns-else-at_step c =
    let g = c.args in
    let l = g.fair.course in
    let p = here g.d.column g.d.row c.spot-p.ensures in
    c.if-at_step.false
    ∙ decided g.pattern l g.d.column g.d.row c.along_of-a.result c.across_of.result (c.along_of-a.ensures ∙ ap (along_b l.flat) p) c.if-a-l.false c.if-l-k.false
    (c.across_of.ensures ∙ ap (across_b l.flat) p) false (sym c.if-at_step.false ∙ c.at_step.ensures)
