-- `at_step`: the place is as far aside as the dot, and on its side.
use Rattle.std.proofs.Common.{◌≡◌, ℕ, eqb, ap, ◌∙◌}
use Rattle.raster.specs.Biased.{aside}
use Rattle.lines.specs.Courses.{offset_of}
use Rattle.lines.proofs.Sides.{offset-down}
use Rattle.contains.proofs.Offsets.{distance, by-distance}
use Rattle.contains.proofs.line.at_step.Goals as goal

-- `looked`: where the code looks
pub returns-then-b-aside_of : goal.returns-then-b-aside_of
returns-then-b-aside_of c =
    let g = c.args in
    let l = g.fair.course in
    let looked : c.aside_of.result ≡ aside l.up l.across (distance l.up l.across g.b) = c.aside_of.ensures ∙ ap (aside l.up l.across) c.steps_to-q.ensures in
    c.at_offset.ensures
    ∙ ap (λ (q : ℕ). eqb q (offset_of l g.k)) c.steps_to-q.ensures
    ∙ by-distance l.across g.b (offset_of l g.k) l.up (offset-down l g.fair.fair g.k c.requires.0) (c.if-b-aside_of.true ∙ looked)
