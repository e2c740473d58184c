-- What is drawn from points that are moved to an origin is the shape, moved there.
use Rattle.std.proofs.Common.{◌≡◌, ℕ, Bool, true, false, pos, ap, ap₂, ◌∙◌}
use Rattle.raster.specs.declared.dots.Dot.{Dot}
use Rattle.raster.specs.declared.biased.Spot.{Spot}
use Rattle.raster.specs.Shapes.{dot, moved_by, shifted}
use Rattle.raster.specs.Biased.{dot_of}
use Rattle.raster.proofs.Moved.{dot-moved}
use Rattle.lines.specs.declared.line.Line.{Line}
use Rattle.lines.specs.Line.{line}
use Rattle.lines.specs.Dashes.{dashed}
use Rattle.lines.specs.Courses.{line_of}
use Rattle.lines.proofs.Moved.{line-moved, dashed-moved}
use Rattle.circles.specs.declared.circle.Circle.{Circle}
use Rattle.circles.specs.Circle.{circle, disc, outline}
use Rattle.circles.specs.Reaches.{circle_of}
use Rattle.circles.proofs.Moved.{circle-moved}
use Rattle.brush.proofs.Brushes.{of-dot, of-line, of-dashed, of-disc, of-outline}

-- p and q are points moved; of a circle q is the radius
module _ (o d : Dot) (p : Spot) (is : dot_of p ≡ shifted d o) where
  pub dot-placed : dot (dot_of p) ≡ moved_by o (dot d)
  dot-placed = ap dot is ∙ dot-moved d o

module _ (o : Dot) (l : Line) (p q : Spot) (from : dot_of p ≡ shifted l.from o) (to : dot_of q ≡ shifted l.to o) where
  pub line-placed : line (line_of p q) ≡ moved_by o (line l)
  line-placed = ap₂ (λ (x y : Dot). line (record { from = x; to = y })) from to ∙ line-moved o l

  pub dashed-placed : (pattern : ℕ) → dashed pattern (line_of p q) ≡ moved_by o (dashed pattern l)
  dashed-placed pattern = ap₂ (λ (x y : Dot). dashed pattern (record { from = x; to = y })) from to ∙ dashed-moved pattern o l

module _ (o : Dot) (k : Circle) (p : Spot) (q : ℕ) (is : dot_of p ≡ shifted k.centre o) (at : pos q ≡ k.radius) where
  pub circle-placed : (filled : Bool) → circle filled (circle_of p q) ≡ moved_by o (circle filled k)
  circle-placed filled = (λ i. circle filled (record { centre = is i; radius = at i })) ∙ circle-moved filled o k

  pub disc-placed : disc (circle_of p q) ≡ moved_by o (disc k)
  disc-placed = circle-placed true

  pub outline-placed : outline (circle_of p q) ≡ moved_by o (outline k)
  outline-placed = circle-placed false

-- what each arm of `paint` calls upon: what its figure holds, and what it paints
pub ruleset placings = (of-dot, of-line, of-dashed, of-disc, of-outline, dot-placed, line-placed, dashed-placed, disc-placed, outline-placed)
