-- Moved circles: with its centre moved by o a circle, filled or its outline, is the circle moved by o.
use mathlib.Core.Path.{◌≡◌, sym, ap, ◌∙◌}
use mathlib.Core.Bool.{Bool, true, false, not, ◌&&◌, ◌||◌}
use lib.IntN.{ℤ, pos, neg_ℤ, ◌+ℤ◌, ◌-ℤ◌}
use lib.Signed.{le_z}
use Rattle.raster.specs.declared.dots.Dot.{Dot}
use Rattle.raster.specs.Shapes.{Shape, moved_by}
use Rattle.raster.proofs.Moved.{sum-swap, difference-moved}
use Rattle.circles.specs.declared.circle.Circle.{Circle}
use Rattle.circles.specs.Circle.{square, disc, edge, outline, circle, circle_by}

-- the distances from the centre stay
pub disc-moved : (o : Dot) (k : Circle) → disc (circle_by o k) ≡ moved_by o (disc k)
unfolding disc
disc-moved o k =
    sym (λ i x y. le_z (square (difference-moved k.centre.x o.x x i) +ℤ square (difference-moved k.centre.y o.y y i)) (square k.radius))

-- the neighbours of a point moved are its neighbours, moved: so the edge of any shape
edge_moved : (o : Dot) (S : Shape) → edge (moved_by o S) ≡ moved_by o (edge S)
edge_moved o S =
    λ i x y.
    let u = x -ℤ o.x in
    let v = y -ℤ o.y in
    S u v && (not (S (before x o.x i) v) || not (S (after x o.x i) v) || (not (S u (before y o.y i)) || not (S u (after y o.y i))))
  where
    before : (x o : ℤ) → x -ℤ pos 1 -ℤ o ≡ x -ℤ o -ℤ pos 1
    before x o = sum-swap x (neg_ℤ (pos 1)) (neg_ℤ o)

    after : (x o : ℤ) → x +ℤ pos 1 -ℤ o ≡ x -ℤ o +ℤ pos 1
    after x o = sum-swap x (pos 1) (neg_ℤ o)

pub outline-moved : (o : Dot) (k : Circle) → outline (circle_by o k) ≡ moved_by o (outline k)
unfolding outline
outline-moved o k = ap edge (disc-moved o k) ∙ edge_moved o (disc k)

pub circle-moved : (filled : Bool) (o : Dot) (k : Circle) → circle filled (circle_by o k) ≡ moved_by o (circle filled k)
circle-moved true o k = disc-moved o k
circle-moved false o k = outline-moved o k
