-- `circle_in`: nothing where the corners' rectangle is empty.
use Prim.Native.Nat.{◌+◌, ◌≤◌}
use native.Mathlib.Omega.{arith}
use Rattle.raster.specs.Biased.{bias}
use Rattle.raster.proofs.Pixels.{inside_is}
use Rattle.circles.specs.Reaches.{circle_b, cornered}
use Rattle.circles.proofs.Pairs.{empty}
use Rattle.circles.proofs.Columns.{flag}
use Rattle.circles.proofs.circle.circle_in.Goals as goal
use Rattle.circles.proofs.circle.circle_in.Goals.{else-low-high-via-then-low-high+else-low-high-2, else-low-high-via-else-low-high}

pub returns-else-low-high : goal.returns-else-low-high
returns-else-low-high g c =
    let a = c.args in
    let p = a.low in
    let q = a.high in
    let none : (p.x ≤ q.x) × (p.y ≤ q.y) → ⊥ =
    (λ h. elim c.else-low-high.branch [ else-low-high-via-then-low-high+else-low-high-2 w ↦ omega (arith, h) | else-low-high-via-else-low-high w ↦ omega (arith, h) ]) in
    empty a.w (cornered p q) a.c a.screen.now (circle_b (flag g.row.FILLED) a.k.p a.k.q)
    (λ i j t u. let v = inside_is (cornered p q) (i + bias) (j + bias) t in none (omega arith, omega arith))
