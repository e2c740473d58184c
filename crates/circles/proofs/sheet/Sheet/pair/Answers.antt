-- `Sheet::pair`: the row above and the row below, once where they are the same, and neither where no column is left in r.
use mathlib.Core.Path.{ap, ◌∙◌, subst⁻¹}
use Prim.Native.Nat.{ℕ, ◌+◌, ◌-◌, ◌≤◌}
use native.Mathlib.Omega.{arith}
use Rattle.raster.specs.Rects.{in_rect}
use Rattle.raster.specs.Parts.{row_part}
use Rattle.circles.specs.declared.sheet.Sheet.{Sheet}
use Rattle.circles.specs.Reaches.{pair_b}
use Rattle.circles.specs.Sheets.{Ready, showing, painted}
use Rattle.circles.proofs.Pairs.{alike, joined, empty, both-rows, one-row, no-column}
use Rattle.circles.proofs.Sheets.{still-ready}
use Rattle.circles.proofs.sheet.Sheet.pair.Goals as goal

pub returns-then-d-gt0 : goal.returns-then-d-gt0
returns-then-d-gt0 c =
    let g = c.args in
    let s = g.self.now in
    let a = c.max-a.result in
    let b = c.min-b.result in
    c.row-then-d-gt0.ensures
    ∙ ap (λ (t : Sheet). painted t (in_rect (row_part (g.y + g.d) a b))) (c.row.ensures ∙ ap (λ (v : ℕ). painted s (in_rect (row_part v a b))) c.saturating_sub.ensures)
    ∙ ap (showing s)
    (joined s.w s.r s.c s.screen.now (in_rect (row_part (g.y - g.d) a b)) (in_rect (row_part (g.y + g.d) a b)) (pair_b g.y g.d g.x0 g.x1)
    (both-rows s.r g.y g.d g.x0 g.x1 a b c.max-a.ensures c.min-b.ensures))

pub returns-else-d-gt0 : goal.returns-else-d-gt0
returns-else-d-gt0 c =
    let g = c.args in
    let s = g.self.now in
    let a = c.max-a.result in
    let b = c.min-b.result in
    c.row.ensures
    ∙ ap (λ (v : ℕ). painted s (in_rect (row_part v a b))) c.saturating_sub.ensures
    ∙ ap (showing s)
    (alike s.w s.r s.c s.screen.now (in_rect (row_part (g.y - g.d) a b)) (pair_b g.y g.d g.x0 g.x1)
    (λ i j t. one-row s.r g.y g.d g.x0 g.x1 a b c.max-a.ensures c.min-b.ensures i j t c.if-d-gt0.false))

pub returns-else-a-b : goal.returns-else-a-b
returns-else-a-b c =
    let g = c.args in
    let s = g.self.now in
    ap (showing s)
    (empty s.w s.r s.c s.screen.now (pair_b g.y g.d g.x0 g.x1)
    (λ i j t u. no-column s.r g.y g.d g.x0 g.x1 c.max-a.result c.min-b.result c.max-a.ensures c.min-b.ensures i j t c.if-a-b.false u))

pub row-requires-then-d-gt0 : goal.row-requires-then-d-gt0
row-requires-then-d-gt0 c =
    let s = c.args.self.now in
    let a = c.max-a.result in
    let b = c.min-b.result in
    record {
      ready = subst⁻¹ Ready c.row.ensures (still-ready s (in_rect (row_part c.saturating_sub.result a b)) c.requires.ready);
      within = subst⁻¹ (λ (t : Sheet). (t.r.l ≤ a) × (a ≤ b) × (b ≤ t.r.r)) c.row.ensures (omega arith, omega arith, omega arith);
    }
