-- `raster::fill::fill_rows` meets its contract: after each turn the rows above y are painted.
use Rattle.std.proofs.Common.{◌≡◌, ℕ, ◌+◌, ◌≤◌, true, List, ap, ◌∙◌, arith}
use Rattle.raster.specs.declared.rect.Rect.{Rect}
use Rattle.raster.specs.Rects.{pixels, in_rect}
use Rattle.raster.specs.Parts.{row_part}
use Rattle.raster.proofs.Rows.{above, no_row, row_more, every-row, whole_row, whole}
use Rattle.raster.proofs.fill.fill_rows.Goals as goal

-- a turn, from the screen t to u
turn : (w c y : ℕ) (r : Rect) (s t u : List ℕ) → t ≡ above w r (λ i j. true) y c s → u ≡ pixels w (in_rect (row_part y r.l r.r)) c t → r.t ≤ y → y ≤ r.b
    → u ≡ above w r (λ i j. true) (y + 1) c s
turn w c y r s t u e f h k =
    let R = in_rect (row_part y r.l r.r) in
    f ∙ ap (λ (v : List ℕ). pixels w R c v) e ∙ row_more w r (λ i j. true) R y c s (whole_row r y h k)

pub loop-y-init : goal.loop-y-init
loop-y-init c = let g = c.args in no_row g.w g.r (λ i j. true) g.c g.screen.now

pub loop-y-preserved : goal.loop-y-preserved
loop-y-preserved c = turn _ _ _ _ _ _ _ c.loop-y.invariant c.row_part.ensures c.loop-y.auto.y c.loop-y-test.true

-- no row at all
pub returns : goal.returns
returns c =
    let g = c.args in
    c.loop-y.invariant ∙ every-row g.w g.r (λ i j. true) c.loop-y.y g.c g.screen.now c.loop-y-test.false ∙ whole g.w g.r g.c g.screen.now

-- the last row
pub returns-2 : goal.returns-2
returns-2 c =
    let g = c.args in
    turn _ _ _ _ _ _ _ c.loop-y.invariant c.row_part.ensures c.loop-y.auto.y c.loop-y-test.true
    ∙ every-row g.w g.r (λ i j. true) (c.loop-y.y + 1) g.c g.screen.now (omega arith)
    ∙ whole g.w g.r g.c g.screen.now
