-- `rows_at`: all columns up to where the circle reaches, or the outline's to either side.
use mathlib.Core.Path.{sym, ap, ap₂, ◌∙◌, subst⁻¹}
use mathlib.Core.Bool.{Bool, true, false, not, ◌&&◌}
use Prim.Native.Nat.{ℕ, ◌+◌, ◌-◌, min}
use lib.Dec.{eqb}
use Rattle.raster.specs.declared.biased.Spot.{Spot}
use Rattle.raster.specs.Biased.{bias, gap_b}
use Rattle.std.proofs.Common.{rules, ne_eqb}
use Rattle.circles.specs.declared.sheet.Sheet.{Sheet}
use Rattle.circles.specs.Reaches.{circle_b, pair_b}
use Rattle.circles.specs.Sheets.{Ready, showing, painted}
use Rattle.circles.proofs.Pairs.{alike, joined}
use Rattle.circles.proofs.Sheets.{still-ready}
use Rattle.circles.proofs.Columns.{filled-columns, outline-columns}
use Rattle.circles.proofs.circle.rows_at.Goals as goal

-- the circle's dots there, painted on s
abbrev dots : Sheet → Spot → ℕ → ℕ → Bool → Sheet
dots s p q d filled = painted s (λ i j. eqb (gap_b p.y (j + bias)) d && circle_b filled p q i j)

pub pair-requires-else-this-ne0-2-clause-ready : goal.pair-requires-else-this-ne0-2-clause-ready
pair-requires-else-this-ne0-2-clause-ready g c =
    let a = c.args in
    subst⁻¹ Ready c.pair-else-this-ne0.ensures
    (still-ready a.s.now (pair_b a.k.p.y a.d c.saturating_sub-else-this-ne0.result c.saturating_sub-else-this-ne0-2.result) c.requires.ready)

pub returns-then-this-ne0 : goal.returns-then-this-ne0
returns-then-this-ne0 g c =
    let a = c.args in
    let s = a.s.now in
    let x = a.k.p.x in
    let h = a.e - 1 in
    c.pair.ensures
    ∙ ap (λ (b : ℕ). painted s (pair_b a.k.p.y a.d b (x + h))) c.saturating_sub.ensures
    ∙ ap (showing s)
    (alike s.w s.r s.c s.screen.now (pair_b a.k.p.y a.d (x - h) (x + h))
    (λ i j. eqb (gap_b a.k.p.y (j + bias)) a.d && circle_b true a.k.p a.k.q i j)
    (λ i j _. filled-columns a.k.p a.k.q a.d a.e c.requires.small.1 c.requires.reaching.0 i j))
    ∙ ap (dots s a.k.p a.k.q a.d) {x = true} (sym (ap not (ne_eqb g.row.FILLED 0 c.if-this-ne0.true)))

pub returns-else-this-ne0 : goal.returns-else-this-ne0
returns-else-this-ne0 g c =
    let a = c.args in
    let s = a.s.now in
    let x = a.k.p.x in
    let h = a.e - 1 in
    let k = min h a.g in
    c.pair-else-this-ne0-2.ensures
    ∙ ap₂ (λ (b : ℕ) (t : Sheet). painted t (pair_b a.k.p.y a.d (x + b) (x + h))) c.min-i.ensures
    (c.pair-else-this-ne0.ensures
    ∙ ap₂ (λ (a' b : ℕ). painted s (pair_b a.k.p.y a.d a' b)) c.saturating_sub-else-this-ne0.ensures
    (c.saturating_sub-else-this-ne0-2.ensures ∙ ap (λ (b : ℕ). x - b) c.min-i.ensures))
    ∙ ap (showing s)
    (joined s.w s.r s.c s.screen.now (pair_b a.k.p.y a.d (x - h) (x - k)) (pair_b a.k.p.y a.d (x + k) (x + h))
    (λ i j. eqb (gap_b a.k.p.y (j + bias)) a.d && circle_b false a.k.p a.k.q i j)
    (λ i j _. outline-columns a.k.p a.k.q a.d a.e c.requires.small.1 c.requires.reaching.0 i j a.g c.requires.reaching.1))
    ∙ ap (dots s a.k.p a.k.q a.d) {x = false} (search rules)
