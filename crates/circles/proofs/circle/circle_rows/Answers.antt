-- `circle_rows`: after each turn the rows are painted that are d or more from the centre's.
use mathlib.Core.Path.{◌≡◌, sym, ap, ◌∙◌, subst⁻¹}
use mathlib.Core.Bool.{◌&&◌}
use Prim.Native.Nat.{ℕ, ◌+◌, ◌-◌, ◌<◌}
use native.Mathlib.Omega.{arith}
use lib.Dec.{eqb, leb}
use Rattle.raster.specs.Biased.{bias, gap_b}
use Rattle.circles.specs.declared.sheet.Sheet.{Sheet}
use Rattle.circles.specs.Reaches.{circle_b, Reaching}
use Rattle.circles.specs.Sheets.{Ready, showing, painted}
use Rattle.circles.proofs.Columns.{flag, within-radius}
use Rattle.circles.proofs.Nearer.{beyond, no_row, row_more, every-row}
use Rattle.circles.proofs.Sheets.{still-ready}
use Rattle.circles.proofs.circle.circle_rows.Goals as goal

-- the distance that a turn ends at has that it began with one further out
further : (q d e : ℕ) → 0 < d → Reaching q d e → Reaching q (d - 1 + 1) e
further q d e l r = let same : d - 1 + 1 ≡ d = omega arith in rw same r

pub loop-d-init : goal.loop-d-init
loop-d-init g c =
    let a = c.args in
    let s = a.s.now in
    let D = circle_b (flag g.row.FILLED) a.k.p a.k.q in (
      ap (showing s)
          (no_row s.w s.r a.k.p.y D a.k.q (within-radius (flag g.row.FILLED) a.k.p a.k.q) s.c s.screen.now
          ∙ ap (λ (d : ℕ). beyond s.w s.r a.k.p.y D (d + 1) s.c s.screen.now) (sym c.farthest-far.ensures)),
      c.reach_at-g.ensures,
    )

pub reach_from-e-requires : goal.reach_from-e-requires
reach_from-e-requires g c =
    let l = c.loop-d in
    (c.args.k.small, omega (arith, l.auto.d, c.farthest-far.ensures), further c.args.k.q l.d l.g (omega arith) l.invariant.1)

pub rows_at-requires-clause-ready : goal.rows_at-requires-clause-ready
rows_at-requires-clause-ready g c =
    let a = c.args in
    let l = c.loop-d in
    let D = circle_b (flag g.row.FILLED) a.k.p a.k.q in
    subst⁻¹ Ready l.invariant.0 (still-ready a.s.now (λ i j. leb l.d (gap_b a.k.p.y (j + bias)) && D i j) c.requires)

pub rows_at-requires-clause-reaching : goal.rows_at-requires-clause-reaching
rows_at-requires-clause-reaching g c =
    let l = c.loop-d in
    (c.reach_from-e.ensures.0, further c.args.k.q l.d l.g (omega arith) l.invariant.1)

pub loop-d-preserved : goal.loop-d-preserved
loop-d-preserved g c =
    let a = c.args in
    let s = a.s.now in
    let l = c.loop-d in
    let D = circle_b (flag g.row.FILLED) a.k.p a.k.q in
    let d = l.d - 1 in
    let next : l.d ≡ d + 1 = omega arith in (
      c.rows_at.ensures
          ∙ ap (λ (t : Sheet). painted t (λ i j. eqb (gap_b a.k.p.y (j + bias)) d && D i j))
          (l.invariant.0 ∙ ap (λ (m : ℕ). showing s (beyond s.w s.r a.k.p.y D m s.c s.screen.now)) next)
          ∙ ap (showing s) (row_more s.w s.r a.k.p.y D d s.c s.screen.now),
      c.reach_from-e.ensures.0,
    )

pub returns : goal.returns
returns g c =
    let a = c.args in
    let s = a.s.now in
    let l = c.loop-d in
    l.invariant.0
    ∙ ap (showing s)
    (every-row s.w s.r a.k.p.y (circle_b (flag g.row.FILLED) a.k.p a.k.q) l.d s.c s.screen.now (omega (arith, c.loop-d-test.false, c.nearest-d-start.ensures)))
