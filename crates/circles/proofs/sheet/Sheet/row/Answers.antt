-- `Sheet::row`: a part of one of r's rows, as one dot or as bytes side by side; nothing of any other row.
use mathlib.Core.Path.{◌≡◌, sym, ap, ◌∙◌, subst}
use mathlib.Core.Bool.{Bool, true, ◌&&◌}
use Prim.Native.Nat.{ℕ, ◌≤◌}
use lib.Dec.{T, leb, leb→le, le→leb}
use Rattle.raster.proofs.Tests.{both, left, right}
use Rattle.circles.specs.Sheets.{showing}
use Rattle.circles.proofs.Pairs.{part-within, dot-within, no_part}
use Rattle.circles.proofs.sheet.Sheet.row.Goals as goal

-- the row is one of r's
row : {b : Bool} (lo hi y : ℕ) → b ≡ (leb lo y && leb y hi) → b ≡ true → (lo ≤ y) × (y ≤ hi)
row lo hi y e h =
    let t : T (leb lo y && leb y hi) = subst T (sym h ∙ e) tt in
    (leb→le lo y (left (leb lo y) (leb y hi) t), leb→le y hi (right (leb lo y) (leb y hi) t))

pub returns-then-x0-x1 : goal.returns-then-x0-x1
returns-then-x0-x1 c =
    let g = c.args in
    let s = g.self.now in
    let p = c.requires.within in
    let y = row s.r.t s.r.b g.y c.among.ensures c.if-among.true in
    ap (showing s) (c.store.ensures ∙ dot-within s.w s.r g.y g.x0 g.x1 s.screen.now c.requires.ready.room p.0 p.2 y.0 y.1 c.if-x0-x1.true s.c)

pub returns-else-x0-x1 : goal.returns-else-x0-x1
returns-else-x0-x1 c =
    let g = c.args in
    let s = g.self.now in
    let p = c.requires.within in
    let y = row s.r.t s.r.b g.y c.among.ensures c.if-among.true in
    ap (showing s) (c.row_part.ensures ∙ part-within s.w s.r g.y g.x0 g.x1 s.screen.now c.requires.ready.room p.0 p.2 y.0 y.1 s.c)

pub returns-else-among : goal.returns-else-among
returns-else-among c =
    let g = c.args in
    let s = g.self.now in
    let p = c.requires.within in
    ap (showing s)
    (no_part s.w s.r g.y g.x0 g.x1 s.screen.now c.requires.ready.room p.0 p.2
    (λ l. subst T (sym c.among.ensures ∙ c.if-among.false) (both (leb s.r.t g.y) (leb g.y s.r.b) (le→leb s.r.t g.y l.0) (le→leb g.y s.r.b l.1)))
    s.c)
