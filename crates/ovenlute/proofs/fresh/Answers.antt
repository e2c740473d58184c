-- `fresh`: the size is judged first, then the pane.
use Rattle.std.proofs.Common.{◌≡◌, sym, ap, ◌∙◌, Bool, true, arith}
use Rattle.raster.specs.declared.frame.Bounds.{Bounds}
use Rattle.raster.specs.Frame.{Sound}
use Rattle.rules.specs.Door.{size_fits, pane_fits}
use Rattle.rules.specs.Fresh.{making}
use Rattle.rules.proofs.DoorLaws.{sound}
use Rattle.ovenlute.proofs.Making.{bad-size, bad-pane, good}
use Rattle.ovenlute.proofs.fresh.Goals as goal

pub returns-then-not-size_fits : goal.returns-then-not-size_fits
returns-then-not-size_fits c = (λ i. making (c.number.ensures i) (c.zeros.ensures i)) ∙ bad-size _ (sym c.size_fits.ensures ∙ c.if-not-size_fits.true)

pub returns-then-not-pane_fits : goal.returns-then-not-pane_fits
returns-then-not-pane_fits c =
    (λ i. making (c.number-then-not-pane_fits.ensures i) (c.zeros-then-not-pane_fits.ensures i))
    ∙ bad-pane _ (sym c.size_fits.ensures ∙ c.if-not-size_fits.false) (sym c.pane_fits.ensures ∙ c.if-not-pane_fits.true)

-- what both tests told of the size and the pane
paned : (b : Bounds) {s p : Bool} → s ≡ size_fits b → s ≡ true → p ≡ pane_fits b → p ≡ true → Sound b
paned b e s f p = sound b (sym e ∙ s) (sym f ∙ p)

pub overflow_sub-width : goal.overflow_sub-width
overflow_sub-width c =
    let a = c.args in
    (paned (record { width = a.width; height = a.height; pane = a.pane }) c.size_fits.ensures c.if-not-size_fits.false c.pane_fits.ensures c.if-not-pane_fits.false).width_from

pub overflow_sub-height : goal.overflow_sub-height
overflow_sub-height c =
    let a = c.args in
    (paned (record { width = a.width; height = a.height; pane = a.pane }) c.size_fits.ensures c.if-not-size_fits.false c.pane_fits.ensures c.if-not-pane_fits.false).height_from

pub blank-requires : goal.blank-requires
blank-requires c =
    let a = c.args in
    let p = paned (record { width = a.width; height = a.height; pane = a.pane }) c.size_fits.ensures c.if-not-size_fits.false c.pane_fits.ensures c.if-not-pane_fits.false in
    (omega (arith, p.width_to), omega (arith, p.height_to))

pub returns : goal.returns
returns c =
    ap (making 0) c.blank.ensures
    ∙ good _ (sym c.size_fits.ensures ∙ c.if-not-size_fits.false) (sym c.pane_fits.ensures ∙ c.if-not-pane_fits.false)
