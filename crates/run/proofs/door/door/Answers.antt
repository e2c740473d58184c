-- `door`: the first test that fails gives the number.
use mathlib.Core.Path.{sym}
use Rattle.player.proofs.Doors.{is-10, is-11, is-12, is-13, is-14, is-0}
use Rattle.rules.specs.Door.{door}
use Rattle.run.proofs.door.door.Goals as goal

pub returns-then-not-size_fits : goal.returns-then-not-size_fits
unfolding door
returns-then-not-size_fits c w vs n = is-10 _ _ _ _ (sym c.if-not-size_fits.ensures)

pub returns-then-bytes-b : goal.returns-then-bytes-b
unfolding door
returns-then-bytes-b c w vs n = is-11 _ _ _ _ (sym c.if-not-size_fits.ensures) c.if-bytes-b.true

pub returns-then-not-fits : goal.returns-then-not-fits
unfolding door
returns-then-not-fits c w vs n = is-12 _ _ _ _ (sym c.if-not-size_fits.ensures) c.if-bytes-b.false (sym (c.if-not-fits.ensures vs))

pub returns-then-words-gt65536 : goal.returns-then-words-gt65536
unfolding door
returns-then-words-gt65536 c w vs n =
    is-13 _ _ _ _ (sym c.if-not-size_fits.ensures) c.if-bytes-b.false (sym (c.if-not-fits.ensures vs)) (rw n c.if-words-gt65536.true)

pub returns-then-budget-gt1000000 : goal.returns-then-budget-gt1000000
unfolding door
returns-then-budget-gt1000000 c w vs n =
    is-14 _ _ _ _ (sym c.if-not-size_fits.ensures) c.if-bytes-b.false (sym (c.if-not-fits.ensures vs)) (rw n c.if-words-gt65536.false) c.if-budget-gt1000000.true

pub returns : goal.returns
unfolding door
returns c w vs n =
    is-0 _ _ _ _ (sym c.if-not-size_fits.ensures) c.if-bytes-b.false (sym (c.if-not-fits.ensures vs)) (rw n c.if-words-gt65536.false) c.if-budget-gt1000000.false
