-- `less`: the machine compares the two values.
use Rattle.numbers.proofs.Machine.{back}
use Rattle.numbers.proofs.arith.less.Goals as goal

pub returns : goal.returns
returns c =
    let s = c.before.before in
    let a = back (record { small = s.ranges.a.fits; value = c.to_signed.ensures }) in
    let b = back (record { small = s.ranges.b.fits; value = c.to_signed-2.ensures }) in
    rw (a, b)
