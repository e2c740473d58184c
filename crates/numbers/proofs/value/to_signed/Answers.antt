-- `to_signed`: the machine reads the bits as we do.
use Rattle.std.proofs.Common.{◌∙◌}
use Rattle.numbers.proofs.Machine.{back, machine-reads}
use Rattle.numbers.proofs.value.to_signed.Goals as goal

pub returns : goal.returns
returns c =
    let k = c.ranges.bits.fits in
    back (record { small = k; value = c.cast_signed.ensures ∙ machine-reads c.args.bits k })
