-- `of_signed`: the machine's bits of a value are those of two's complement.
use Rattle.std.proofs.Common.{arith, to_z-of_z, w32}
use Rattle.numbers.proofs.Machine.{machine-bits}
use Rattle.numbers.proofs.value.of_signed.Goals as goal

pub returns : goal.returns
returns c =
    rw (c.cast_unsigned.ensures, to_z-of_z {w = w32} c.ranges.value) (machine-bits c.args.value (omega (arith, c.ranges.value.sfits)))
