-- `extend`: the machine reads the word as we do, and widens its value.
use Rattle.std.proofs.Common.{rules, ◌≡◌, ◌∙◌, to_z-of_z}
use Rattle.numbers.specs.Number.{signed16}
use Rattle.numbers.proofs.Machine.{machine-bits, machine-reads16}
use Rattle.numbers.proofs.value.extend.Goals as goal

pub returns : goal.returns
returns c =
    let k = c.ranges.word.fits in
    let read : c.cast_signed.result ≡ signed16 c.args.word = c.cast_signed.ensures ∙ machine-reads16 c.args.word k in
    let widened : c.from.result ≡ signed16 c.args.word = search (rules, to_z-of_z) in
    search (rules, to_z-of_z, machine-bits)
