-- `quotient`: the machine's quotient, where 2^31 wraps.
use Rattle.std.proofs.Common.{ap, ◌∙◌, arith, to_z-of_z, w32}
use Rattle.numbers.specs.Number.{low32}
use Rattle.numbers.proofs.Machine.{Holds}
use Rattle.numbers.proofs.Division.{by_zero, gives, division-asks, quotient_is}
use Rattle.numbers.proofs.arith.quotient.Goals as goal

pub returns-then-b-eq0 : goal.returns-then-b-eq0
returns-then-b-eq0 c = by_zero c.args.b _ c.if-b-eq0.true

dividend : (c : goal.After-to_signed-2) → Holds c.args.a c.to_signed.result
dividend c = record { small = c.ranges.a.fits; value = c.to_signed.ensures }

divisor : (c : goal.After-to_signed-2) → Holds c.args.b c.to_signed-2.result
divisor c = record { small = c.ranges.b.fits; value = c.to_signed-2.ensures }

pub wrapping_div-requires : goal.wrapping_div-requires
wrapping_div-requires c = division-asks (dividend c) (divisor c) (omega (arith, c.if-b-eq0.false))

pub returns : goal.returns
returns c =
    let s = c.before.before in
    let held = to_z-of_z {w = w32} (record { sfits = c.wrapping_div.type_inv }) in
    gives c.args.b c.if-b-eq0.false
    (c.of_signed.ensures ∙ ap low32 (held ∙ c.wrapping_div.ensures) ∙ quotient_is (dividend s) (divisor s))
