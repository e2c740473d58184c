-- `remainder`: the machine's remainder, which always fits.
use Rattle.std.proofs.Common.{ap, ◌∙◌, arith, w32, to_z, of_z, ℤ}
use Rattle.numbers.specs.Number.{low32}
use Rattle.numbers.proofs.Machine.{Holds}
use Rattle.numbers.proofs.Division.{by_zero, gives, division-asks, remainder_is}
use Rattle.numbers.proofs.arith.remainder.Goals as goal

pub returns-then-b-eq0 : goal.returns-then-b-eq0
returns-then-b-eq0 c = by_zero c.args.b _ c.if-b-eq0.true

dividend : (c : goal.After-to_signed-2) → Holds c.args.a c.to_signed.result
dividend c = record { small = c.ranges.a.fits; value = c.to_signed.ensures }

divisor : (c : goal.After-to_signed-2) → Holds c.args.b c.to_signed-2.result
divisor c = record { small = c.ranges.b.fits; value = c.to_signed-2.ensures }

pub wrapping_rem-requires : goal.wrapping_rem-requires
wrapping_rem-requires c = division-asks (dividend c) (divisor c) (omega (arith, c.if-b-eq0.false))

pub returns : goal.returns
returns c =
    let s = c.before.before in
    gives c.args.b c.if-b-eq0.false
    (c.of_signed.ensures ∙ ap (λ (z : ℤ). low32 (to_z w32 (of_z w32 z))) c.wrapping_rem.ensures ∙ remainder_is (dividend s) (divisor s))
