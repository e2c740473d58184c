-- `judge`: the range is that of `in_word`.
use Rattle.std.proofs.Common.{rules, ◌≡◌, true, false, pos, negsuc, arith, to_z-of_z, w32, w64, to_z, of_z}
use lib.Signed.{le_z}
use Rattle.numbers.specs.Coordinate.{in_word, coordinate}
use Rattle.numbers.proofs.Coordinates.{between, within-mag}
use Rattle.numbers.proofs.coordinate.judge.Goals as goal

pub returns-then-contains : goal.returns-then-contains
unfolding coordinate
returns-then-contains c =
    let e = to_z-of_z {w = w64} c.ranges.z in
    let low : le_z (negsuc 32767) (to_z w64 (of_z w64 c.args.z)) ≡ true = search rules in
    let high : le_z (to_z w64 (of_z w64 c.args.z)) (pos 32767) ≡ true = search rules in
    let within : in_word c.args.z ≡ true = between c.args.z (rw e at low) (rw e at high) in
    rw (e, to_z-of_z {w = w32} {z = c.args.z} (record { sfits = omega (arith, within-mag c.args.z within) }), within)

pub returns-else-contains : goal.returns-else-contains
unfolding coordinate in_word
returns-else-contains c =
    let e = to_z-of_z {w = w64} c.ranges.z in
    let w : in_word c.args.z ≡ false = grind (arith, c.if-contains.ensures.cases) in
    rw w
