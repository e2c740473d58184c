-- `radius_of`: the range is that of `is_radius`.
use Rattle.std.proofs.Common.{rules, ◌≡◌, true, false, pos, arith, ◌∙◌, to_z-of_z, w32, to_z, of_z}
use lib.Signed.{le_z}
use Rattle.numbers.specs.Number.{signed32}
use Rattle.numbers.specs.Coordinate.{is_radius, radius}
use Rattle.numbers.proofs.coordinate.radius_of.Goals as goal

pub returns-then-contains : goal.returns-then-contains
unfolding radius is_radius
returns-then-contains c =
    let z = signed32 c.args.v in
    let e : to_z w32 (of_z w32 c.to_signed-z.result) ≡ z = to_z-of_z {w = w32} (record { sfits = c.to_signed-z.type_inv }) ∙ c.to_signed-z.ensures in
    let low : le_z (pos 0) (to_z w32 (of_z w32 c.to_signed-z.result)) ≡ true = search rules in
    let high : le_z (to_z w32 (of_z w32 c.to_signed-z.result)) (pos 32767) ≡ true = search rules in
    rw (e, rw e at low, rw e at high)

pub returns-else-contains : goal.returns-else-contains
unfolding radius is_radius
returns-else-contains c =
    let z = signed32 c.args.v in
    let e : to_z w32 (of_z w32 c.to_signed-z.result) ≡ z = to_z-of_z {w = w32} (record { sfits = c.to_signed-z.type_inv }) ∙ c.to_signed-z.ensures in
    let w : is_radius z ≡ false = grind (arith, c.if-contains.ensures.cases) in
    rw w
