-- `picture::ppm::put_colours` meets its contract: the dots so far are put.
use Rattle.std.proofs.Common.{◌≡◌, ◌/◌, length, take, min, arith}
use Rattle.std.proofs.lemmas.List.{length-take}
use Rattle.picture.proofs.Putting.{no-dot, one-dot, room-on, all-put}
use Rattle.picture.proofs.ppm.put_colours.Goals as goal

pub loop-dot-init : goal.loop-dot-init
loop-dot-init c = no-dot (take c.min.result c.args.dots.now) c.args.room.now

pub put-at-requires : goal.put-at-requires
put-at-requires c =
    let r = room-on (take c.min.result c.args.dots.now) c.loop-dot.dot-index c.loop-dot.invariant in
    omega (arith, length-take c.min.result c.args.dots.now)

pub loop-dot-preserved : goal.loop-dot-preserved
loop-dot-preserved c =
    one-dot (take c.min.result c.args.dots.now) c.loop-dot.dot-index c.loop-dot-test.true c.loop-dot.invariant c.colour_of.ensures c.put-at.ensures

pub returns : goal.returns
returns c =
    let r = room-on (take c.min.result c.args.dots.now) c.loop-dot.dot-index c.loop-dot.invariant in
    let n : length (take c.min.result c.args.dots.now) ≡ min c.min.result (length c.args.dots.now) = length-take c.min.result c.args.dots.now in
    let p = all-put c.args.dots.now c.loop-dot.dot-index (length c.args.room.now / 3) c.loop-dot-test.false c.min.ensures (omega arith) c.loop-dot.invariant in
    record { value = p.0; room_after = p.1; prefix_len = p.2 }
