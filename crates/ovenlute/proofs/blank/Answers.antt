-- `blank`: the struct stands for the blank environment, field by field.
use Rattle.std.proofs.Common.{◌<◌, ◌^◌, arith, w32}
use mir.Facts.{to_z_pos}
use Rattle.rules.specs.Environment.{firsts, state_of}
use Rattle.ovenlute.proofs.blank.Goals as goal

pub returns : goal.returns
unfolding firsts state_of
returns c =
    let x : c.args.x < 2 ^ 31 = omega arith in
    let y : c.args.y < 2 ^ 31 = omega arith in
    rw (to_z_pos w32 x, to_z_pos w32 y)
