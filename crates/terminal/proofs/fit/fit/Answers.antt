-- `terminal::fit::fit` meets its contract.
use Rattle.std.proofs.Common.{◌≡◌, ◌*◌, ◌/◌, max, arith}
use Rattle.std.proofs.Math.Nat.{div-le_of_le-mul}
use Rattle.terminal.proofs.Fitting.{fills-width, fills-height}
use Rattle.terminal.proofs.fit.fit.Goals as goal

pub even-requires : goal.even-requires
even-requires c =
    let a = c.args in
    let q = div-le_of_le-mul a.width {m = c.clamped-columns.result * a.height} {n = 2 * c.clamped-lines.result} (omega arith) in
    omega arith

pub returns-then-full-room-clause-value : goal.returns-then-full-room-clause-value
returns-then-full-room-clause-value c = fills-width c.clamped-columns.ensures c.clamped-lines.ensures c.even.ensures c.if-full-room.true

pub returns-then-full-room-clause-sound : goal.returns-then-full-room-clause-sound
returns-then-full-room-clause-sound c =
    let a = c.args in
    let q = div-le_of_le-mul a.width {m = c.clamped-columns.result * a.height} {n = 2 * c.clamped-lines.result} (omega arith) in
    record { width = omega arith; height = omega arith; columns = omega arith; lines = omega arith }

pub returns-clause-value : goal.returns-clause-value
returns-clause-value c =
    let some : c.max.result ≡ max 1 (2 * c.clamped-lines.result * c.args.width / c.args.height) = omega arith in
    fills-height c.clamped-columns.ensures c.clamped-lines.ensures some c.if-full-room.false
