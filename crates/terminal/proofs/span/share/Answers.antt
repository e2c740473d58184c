-- `terminal::span::share` meets its contract.
use Rattle.std.proofs.Common.{◌≡◌, ◌+◌, ◌-◌, ◌*◌, ◌/◌, max, arith}
use Rattle.terminal.proofs.Sharing.{all-inside, the-span}
use Rattle.terminal.proofs.span.share.Goals as goal

pub returns : goal.returns
returns c =
    let a = c.args in
    let e : c.max.result ≡ max 1 ((a.i + 1) * a.size / a.count - a.i * a.size / a.count) = omega arith in
    record { value = the-span a.i a.count a.size e; inside = all-inside a.i a.count a.size (omega arith) (omega arith) e }
