-- `terminal::shown::Shown::light` meets its contract: row by row.
use Rattle.std.proofs.Common.{◌+◌, ◌*◌, ◌∙◌}
use Rattle.terminal.proofs.Summing.{none-summed, one-summed, up_to}
use Rattle.terminal.proofs.shown.Shown.light.Goals as goal

pub loop-n-init : goal.loop-n-init
loop-n-init c = none-summed

pub loop-n-preserved : goal.loop-n-preserved
loop-n-preserved c =
    let a = c.args in
    let from = (a.down.from + c.loop-n.n) * a.self.now.view.width + a.across.from in
    one-summed c.loop-n.invariant (c.with_dots-light.ensures.value ∙ up_to c.loop-n.light from a.across.count a.self.now.screen.now) c.with_dots-light.ensures.grown
