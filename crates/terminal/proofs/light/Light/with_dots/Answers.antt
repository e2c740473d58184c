-- `terminal::light::Light::with_dots` meets its contract: what is still to be added, added, leaves what is asked.
use Rattle.terminal.proofs.Lighting.{one-added, all-added}
use Rattle.terminal.proofs.light.Light.with_dots.Goals as goal

pub loop-dot-preserved : goal.loop-dot-preserved
loop-dot-preserved c =
    one-added c.loop-dot.invariant c.loop-dot-test.true c.colour_of.ensures c.with_colour-light.ensures.value c.with_colour-light.ensures.grown

pub returns-clause-value : goal.returns-clause-value
returns-clause-value c = all-added c.loop-dot.invariant c.loop-dot-test.false
