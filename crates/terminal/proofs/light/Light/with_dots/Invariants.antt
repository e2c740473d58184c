-- `terminal::light::Light::with_dots` meets its contract: what is still to be added, added, leaves what is asked.
use Rattle.terminal.proofs.Lighting.{Adding}
use Rattle.terminal.proofs.light.Light.with_dots.Given as goal

abbrev pub invariant-loop-dot : goal.invariant-loop-dot
invariant-loop-dot l = Adding l.dots l.initial.light l.light l.dot-index
