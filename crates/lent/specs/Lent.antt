-- The environment that what a run lends stands for.
use Rattle.std.specs.Prelude.{ℕ, List}
use Rattle.raster.specs.declared.frame.Bounds.{Bounds}
use Rattle.rules.specs.declared.environment.Registers.{Registers}
use Rattle.rules.specs.Environment.{Env, view}
use Rattle.lent.specs.declared.Stack.{Stack}

abbrev pub look : Bounds → Registers → List ℕ → Stack → Env
look b r vs st = view b r vs st.returns st.nesting st.repeats
