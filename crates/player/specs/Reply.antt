-- What comes back from a call.
use Rattle.std.specs.Prelude.{ℕ, List}

-- what a side gets: what it is told, and the environment
pub record Got (E I : Type 0) : Type 0 where
  pub told : I
  pub env : E

-- beside it, the screen
pub record Reply (E I : Type 0) : Type 0 where
  pub got : Got E I
  pub screen : List ℕ
