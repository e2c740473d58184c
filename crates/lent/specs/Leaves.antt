-- What the functions of act and draw promise, by what they may touch: what is seen of them is what `shows` says of what they were lent.
use Rattle.std.specs.Prelude.{ℕ, ◌≤◌, ◌≡◌, List}
use Rattle.raster.specs.declared.frame.Bounds.{Bounds}
use Rattle.rules.specs.declared.environment.Registers.{Registers}
use Rattle.rules.specs.Environment.{Env}
use Rattle.lent.specs.declared.Stack.{Stack}
use Rattle.lent.specs.Lent.{look}
use Rattle.lent.specs.Shown.{Shown, Upshot, seen}

-- what an opcode must show of an environment
abbrev pub Showing : Type 0
Showing = Env → Shown

-- an opcode came to u, and registers are changed alone; and variables, the stack
abbrev pub Goes : Upshot → Showing → Registers → Registers → Type 0
Goes u shows r r' = (b : Bounds) (vs : List ℕ) (st : Stack) → seen u (look b r' vs st) ≡ shows (look b r vs st)

abbrev pub Sets : Upshot → Showing → Registers → Registers → List ℕ → List ℕ → Type 0
Sets u shows r r' vs vs' = (b : Bounds) (st : Stack) → seen u (look b r' vs' st) ≡ shows (look b r vs st)

abbrev pub Stacks : Upshot → Showing → Registers → Registers → Stack → Stack → Type 0
Stacks u shows r r' st st' = (b : Bounds) (vs : List ℕ) → seen u (look b r' vs st') ≡ shows (look b r vs st)

-- at most 16 returns are stacked, and at most eight repeats are open
pub record Stacked (r : Registers) (st : Stack) : Type 0 where
  pub deep : r.depth ≤ 16
  pub nested : st.nesting ≤ 8
