-- What any player is.
use Rattle.std.specs.Prelude.{ℕ, ◌≡◌}
use Rattle.numbers.specs.declared.place.WordIndex.{WordIndex}
use Rattle.player.specs.declared.Verdict.{Verdict}
use Rattle.player.specs.declared.State.{State}
use Rattle.player.specs.declared.State.TheVariants.{Running, Ended, Stopped}
use Rattle.player.specs.Painting.{Painting}

-- a refusal's number, and the index of the word at fault
abbrev pub fault : ℕ → WordIndex → Verdict
fault n i = record { number = n; place = i }

-- a number that carries 0
abbrev pub verdict : ℕ → Verdict
verdict n = fault n (record { 0 = 0 })

-- what becomes of an opcode: it is carried out, with the environment after it and what it paints, or refused
pub data Outcome (E : Type 0) : Type 0 where
  done : E → Painting → Outcome E
  refused : Verdict → Outcome E

-- a player over environments E: the state of one, the same one stopped by a refusal, and what becomes of its next opcode
pub record Player (E : Type 0) : Type 0 where
  pub state : E → State
  pub stop : Verdict → E → E
  pub step : E → Outcome E

-- an environment that a refusal stopped is in the state that says so
abbrev pub Stops : {E : Type 0} → Player E → Type 0
Stops {E} P = (v : Verdict) (e : E) → P.state (P.stop v e) ≡ Stopped v

-- no refusal stopped it
abbrev pub Unstopped : State → Type 0
Unstopped Running = Unit {0}
Unstopped Ended = Unit {0}
Unstopped (Stopped v) = ⊥

-- an opcode that is carried out leaves it so
abbrev pub LeavesUnstopped : {E : Type 0} → Player E → Outcome E → Type 0
LeavesUnstopped P (done e' p) = Unstopped (P.state e')
LeavesUnstopped P (refused v) = Unit {0}

-- only a refusal stops
abbrev pub OnlyRefusalsStop : {E : Type 0} → Player E → Type 0
OnlyRefusalsStop {E} P = (e : E) → P.state e ≡ Running → LeavesUnstopped P (P.step e)
