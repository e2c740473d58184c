-- The run with a budget, over any player, and the opcodes that it carries out.
use Rattle.std.specs.Prelude.{ℕ, zero, suc, List, [], ◌∷◌}
use Rattle.player.specs.declared.Verdict.{Verdict}
use Rattle.player.specs.declared.State.{State}
use Rattle.player.specs.declared.State.TheVariants.{Running, Ended, Stopped}
use Rattle.player.specs.Painting.{Painting, painted}
use Rattle.player.specs.Reply.{Got, Reply}
use Rattle.player.specs.Player.{verdict, Outcome, done, refused, Player}

-- what a run answers; steps is the number of opcodes carried out
pub record Answer (E : Type 0) : Type 0 where
  pub verdict : Verdict
  pub env : E
  pub screen : List ℕ
  pub steps : ℕ

abbrev pub answer : {E : Type 0} → Verdict → E → List ℕ → ℕ → Answer E
answer v e s k = record { verdict = v; env = e; screen = s; steps = k }

-- what a side is told of a run
pub record Told : Type 0 where
  pub verdict : Verdict
  pub steps : ℕ

abbrev pub got : {E : Type 0} → Answer E → Got E Told
got a = record { told = record { verdict = a.verdict; steps = a.steps }; env = a.env }

abbrev pub reply : {E : Type 0} → Answer E → Reply E Told
reply a = record { got = got a; screen = a.screen }

-- an opcode that was carried out: the environment that it began with, and what it painted
pub record Done (E : Type 0) : Type 0 where
  pub from : E
  pub painting : Painting

abbrev pub paintings : {E : Type 0} → List (Done E) → List Painting
paintings [] = []
paintings (d ∷ ds) = d.painting ∷ paintings ds

module _ {E : Type 0} (P : Player E) where
  -- an ended or stopped environment answers its number again; a running one goes on
  abbrev pub by_state : State → E → List ℕ → ℕ → Answer E → Answer E
  by_state Ended e s k on = answer (verdict 0) e s k
  by_state (Stopped v) e s k on = answer v e s k
  by_state Running e s k on = on

  -- a refused opcode stops the environment and does not count; one that is carried out counts, EODL too, and the run goes on
  abbrev pub by_opcode : Outcome E → E → List ℕ → ℕ → (E → List ℕ → ℕ → Answer E) → Answer E
  by_opcode (refused v) e s k on = answer v (P.stop v e) s k
  by_opcode (done e' p) e s k on = on e' (painted p s) (suc k)

  -- the run in which k opcodes are carried out and `left` more may be: first the state, then the budget, then the opcode
  unfoldable pub runs : ℕ → E → List ℕ → ℕ → Answer E
  runs zero e s k = by_state (P.state e) e s k (answer (verdict 1) e s k)
  runs (suc left) e s k = by_state (P.state e) e s k (by_opcode (P.step e) e s k (λ e' s' j. runs left e' s' j))

  abbrev pub traced : State → Outcome E → E → (E → List (Done E)) → List (Done E)
  traced Ended o e on = []
  traced (Stopped v) o e on = []
  traced Running (refused v) e on = []
  traced Running (done e' p) e on = record { from = e; painting = p } ∷ on e'

  -- the opcodes that such a run carries out, in order
  unfoldable pub trace : ℕ → E → List (Done E)
  trace zero e = []
  trace (suc left) e = traced (P.state e) (P.step e) e (λ e'. trace left e')
