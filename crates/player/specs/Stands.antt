-- Demand 1, an opcode refused in a run: it changed nothing, the opcodes before it stand, and the environment says that it was stopped.
use Rattle.std.specs.Prelude.{ℕ, ◌≤◌, ◌≡◌, List, length}
use Rattle.player.specs.declared.Verdict.{Verdict}
use Rattle.player.specs.declared.State.TheVariants.{Running, Stopped}
use Rattle.player.specs.Player.{verdict, refused, Player}
use Rattle.player.specs.Run.{Answer}
use Rattle.player.specs.Hosted.{Request, Hosted, answered}

-- the same request with another budget
abbrev pub budgeted : {W : Type 0} → ℕ → Request W → Request W
budgeted k q = record { list = q.list; budget = k }

-- what the door lets in, it lets in with any smaller budget
abbrev pub LetsInLess : Hosted → Type 0
LetsInLess H = (q : Request H.Words) (e : H.Env) (bytes k : ℕ) → k ≤ q.budget → H.door q e bytes ≡ 0 → H.door (budgeted k q) e bytes ≡ 0

-- a call was let in, began running and ended stopped with v: where only refusals stop, by an opcode that it refused
pub record EndsStopped (H : Hosted) (q : Request H.Words) (e : H.Env) (s : List ℕ) (v : Verdict) : Type 0 where
  pub entered : H.door q e (length s) ≡ 0
  pub began : (H.player q.list).state e ≡ Running
  pub stopped : (H.player q.list).state (answered H q e s).env ≡ Stopped v

-- x is the answer of a run that an opcode refused with v ended, y that of the same run with a budget of just the opcodes that x counts
pub record Stands {E : Type 0} (P : Player E) (v : Verdict) (x y : Answer E) : Type 0 where
  -- y is out of budget, and its next opcode is the one that is refused in x
  pub used_up : y.verdict ≡ verdict 1
  pub next : P.step y.env ≡ refused v
  -- x says the refusal's number, and is y with the environment stopped
  pub says : x.verdict ≡ v
  pub env : x.env ≡ P.stop v y.env
  pub screen : x.screen ≡ y.screen
  pub steps : x.steps ≡ y.steps
