-- A player behind a door, as the host calls it.
use Rattle.std.specs.Prelude.{ℕ, zero, suc, List, length}
use Rattle.raster.specs.declared.frame.Bounds.{Bounds}
use Rattle.player.specs.Player.{verdict, Player}
use Rattle.player.specs.Run.{Answer, answer, Told, reply, runs}
use Rattle.player.specs.Mixing.{Callable}

-- what a side asks of a run
pub record Request (W : Type 0) : Type 0 where
  pub list : W
  pub budget : ℕ

-- a player for each list of words; the door sees of the screen the length alone, and lets in with 0
pub record Hosted : Type 1 where
  pub Env : Type 0
  pub Words : Type 0
  pub bounds : Env → Bounds
  pub door : Request Words → Env → ℕ → ℕ
  pub player : Words → Player Env

-- a call to which the door says this number: any but 0 comes back, with all as it was and no step
abbrev pub behind : {E : Type 0} → ℕ → Player E → ℕ → E → List ℕ → Answer E
behind zero P budget e s = runs P budget e s 0
behind (suc n) P budget e s = answer (verdict (suc n)) e s 0

-- a call's whole answer
unfoldable pub answered : (H : Hosted) → Request H.Words → H.Env → List ℕ → Answer H.Env
answered H q e s = behind (H.door q e (length s)) (H.player q.list) q.budget e s

abbrev pub callable : Hosted → Callable
callable H =
    record { Env = H.Env; Request = Request H.Words; Told = Told; bounds = H.bounds; call = λ q e s. reply (answered H q e s) }
