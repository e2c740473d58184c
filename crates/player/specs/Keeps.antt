-- A player that keeps to its pane.
use Rattle.std.specs.Prelude.{◌≡◌}
use Rattle.raster.specs.declared.frame.Bounds.{Bounds}
use Rattle.player.specs.declared.Verdict.{Verdict}
use Rattle.player.specs.Player.{Outcome, done, refused, Player}

-- an opcode that is carried out paints by a frame of its environment's size and pane, and leaves that size and pane
abbrev pub Stays : {E : Type 0} → (E → Bounds) → E → Outcome E → Type 0
Stays bounds e (done e' p) = (p.frame.bounds ≡ bounds e) × (bounds e' ≡ bounds e)
Stays bounds e (refused v) = Unit {0}

-- every opcode does so, and a stop leaves them too
pub record Keeps {E : Type 0} (bounds : E → Bounds) (P : Player E) : Type 0 where
  pub steps : (e : E) → Stays bounds e (P.step e)
  pub stops : (v : Verdict) (e : E) → bounds (P.stop v e) ≡ bounds e
