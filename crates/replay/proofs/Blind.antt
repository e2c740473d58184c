-- Bytes never steer: of any player behind a door, number, steps and environment of a call hang on the screen's length alone.
use Prim.Native.Nat.{ℕ, zero, suc}
use mathlib.Core.Path.{◌≡◌, refl, ap, ◌∙◌}
use mathlib.Core.List.{List}
use lib.ListN.{length}
use Rattle.player.specs.Run.{got}
use Rattle.player.specs.Player.{Player}
use Rattle.player.specs.Hosted.{Request, Hosted, behind, answered}
use Rattle.player.proofs.Unsteered.{blind}
use Rattle.player.proofs.Hosts.{hosted-obeys}
use Rattle.rules.specs.Environment.{Env}
use Rattle.rules.specs.Door as Door
use Rattle.rules.proofs.Alone.{keeps}

behind-blind : {E : Type 0} (n : ℕ) (P : Player E) (budget : ℕ) (e : E) (s t : List ℕ) → got (behind n P budget e s) ≡ got (behind n P budget e t)
behind-blind zero P budget e s t = blind P budget e s t 0
behind-blind (suc n) P budget e s t = refl

answered-blind : (H : Hosted) (q : Request H.Words) (e : H.Env) (s t : List ℕ) → length s ≡ length t → got (answered H q e s) ≡ got (answered H q e t)
unfolding answered
answered-blind H q e s t h =
    behind-blind (H.door q e (length s)) (H.player q.list) q.budget e s t
    ∙ ap (λ (n : ℕ). got (behind (H.door q e n) (H.player q.list) q.budget e t)) h

pub same-got : (w : List ℕ) (e : Env) (b : ℕ) (s t : List ℕ) → length s ≡ length t → got (Door.whole w s e b) ≡ got (Door.whole w t e b)
same-got w e b s t h = answered-blind Door.machine (record { list = w; budget = b }) e s t h

pub same_length : (w : List ℕ) (e : Env) (b : ℕ) (s : List ℕ) → length (Door.whole w s e b).screen ≡ length s
same_length w e b s = (hosted-obeys Door.machine keeps).long (record { list = w; budget = b }) e s
