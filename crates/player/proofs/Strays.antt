-- What demand 3 is shown from is needed, each part: without it a mixing disturbs a side. And so for demand 1: only refusals may stop. And so for slices.
use mathlib.Core.Path.{◌≡◌, refl, ap}
use mathlib.Core.List.{List, [], ◌∷◌}
use Prim.Native.Nat.{ℕ, ◌+◌}
use native.Mathlib.Omega.{arith}
use Rattle.raster.specs.Frame.{drawable}
use Rattle.raster.specs.Paint.{recolour_from, paint}
use Rattle.player.specs.declared.Verdict.{Verdict}
use Rattle.player.specs.Reply.{Got}
use Rattle.player.specs.Player.{verdict}
use Rattle.player.specs.Run.{Answer, runs}
use Rattle.player.specs.Mixing.{Callable, alone, one, two, Mix, mixed}
use Rattle.player.specs.Undisturbed.{Undisturbed}
use Rattle.player.specs.Hosted.{Hosted, answered, callable}
use Rattle.player.specs.Stands.{EndsStopped, Stands}
use Rattle.player.specs.Slices.{call, after}
use Rattle.player.specs.Toy.{Env, fresh, west, east, toy, toys}
use Rattle.player.specs.Stray.{spills, widens, peeks, loses, halts, picks, shuts, skips}
use Rattle.player.proofs.Toys.{brushes, pens, ask, blank}

abbrev Disturbed : (A B : Callable) → Mix A B → A.Env → B.Env → Type 0
Disturbed A B m a b = Undisturbed A B m a b blank (mixed A B m a b blank) → ⊥

-- panes that share column 2: the pen's dot is seen in the brush's pane
pub touching : Disturbed brushes pens (one (ask (7 ∷ []) 1) ∷ two (ask (2 ∷ []) 1) ∷ []) (fresh 5 3 0 2) east
unfolding mixed alone answered runs paint drawable recolour_from
touching u = let z : ◌≡◌ {A = ℕ} 9 7 = u.pane₁.bytes 12 (omega arith) tt in omega arith

-- panes with no pixel in common, on 15 bytes that are 5 by 3 for one side and 3 by 5 for the other
pub reshaped : Disturbed brushes brushes (two (ask (7 ∷ []) 1) ∷ []) west (fresh 3 5 2 2)
unfolding mixed alone answered runs paint drawable recolour_from
reshaped u = let z : ◌≡◌ {A = ℕ} 7 0 = u.pane₁.bytes 5 (omega arith) tt in omega arith

-- a step that paints by another frame
pub spilt : Disturbed (callable (toys spills)) pens (two (ask (2 ∷ []) 1) ∷ one (ask (7 ∷ []) 1) ∷ []) west east
unfolding mixed alone answered runs paint drawable recolour_from
spilt u = let z : ◌≡◌ {A = ℕ} 7 9 = u.pane₂.bytes 12 (omega arith) tt in omega arith

-- a step that widens its pane, and in the next call a step that paints in it
pub widened : Disturbed (callable (toys widens)) pens (two (ask (2 ∷ []) 1) ∷ one (ask (7 ∷ 7 ∷ []) 1) ∷ one (ask (7 ∷ 7 ∷ []) 1) ∷ []) west east
unfolding mixed alone answered runs paint drawable recolour_from
widened u = let z : ◌≡◌ {A = ℕ} 7 9 = u.pane₂.bytes 12 (omega arith) tt in omega arith

-- a call that looks at the other pane
pub peeked : Disturbed peeks pens (two (ask (2 ∷ []) 1) ∷ one 0 ∷ []) west east
unfolding mixed alone answered runs paint drawable recolour_from
peeked u = let z : ◌≡◌ {A = ℕ} 9 0 = ap heard u.got₁ in omega arith
  where
    heard : List (Got Env ℕ) → ℕ
    heard [] = 0
    heard (g ∷ gs) = g.told

-- a call that loses bytes
pub lost : Disturbed loses brushes (one 0 ∷ []) east west
unfolding mixed
lost u = let z : ◌≡◌ {A = ℕ} 14 15 = u.long in omega arith

-- a word that is carried out and stops: the call with a budget of just its steps is stopped as well
pub halted : EndsStopped (toys halts) (ask (7 ∷ []) 9) west blank (verdict 20)
    × (Stands (toy halts (7 ∷ [])) (verdict 20) (answered (toys halts) (ask (7 ∷ []) 9) west blank) (answered (toys halts) (ask (7 ∷ []) 1) west blank) → ⊥)
unfolding answered runs
halted = (record { entered = refl; began = refl; stopped = refl }, λ t. let z : ◌≡◌ {A = ℕ} 20 1 = ap (λ (v : Verdict). v.number) t.used_up in omega arith)

-- ---- two slices of 1 that do not come to what a budget of 2 comes to
abbrev CutSeen : (H : Hosted) → H.Words → H.Env → Type 0
CutSeen H w e = (let x = call H w 1 e blank in call H w (1 + 1) e blank ≡ after x.steps (call H w 1 x.env x.screen)) → ⊥

-- a door that does not say the same under every allowed budget
pub picked : CutSeen picks (7 ∷ 8 ∷ 9 ∷ []) west
unfolding answered runs paint drawable recolour_from
picked u = let z : ◌≡◌ {A = ℕ} 14 1 = ap (λ (a : Answer Env). a.verdict.number) u in omega arith

-- a door that does not let in again what a call left
pub shut : CutSeen shuts (7 ∷ 8 ∷ 9 ∷ []) west
unfolding answered runs paint drawable recolour_from
shut u = let z : ◌≡◌ {A = ℕ} 1 12 = ap (λ (a : Answer Env). a.verdict.number) u in omega arith

-- a stop that is not recorded
pub skipped : CutSeen skips [] west
unfolding answered runs
skipped u = let z : ◌≡◌ {A = ℕ} 1 2 = ap (λ (a : Answer Env). a.env.at) u in omega arith
