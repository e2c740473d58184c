-- Slices of the run that C calls: the environment is lent, and left for the next slice where it was.
use Prim.Native.Nat.{ℕ, ◌+◌, ◌≤◌}
use mathlib.Core.Path.{◌≡◌}
use mathlib.Core.List.{List, ◌∷◌}
use Rattle.player.specs.Player.{fault}
use Rattle.player.specs.Run.{answer}
use Rattle.player.specs.Pane.{Apart}
use Rattle.player.specs.Mixing.{ones, twos, Mixed}
use Rattle.player.specs.Hosted.{callable}
use Rattle.player.specs.Slices.{sum, Sliced}
use Rattle.player.specs.InTurns.{asks, AsOnce}
use Rattle.rules.specs.declared.environment.Env as Held
use Rattle.rules.specs.Environment.{held}
use Rattle.rules.specs.Door.{machine}
use Rattle.run.proofs.Sides.{Calls}
use Rattle.run.proofs.Slices as Run
use Rattle.ovenlute.specs.declared.Done as Done
use Rattle.ovenlute.proofs.Sides.{Kept, lending, Left}

module _ (w s : List ℕ) (e : Held.Env) where
  -- a call with a that leaves e' and t, and then one with b that leaves e'' and u, are one with a + b
  pub cut-in-two : (a b : ℕ) (d d' : Done.Done) (e' e'' : Held.Env) (t u : List ℕ) → a + b ≤ 1000000 → Kept w s e a d e' t → Kept w t e' b d' e'' u
      → Kept w s e (a + b) (record { number = d'.number; place = d'.place; steps = d.steps + d'.steps }) e'' u
  cut-in-two a b d d' e' e'' t u allowed p q = Run.cut-in-two w s e a b _ _ t u allowed p q

  -- an answer other than 1 is the answer under any larger budget that is allowed
  pub stays : (a b : ℕ) (d : Done.Done) (e' : Held.Env) (t : List ℕ) → a ≤ b → b ≤ 1000000 → (d.number ≡ 1 → ⊥) → Kept w s e a d e' t → Kept w s e b d e' t
  stays a b d e' t more allowed n p = Run.stays w s e a b _ t more allowed n p

  -- any slices: d has the last number with its place, and the steps of all
  pub slices : (b : ℕ) (bs : List ℕ) (d : Done.Done) (e' : Held.Env) (t : List ℕ) → sum b bs ≤ 1000000
      → Sliced machine lending w b bs e s (answer (fault d.number d.place) e' t d.steps) → Kept w s e (sum b bs) d e' t
  slices b bs d e' t allowed h = Run.slices w s e b bs _ t allowed h

-- ---- two lists that take turns, each in slices of one budget: each side has got, and its pane is, as its one call alone leaves it
pub in_turns : (d e : Held.Env) → Apart d.bounds e.bounds → (s v : List ℕ) (b : ℕ) (bs w : List ℕ) (c : ℕ) (cs : List ℕ)
    → sum b bs ≤ 1000000 → sum c cs ≤ 1000000 → (m : Calls) → ones m ≡ asks v (b ∷ bs) → twos m ≡ asks w (c ∷ cs)
    → (x : Mixed (callable machine) (callable machine)) → Left m d e s x
    → AsOnce machine v (sum b bs) (held d) s x.got₁ x.screen × AsOnce machine w (sum c cs) (held e) s x.got₂ x.screen
in_turns d e apart s v b bs w c cs h k m p q x l = Run.in_turns d e apart s v b bs w c cs h k m p q x l
