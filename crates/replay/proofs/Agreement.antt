-- T-12's theorem of the rules: a session that was recorded agrees always when it is replayed on a screen of the same length.
use Prim.Native.Nat.{ℕ, suc, ◌+◌}
use mathlib.Core.Path.{◌≡◌, refl, sym, ap, ap₂, ◌∙◌, subst}
use mathlib.Core.Bool.{Bool, cond, ◌&&◌}
use mathlib.Core.List.{List, [], ◌∷◌}
use native.Mathlib.Omega.{arith}
use borrow.Author.Tests.{eq-eqb}
use lib.ListN.{length, take}
use Rattle.player.specs.Run.{got}
use Rattle.raster.specs.declared.frame.Bounds.{Bounds}
use Rattle.rules.specs.Environment.{Env}
use Rattle.rules.specs.Fresh.{made}
use Rattle.rules.specs.Door as Door
use Rattle.replay.specs.Entries.{Entry, whole}
use Rattle.replay.specs.Replay.{Replay, pair, came_of, differing, replay_from, replay}
use Rattle.replay.specs.Session.{Call, session, last_env, on_one, Long, record_text, Entered}
use Rattle.replay.proofs.Blind.{same-got, same_length}
use Rattle.replay.proofs.Recording.{AllSmall, wholes, read_back, all_small, record-text}

-- ---- a block that says what comes is passed
passed : (w : List ℕ) (k : ℕ) (xs : List Entry) (e : Env) (t : List ℕ) (b a n : ℕ) → (Door.whole w t e b).verdict.number ≡ a → (Door.whole w t e b).steps ≡ n
    → replay_from w k (whole b a n ∷ xs) e t ≡ replay_from w (suc k) xs (Door.whole w t e b).env (Door.whole w t e b).screen
unfolding replay_from
passed w k xs e t b a n p q =
    let r = Door.whole w t e b in
    ap (λ (x : Bool). cond x (replay_from w (suc k) xs r.env r.screen) (differing (suc k) (pair a n) (came_of r) r.env r.screen))
    (ap₂ (λ (x y : Bool). x && y) (eq-eqb _ _ p) (eq-eqb _ _ q))

-- all agree, so many blocks, and the replay ends in the environment that the session got back last
pub record Agrees (x : Replay) (blocks : ℕ) (e : Env) : Type 0 where
  pub number : x.number ≡ 0
  pub block : x.block ≡ blocks
  pub env : x.env ≡ e

all-passed : (w : List ℕ) (e : Env) (cs : List Call) (k : ℕ) (t : List ℕ) → Long (length t) cs
    → Agrees (replay_from w k (wholes (session w e cs)) e t) (k + length cs) (last_env w e cs)
unfolding session last_env replay_from
all-passed w e [] k t h = record { number = refl; block = omega arith; env = refl }
all-passed w e (c ∷ cs) k t h =
    let r = Door.whole w c.screen e c.budget in
    let r' = Door.whole w t e c.budget in
    let g : got r' ≡ got r = same-got w e c.budget t c.screen (sym h.0) in
    let xs = wholes (session w r.env cs) in
    let step = passed w k xs e t c.budget r.verdict.number r.steps (ap (λ x. x.told.verdict.number) g) (ap (λ x. x.told.steps) g) in
    let same : r'.env ≡ r.env = ap (λ x. x.env) g in
    let later = all-passed w r.env cs (suc k) r'.screen (subst (λ (n : ℕ). Long n cs) (sym (same_length w e c.budget t)) h.1) in
    let count : suc k + length cs ≡ k + suc (length cs) = omega arith in
    subst (λ (x : Replay). Agrees x (k + suc (length cs)) (last_env w r.env cs)) (sym (step ∙ ap (λ (e : Env). replay_from w (suc k) xs e r'.screen) same))
    (subst (λ (n : ℕ). Agrees (replay_from w (suc k) xs r.env r'.screen) n (last_env w r.env cs)) count later)

-- ---- calls on screens of one length, whatever their bytes, from any environment
pub session-agrees : (w : List ℕ) (e : Env) (cs : List Call) (t : List ℕ) → Long (length t) cs → AllSmall (session w e cs)
    → Agrees (replay w (record_text (session w e cs)) e t) (length cs) (last_env w e cs)
unfolding replay
session-agrees w e cs t h small =
    let a = subst (λ (xs : List Entry). Agrees (replay_from w 0 xs e t) (0 + length cs) (last_env w e cs)) (sym (read_back (session w e cs) small)) (all-passed w e cs 0 t h) in
    record { number = a.number; block = omega (arith, a.block); env = a.env }

-- as the record stands in the lent bytes
pub recorded-agrees : (w : List ℕ) (e : Env) (cs : List Call) (r r' : List ℕ) (u : ℕ) (t : List ℕ) → Long (length t) cs → Entered (session w e cs) r 0 r' u
    → Agrees (replay w (take u r') e t) (length cs) (last_env w e cs)
recorded-agrees w e cs r r' u t h g =
    subst (λ (x : List ℕ). Agrees (replay w x e t) (length cs) (last_env w e cs)) (sym (record-text g)) (session-agrees w e cs t h (all_small g))

-- ---- T-12 as it stands: one list and one screen, from a fresh environment, also one that was refused
on-one-long : (w : List ℕ) (e : Env) (s bs : List ℕ) (n : ℕ) → length s ≡ n → Long n (on_one w e s bs)
unfolding on_one
on-one-long w e s [] n h = tt
on-one-long w e s (b ∷ bs) n h = (h, on-one-long w (Door.whole w s e b).env (Door.whole w s e b).screen bs n (same_length w e b s ∙ h))

as_many : (w : List ℕ) (e : Env) (s bs : List ℕ) → length (on_one w e s bs) ≡ length bs
unfolding on_one
as_many w e s [] = refl
as_many w e s (b ∷ bs) = ap suc (as_many w (Door.whole w s e b).env (Door.whole w s e b).screen bs)

pub fresh-agrees : (w : List ℕ) (b : Bounds) (s bs r r' : List ℕ) (u : ℕ) (t : List ℕ) → length s ≡ length t
    → Entered (session w (made b).env (on_one w (made b).env s bs)) r 0 r' u
    → Agrees (replay w (take u r') (made b).env t) (length bs) (last_env w (made b).env (on_one w (made b).env s bs))
fresh-agrees w b s bs r r' u t h g =
    let e = (made b).env in
    subst (λ (n : ℕ). Agrees (replay w (take u r') e t) n (last_env w e (on_one w e s bs))) (as_many w e s bs)
    (recorded-agrees w e (on_one w e s bs) r r' u t (on-one-long w e s bs (length t) h) g)
