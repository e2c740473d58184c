-- Document 02, T-12: a replay runs each block of a record, and stops at the first whose answer or steps differ, or that is malformed.
use Rattle.std.specs.Prelude.{ℕ, suc, ◌≡◌, Bool, cond, ◌&&◌, List, [], ◌∷◌, eqb}
use Rattle.player.specs.Run.{Answer}
use Rattle.rules.specs.declared.environment.Env as Held
use Rattle.rules.specs.Environment.{Env, held}
use Rattle.rules.specs.Door as Door
use Rattle.replay.specs.declared.Pair.{Pair}
use Rattle.replay.specs.declared.Replayed.{Replayed}
use Rattle.replay.specs.Entries.{Entry, whole, malformed, entries}

abbrev pub pair : ℕ → ℕ → Pair
pair a n = record { answer = a; steps = n }

abbrev pub none : Pair
none = pair 0 0

-- what came of a call
abbrev pub came_of : Answer Env → Pair
came_of r = pair r.verdict.number r.steps

-- neither the answer nor the steps differ
abbrev pub alike : Pair → Pair → Bool
alike recorded came = eqb came.answer recorded.answer && eqb came.steps recorded.steps

-- what is found, and what the runs left
pub record Replay : Type 0 where
  pub number : ℕ
  pub block : ℕ
  pub recorded : Pair
  pub came : Pair
  pub env : Env
  pub screen : List ℕ

-- all agree: k blocks
abbrev pub agreeing : ℕ → Env → List ℕ → Replay
agreeing k e s = record { number = 0; block = k; recorded = none; came = none; env = e; screen = s }

-- block k differs: it is named, with both pairs
abbrev pub differing : ℕ → Pair → Pair → Env → List ℕ → Replay
differing k recorded came e s = record { number = 33; block = k; recorded = recorded; came = came; env = e; screen = s }

-- block k is malformed: it is named
abbrev pub spoilt : ℕ → Env → List ℕ → Replay
spoilt k e s = record { number = 34; block = k; recorded = none; came = none; env = e; screen = s }

-- the blocks behind the first k, each run over the environment and the screen that the one before left
unfoldable pub replay_from : List ℕ → ℕ → List Entry → Env → List ℕ → Replay
replay_from w k [] e s = agreeing k e s
replay_from w k (malformed ∷ xs) e s = spoilt (suc k) e s
replay_from w k (whole b a n ∷ xs) e s =
    let r = Door.whole w s e b in
    let later = replay_from w (suc k) xs r.env r.screen in
    cond (alike (pair a n) (came_of r)) later (differing (suc k) (pair a n) (came_of r) r.env r.screen)

-- the record t of the list w, from the environment e on the screen s
unfoldable pub replay : List ℕ → List ℕ → Env → List ℕ → Replay
replay w t e s = replay_from w 0 (entries t) e s

-- what a replay promises: its answer, with the screen that it leaves
abbrev pub found : Replayed → List ℕ → Replay
found r s = record { number = r.number; block = r.block; recorded = r.recorded; came = r.came; env = held r.env; screen = s }

abbrev pub Promise : List ℕ → List ℕ → Held.Env → List ℕ → Replayed → List ℕ → Type 0
Promise w t e s r s' = found r s' ≡ replay w t (held e) s
