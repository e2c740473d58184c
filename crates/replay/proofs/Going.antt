-- The loop of a replay: what is found from here is what is found.
use Prim.Native.Nat.{ℕ, zero, suc, ◌+◌, ◌≤◌}
use mathlib.Core.Path.{◌≡◌, refl, sym, ap, ◌∙◌}
use mathlib.Core.Bool.{Bool, true, false, cond, not}
use mathlib.Core.List.{List, [], ◌∷◌}
use native.Mathlib.Numerals.{add-one}
use native.Mathlib.Omega.{arith}
use lib.ListN.{length, drop, length-drop}
use Rattle.player.specs.Run.{Answer}
use Rattle.rules.specs.Environment.{Env}
use Rattle.rules.specs.Door as Door
use Rattle.std.specs.Prelude.{Option, Some, None, Result, Ok, Err}
use Rattle.record.specs.declared.Block.{Block}
use Rattle.record.specs.declared.Malformed.{Malformed}
use Rattle.record.specs.Read.{block_of}
use Rattle.record.proofs.Blocks.{text-ends, block-ends}
use Rattle.replay.specs.declared.Pair.{Pair}
use Rattle.replay.specs.Entries.{Entry, whole, onto, entries_in, entries}
use Rattle.replay.specs.Replay.{Replay, pair, came_of, alike, agreeing, differing, spoilt, replay_from, replay}
use Rattle.replay.proofs.Blind.{same_length}

-- ---- by whether the pairs differ
pub differ : {r : Bool} (same : Bool) → r ≡ not same → r ≡ true → same ≡ false
differ true e h = absurd (cc)
differ false e h = refl

pub agree : {r : Bool} (same : Bool) → r ≡ not same → r ≡ false → same ≡ true
agree true e h = refl
agree false e h = absurd (cc)

-- ---- the bound does not matter where it is no less than the bytes
pub nothing_left : (f : ℕ) (t : List ℕ) → length t ≡ 0 → entries_in f t ≡ []
unfolding entries_in
nothing_left zero t h = refl
nothing_left (suc f) t h = sym (ap (λ (b : Result (Option Block) Malformed). onto b (λ size. entries_in f (drop size t))) (text-ends t h))

abbrev Same : ℕ → ℕ → List ℕ → Type 0
Same f g t = length t ≤ f → length t ≤ g → entries_in f t ≡ entries_in g t

onto_same : (f g : ℕ) (t : List ℕ) (b : Result (Option Block) Malformed) → b ≡ block_of t → length t ≤ suc f → length t ≤ suc g → ((s : List ℕ) → Same f g s)
    → onto b (λ size. entries_in f (drop size t)) ≡ onto b (λ size. entries_in g (drop size t))
onto_same f g t (Ok None) e p q later = refl
onto_same f g t (Err m) e p q later = refl
onto_same f g t (Ok (Some b)) e p q later =
    let h = block-ends t e in
    let l = length-drop b.size t in
    ap (λ (xs : List Entry). whole b.budget b.answer b.steps ∷ xs) (later (drop b.size t) (omega (arith, h.0)) (omega (arith, h.0)))

same_entries : (f g : ℕ) (t : List ℕ) → Same f g t
unfolding entries_in
same_entries zero g t p q = sym (nothing_left g t (omega arith))
same_entries (suc f) zero t p q = nothing_left (suc f) t (omega arith)
same_entries (suc f) (suc g) t p q = onto_same f g t (block_of t) refl p q (same_entries f g)

-- so what is read is the block that stands first, and what is read behind it
behind-block : (f : ℕ) (t : List ℕ) (b : Result (Option Block) Malformed) → b ≡ block_of t → length t ≤ suc f
    → onto b (λ size. entries_in f (drop size t)) ≡ onto b (λ size. entries (drop size t))
unfolding entries
behind-block f t (Ok None) e p = refl
behind-block f t (Err m) e p = refl
behind-block f t (Ok (Some b)) e p =
    let h = block-ends t e in
    let l = length-drop b.size t in
    ap (λ (xs : List Entry). whole b.budget b.answer b.steps ∷ xs) (same_entries f (length (drop b.size t)) (drop b.size t) (omega (arith, h.0)) (omega arith))

pub opened : (t : List ℕ) → entries t ≡ onto (block_of t) (λ size. entries (drop size t))
unfolding entries entries_in
opened [] = ap (λ (b : Result (Option Block) Malformed). onto b (λ size. entries (drop size []))) (text-ends [] refl)
opened (x ∷ xs) = behind-block (length xs) (x ∷ xs) (block_of (x ∷ xs)) refl (omega arith)

-- ---- the loop: at the rest of the record, behind k blocks
pub record Going (w t : List ℕ) (e₀ : Env) (s₀ : List ℕ) (e : Env) (s rest : List ℕ) (k : ℕ) : Type 0 where
  pub few : k + length rest ≤ length t
  pub as_long : length s ≡ length s₀
  pub same : replay_from w k (entries rest) e s ≡ replay w t e₀ s₀

pub begun : (w t : List ℕ) (e : Env) (s : List ℕ) → Going w t e s e s t 0
unfolding replay
begun w t e s = record { few = omega arith; as_long = refl; same = refl }

module _ {w t : List ℕ} {e₀ : Env} {s₀ : List ℕ} {e : Env} {s rest : List ℕ} {k : ℕ} (c : Going w t e₀ s₀ e s rest k) where
  -- the block here, and the others behind it
  by-block : (b : Result (Option Block) Malformed) → b ≡ block_of rest → replay_from w k (onto b (λ size. entries (drop size rest))) e s ≡ replay w t e₀ s₀
  by-block b p =
      ap (λ (xs : List Entry). replay_from w k xs e s) (ap (λ (b : Result (Option Block) Malformed). onto b (λ size. entries (drop size rest))) p ∙ sym (opened rest))
      ∙ c.same

  pub at-end : Ok None ≡ block_of rest → agreeing k e s ≡ replay w t e₀ s₀
  unfolding replay_from
  at-end p = by-block (Ok None) p

  pub at-spoilt : {m : Malformed} → Err m ≡ block_of rest → spoilt (k + 1) e s ≡ replay w t e₀ s₀
  unfolding replay_from
  at-spoilt {m} p = ap (λ (j : ℕ). spoilt j e s) (add-one k) ∙ by-block (Err m) p

  module _ {b : Block} (p : Ok (Some b) ≡ block_of rest) {x : Answer Env} (q : x ≡ Door.whole w s e b.budget) where
    abbrev said : Pair
    said = pair b.answer b.steps

    abbrev outcome : Answer Env → Bool → Replay
    outcome r ok = cond ok (replay_from w (suc k) (entries (drop b.size rest)) r.env r.screen) (differing (suc k) said (came_of r) r.env r.screen)

    is-outcome : (ok : Bool) → alike said (came_of x) ≡ ok → outcome x ok ≡ replay w t e₀ s₀
    unfolding replay_from
    is-outcome ok v = ap (outcome x) (sym v) ∙ ap (λ (r : Answer Env). outcome r (alike said (came_of r))) q ∙ by-block (Ok (Some b)) p

    pub differs : alike said (came_of x) ≡ false → differing (k + 1) said (came_of x) x.env x.screen ≡ replay w t e₀ s₀
    differs v = ap (λ (j : ℕ). differing j said (came_of x) x.env x.screen) (add-one k) ∙ is-outcome false v

    pub further : (1 ≤ b.size) × (b.size ≤ length rest)
    further = block-ends rest p

    pub goes_on : alike said (came_of x) ≡ true → Going w t e₀ s₀ x.env x.screen (drop b.size rest) (k + 1)
    goes_on v =
        record {
          few = omega (arith, further.0, further.1, c.few, length-drop b.size rest);
          as_long = ap (λ (r : Answer Env). length r.screen) q ∙ same_length w e b.budget s ∙ c.as_long;
          same = ap (λ (j : ℕ). replay_from w j (entries (drop b.size rest)) x.env x.screen) (add-one k) ∙ is-outcome true v;
        }
