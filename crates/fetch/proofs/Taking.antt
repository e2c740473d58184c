-- Operands by the pieces that they come from: refused where the list ends inside them or a variable named or implied is above 63, else read.
use Prim.Native.Nat.{ℕ, zero, suc, ◌+◌, ◌-◌, ◌<◌, ◌≤◌, max}
use mathlib.Core.Path.{◌≡◌, refl, ap, ◌∙◌}
use mathlib.Core.Bool.{Bool, true, false, cond}
use mathlib.Core.List.{List, [], ◌∷◌, append-nil}
use native.Mathlib.Omega.{arith}
use lib.ListN.{length}
use lib.Dec.{ltb}
use borrow.Author.Tests.{lt-ltb, le-ltb, ltb-true, ltb-false}
use Rattle.numbers.specs.declared.place.VarNo.{VarNo}
use Rattle.numbers.specs.declared.place.WordIndex.{WordIndex}
use Rattle.numbers.specs.Place as Place
use Rattle.numbers.specs.Number.{signed16, low32}
use Rattle.rules.specs.declared.opcode.Operands.{Operands}
use Rattle.rules.specs.Operands.{Source, from, dest, plain, at, size_of, highest, first_above, following, values, destination, gathered}
use Rattle.std.specs.Prelude.{Ok, Err}
use Rattle.player.specs.Player.{fault}
use Rattle.fetch.specs.Stages.{fetched, onto_of, taken_of}

-- ---- n variables from v on, where j are passed already

pub nth-variable : (n v j : ℕ) (vs : List ℕ) (k i : ℕ) → i ≡ j + k → k < n → at (following n v j vs) k ≡ at vs (v + i)
nth-variable zero v j vs k i e h = absurd (omega arith)
nth-variable (suc n) v j vs zero i e h = ap (λ (i : ℕ). at vs (v + i)) (omega arith)
nth-variable (suc n) v j vs (suc k) i e h = nth-variable n v (j + 1) vs k i (omega arith) (omega arith)

pub past-variables : (n v j : ℕ) (vs : List ℕ) (k : ℕ) → n ≤ k → at (following n v j vs) k ≡ 0
past-variables zero v j vs k h = refl
past-variables (suc n) v j vs zero h = absurd (omega arith)
past-variables (suc n) v j vs (suc k) h = past-variables n v (j + 1) vs k (omega arith)

-- ---- n words and no variable, where the first is j past the opcode
module _ (w : List ℕ) (pc : ℕ) where
  pub nth-word : (n j : ℕ) (vs : List ℕ) (k i : ℕ) → i ≡ j + k → k < n
      → at (values (plain n) w pc j vs) k ≡ low32 (signed16 (at w (pc + i)))
  nth-word zero j vs k i e h = absurd (omega arith)
  nth-word (suc n) j vs zero i e h = ap (λ (i : ℕ). low32 (signed16 (at w (pc + i)))) (omega arith)
  nth-word (suc n) j vs (suc k) i e h = nth-word n (j + 1) vs k i (omega arith) (omega arith)

  pub past_words : (n j : ℕ) (vs : List ℕ) (k : ℕ) → n ≤ k → at (values (plain n) w pc j vs) k ≡ 0
  past_words zero j vs k h = refl
  past_words (suc n) j vs zero h = absurd (omega arith)
  past_words (suc n) j vs (suc k) h = past_words n (j + 1) vs k (omega arith)

  pub no-variable : (n j : ℕ) → highest (plain n) w pc j ≡ 0
  no-variable zero j = refl
  no-variable (suc n) j = rw (no-variable n (j + 1))

  pub no-destination : (n j : ℕ) → destination (plain n) w pc j ≡ 0
  no-destination zero j = refl
  no-destination (suc n) j = no-destination n (j + 1)

pub all_words : (n : ℕ) → size_of (plain n) ≡ 1 + n
all_words zero = refl
all_words (suc n) = omega (arith, all_words n)

-- ---- a destination d, above 63 or not, which word i names, and v the variable that it is
module _ (i : WordIndex) (a d : ℕ) (v : VarNo) (is : v.0 ≡ d) (next : WordIndex) where
  pub above : Place.above v 1 ≡ true → Err (fault 23 i) ≡ onto_of i a (record { 0 = d }) next
  unfolding onto_of
  above h = rw (← is, h)

  pub below : {n : WordIndex} → n.0 ≡ next.0 → Place.above v 1 ≡ false
      → Ok (fetched (record { a = a; b = 0; c = 0; d = 0; e = 0; dest = v }) n) ≡ onto_of i a (record { 0 = d }) next
  unfolding onto_of
  below e h = rw (← is, h) (λ i. Ok (fetched (record { a = a; b = 0; c = 0; d = 0; e = 0; dest = v }) (record { 0 = e i })))

-- ---- a source
module _ (ps : Source) (w : List ℕ) (pc : ℕ) (vs : List ℕ) where
  pub short : length w < pc + size_of ps → Err (fault 22 (record { 0 = pc })) ≡ taken_of ps w pc vs
  unfolding taken_of
  short l = rw (lt-ltb _ _ l)

  module _ (l : pc + size_of ps ≤ length w) where
    -- the first misnamed piece stands k words past the opcode
    pub over : (k : ℕ) → 63 < highest ps w pc 1 → first_above ps w pc 1 ≡ k → Err (fault 23 (record { 0 = pc + k })) ≡ taken_of ps w pc vs
    unfolding taken_of
    over k h f = rw (le-ltb _ _ l, lt-ltb _ _ h, f)

    pub fine : {o : Operands} {next : ℕ} → highest ps w pc 1 ≤ 63 → o ≡ gathered (values ps w pc 1 vs) (destination ps w pc 1) → next ≡ pc + size_of ps
        → Ok (fetched o (record { 0 = next })) ≡ taken_of ps w pc vs
    unfolding taken_of
    fine h e n = rw (le-ltb _ _ l, le-ltb _ _ h, e, n)

    -- at most three values
    pub three : {a b c next : ℕ} → highest ps w pc 1 ≤ 63 → let v = values ps w pc 1 vs in (a ≡ at v 0) × (b ≡ at v 1) × (c ≡ at v 2)
        → gathered (at v 0 ∷ at v 1 ∷ at v 2 ∷ []) 0 ≡ gathered v (destination ps w pc 1) → next ≡ pc + size_of ps
        → Ok (fetched (record { a = a; b = b; c = c; d = 0; e = 0; dest = record { 0 = 0 } }) (record { 0 = next })) ≡ taken_of ps w pc vs
    three h q r n = fine h ((λ i. record { a = q.0 i; b = q.1 i; c = q.2 i; d = 0; e = 0; dest = record { 0 = 0 } }) ∙ r) n

    -- at most one value and a destination v, named k words past the opcode, while no other variable is above 63
    pub onto : {a : ℕ} (k v : ℕ) → v ≤ highest ps w pc 1 → highest ps w pc 1 ≤ max v 63 → (63 < v → first_above ps w pc 1 ≡ k)
        → let x = at (values ps w pc 1 vs) 0 in a ≡ x → gathered (x ∷ []) v ≡ gathered (values ps w pc 1 vs) (destination ps w pc 1)
        → onto_of (record { 0 = pc + k }) a (record { 0 = v }) (record { 0 = pc + size_of ps }) ≡ taken_of ps w pc vs
    unfolding onto_of Place.above
    onto {a} k v low high f q r = go (ltb 63 (v + 0)) refl
      where
        go : (b : Bool) → ltb 63 (v + 0) ≡ b
            → cond b (Err (fault 23 (record { 0 = pc + k }))) (Ok (fetched (gathered (a ∷ []) v) (record { 0 = pc + size_of ps }))) ≡ taken_of ps w pc vs
        go true p = let above : 63 < v = omega (arith, ltb-true 63 (v + 0) p) in over k (omega (arith, above, low)) (f above)
        go false p = fine (omega (arith, ltb-false 63 (v + 0) p)) (ap (λ (a : ℕ). gathered (a ∷ []) v) q ∙ r) refl

-- ---- the word v behind the opcode names the first of n variables: above 63, it is the first misnamed; else a destination behind it is
module _ (w : List ℕ) (pc : ℕ) {v : ℕ} (is : v ≡ at w (pc + 1)) where
  pub over_first : (n : ℕ) (ps : Source) (vs : List ℕ) → pc + size_of (from n ∷ ps) ≤ length w → 63 < v + (n - 1)
      → Err (fault 23 (record { 0 = pc + 1 })) ≡ taken_of (from n ∷ ps) w pc vs
  over_first n ps vs l h =
      let high : 63 < at w (pc + 1) + (n - 1) = rw is at h in
      over (from n ∷ ps) w pc vs l 1 (omega (arith, high)) (rw (lt-ltb _ _ high))

  pub next-over : v ≤ 63 → 63 < at w (pc + 2) → first_above (from 1 ∷ dest ∷ []) w pc 1 ≡ 2
  next-over low h = let first : at w (pc + 1) + 0 ≤ 63 = omega (arith, low, is) in rw (le-ltb _ _ first, lt-ltb _ _ h)

pub from-variable : (n : ℕ) (w : List ℕ) (pc : ℕ) (vs : List ℕ) (v : ℕ) {o : Operands} {next : ℕ} → v ≡ at w (pc + 1) → pc + 2 ≤ length w → v ≤ 63 → v + n ≤ 64
    → o ≡ gathered (following n v 0 vs) 0 → next ≡ pc + 2 → Ok (fetched o (record { 0 = next })) ≡ taken_of (from n ∷ []) w pc vs
from-variable n w pc vs v e l h k g q = fine (from n ∷ []) w pc vs l (omega arith) (g ∙ rw (e, append-nil)) q
