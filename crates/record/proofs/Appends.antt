-- What appending answers, by its tests.
use Prim.Native.Nat.{ℕ, ◌+◌, ◌^◌, ◌<◌, ◌≤◌}
use mathlib.Core.Path.{◌≡◌, refl, sym, ap, ap₂, ◌∙◌}
use native.Mathlib.Omega.{arith}
use Rattle.std.specs.Prelude.{Some, None, Result, Ok, Err}
use Rattle.std.specs.Result.{OkIff, result_ok}
use mathlib.Core.Bool.{Bool, true, false, cond, ◌||◌}
use mathlib.Core.List.{List}
use borrow.Author.Tests.{lt-ltb, le-ltb}
use lib.Dec.{ltb}
use lib.ListN.{length}
use lib.Seq.{sets}
use Rattle.text.specs.Number.{limit}
use Rattle.text.specs.Puts.{Puts}
use Rattle.record.specs.Block.{block_text}
use Rattle.record.specs.Append.{Left, left, appending}

-- ---- a number as it was asked for, where it is not too large
module _ {E : Type 0} {v : ℕ} (r : Result ℕ E) (c : OkIff r (v < 2 ^ 32) v) where
  pub taken : {n : ℕ} → Some n ≡ result_ok r → (n ≡ v) × (n ≤ limit)
  taken {n} e = go r c e
    where
      go : (r : Result ℕ E) → OkIff r (v < 2 ^ 32) v → Some n ≡ result_ok r → (n ≡ v) × (n ≤ limit)
      go (Ok x) c e = let same : n ≡ x = cc in (omega (arith, same, c.1), omega (arith, same, c.0, c.1))
      go (Err x) c e = absurd (cc)

  pub too_large : None ≡ result_ok r → limit < v
  too_large e = go r c e
    where
      go : (r : Result ℕ E) → OkIff r (v < 2 ^ 32) v → None ≡ result_ok r → limit < v
      go (Ok x) c e = absurd (cc)
      go (Err x) c e = omega (arith, c)

pub same-asked : (r : List ℕ) (used : ℕ) {b b' a a' s s' : ℕ} → b ≡ b' → a ≡ a' → s ≡ s' → appending r used b a s ≡ appending r used b' a' s'
same-asked r used {b' = b'} {a' = a'} {s = s} p q f = ap₂ (λ (b a : ℕ). appending r used b a s) p q ∙ ap (appending r used b' a') f

-- ---- what is answered
module _ (r : List ℕ) (used b a s : ℕ) where
  abbrev text : List ℕ
  text = block_text b a s

  abbrev by : Bool → Bool → Bool → Bool → Left
  by x y z w = cond ((x || (y || z)) || w) (left 32 used r) (left 0 (used + length text) (sets r used text))

  by_tests : (x y z w : Bool) → ltb limit b ≡ x → ltb limit a ≡ y → ltb limit s ≡ z → ltb (length r) (used + length text) ≡ w → by x y z w ≡ appending r used b a s
  unfolding appending
  by_tests x y z w p q f g =
      sym (ap₂ (λ (x y : Bool). by x y (ltb limit s) (ltb (length r) (used + length text))) p q ∙ ap₂ (by x y) f g)

  abbrev room : Bool
  room = ltb (length r) (used + length text)

  pub large-budget : limit < b → left 32 used r ≡ appending r used b a s
  large-budget h = by_tests true (ltb limit a) (ltb limit s) room (lt-ltb limit b h) refl refl refl

  pub large-answer : b ≤ limit → limit < a → left 32 used r ≡ appending r used b a s
  large-answer h g = by_tests false true (ltb limit s) room (le-ltb limit b h) (lt-ltb limit a g) refl refl

  pub large-steps : b ≤ limit → a ≤ limit → limit < s → left 32 used r ≡ appending r used b a s
  large-steps h g f = by_tests false false true room (le-ltb limit b h) (le-ltb limit a g) (lt-ltb limit s f) refl

  module _ (h : b ≤ limit) (g : a ≤ limit) (f : s ≤ limit) where
    by-room : (w : Bool) → room ≡ w → by false false false w ≡ appending r used b a s
    by-room w e = by_tests false false false w (le-ltb limit b h) (le-ltb limit a g) (le-ltb limit s f) e

    pub no_room : length r < used + length text → left 32 used r ≡ appending r used b a s
    no_room l = by-room true (lt-ltb (length r) (used + length text) l)

    pub appended : used + length text ≤ length r → {r' : List ℕ} {end : ℕ} → Puts text r used r' end → left 0 end r' ≡ appending r used b a s
    appended l p = (λ i. left 0 (p.place i) (p.stored i)) ∙ by-room false (le-ltb (length r) (used + length text) l)
