-- What is reported, one word on: three numbers a change, and at most a change a word.
use Prim.Native.Nat.{ℕ, suc, ◌+◌, ◌*◌, ◌<◌, ◌≤◌}
use mathlib.Core.Path.{◌≡◌, refl, sym, ap, ◌∙◌}
use mathlib.Core.Bool.{Bool, true, false, cond}
use mathlib.Core.List.{List, [], ◌∷◌, ◌++◌}
use native.Mathlib.Numerals.{add-one}
use native.Mathlib.Omega.{arith}
use borrow.Author.Tests.{eq-eqb, ne_eqb}
use lib.Dec.{eqb}
use lib.ListN.{length, get_or, drop, drop_of_length-le}
use Rattle.std.specs.Prelude.{Option}
use Rattle.mender.specs.declared.report.Change.{Change}
use Rattle.mender.specs.Walk.{mended_from}
use Rattle.mender.specs.Report.{change_of, changes_from, three, numbers}
use Rattle.mender.proofs.Walking.{passed_at, mended_at, opened, one_on}

abbrev pub change : ℕ → ℕ → ℕ → Change
change i x y = record { index = record { 0 = i }; was = x; is = y }

-- ---- one word
module _ (i : ℕ) {x y : ℕ} where
  pub same_word : x ≡ y → change_of i x y ≡ []
  same_word h = ap (λ (b : Bool). cond b [] (change i x y ∷ [])) (eq-eqb x y h)

  pub other_word : (x ≡ y → ⊥) → change_of i x y ≡ change i x y ∷ []
  other_word h = ap (λ (b : Bool). cond b [] (change i x y ∷ [])) (ne_eqb x y h)

pub at_most_one : (i x y : ℕ) → length (change_of i x y) ≤ 1
at_most_one i x y = by (eqb x y)
  where
    by : (b : Bool) → length (cond b [] (change i x y ∷ [])) ≤ 1
    by true = omega arith
    by false = omega arith

-- ---- the words from i on
abbrev pub changes_at : List ℕ → ℕ → Option ℕ → List Change
changes_at w i p = changes_from i (drop i w) (mended_at w i p)

module _ (w : List ℕ) (i : ℕ) (p : Option ℕ) where
  pub changed-on : i < length w → changes_at w i p ≡ change_of i (get_or w i 0) (passed_at w i p).word ++ changes_at w (i + 1) (passed_at w i p).left
  unfolding changes_from
  changed-on h =
      ap (λ (l : List ℕ). changes_from i l (mended_at w i p)) (opened w i h)
      ∙ (ap (changes_from i (get_or w i 0 ∷ drop (i + 1) w)) (one_on w i h p)
      ∙ ap (λ (j : ℕ). change_of i (get_or w i 0) (passed_at w i p).word ++ changes_from j (drop (i + 1) w) (mended_at w (i + 1) (passed_at w i p).left)) (sym (add-one i)))

  pub none_left : length w ≤ i → changes_at w i p ≡ []
  unfolding changes_from
  none_left h = ap (λ (l : List ℕ). changes_from i l (mended_from p l)) (drop_of_length-le w h)

-- ---- all of them
pub few : (i : ℕ) (xs ys : List ℕ) → length (changes_from i xs ys) ≤ length xs
unfolding changes_from
few i [] ys = omega arith
few i (x ∷ xs) [] = omega arith
few i (x ∷ xs) (y ∷ ys) = by (eqb x y) (few (suc i) xs ys)
  where
    by : (b : Bool) → length (changes_from (suc i) xs ys) ≤ length xs → length (cond b [] (change i x y ∷ []) ++ changes_from (suc i) xs ys) ≤ suc (length xs)
    by true h = omega arith
    by false h = omega arith

-- a list beside itself
pub no_change : (i : ℕ) (w : List ℕ) → changes_from i w w ≡ []
unfolding changes_from
no_change i [] = refl
no_change i (x ∷ xs) = ap (λ (cs : List Change). cs ++ changes_from (suc i) xs xs) (same_word i {x = x} {y = x} refl) ∙ no_change (suc i) xs

-- ---- their numbers
pub three-each : (cs : List Change) → length (numbers cs) ≡ 3 * length cs
unfolding numbers
three-each [] = refl
three-each (c ∷ cs) = let h = three-each cs in omega arith

pub numbers-append : (cs ds : List Change) → numbers (cs ++ ds) ≡ numbers cs ++ numbers ds
unfolding numbers
numbers-append [] ds = refl
numbers-append (c ∷ cs) ds = ap (λ (l : List ℕ). three c ++ l) (numbers-append cs ds)
