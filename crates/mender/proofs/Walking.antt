-- The walk one word on: what the functions of the walk answer, and what the two loops over it go by.
use Prim.Native.Nat.{ℕ, suc, ◌+◌, ◌-◌, ◌<◌}
use mathlib.Core.Path.{◌≡◌, refl, sym, ap, ◌∙◌}
use mathlib.Core.Bool.{Bool, true, false, cond, true≢false}
use mathlib.Core.Logic.{◌⊎◌, inl, inr}
use mathlib.Core.List.{List, [], ◌∷◌}
use native.Mathlib.Numerals.{add-one}
use borrow.Author.Tests.{ne_eqb}
use lib.ListN.{length, get_or, drop, length-drop}
use lib.Seq.{drop-cons}
use Rattle.std.specs.Prelude.{Option, Some, None}
use Rattle.rules.specs.Meaning.{Meaning, Unknown, Known, meaning}
use Rattle.rules.specs.Table.{form_of}
use Rattle.rules.specs.Step.{unknown}
use Rattle.forms.specs.declared.layout.Layout.{Layout}
use Rattle.forms.specs.declared.layout.Layout.TheVariants.{Strange, Plain, Flow, Ends, Opens, Closes}
use Rattle.forms.specs.Layout.{layout_at, words, size_in}
use Rattle.forms.proofs.Layouts.{none, sized, strange}
use Rattle.mender.specs.declared.walk.Passed.{Passed}
use Rattle.mender.specs.Walk.{passed, begun, due, passing, mended_from}

-- ---- an opcode is due
module _ (x have : ℕ) where
  -- by what the word means
  pub means : {m : Meaning} → meaning (form_of x) ≡ m → due m x have ≡ passing (Some 0) x have
  unfolding passing
  means is = sym (ap (λ (m : Meaning). due m x have) is)

-- the word x begins an opcode of n words
pub record Begins (x n : ℕ) : Type 0 where
  pub known : unknown (meaning (form_of x)) ≡ false
  pub size : size_in (meaning (form_of x)) ≡ n

module _ (x have : ℕ) where
  pub an-opcode : {n : ℕ} → Begins x n → begun x n have ≡ passing (Some 0) x have
  an-opcode {n} b = by (meaning (form_of x)) refl b.known b.size
    where
      by : (m : Meaning) → meaning (form_of x) ≡ m → unknown m ≡ false → size_in m ≡ n → begun x n have ≡ passing (Some 0) x have
      by Unknown is u size = absurd (true≢false u)
      by (Known op s) is u size = ap (λ (k : ℕ). begun x k have) (sym size) ∙ means x have is

-- ---- by the layout of a word, as the code looks at it
module _ (x : ℕ) {l : Layout} (laid : l ≡ layout_at x) where
  pub no-opcode : (have : ℕ) → l ≡ Strange → passed 0x0000 (Some 0) ≡ passing (Some 0) x have
  no-opcode have h = by (meaning (form_of x)) refl (sym (strange x) ∙ ap none (sym laid ∙ h))
    where
      by : (m : Meaning) → meaning (form_of x) ≡ m → unknown m ≡ true → passed 0x0000 (Some 0) ≡ passing (Some 0) x have
      by Unknown is u = means x have is
      by (Known op s) is u = absurd (true≢false (sym u))

  begins : {k : Layout} → none k ≡ false → l ≡ k → Begins x (words k)
  begins some h =
      let there : layout_at x ≡ _ = sym laid ∙ h in
      record { known = sym (strange x) ∙ (ap none there ∙ some); size = sym (sized x) ∙ ap words there }

  pub so-many : {n : ℕ} → (l ≡ Plain n) ⊎ (l ≡ Flow n) → Begins x n
  so-many (inl h) = begins refl h
  so-many (inr h) = begins refl h

  pub two-words : l ≡ Opens → Begins x 2
  two-words = begins refl

  pub one-word : (l ≡ Ends) ⊎ (l ≡ Closes) → Begins x 1
  one-word (inl h) = begins refl h
  one-word (inr h) = begins refl h

-- ---- by what is left of an opcode
module _ (p : Option ℕ) (x have : ℕ) where
  pub operand : {n : ℕ} → p ≡ Some n → (n ≡ 0 → ⊥) → passed x (Some (n - 1)) ≡ passing p x have
  unfolding passing
  operand {n} h some =
      sym (ap (λ (q : Option ℕ). passing q x have) h ∙ ap (λ (b : Bool). cond b (due (meaning (form_of x)) x have) (passed x (Some (n - 1)))) (ne_eqb n 0 some))

  pub rest : p ≡ None → passed 0x0000 None ≡ passing p x have
  unfolding passing
  rest h = sym (ap (λ (q : Option ℕ). passing q x have) h)

-- ---- one word on
pub same-long : (p : Option ℕ) (xs : List ℕ) → length (mended_from p xs) ≡ length xs
unfolding mended_from
same-long p [] = refl
same-long p (x ∷ xs) = ap suc (same-long (passing p x (length (x ∷ xs))).left xs)

-- what becomes of word i, and of the words from there on
abbrev pub passed_at : List ℕ → ℕ → Option ℕ → Passed
passed_at w i p = passing p (get_or w i 0) (length w - i)

abbrev pub mended_at : List ℕ → ℕ → Option ℕ → List ℕ
mended_at w i p = mended_from p (drop i w)

module _ (w : List ℕ) (i : ℕ) (h : i < length w) where
  pub opened : drop i w ≡ get_or w i 0 ∷ drop (i + 1) w
  opened = drop-cons w i 0 h ∙ ap (λ (j : ℕ). get_or w i 0 ∷ drop j w) (sym (add-one i))

  there : length (get_or w i 0 ∷ drop (i + 1) w) ≡ length w - i
  there = sym (ap length opened) ∙ length-drop i w

  pub one_on : (p : Option ℕ) → mended_at w i p ≡ (passed_at w i p).word ∷ mended_at w (i + 1) (passed_at w i p).left
  unfolding mended_from
  one_on p =
      ap (mended_from p) opened
      ∙ ap (λ (n : ℕ). (passing p (get_or w i 0) n).word ∷ mended_from (passing p (get_or w i 0) n).left (drop (i + 1) w)) there
