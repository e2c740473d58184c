-- Facts of every row of the table, each computed over the table once: sizes, what is no opcode, and which number EODL, RPT and ERPT have.
use Prim.Native.Nat.{ℕ, ◌≤◌}
use mathlib.Core.Path.{◌≡◌, refl, sym, ap, ◌∙◌}
use mathlib.Core.Bool.{Bool, true, false, cond, true≢false, beq}
use mathlib.Core.List.{List, [], ◌∷◌}
use lib.Dec.{leb, eqb}
use borrow.Author.Tests.{leb-true, eqb-true, eq-eqb}
use Rattle.rules.specs.declared.opcode.Form.{Form}
use Rattle.rules.specs.Meaning.{Meaning, Unknown, meaning}
use Rattle.rules.specs.Table.{Row, find, table, form_of}
use Rattle.rules.specs.Step.{unknown}
use Rattle.forms.specs.declared.layout.Layout.{Layout}
use Rattle.forms.specs.declared.layout.Layout.TheVariants.{Strange, Plain, Flow, Ends, Opens, Closes}
use Rattle.forms.specs.Layout.{layout_of, layout_at, words, size_in}

-- a test of number and meaning that each row passes, and what is unknown, is passed by what is found
abbrev pub each : (ℕ → Meaning → Bool) → List Row → Bool
each t [] = true
each t (r ∷ rs) = cond (t r.number (meaning r.form)) (each t rs) false

by_rows : (t : ℕ → Meaning → Bool) (rs : List Row) (n : ℕ) → each t rs ≡ true → t n Unknown ≡ true → t n (meaning (find rs n)) ≡ true
by_rows t [] n all none = none
by_rows t (r ∷ rs) n all none = go (t r.number (meaning r.form)) refl (eqb n r.number) refl all (λ h. by_rows t rs n h none)
  where
    go : (p : Bool) → t r.number (meaning r.form) ≡ p → (e : Bool) → eqb n r.number ≡ e → cond p (each t rs) false ≡ true
        → (each t rs ≡ true → t n (meaning (find rs n)) ≡ true) → t n (meaning (cond e r.form (find rs n))) ≡ true
    go true is true same h later = ap (λ (k : ℕ). t k (meaning r.form)) (eqb-true n r.number same) ∙ is
    go true is false same h later = later h
    go false is e same h later = absurd (true≢false (sym h))

pub of-table : (t : ℕ → Meaning → Bool) (n : ℕ) → each t table ≡ true → t n Unknown ≡ true → t n (meaning (form_of n)) ≡ true
unfolding form_of
of-table t n all none = by_rows t table n all none

-- ---- the layout of a word is that of its form
pub by_form : {f : Form} (n : ℕ) → f ≡ form_of n → layout_of (meaning f) ≡ layout_at n
unfolding layout_at
by_form n h = ap (λ (f : Form). layout_of (meaning f)) h

-- ---- sizes: an opcode's words are those of the rules, and there is at least one
pub sized : (n : ℕ) → words (layout_at n) ≡ size_in (meaning (form_of n))
unfolding layout_at
sized n = eqb-true _ _ (of-table (λ k m. eqb (words (layout_of m)) (size_in m)) n refl refl)

pub some_words : (n : ℕ) → 1 ≤ words (layout_at n)
unfolding layout_at
some_words n = leb-true _ _ (of-table (λ k m. leb 1 (words (layout_of m))) n refl refl)

-- ---- what is no opcode, and nothing else, has the layout of none
abbrev pub none : Layout → Bool
none Strange = true
none (Plain n) = false
none (Flow n) = false
none Ends = false
none Opens = false
none Closes = false

agree : (a b : Bool) → beq a b ≡ true → a ≡ b
agree true true h = refl
agree true false h = sym h
agree false true h = h
agree false false h = refl

pub strange : (n : ℕ) → none (layout_at n) ≡ unknown (meaning (form_of n))
unfolding layout_at
strange n = agree _ _ (of-table (λ k m. beq (none (layout_of m)) (unknown m)) n refl refl)

-- ---- the layouts that one number alone has
abbrev alone : Layout → ℕ
alone Strange = 0
alone (Plain n) = 0
alone (Flow n) = 0
alone Ends = 1
alone Opens = 2
alone Closes = 3

abbrev lone : ℕ → ℕ → ℕ → Meaning → Bool
lone c k n m = cond (eqb (alone (layout_of m)) c) (eqb n k) true

only : (c k n : ℕ) → lone c k n (meaning (form_of n)) ≡ true → alone (layout_at n) ≡ c → n ≡ k
unfolding layout_at
only c k n t h = eqb-true n k (sym (ap (λ (b : Bool). cond b (eqb n k) true) (eq-eqb _ _ h)) ∙ t)

pub ends_is : (n : ℕ) → layout_at n ≡ Ends → n ≡ 0x0001
ends_is n h = only 1 0x0001 n (of-table (lone 1 0x0001) n refl refl) (ap alone h)

pub opens-is : (n : ℕ) → layout_at n ≡ Opens → n ≡ 0x00B7
opens-is n h = only 2 0x00B7 n (of-table (lone 2 0x00B7) n refl refl) (ap alone h)

pub closes-is : (n : ℕ) → layout_at n ≡ Closes → n ≡ 0x004F
closes-is n h = only 3 0x004F n (of-table (lone 3 0x004F) n refl refl) (ap alone h)
