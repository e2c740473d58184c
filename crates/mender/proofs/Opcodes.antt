-- Document 02, T-14, the request's sentences, opcode by opcode.
use Prim.Native.Nat.{ℕ, suc, ◌-◌, ◌<◌}
use mathlib.Core.Path.{◌≡◌, refl, sym, ap, ◌∙◌}
use mathlib.Core.Bool.{Bool, cond}
use mathlib.Core.List.{List, [], ◌∷◌, ◌++◌}
use native.Mathlib.Omega.{arith}
use borrow.Author.Tests.{lt-ltb, le-ltb}
use lib.ListN.{length, replicate, length-append}
use Rattle.std.specs.Prelude.{Option, Some, None}
use Rattle.rules.specs.Op.{Op}
use Rattle.rules.specs.Meaning.{Unknown, Known, meaning}
use Rattle.rules.specs.Table.{form_of}
use Rattle.rules.specs.Operands.{Source, size_of}
use Rattle.mender.specs.declared.walk.Passed.{Passed}
use Rattle.mender.specs.Walk.{passed, passing, mended_from, mended}
use Rattle.mender.proofs.Walking.{means, operand}

-- one word on, by what becomes of it
on : (p : Option ℕ) (x : ℕ) (xs : List ℕ) {t : Passed} → t ≡ passing p x (length (x ∷ xs)) → mended_from p (x ∷ xs) ≡ t.word ∷ mended_from t.left xs
unfolding mended_from
on p x xs is = sym (ap (λ (t : Passed). t.word ∷ mended_from t.left xs) is)

-- so many operands stay
kept : (ops rest : List ℕ) → mended_from (Some (length ops)) (ops ++ rest) ≡ ops ++ mended rest
unfolding mended
kept [] rest = refl
kept (x ∷ ops) rest =
    on (Some (suc (length ops))) x (ops ++ rest) (operand (Some (suc (length ops))) x (length (x ∷ ops ++ rest)) refl (λ e. omega arith))
    ∙ (ap (λ (n : ℕ). x ∷ mended_from (Some n) (ops ++ rest)) (omega arith)
    ∙ ap (λ (l : List ℕ). x ∷ l) (kept ops rest))

-- the rest of a cut opcode becomes 0000
emptied : (xs : List ℕ) → mended_from None xs ≡ replicate (length xs) 0
unfolding mended_from passing
emptied [] = refl
emptied (x ∷ xs) = ap (λ (l : List ℕ). 0 ∷ l) (emptied xs)

-- a word that is no opcode where one is due becomes 0000, and the walk goes on at the next word
pub unknown-word : (x : ℕ) (xs : List ℕ) → meaning (form_of x) ≡ Unknown → mended (x ∷ xs) ≡ 0x0000 ∷ mended xs
unfolding mended
unknown-word x xs is = on (Some 0) x xs (means x (length (x ∷ xs)) is)

module _ (x : ℕ) {op : Op} {s : Source} (is : meaning (form_of x) ≡ Known op s) where
  -- an opcode cut by the end has its first word made 0001 and the rest 0000
  pub cut-opcode : (xs : List ℕ) → length (x ∷ xs) < size_of s → mended (x ∷ xs) ≡ 0x0001 ∷ replicate (length xs) 0x0000
  unfolding mended
  cut-opcode xs short =
      on (Some 0) x xs {t = passed 0x0001 None}
      (sym (ap (λ (b : Bool). cond b (passed 0x0001 None) (passed x (Some (size_of s - 1)))) (lt-ltb (length (x ∷ xs)) (size_of s) short)) ∙ means x (length (x ∷ xs)) is)
      ∙ ap (λ (l : List ℕ). 0x0001 ∷ l) (emptied xs)

  -- a whole opcode stays, and the walk goes on behind it
  pub whole-opcode : (ops rest : List ℕ) → suc (length ops) ≡ size_of s → mended (x ∷ ops ++ rest) ≡ x ∷ ops ++ mended rest
  unfolding mended
  whole-opcode ops rest size =
      let there = length (x ∷ ops ++ rest) in
      on (Some 0) x (ops ++ rest) {t = passed x (Some (length ops))}
      (ap (λ (n : ℕ). passed x (Some n)) (omega (arith, size))
      ∙ (sym (ap (λ (b : Bool). cond b (passed 0x0001 None) (passed x (Some (size_of s - 1)))) (le-ltb there (size_of s) (omega (arith, size, length-append ops rest))))
      ∙ means x there is))
      ∙ ap (λ (l : List ℕ). x ∷ l) (kept ops rest)
