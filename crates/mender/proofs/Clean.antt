-- A clean list is whole opcodes, one behind the other: every mended list is one, and no mending changes one.
use Prim.Native.Nat.{ℕ, zero, suc, ◌-◌, ◌<◌, ◌≤◌}
use mathlib.Core.Path.{◌≡◌, refl, sym, ap, ◌∙◌, subst}
use mathlib.Core.Bool.{Bool, true, false}
use mathlib.Core.List.{List, [], ◌∷◌, ◌++◌}
use native.Mathlib.Omega.{arith}
use borrow.Author.Tests.{ltb-true, ltb-false}
use lib.Dec.{ltb}
use lib.ListN.{length, take, drop, replicate, length-take, length-drop, take-append-drop}
use Rattle.rules.specs.Op as Op
use Rattle.rules.specs.Meaning.{Meaning, Unknown, Known, meaning}
use Rattle.rules.specs.Table.{form_of}
use Rattle.rules.specs.Operands.{Source, size_of}
use Rattle.mender.specs.Walk.{mended_from, mended}
use Rattle.mender.proofs.Opcodes.{unknown-word, cut-opcode, whole-opcode}

pub data Clean : List ℕ → Type 0 where
  done : Clean []
  next : (x : ℕ) {op : Op.Op} {s : Source} → meaning (form_of x) ≡ Known op s → (operands rest : List ℕ) → suc (length operands) ≡ size_of s → Clean rest → Clean (x ∷ operands ++ rest)

-- ---- no mending changes one
pub unchanged : {w : List ℕ} → Clean w → mended w ≡ w
unfolding mended mended_from
unchanged done = refl
unchanged (next x is ops rest size c) = whole-opcode x is ops rest size ∙ ap (λ (l : List ℕ). x ∷ ops ++ l) (unchanged c)

-- ---- every mended list is one
noop : meaning (form_of 0x0000) ≡ Known Op.Noop []
unfolding form_of
noop = refl

eodl : meaning (form_of 0x0001) ≡ Known Op.End []
unfolding form_of
eodl = refl

noops : (n : ℕ) → Clean (replicate n 0x0000)
noops zero = done
noops (suc n) = next 0x0000 noop [] (replicate n 0x0000) refl (noops n)

-- where a known opcode is whole, by what comes later
whole-clean : (x : ℕ) (xs : List ℕ) {op : Op.Op} {s : Source} → meaning (form_of x) ≡ Known op s → size_of s ≤ length (x ∷ xs)
    → ((rest : List ℕ) → length rest ≤ length xs → Clean (mended rest)) → Clean (mended (x ∷ xs))
whole-clean x xs {op} {s} is fits later =
    let n = size_of s - 1 in
    let ops = take n xs in
    let rest = drop n xs in
    let size : suc (length ops) ≡ size_of s = simp length-take (omega (arith, fits)) in
    let split : mended (x ∷ xs) ≡ x ∷ ops ++ mended rest = ap (λ (l : List ℕ). mended (x ∷ l)) (sym (take-append-drop n xs)) ∙ whole-opcode x is ops rest size in
    subst Clean (sym split) (next x is ops (mended rest) size (later rest (simp length-drop (omega arith))))

one-opcode : (w : List ℕ) → ((rest : List ℕ) → length rest < length w → Clean (mended rest)) → Clean (mended w)
unfolding mended mended_from
one-opcode [] later = done
one-opcode (x ∷ xs) later = by (meaning (form_of x)) refl
  where
    known : {op : Op.Op} {s : Source} → meaning (form_of x) ≡ Known op s → (short : Bool) → ltb (length (x ∷ xs)) (size_of s) ≡ short → Clean (mended (x ∷ xs))
    known is true short = subst Clean (sym (cut-opcode x is xs (ltb-true _ _ short))) (next 0x0001 eodl [] (replicate (length xs) 0x0000) refl (noops (length xs)))
    known is false short = whole-clean x xs is (ltb-false _ _ short) (λ rest g. later rest (omega arith))

    by : (m : Meaning) → meaning (form_of x) ≡ m → Clean (mended (x ∷ xs))
    by Unknown is = subst Clean (sym (unknown-word x xs is)) (next 0x0000 noop [] (mended xs) refl (later xs (omega arith)))
    by (Known op s) is = known is (ltb (length (x ∷ xs)) (size_of s)) refl

up_to : (n : ℕ) (w : List ℕ) → length w ≤ n → Clean (mended w)
up_to zero w h = one-opcode w (λ rest g. absurd (omega arith))
up_to (suc n) w h = one-opcode w (λ rest g. up_to n rest (omega arith))

pub mended-clean : (w : List ℕ) → Clean (mended w)
mended-clean w = up_to (length w) w (omega arith)
