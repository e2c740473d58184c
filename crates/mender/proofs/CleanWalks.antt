-- A clean list is one that walks in the rules' own words, and one that walks is clean.
use Prim.Native.Nat.{ℕ, suc, ◌+◌, ◌-◌, ◌<◌, ◌≤◌}
use mathlib.Core.Path.{◌≡◌, refl, sym, ap, ◌∙◌, subst}
use mathlib.Core.Bool.{false, true≢false}
use mathlib.Core.List.{List, [], ◌∷◌, ◌++◌, append_assoc}
use native.Mathlib.Omega.{arith}
use borrow.Author.Tests.{le-ltb, ltb-false}
use lib.ListN.{length, take, drop, length-append, length-take, length-drop, take-append-drop, drop_of_length-le}
use lib.Seq.{get_or-append_seam, drop-drop}
use Rattle.rules.specs.Op.{Op}
use Rattle.rules.specs.Meaning.{Meaning, Unknown, Known, meaning}
use Rattle.rules.specs.Table.{form_of}
use Rattle.rules.specs.Operands.{Source, at, size_of}
use Rattle.rules.specs.Step.{unknown, cut}
use Rattle.forms.specs.Layout.{size_in}
use Rattle.mender.specs.Walks.{standing, Walks, end, opcode}
use Rattle.mender.proofs.Walking.{opened}
use Rattle.mender.proofs.Clean.{Clean, done, next}

-- ---- an opcode with its operands, behind other words
here : (before : List ℕ) (x : ℕ) {op : Op} {s : Source} → meaning (form_of x) ≡ Known op s → (ops rest : List ℕ) → suc (length ops) ≡ size_of s
    → Walks ((before ++ (x ∷ ops)) ++ rest) (length (before ++ (x ∷ ops))) → Walks (before ++ (x ∷ ops ++ rest)) (length before)
here before x {op} {s} is ops rest long later =
    let w = before ++ (x ∷ ops ++ rest) in
    let pc = length before in
    let stands : standing w pc ≡ Known op s = ap (λ (y : ℕ). meaning (form_of y)) (get_or-append_seam before x (ops ++ rest) 0) ∙ is in
    let fits : pc + size_of s ≤ length w = omega (arith, long, length-append before (x ∷ ops ++ rest), length-append ops rest) in
    let place : length (before ++ (x ∷ ops)) ≡ pc + size_of s = length-append before (x ∷ ops) ∙ ap (λ (n : ℕ). pc + n) long in
    let on : Walks w (pc + size_of s) = subst (Walks w) place (subst (λ (l : List ℕ). Walks l (length (before ++ (x ∷ ops)))) (append_assoc before (x ∷ ops) rest) later) in
    opcode (ap unknown stands) (ap (λ (m : Meaning). cut m w pc) stands ∙ le-ltb (length w) (pc + size_of s) fits) (subst (λ (m : Meaning). Walks w (pc + size_in m)) (sym stands) on)

behind : {rest : List ℕ} → Clean rest → (before : List ℕ) → Walks (before ++ rest) (length before)
behind done before = end {pc = length before} (omega (arith, length-append before []))
behind (next x is ops rest long c) before = here before x is ops rest long (behind c (before ++ (x ∷ ops)))

pub clean-walks : {w : List ℕ} → Clean w → Walks w 0
clean-walks c = behind c []

-- ---- an opcode that is neither unknown nor cut, with what is behind it
whole : (w : List ℕ) (pc : ℕ) (m : Meaning) → standing w pc ≡ m → unknown m ≡ false → cut m w pc ≡ false → Clean (drop (pc + size_in m) w) → Clean (drop pc w)
whole w pc Unknown is u c later = absurd (true≢false u)
whole w pc (Known op s) is u c later =
    let fits : pc + size_of s ≤ length w = ltb-false (length w) (pc + size_of s) c in
    let inside : pc < length w = omega (arith, fits) in
    let n = size_of s - 1 in
    let words = drop (pc + 1) w in
    let ops = take n words in
    let rest = drop (pc + size_of s) w in
    let long : suc (length ops) ≡ size_of s = simp (length-take, length-drop) (omega (arith, fits)) in
    let next_place : pc + 1 + n ≡ pc + size_of s = omega arith in
    let parts : words ≡ ops ++ rest = sym (take-append-drop n words) ∙ ap (λ (l : List ℕ). ops ++ l) (drop-drop n (pc + 1) w ∙ ap (λ (j : ℕ). drop j w) next_place) in
    subst Clean (sym (opened w pc inside ∙ ap (λ (l : List ℕ). at w pc ∷ l) parts)) (next (at w pc) is ops rest long later)

from : {w : List ℕ} {pc : ℕ} → Walks w pc → Clean (drop pc w)
from {w} (end h) = subst Clean (sym (drop_of_length-le w h)) done
from {w} {pc} (opcode u c later) = whole w pc (standing w pc) refl u c (from later)

pub walks-clean : {w : List ℕ} → Walks w 0 → Clean w
walks-clean h = from h
