-- The table's rule, once: a number that is none of the table's has no form.
use Prim.Native.Nat.{ℕ}
use mathlib.Core.Path.{◌≡◌, refl, sym, ap}
use mathlib.Core.List.{List, [], ◌∷◌}
use borrow.Author.Tests.{ne_eqb}
use Rattle.rules.specs.declared.opcode.Form.TheVariants.{Unknown}
use Rattle.rules.specs.Table.{Row, find, table, form_of}

-- as a `match` leaves it for its last arm: none of the numbers, the first of them innermost
abbrev pub Rest : ℕ → Type 0 → List Row → Type 0
Rest n X [] = X
Rest n X (r ∷ rs) = Rest n (X × (n ≡ r.number → ⊥)) rs

none : (n : ℕ) (X : Type 0) (rs : List Row) → Rest n X rs → X × (find rs n ≡ Unknown)
none n X [] h = (h, refl)
none n X (r ∷ rs) h =
    let t : (X × (n ≡ r.number → ⊥)) × (find rs n ≡ Unknown) = none n (X × (n ≡ r.number → ⊥)) rs h in
    (t.0.0, rw (ne_eqb n (r.number) t.0.1) t.1)

pub unknown : (n : ℕ) → Rest n (Unit {0}) table → form_of n ≡ Unknown
unfolding form_of
unknown n h = (none n (Unit {0}) table h).1

-- one of the numbers has its row's form
pub at : {n k : ℕ} → n ≡ k → form_of k ≡ form_of n
at e = ap form_of (sym e)
