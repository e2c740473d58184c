-- What stands first on a line and in a field's name decides.
use Rattle.std.proofs.Common.{◌≡◌, ℕ, Bool, cond, List, [], ◌∷◌, length, drop, get_or, eqb, refl, sym, ap, ap₂, ◌∙◌, arith, ne_eqb}
use Rattle.std.specs.Prelude.{None, Some, Err, slice_get}
use Rattle.text.specs.Items.{items}
use Rattle.desk.specs.declared.desk.Desk.{Desk}
use Rattle.desk.specs.declared.command.Command.TheVariants.{Nothing, Heading}
use Rattle.desk.specs.declared.fault.Fault.TheVariants.{NoField}
use Rattle.desk.specs.declared.field.Part.TheVariants.{Start, Left}
use Rattle.desk.specs.Commands.{named, command_of}
use Rattle.desk.specs.Fields.{field_of}
use Rattle.desk.specs.Sets.{set_variable, set_return, set_repeat, set_named, set_field}

-- ---- a line
pub empty-line : (s : List ℕ) → None ≡ slice_get s 0 → Nothing ≡ command_of s
empty-line [] h = refl
empty-line (b ∷ bs) h = cc

module _ (s : List ℕ) {b : ℕ} (h : Some b ≡ slice_get s 0) where
  first-of : s ≡ b ∷ drop 1 s
  first-of = go s h
    where
      go : (s : List ℕ) → Some b ≡ slice_get s 0 → s ≡ b ∷ drop 1 s
      go [] h = cc
      go (x ∷ xs) h = let e : b ≡ x = cc in ap (λ (y : ℕ). y ∷ xs) (sym e)

  pub begun : (k : ℕ) → b ≡ k → command_of (k ∷ drop 1 s) ≡ command_of s
  begun k e = ap command_of (sym (first-of ∙ ap (λ (x : ℕ). x ∷ drop 1 s) e))

  pub command : (b ≡ 35 → ⊥) → (b ≡ 61 → ⊥) → named (get_or (items s) 0 []) ≡ command_of s
  command c d =
      ap (λ (x : List ℕ). named (get_or (items x) 0 [])) first-of
      ∙ sym (ap command_of first-of ∙ ap₂ (λ (x y : Bool). cond x Nothing (cond y Heading (named (get_or (items (b ∷ drop 1 s)) 0 [])))) (ne_eqb b 35 c) (ne_eqb b 61 d))

-- ---- a name
module _ (d : Desk) (s v : List ℕ) where
  pub no_name : length s ≡ 0 → Err NoField ≡ set_field d s v
  no_name h = go s h
    where
      go : (s : List ℕ) → length s ≡ 0 → Err NoField ≡ set_field d s v
      go [] h = refl
      go (b ∷ bs) h = absurd (omega arith)

  module _ {b : ℕ} {bs : List ℕ} (h : s ≡ b ∷ bs) where
    pub lettered : (k : ℕ) → b ≡ k → set_field d (k ∷ bs) v ≡ set_field d s v
    lettered k e = ap (λ (x : List ℕ). set_field d x v) (sym (h ∙ ap (λ (x : ℕ). x ∷ bs) e))

    pub no-letter : (b ≡ 86 → ⊥) → (b ≡ 83 → ⊥) → (b ≡ 66 → ⊥) → (b ≡ 80 → ⊥) → set_named d (field_of s) v ≡ set_field d s v
    no-letter n m k l =
        ap (λ (x : List ℕ). set_named d (field_of x) v) h
        ∙ sym
        (ap (λ (x : List ℕ). set_field d x v) h
        ∙ ap₂ (λ (x y : Bool). cond x (set_variable d bs v) (cond y (set_return d bs v) (cond (eqb b 66) (set_repeat d Start bs v) (cond (eqb b 80) (set_repeat d Left bs v) (set_named d (field_of (b ∷ bs)) v))))) (ne_eqb b 86 n) (ne_eqb b 83 m)
        ∙ ap₂ (λ (x y : Bool). cond x (set_repeat d Start bs v) (cond y (set_repeat d Left bs v) (set_named d (field_of (b ∷ bs)) v))) (ne_eqb b 66 k) (ne_eqb b 80 l))
