-- What stands beside a name in a table is at the name's place.
use Rattle.std.proofs.Common.{◌≡◌, ℕ, zero, suc, Bool, true, false, cond, ◌&&◌, eqb, List, [], ◌∷◌, get_or, map, Bor, refl, ap, ap₂, ◌∙◌}
use Rattle.std.specs.Prelude.{Option, None, Some, option_map, find}
use Rattle.std.specs.Option.{unwrap_or}
use Rattle.std.specs.Str.{bytes_eq}
use Rattle.text.specs.Items.{place_in, same}
use Rattle.desk.specs.Tables.{beside}

same-is : (s t : List ℕ) → bytes_eq s t ≡ same s t
unfolding same
same-is [] [] = refl
same-is [] (y ∷ t) = refl
same-is (x ∷ s) [] = refl
same-is (x ∷ s) (y ∷ t) = ap (λ (b : Bool). eqb x y && b) (same-is s t)

module _ {T : Type 0} (name : List ℕ) where
  at_place : (table : List (Bor (List ℕ) × T)) → beside table name ≡ get_or (map Some (map (λ e. e.1) table)) (place_in name (map (λ e. e.0.now) table)) None
  unfolding beside place_in
  at_place [] = refl
  at_place (e ∷ es) = go (bytes_eq name e.0.now) (same name e.0.now) (same-is name e.0.now) (at_place es)
    where
      go : (x y : Bool) → x ≡ y → beside es name ≡ get_or (map Some (map (λ e. e.1) es)) (place_in name (map (λ e. e.0.now) es)) None
          → option_map (λ e. e.1) (cond x (Some e) (find (λ e. bytes_eq name e.0.now) es)) ≡ get_or (Some e.1 ∷ map Some (map (λ e. e.1) es)) (cond y 0 (suc (place_in name (map (λ e. e.0.now) es)))) None
      go true true p h = refl
      go false false p h = h
      go true false p h = cc
      go false true p h = cc

  -- the names and what stands beside them, as lists
  pub beside-is : (table : List (Bor (List ℕ) × T)) {r : Option T} {names : List (List ℕ)} {whats : List T} → r ≡ beside table name
      → map (λ e. e.0.now) table ≡ names → map (λ e. e.1) table ≡ whats → r ≡ get_or (map Some whats) (place_in name names) None
  beside-is table h p q = h ∙ at_place table ∙ ap₂ (λ (ws : List T) (ns : List (List ℕ)). get_or (map Some ws) (place_in name ns) None) q p

  pub or-else : (whats : List T) (k : ℕ) (d : T) → unwrap_or (get_or (map Some whats) k None) d ≡ get_or whats k d
  or-else [] k d = refl
  or-else (w ∷ ws) zero d = refl
  or-else (w ∷ ws) (suc k) d = or-else ws k d
