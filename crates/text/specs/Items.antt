-- The items of a line: what single blanks part. Two blanks in a row have an empty item between them.
use Rattle.std.specs.Prelude.{ℕ, suc, Bool, true, false, cond, ◌&&◌, List, [], ◌∷◌, ◌==◌}

-- the place of the first byte b; the length where there is none
unfoldable pub place_of : ℕ → List ℕ → ℕ
place_of b [] = 0
place_of b (x ∷ xs) = cond (x == b) 0 (suc (place_of b xs))

-- a byte before the first of some items
unfoldable pub onto : ℕ → List (List ℕ) → List (List ℕ)
onto x [] = (x ∷ []) ∷ []
onto x (i ∷ is) = (x ∷ i) ∷ is

-- one item more than there are blanks
unfoldable pub items : List ℕ → List (List ℕ)
items [] = [] ∷ []
items (x ∷ xs) = cond (x == 32) ([] ∷ items xs) (onto x (items xs))

unfoldable pub same : List ℕ → List ℕ → Bool
same [] [] = true
same [] (y ∷ ys) = false
same (x ∷ xs) [] = false
same (x ∷ xs) (y ∷ ys) = x == y && same xs ys

-- which of some items a name is; how many there are where it is none
unfoldable pub place_in : List ℕ → List (List ℕ) → ℕ
place_in name [] = 0
place_in name (i ∷ is) = cond (same name i) 0 (suc (place_in name is))
