-- Document 02, T-14: what is reported of a list before and after.
use Rattle.std.specs.Prelude.{ℕ, suc, cond, List, [], ◌∷◌, ◌++◌, eqb}
use Rattle.mender.specs.declared.report.Change.{Change}

-- the word at index i was x and is y: a change where it differs
abbrev pub change_of : ℕ → ℕ → ℕ → List Change
change_of i x y = cond (eqb x y) [] (record { index = record { 0 = i }; was = x; is = y } ∷ [])

-- each index whose word differs afterwards, with old and new word, in rising order; the first words have the index i
unfoldable pub changes_from : ℕ → List ℕ → List ℕ → List Change
changes_from i [] ys = []
changes_from i (x ∷ xs) [] = []
changes_from i (x ∷ xs) (y ∷ ys) = change_of i x y ++ changes_from (suc i) xs ys

abbrev pub changes : List ℕ → List ℕ → List Change
changes w w' = changes_from 0 w w'

-- a change is three numbers of the report, one behind the other
abbrev pub three : Change → List ℕ
three c = c.index.0 ∷ c.was ∷ c.is ∷ []

unfoldable pub numbers : List Change → List ℕ
numbers [] = []
numbers (c ∷ cs) = three c ++ numbers cs
