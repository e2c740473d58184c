-- Where a list of a page is looked for.
use Rattle.std.specs.Prelude.{ℕ, suc, Bool, false, cond, List, [], ◌∷◌, ◌++◌, take, ◌==◌}

-- the place behind the last '/', 47, of a path, of which the bytes from i on are still to come
unfoldable pub behind_slash : ℕ → ℕ → List ℕ → ℕ
behind_slash found i [] = found
behind_slash found i (b ∷ bs) = behind_slash (cond (b == 47) (suc i) found) (suc i) bs

-- a name that begins with '/'
unfoldable pub from_top : List ℕ → Bool
from_top [] = false
from_top (b ∷ bs) = b == 47

-- the folder of a page, as far as a name needs it
unfoldable pub folder_for : List ℕ → List ℕ → List ℕ
folder_for page name = cond (from_top name) [] (take (behind_slash 0 0 page) page)

unfoldable pub beside_of : List ℕ → List ℕ → List ℕ
beside_of page name = folder_for page name ++ name
