-- A number as decimal digits, the highest first; no zero leads but that of 0 itself.
use Rattle.std.specs.Prelude.{ℕ, zero, suc, ◌+◌, ◌/◌, ◌%◌, cond, List, [], ◌∷◌, ◌++◌, nat_lt}

-- the digits of n; the first argument bounds how many there are
unfoldable pub digits : ℕ → ℕ → List ℕ
digits zero n = (48 + n) ∷ []
digits (suc f) n = let more = digits f (n / 10) ++ ((48 + n % 10) ∷ []) in cond (nat_lt n 10) ((48 + n) ∷ []) more

-- no number has more digits than it counts, and one
unfoldable pub decimal : ℕ → List ℕ
decimal n = digits n n
