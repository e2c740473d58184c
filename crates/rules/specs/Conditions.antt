-- Document 01, JUMPA and JUMPR: the seven conditions, by the numbers of 004's jump pages.
use Rattle.std.specs.Prelude.{ℕ, Bool, true, false, cond, not, List, [], ◌∷◌, eqb, ℤ}
use Rattle.std.specs.Int.Signed.{le_z, lt_z}
use Rattle.raster.specs.Shapes.{eq_z}

-- a number, and its test of the first value compared, Vd's, against the second
pub record Condition : Type 0 where
  pub number : ℕ
  pub test : ℤ → ℤ → Bool

abbrev pub when : ℕ → (ℤ → ℤ → Bool) → Condition
when n t = record { number = n; test = t }

abbrev pub conditions : List Condition
conditions =
    when 0x0 (λ a b. true) ∷  -- always
    when 0xA (λ a b. eq_z a b) ∷  -- equal
    when 0xB (λ a b. not (eq_z a b)) ∷  -- not equal
    when 0x4 (λ a b. lt_z a b) ∷  -- less
    when 0x6 (λ a b. le_z a b) ∷  -- less or equal
    when 0x7 (λ a b. lt_z b a) ∷  -- greater
    when 0x5 (λ a b. le_z b a) ∷  -- greater or equal
    []

abbrev pub listed : List Condition → ℕ → Bool
listed [] k = false
listed (c ∷ cs) k = cond (eqb k c.number) true (listed cs k)

abbrev pub tested : List Condition → ℕ → ℤ → ℤ → Bool
tested [] k a b = false
tested (c ∷ cs) k a b = cond (eqb k c.number) (c.test a b) (tested cs k a b)

-- k is one of the seven; any other number is 24
unfoldable pub allowed : ℕ → Bool
allowed k = listed conditions k

-- condition k is met by the two values compared
unfoldable pub met : ℕ → ℤ → ℤ → Bool
met k a b = tested conditions k a b
