-- The six numbers of a 'fresh' line, and the bytes of its screen.
use Rattle.std.specs.Prelude.{ℕ, zero, suc, ◌*◌, cond, List, [], ltb, get_or, set, replicate, Result, Ok}
use Rattle.text.specs.Items.{items}
use Rattle.text.specs.Number.{decimal_of}
use Rattle.desk.specs.declared.fault.Fault.{Fault}
use Rattle.desk.specs.Faults.{and_then}

-- so many numbers more, from number k on; number k is in the item behind it
unfoldable pub numbers_from : ℕ → ℕ → List (List ℕ) → List ℕ → Result (List ℕ) Fault
numbers_from zero k is ns = Ok ns
numbers_from (suc left) k is ns = and_then (decimal_of (get_or is (suc k) [])) (λ n. numbers_from left (suc k) is (set ns k n))

abbrev pub six_of : List ℕ → Result (List ℕ) Fault
six_of line = numbers_from 6 0 (items line) (replicate 6 0)

-- of a screen whose size is allowed, and 0 for any other
abbrev pub area : ℕ → ℕ → ℕ
area w h = cond (ltb 2048 w) 0 (cond (ltb 2048 h) 0 (w * h))
