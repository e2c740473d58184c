-- A number as arguments and pages give it.
use Rattle.std.specs.Prelude.{ℕ, Bool, true, false, Result, Ok, Err, List}
use Rattle.text.specs.declared.number.Flaw.{Flaw}
use Rattle.text.specs.declared.number.Flaw.TheVariants.{Foreign, Large}
use Rattle.text.specs.Number.{decimal_of, at_most}

-- more than any number may be
abbrev pub beyond : ℕ
beyond = 1000001

abbrev pub or_beyond : Result ℕ Flaw → ℕ
or_beyond (Ok n) = n
or_beyond (Err f) = beyond

abbrev pub number_in : List ℕ → ℕ
number_in s = or_beyond (at_most beyond (decimal_of s))

abbrev pub large : Flaw → Bool
large Foreign = false
large Large = true

-- a number, however large
abbrev pub numeric : Result ℕ Flaw → Bool
numeric (Ok n) = true
numeric (Err f) = large f

abbrev pub is_number : List ℕ → Bool
is_number s = numeric (decimal_of s)
