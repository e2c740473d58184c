-- What is wrong with a line.
use Rattle.std.specs.Prelude.{ℕ, Result, Ok, Err}
use Rattle.text.specs.declared.number.Flaw.{Flaw}
use Rattle.text.specs.declared.number.Flaw.TheVariants.{Foreign, Large}
use Rattle.desk.specs.declared.fault.Fault.{Fault}
use Rattle.desk.specs.declared.fault.Fault.TheVariants.{NoNumber, Range}

abbrev pub fault_of : Flaw → Fault
fault_of Foreign = NoNumber
fault_of Large = Range

-- what is done with a number that is read; else what is wrong with the line
abbrev pub and_then : {A : Type 0} → Result ℕ Flaw → (ℕ → Result A Fault) → Result A Fault
and_then (Ok n) further = further n
and_then (Err f) further = Err (fault_of f)
