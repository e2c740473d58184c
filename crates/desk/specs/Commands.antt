-- Which command a line has, and how many items the command asks.
use Rattle.std.specs.Prelude.{ℕ, cond, List, [], ◌∷◌, ltb, eqb, get_or, Option, None, Some, Result, Ok, Err}
use Rattle.text.specs.Items.{items, place_in}
use Rattle.text.specs.Bytes.{bytes}
use Rattle.desk.specs.declared.command.Command as Line
use Rattle.desk.specs.declared.command.Command.TheVariants.{Nothing, Heading, Fresh, Set, Bytes, Budget, List as Words, Run, Lit, Check, Unknown}
use Rattle.desk.specs.declared.fault.Fault.{Fault}
use Rattle.desk.specs.declared.fault.Fault.TheVariants.{Missing, Extra}

abbrev pub commands : List Line.Command
commands = Fresh ∷ Set ∷ Bytes ∷ Budget ∷ Words ∷ Run ∷ Lit ∷ Check ∷ []

unfoldable pub names : List (List ℕ)
names = items (bytes "fresh set bytes budget list run lit check")

unfoldable pub named : List ℕ → Line.Command
named name = get_or commands (place_in name names) Unknown

-- 35 is '#', and 61 '='
abbrev pub command_of : List ℕ → Line.Command
command_of [] = Nothing
command_of (b ∷ bs) = cond (eqb b 35) Nothing (cond (eqb b 61) Heading (named (get_or (items (b ∷ bs)) 0 [])))

-- how many items a command asks; none where it asks nothing
abbrev pub asked : Line.Command → Option ℕ
asked Nothing = None
asked Heading = None
asked Fresh = Some 7
asked Set = Some 3
asked Bytes = Some 2
asked Budget = Some 2
asked Words = None
asked Run = Some 1
asked Lit = Some 3
asked Check = Some 1
asked Unknown = None

abbrev pub has : ℕ → Option ℕ → Result Unit Fault
has items None = Ok tt
has items (Some asked) = cond (ltb items asked) (Err Missing) (cond (ltb asked items) (Err Extra) (Ok tt))
