-- How the lists of a page ended, and so the program.
use Rattle.std.specs.Prelude.{ℕ, Bool, true, false, cond, nat_lt}
use Rattle.play.specs.declared.end.Ends.{Ends}
use Rattle.play.specs.declared.end.End.{End}
use Rattle.play.specs.declared.end.End.TheVariants.{Done, Nothing, Wrong, Stopped}

abbrev pub ends : Bool → Bool → Ends
ends shown stopped = record { shown = shown; stopped = stopped }

abbrev pub none_yet : Ends
none_yet = ends false false

-- 0 and 1: the list has ended or still runs
abbrev pub with_number : Ends → ℕ → Ends
with_number e n = cond (nat_lt n 2) (ends true e.stopped) (ends e.shown true)

abbrev pub end_of : Bool → Bool → End
end_of false stopped = Nothing
end_of true false = Done
end_of true true = Stopped

-- the digit that is told of it
abbrev pub status_of : End → ℕ
status_of Done = 0
status_of Nothing = 1
status_of Wrong = 2
status_of Stopped = 3
