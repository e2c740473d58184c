-- `text::join::put` meets its contract: what is still to be put, put, leaves what is asked.
use Rattle.std.proofs.Common.{◌≡◌, ◌+◌, drop}
use Rattle.std.proofs.lemmas.List.Edits.{sets}
use Rattle.text.proofs.join.put.Given as goal

abbrev pub invariant-loop-i : goal.invariant-loop-i
invariant-loop-i l = sets l.room (l.at + l.i) (drop l.i l.part) ≡ sets l.initial.room l.at l.part
