-- The sequence reader calls the block reader at its own room, and that one the sequence reader with room for one block less. So the
-- measure is twice the room, and the sequence reader stands one above the block reader.
use Prim.Native.Nat.{◌*◌, ◌+◌, ◌-◌}
use lib.ListN.{length}
use Rattle.checker.proofs.Sequences.{Read}
use Rattle.checker.proofs.reading.+block_sequence.Given as goal

abbrev pub decreases-block : goal.decreases-block
decreases-block l = 2 * l.room + 1

abbrev pub decreases-sequence : goal.decreases-sequence
decreases-sequence l = 2 * l.room + 2

abbrev pub invariant-sequence-loop-place : goal.invariant-sequence-loop-place
invariant-sequence-loop-place l = Read l.list l.room l.fn.from l.place l.steps

abbrev pub decreases-sequence-loop-place : goal.decreases-sequence-loop-place
decreases-sequence-loop-place l = length l.list - l.place.0
