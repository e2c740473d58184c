-- What is still to be read, read, is what is asked; the words read so far are within the room.
use Rattle.std.proofs.Common.{◌≡◌, ◌≤◌, length, drop}
use Rattle.text.specs.Items.{items as items_of}
use Rattle.desk.specs.Lists.{read_items}
use Rattle.desk.proofs.list.read_list.Given as goal

abbrev pub invariant-loop-k : goal.invariant-loop-k
invariant-loop-k l = record {
  within : l.words ≤ length l.room;
  ahead : read_items (drop l.k (items_of l.line)) l.room l.words ≡ read_items (drop 1 (items_of l.line)) l.initial.room 0;
}
