-- What is still to be read, read, is what is asked.
use Rattle.std.proofs.Common.{◌≡◌, ◌-◌, replicate}
use Rattle.text.specs.Items.{items as items_of}
use Rattle.desk.specs.Sizes.{numbers_from}
use Rattle.desk.proofs.size.read_six.Given as goal

abbrev pub invariant-loop-k : goal.invariant-loop-k
invariant-loop-k l = numbers_from (6 - l.k) l.k (items_of l.line) l.number-items ≡ numbers_from 6 0 (items_of l.line) (replicate 6 0)
