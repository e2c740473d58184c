-- `text::number::unsigned` meets its contract: what will be read from here is what is read.
use Rattle.std.proofs.Common.{◌≡◌, drop}
use Rattle.text.specs.Number.{reading, decimal_of}
use Rattle.text.proofs.number.unsigned.Given as goal

abbrev pub invariant-loop-b : goal.invariant-loop-b
invariant-loop-b l = reading l.n (drop l.b-index l.item) ≡ decimal_of l.item
