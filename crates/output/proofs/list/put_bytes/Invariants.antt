-- `output::list::put_bytes` meets its contract: the words so far are put.
use Rattle.std.proofs.Common.{take}
use Rattle.text.specs.Puts.{Puts}
use Rattle.output.specs.Bytes.{bytes_of}
use Rattle.output.proofs.list.put_bytes.Given as goal

abbrev pub invariant-loop-word : goal.invariant-loop-word
invariant-loop-word l = Puts (bytes_of (take l.word-index l.fitting)) l.initial.room 0 l.room l.at
