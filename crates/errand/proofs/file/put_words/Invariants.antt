-- `errand::file::put_words` meets its contract: what is still to be put, put, leaves what is asked.
use Rattle.errand.proofs.Putting.{Puts}
use Rattle.errand.proofs.file.put_words.Given as goal

abbrev pub invariant-loop-i : goal.invariant-loop-i
invariant-loop-i l = Puts l.bytes l.initial.words l.words l.i
