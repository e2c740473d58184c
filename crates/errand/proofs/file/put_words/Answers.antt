-- `errand::file::put_words` meets its contract: what is still to be put, put, leaves what is asked.
use Rattle.std.proofs.Common.{arith}
use Rattle.errand.proofs.Putting.{halved, all_put, one_word}
use Rattle.errand.proofs.file.put_words.Goals as goal

pub loop-i-preserved : goal.loop-i-preserved
loop-i-preserved c = one_word c.loop-i.invariant (omega (arith, c.min-count.ensures)) (omega (arith, c.min-count.ensures)) c.word.ensures

pub returns-clause-value : goal.returns-clause-value
returns-clause-value c = omega (arith, c.min-count.ensures, halved c.args.bytes.now)

pub returns-clause-words_after : goal.returns-clause-words_after
returns-clause-words_after c = all_put c.loop-i.invariant (omega (arith, c.min-count.ensures, c.loop-i.invariant.long))
