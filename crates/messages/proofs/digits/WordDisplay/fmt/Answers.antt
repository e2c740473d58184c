-- A word is written as its four digits.
use Rattle.std.proofs.Output.{has_written_of_eq}
use Rattle.messages.proofs.Written.{as_they_are}
use Rattle.messages.proofs.digits.WordDisplay.fmt.Goals as goal

pub returns-clause-writes : goal.returns-clause-writes
returns-clause-writes g c p ok =
    has_written_of_eq _ _ _ _ _
    (as_they_are c.args.self.now.0 c.digits_of.ensures c.from-a.ensures c.from-b.ensures c.from-c.ensures c.from-d.ensures)
    (c.write.ensures.writes p ok)
