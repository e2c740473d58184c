-- `replace`: a word that stays is not reported, and another one is.
use Rattle.mender.proofs.Writing.{same-put, room-for-three, other-put}
use Rattle.mender.proofs.replace.Goals as goal

pub returns-then-was-is-clause-replaced : goal.returns-then-was-is-clause-replaced
returns-then-was-is-clause-replaced c =
    let a = c.args in
    same-put a.word.now a.written.now.report.now a.index.0 a.is a.written.now.to c.if-was-is.true

pub put-requires : goal.put-requires
put-requires c =
    let a = c.args in
    room-for-three a.word.now a.written.now.report.now a.index.0 a.is a.written.now.to c.if-was-is.false c.requires

pub returns-clause-replaced : goal.returns-clause-replaced
returns-clause-replaced c = other-put _ _ _ _ _ c.if-was-is.false c.put.ensures.to c.put.ensures.report
