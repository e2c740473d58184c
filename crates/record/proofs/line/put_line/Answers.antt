-- `record::line::put_line` meets its contract.
use Rattle.std.proofs.Common.{arith}
use Rattle.text.proofs.Joining.{same-long}
use Rattle.record.proofs.Lines.{length-line, line-put}
use Rattle.record.proofs.line.put_line.Goals as goal

pub put_whole-number-requires : goal.put_whole-number-requires
put_whole-number-requires c = omega (arith, length-line c.args.label.now c.args.n)

pub put_decimal-end-requires : goal.put_decimal-end-requires
put_decimal-end-requires c =
    let p = c.put_whole-number.ensures in
    omega (arith, length-line c.args.label.now c.args.n, p.place, same-long p)

pub put_whole-requires : goal.put_whole-requires
put_whole-requires c =
    let p = c.put_whole-number.ensures in
    let q = c.put_decimal-end.ensures in
    omega (arith, length-line c.args.label.now c.args.n, p.place, same-long p, q.place, same-long q)

pub returns : goal.returns
returns c = line-put _ c.put_whole-number.ensures c.put_decimal-end.ensures c.put_whole.ensures
