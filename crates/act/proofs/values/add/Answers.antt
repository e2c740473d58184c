-- `add`: what is made of Vd's value and the operand is the rule's.
use Rattle.std.proofs.Common.{rules}
use Rattle.numbers.specs.Number.{sum32}
use Rattle.lent.proofs.Acting.{passed-on, taken-is}
use Rattle.act.proofs.values.add.Goals as goal

pub returns-in_err-f : goal.returns-in_err-f
returns-in_err-f c n b st = passed-on _ _ c.in_err-f.was c.from_residual.result c.from_residual.ensures

pub returns : goal.returns
returns c n b st = taken-is _ _ c.in_ok-f.was (c.calculate.ensures (λ x a. sum32 x a) (λ x v p. search rules) b st)
