-- `text::decimal::width` meets its contract: the digits are those of the tenth, and one.
use Rattle.std.proofs.Common.{◌/◌, sym, arith}
use Rattle.text.proofs.Decimals.{one-wide, more-wide, few-digits, less}
use Rattle.text.proofs.decimal.+width.Goals as goal

pub returns-then-n-lt10 : goal.returns-then-n-lt10
returns-then-n-lt10 t c = sym (one-wide _ c.if-n-lt10.true)

pub overflow_add-result : goal.overflow_add-result
overflow_add-result t c = omega (arith, c.width.ensures, few-digits (c.args.n / 10), less c.args.n c.if-n-lt10.false)

pub returns : goal.returns
returns t c = omega (arith, c.width.ensures, more-wide c.args.n c.if-n-lt10.false)
