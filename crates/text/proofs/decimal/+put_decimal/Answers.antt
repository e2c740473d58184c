-- `text::decimal::put_decimal` meets its contract: behind the digits of the tenth stands the last one.
use Rattle.std.proofs.Common.{arith}
use Rattle.text.proofs.Decimals.{one-wide, more-wide, less, put_one, put-more}
use Rattle.text.proofs.decimal.+put_decimal.Goals as goal

pub bounds-room-at : goal.bounds-room-at
bounds-room-at t c = omega (arith, one-wide c.args.n c.if-n-lt10.true)

pub returns-then-n-lt10 : goal.returns-then-n-lt10
returns-then-n-lt10 t c = put_one _ c.if-n-lt10.true

pub put_decimal-end-requires : goal.put_decimal-end-requires
put_decimal-end-requires t c =
    (omega (arith, less c.args.n c.if-n-lt10.false), omega (arith, more-wide c.args.n c.if-n-lt10.false))

pub bounds-room-end : goal.bounds-room-end
bounds-room-end t c =
    omega (arith, c.put_decimal-end.ensures.place, c.put_decimal-end.auto.room, more-wide c.args.n c.if-n-lt10.false)

pub overflow_add-result-2 : goal.overflow_add-result-2
overflow_add-result-2 t c = omega (arith, c.put_decimal-end.ensures.place, more-wide c.args.n c.if-n-lt10.false)

pub returns : goal.returns
returns t c = put-more _ c.if-n-lt10.false c.put_decimal-end.ensures
