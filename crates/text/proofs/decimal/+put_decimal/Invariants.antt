-- `text::decimal::put_decimal`, which calls itself: the number falls.
use Rattle.text.proofs.decimal.+put_decimal.Given as goal

abbrev pub decreases-put_decimal : goal.decreases-put_decimal
decreases-put_decimal l = l.n
