-- `text::decimal::width`, which calls itself: the number falls.
use Rattle.text.proofs.decimal.+width.Given as goal

abbrev pub decreases-width : goal.decreases-width
decreases-width l = l.n
