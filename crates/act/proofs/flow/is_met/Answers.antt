-- `is_met`: the test of each number is the rule's, and there is no other condition.
use Rattle.act.proofs.ConditionLaws.{always, less, not-less, not-greater, greater, equal, not_equal, not-allowed}
use Rattle.act.proofs.flow.is_met.Goals as goal

pub returns-in-0 : goal.returns-in-0
returns-in-0 c = always _ _ c.in-0.is

pub returns-in-4 : goal.returns-in-4
returns-in-4 c = less _ _ c.less.ensures c.in-4.is

pub returns-in-5 : goal.returns-in-5
returns-in-5 c = not-less _ _ c.less-in-5.ensures c.in-5.is

pub returns-in-6 : goal.returns-in-6
returns-in-6 c = not-greater _ _ c.less-in-6.ensures c.in-6.is

pub returns-in-7 : goal.returns-in-7
returns-in-7 c = greater _ _ c.less-in-7.ensures c.in-7.is

pub returns-in-10 : goal.returns-in-10
returns-in-10 c = equal _ _ c.equal.ensures c.ranges.first.fits c.ranges.second.fits c.in-10.is

pub returns-in-11 : goal.returns-in-11
returns-in-11 c = not_equal _ _ c.equal-in-11.ensures c.ranges.first.fits c.ranges.second.fits c.in-11.is

pub returns-in_default : goal.returns-in_default
returns-in_default c = not-allowed c.args.k c.args.first c.args.second (assumption c)
