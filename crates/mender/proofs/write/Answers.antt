-- `write` meets its contract: list and report, with what is still to be stored in them, are what they will be.
use mathlib.Core.Path.{refl, ◌∙◌}
use native.Mathlib.Omega.{arith}
use Rattle.std.proofs.Common.{rules}
use Rattle.mender.proofs.Writing.{none_written, room-for-it, one_written, list_written, report-written}
use Rattle.mender.proofs.write.Goals as goal

pub loop-i-init : goal.loop-i-init
loop-i-init c = (refl, none_written _ _ c.requires.list_in_bounds)

pub replace-requires : goal.replace-requires
replace-requires c = room-for-it c.loop-i.invariant.1 (omega arith) c.pass-passed.ensures

pub loop-i-preserved : goal.loop-i-preserved
loop-i-preserved c = (
  c.replace.ensures.same_reference ∙ c.loop-i.invariant.0,
  one_written c.loop-i.invariant.1 (omega arith) c.pass-passed.ensures c.replace.ensures.replaced,
)

pub returns : goal.returns
returns c =
    let same = c.loop-i.invariant.0 in
    let e = report-written c.loop-i.invariant.1 (omega arith) in
    (list_written c.loop-i.invariant.1 (omega arith), search (rules, same, e))
