-- `count` meets its contract: what is counted, with what will differ from here on, is what differs.
use Prim.Native.Nat.{◌+◌}
use mathlib.Core.Path.{sym, ap, ◌∙◌}
use mathlib.Core.List.{List}
use native.Mathlib.Omega.{arith}
use lib.ListN.{length}
use Rattle.mender.specs.declared.report.Change.{Change}
use Rattle.mender.proofs.Reporting.{same_word, other_word}
use Rattle.mender.proofs.Counting.{none-counted, one-counted, all-counted}
use Rattle.mender.proofs.count.Goals as goal
use Rattle.mender.proofs.count.Goals.{then-passed-word, else-passed-word}

pub loop-i-init : goal.loop-i-init
loop-i-init c = none-counted _

pub loop-i-preserved : goal.loop-i-preserved
loop-i-preserved c =
    let i = c.loop-i in
    one-counted i.invariant c.loop-i-test.true c.pass-passed.ensures c.if-passed-word.n
    (elim c.if-passed-word.branch [
      | then-passed-word w ↦ w.n-is ∙ ap (λ (cs : List Change). i.n + length cs) (sym (other_word i.i (λ e. w.if-passed-word.true (sym e))))
      | else-passed-word w ↦ omega (arith, w.n-is, ap (λ (cs : List Change). length cs) (same_word i.i (sym w.if-passed-word.false)))
    ])

pub returns : goal.returns
returns c = all-counted c.loop-i.invariant c.loop-i-test.false
