-- What is still to be read, read, is what is asked.
use Rattle.std.proofs.Common.{◌≡◌, ◌∙◌, arith, rules}
use Rattle.std.specs.Prelude.{Err}
use Rattle.text.specs.Items.{items as items_of}
use Rattle.desk.specs.Faults.{fault_of}
use Rattle.desk.proofs.Sizing.{all_read, read-on, read-wrong}
use Rattle.desk.proofs.size.read_six.Goals as goal

pub returns-in_err-number : goal.returns-in_err-number
returns-in_err-number c =
    let e : c.from_residual.result ≡ Err (fault_of c.in_err-number.field-0.0) = search rules in
    e ∙ read-wrong c.loop-k.k (items_of c.args.line.now) c.loop-k.number-items (omega arith) c.item.ensures c.unsigned.ensures c.in_err-number.was ∙ c.loop-k.invariant

pub loop-k-preserved : goal.loop-k-preserved
loop-k-preserved c = read-on c.loop-k.k (items_of c.args.line.now) c.loop-k.number-items (omega arith) c.item.ensures c.unsigned.ensures c.in_ok-number.was ∙ c.loop-k.invariant

pub returns : goal.returns
returns c = all_read c.loop-k.k (items_of c.args.line.now) c.loop-k.number-items (omega arith) ∙ c.loop-k.invariant
