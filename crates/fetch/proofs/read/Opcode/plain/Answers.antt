-- `plain`: each value is the one of its place, and words name no variable.
use mathlib.Core.Path.{ap, ◌∙◌}
use native.Mathlib.Omega.{arith}
use Rattle.std.specs.Prelude.{Err}
use Rattle.fetch.proofs.Taking.{all_words, no-variable, no-destination, short, fine}
use Rattle.fetch.proofs.read.Opcode.plain.Goals as goal

pub returns-then-left-n : goal.returns-then-left-n
returns-then-left-n c vs = ap Err c.cut.ensures ∙ short _ _ _ vs (rw all_words (omega arith))

pub returns : goal.returns
returns c vs =
    fine _ _ _ _ (rw all_words (omega arith)) (rw no-variable (omega arith))
    (rw (
      no-destination,
      ← (c.operand.ensures vs),
      ← (c.operand-2.ensures vs),
      ← (c.operand-3.ensures vs),
      ← (c.operand-4.ensures vs),
      ← (c.operand-5.ensures vs),
    )) (rw all_words (omega arith))
