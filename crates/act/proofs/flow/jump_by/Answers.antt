-- `jump_by`: the condition is asked first, and the target, given by its offset, only where it is met.
use Rattle.std.proofs.Common.{of_calls, sym, ◌∙◌}
use Rattle.rules.specs.Opcodes.{relative}
use Rattle.lent.specs.Lent.{look}
use Rattle.lent.proofs.Acting.{passed-on, taken-is, told, lacking}
use Rattle.act.proofs.ConditionLaws.{none-allowed, some-met}
use Rattle.act.proofs.JumpLaws.{jump-24, jump-27, jump-at, jump-no}
use Rattle.act.proofs.flow.jump_by.Goals as goal

pub returns-in_err-f : goal.returns-in_err-f
returns-in_err-f c b vs st = passed-on _ _ c.in_err-f.was c.from_residual.result c.from_residual.ensures

pub returns-in_err-ok_or : goal.returns-in_err-ok_or
returns-in_err-ok_or c b vs st =
    let a = c.args in
    let r = a.registers.now in
    let f = c.in_ok-f.f in
    let none = c.in_err-ok_or.ensures in
    taken-is _ _ c.in_ok-f.was
    (told (look b r vs st) (lacking c.from_residual-in_err-ok_or.ensures none.value none.ok_part) c.refused.ensures
    (jump-24 b r vs st f.next f.operands.a (λ e. relative f.operands.b e a.count) (none-allowed f.operands.a r.first r.second (sym c.is_met-met.ensures ∙ none.ok_part))))

pub returns-in_err-registers : goal.returns-in_err-registers
returns-in_err-registers c b vs st =
    let a = c.args in
    let r = a.registers.now in
    let f = c.in_ok-f.f in
    let none = c.in_err-registers.ensures in
    taken-is _ _ c.in_ok-f.was
    (told (look b r vs st) (lacking c.from_residual-in_err-registers.ensures none.value none.ok_part) c.refused-then-branch.ensures
    (jump-27 b r vs st f.next f.operands.a (λ e. relative f.operands.b e a.count) (some-met f.operands.a r.first r.second (sym c.is_met-met.ensures ∙ c.in_ok-ok_or.ensures.ok_part)) c.if-branch.true
    (search of_calls)))

pub returns-in_ok-registers : goal.returns-in_ok-registers
returns-in_ok-registers c b vs st =
    let a = c.args in
    let r = a.registers.now in
    let f = c.in_ok-f.f in
    taken-is _ _ c.in_ok-f.was
    (jump-at b r vs st f.next f.operands.a (λ e. relative f.operands.b e a.count) (some-met f.operands.a r.first r.second (sym c.is_met-met.ensures ∙ c.in_ok-ok_or.ensures.ok_part)) c.if-branch.true
    (search of_calls))

pub returns-else-branch : goal.returns-else-branch
returns-else-branch c b vs st =
    let a = c.args in
    let r = a.registers.now in
    let f = c.in_ok-f.f in
    taken-is _ _ c.in_ok-f.was
    (jump-no b r vs st f.next f.operands.a (λ e. relative f.operands.b e a.count) (some-met f.operands.a r.first r.second (sym c.is_met-met.ensures ∙ c.in_ok-ok_or.ensures.ok_part)) c.if-branch.false)
