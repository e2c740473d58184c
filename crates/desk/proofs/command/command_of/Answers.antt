-- By the first byte, else by the first item.
use Rattle.std.proofs.Common.{ap, ◌∙◌, arith}
use Rattle.desk.specs.Commands.{named}
use Rattle.desk.proofs.Letters.{empty-line, begun, command}
use Rattle.desk.proofs.command.command_of.Goals as goal

pub returns-in_default : goal.returns-in_default
returns-in_default c = empty-line _ c.in_default.ensures.value

pub returns-in-35 : goal.returns-in-35
returns-in-35 c = begun _ c.in-Some.ensures.value 35 c.in-35.is

pub returns-in-61 : goal.returns-in-61
returns-in-61 c = begun _ c.in-Some.ensures.value 61 c.in-61.is

pub returns-in_default-first : goal.returns-in_default-first
returns-in_default-first c = c.named.ensures ∙ ap named c.item.ensures ∙ command _ c.in-Some.ensures.value (λ e. omega arith) (λ e. omega arith)
