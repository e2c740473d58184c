-- By the name's first byte, else by the whole name.
use Rattle.std.proofs.Common.{◌≡◌, ◌∙◌, arith, rules}
use Rattle.desk.specs.Fields.{field_of}
use Rattle.desk.specs.Sets.{set_named}
use Rattle.desk.proofs.Letters.{no_name, lettered, no-letter}
use Rattle.desk.proofs.set.set_field.Goals as goal

pub returns-in_default : goal.returns-in_default
returns-in_default c = no_name _ _ _ c.in_default.ensures.cases

pub returns-in-86 : goal.returns-in-86
returns-in-86 c = c.set_variable.ensures ∙ lettered _ _ _ c.in-Some.ensures.cases.0 86 c.in-86.is

pub returns-in-83 : goal.returns-in-83
returns-in-83 c = c.set_return.ensures ∙ lettered _ _ _ c.in-Some.ensures.cases.0 83 c.in-83.is

pub returns-in-66 : goal.returns-in-66
returns-in-66 c = c.set_repeat.ensures ∙ lettered _ _ _ c.in-Some.ensures.cases.0 66 c.in-66.is

pub returns-in-80 : goal.returns-in-80
returns-in-80 c = c.set_repeat-in-80.ensures ∙ lettered _ _ _ c.in-Some.ensures.cases.0 80 c.in-80.is

pub returns-in_err-ok_or-in_default-letter : goal.returns-in_err-ok_or-in_default-letter
returns-in_err-ok_or-in_default-letter c =
    let e : c.from_residual.result ≡ set_named c.args.desk (field_of c.args.name.now) c.args.value.now = search rules in
    e ∙ no-letter _ _ _ c.in-Some.ensures.cases.0 (λ e. omega arith) (λ e. omega arith) (λ e. omega arith) (λ e. omega arith)

pub returns-in_ok-ok_or-in_default-letter : goal.returns-in_ok-ok_or-in_default-letter
returns-in_ok-ok_or-in_default-letter c =
    let e : c.set_known.result ≡ set_named c.args.desk (field_of c.args.name.now) c.args.value.now = search rules in
    e ∙ no-letter _ _ _ c.in-Some.ensures.cases.0 (λ e. omega arith) (λ e. omega arith) (λ e. omega arith) (λ e. omega arith)
