-- `run`: in their own colours the outcomes are the rules'.
use Rattle.std.proofs.Common.{◌∙◌}
use Rattle.rules.specs.Environment.{held}
use Rattle.rules.specs.Step.{step}
use Rattle.run.proofs.Inks.{same-answers, own-colour}
use Rattle.run.proofs.run.run.Goals as goal

pub returns : goal.returns
returns c =
    let a = c.args in
    c.run_in.ensures
    ∙ same-answers (λ i c. c) (λ w e. step w e) (λ w e. own-colour (step w e)) (record { list = a.list.now; budget = a.budget }) (held a.env) a.screen.now
