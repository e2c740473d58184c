-- `tinted`: in the ink of the tints the outcomes are those of the tinted player.
use Rattle.std.proofs.Common.{◌∙◌}
use Rattle.player.specs.Tinted.{outcome_in}
use Rattle.rules.specs.Environment.{held}
use Rattle.rules.specs.Step.{step}
use Rattle.run.proofs.Inks.{same-answers}
use Rattle.tint.specs.Tint.{tint, tint_at}
use Rattle.tint.proofs.Hues.{in_tint}
use Rattle.tint.proofs.tinted.Goals as goal

pub returns : goal.returns
returns c =
    let a = c.args in
    c.run_in.ensures
    ∙ same-answers (λ i own. tint i) (λ w e. outcome_in (tint_at e) (step w e)) (λ w e. in_tint (tint_at e) (step w e))
    (record { list = a.list.now; budget = a.budget }) (held a.env) a.screen.now
