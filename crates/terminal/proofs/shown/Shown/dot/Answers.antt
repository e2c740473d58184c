-- `terminal::shown::Shown::dot` meets its contract.
use Rattle.std.proofs.Common.{◌*◌, ap, ap₂, ◌∙◌}
use Rattle.terminal.specs.declared.light.Light.{Light}
use Rattle.terminal.specs.Lights.{shade}
use Rattle.terminal.specs.Means.{mean_of}
use Rattle.terminal.specs.Lines.{dot_of}
use Rattle.terminal.proofs.shown.Shown.dot.Goals as goal

pub returns : goal.returns
unfolding dot_of
returns c =
    let s = c.args.self.now in
    c.shade.ensures
    ∙ ap (λ (l : Light). shade l (c.share-across.result.count * c.share-down.result.count)) c.light.ensures
    ∙ ap₂ (mean_of s.screen.now s.view.width) c.share-across.ensures.value c.share-down.ensures.value
