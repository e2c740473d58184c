-- The table has the names in the commands' order.
use Rattle.std.proofs.Common.{refl, ap, ◌∙◌}
use Rattle.std.specs.Prelude.{Option}
use Rattle.std.specs.Option.{unwrap_or}
use Rattle.text.specs.Items.{items, onto, place_in}
use Rattle.desk.specs.Commands.{commands, names, named}
use Rattle.desk.specs.declared.command.Command as Line
use Rattle.desk.specs.declared.command.Command.TheVariants.{Unknown}
use Rattle.desk.proofs.Naming.{beside-is, or-else}
use Rattle.desk.proofs.command.named.Goals as goal

pub returns : goal.returns
unfolding named names items onto
returns c =
    c.unwrap_or.ensures ∙ ap (λ (r : Option Line.Command). unwrap_or r Unknown) (beside-is c.args.name.now _ c.beside.ensures refl refl)
    ∙ or-else c.args.name.now commands (place_in c.args.name.now names) Unknown
