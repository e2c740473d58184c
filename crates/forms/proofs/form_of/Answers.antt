-- `form_of`: what is none of the numbers has no row in the table.
use mathlib.Core.Path.{sym}
use Rattle.rules.specs.Table.{form_of}
use Rattle.rules.proofs.TableLaws.{unknown}
use Rattle.forms.proofs.form_of.Goals as goal

pub returns-in_default : goal.returns-in_default
unfolding form_of
returns-in_default c = sym (unknown c.args.word (assumption c))
