-- The table has the names in the fields' order.
use Rattle.std.proofs.Common.{refl}
use Rattle.text.specs.Items.{items, onto}
use Rattle.desk.specs.Fields.{names, field_of}
use Rattle.desk.proofs.Naming.{beside-is}
use Rattle.desk.proofs.field.field_of.Goals as goal

pub returns : goal.returns
unfolding field_of names items onto
returns c = beside-is c.args.name.now _ c.beside.ensures refl refl
