-- `name_of`: a group's name is the form's.
use Rattle.names.specs.Names.{name_of}
use Rattle.names.proofs.Naming.{named}
use Rattle.names.proofs.name_of.Goals as goal

pub returns-in-Unknown : goal.returns-in-Unknown
returns-in-Unknown c = named name_of c.in-Unknown.is c.padded.ensures

pub returns-in-Flow : goal.returns-in-Flow
returns-in-Flow c = named name_of c.in-Flow.is c.flow_name.ensures

pub returns-in-Value : goal.returns-in-Value
returns-in-Value c = named name_of c.in-Value.is c.value_name.ensures

pub returns-in-Pen : goal.returns-in-Pen
returns-in-Pen c = named name_of c.in-Pen.is c.pen_name.ensures

pub returns-in-Paint : goal.returns-in-Paint
returns-in-Paint c = named name_of c.in-Paint.is c.paint_name.ensures
