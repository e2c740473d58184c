-- `flow_name`: each arm's words are its variant's name.
use Rattle.names.specs.Names.{flow_name}
use Rattle.names.proofs.Naming.{named}
use Rattle.names.proofs.flow_name.Goals as goal

pub returns-in-Noop : goal.returns-in-Noop
returns-in-Noop c = named flow_name c.in-Noop.is c.padded.ensures

pub returns-in-Eodl : goal.returns-in-Eodl
returns-in-Eodl c = named flow_name c.in-Eodl.is c.padded-in-Eodl.ensures

pub returns-in-Cal : goal.returns-in-Cal
returns-in-Cal c = named flow_name c.in-Cal.is c.padded-in-Cal.ensures

pub returns-in-Calv : goal.returns-in-Calv
returns-in-Calv c = named flow_name c.in-Calv.is c.padded-in-Calv.ensures

pub returns-in-Erpt : goal.returns-in-Erpt
returns-in-Erpt c = named flow_name c.in-Erpt.is c.padded-in-Erpt.ensures

pub returns-in-Rpt : goal.returns-in-Rpt
returns-in-Rpt c = named flow_name c.in-Rpt.is c.padded-in-Rpt.ensures

pub returns-in-Rtrn : goal.returns-in-Rtrn
returns-in-Rtrn c = named flow_name c.in-Rtrn.is c.padded-in-Rtrn.ensures

pub returns-in-Jumpa : goal.returns-in-Jumpa
returns-in-Jumpa c = named flow_name c.in-Jumpa.is c.padded-in-Jumpa.ensures

pub returns-in-Jumpr : goal.returns-in-Jumpr
returns-in-Jumpr c = named flow_name c.in-Jumpr.is c.padded-in-Jumpr.ensures

pub returns-in-Calr : goal.returns-in-Calr
returns-in-Calr c = named flow_name c.in-Calr.is c.padded-in-Calr.ensures

pub returns-in-Calrv : goal.returns-in-Calrv
returns-in-Calrv c = named flow_name c.in-Calrv.is c.padded-in-Calrv.ensures
