-- `value_name`: each arm's words are its variant's name.
use Rattle.names.specs.Names.{value_name}
use Rattle.names.proofs.Naming.{named}
use Rattle.names.proofs.value_name.Goals as goal

pub returns-in-Adiv : goal.returns-in-Adiv
returns-in-Adiv c = named value_name c.in-Adiv.is c.padded.ensures

pub returns-in-Advv : goal.returns-in-Advv
returns-in-Advv c = named value_name c.in-Advv.is c.padded-in-Advv.ensures

pub returns-in-Andiv : goal.returns-in-Andiv
returns-in-Andiv c = named value_name c.in-Andiv.is c.padded-in-Andiv.ensures

pub returns-in-Andvv : goal.returns-in-Andvv
returns-in-Andvv c = named value_name c.in-Andvv.is c.padded-in-Andvv.ensures

pub returns-in-Cpiv : goal.returns-in-Cpiv
returns-in-Cpiv c = named value_name c.in-Cpiv.is c.padded-in-Cpiv.ensures

pub returns-in-Cpvv : goal.returns-in-Cpvv
returns-in-Cpvv c = named value_name c.in-Cpvv.is c.padded-in-Cpvv.ensures

pub returns-in-Dcrv : goal.returns-in-Dcrv
returns-in-Dcrv c = named value_name c.in-Dcrv.is c.padded-in-Dcrv.ensures

pub returns-in-Divv : goal.returns-in-Divv
returns-in-Divv c = named value_name c.in-Divv.is c.padded-in-Divv.ensures

pub returns-in-Incv : goal.returns-in-Incv
returns-in-Incv c = named value_name c.in-Incv.is c.padded-in-Incv.ensures

pub returns-in-Ldiv : goal.returns-in-Ldiv
returns-in-Ldiv c = named value_name c.in-Ldiv.is c.padded-in-Ldiv.ensures

pub returns-in-Ldivl : goal.returns-in-Ldivl
returns-in-Ldivl c = named value_name c.in-Ldivl.is c.padded-in-Ldivl.ensures

pub returns-in-Ldvv : goal.returns-in-Ldvv
returns-in-Ldvv c = named value_name c.in-Ldvv.is c.padded-in-Ldvv.ensures

pub returns-in-Mltv : goal.returns-in-Mltv
returns-in-Mltv c = named value_name c.in-Mltv.is c.padded-in-Mltv.ensures

pub returns-in-Modv : goal.returns-in-Modv
returns-in-Modv c = named value_name c.in-Modv.is c.padded-in-Modv.ensures

pub returns-in-Oriv : goal.returns-in-Oriv
returns-in-Oriv c = named value_name c.in-Oriv.is c.padded-in-Oriv.ensures

pub returns-in-Orvv : goal.returns-in-Orvv
returns-in-Orvv c = named value_name c.in-Orvv.is c.padded-in-Orvv.ensures
