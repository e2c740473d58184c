-- `value_variables`: every opcode of the values takes one.
use mathlib.Core.Path.{◌≡◌, refl}
use Rattle.rules.specs.declared.opcode.ValueForm.{ValueForm}
use Rattle.rules.specs.declared.opcode.ValueForm.TheVariants as Values
use Rattle.rules.specs.Meaning.{value}
use Rattle.names.specs.Names.{variables_of}
use Rattle.names.proofs.value_variables.Goals as goal

one : (form : ValueForm) → 1 ≡ variables_of (value form)
one Values.Adiv = refl
one Values.Advv = refl
one Values.Andiv = refl
one Values.Andvv = refl
one Values.Cpiv = refl
one Values.Cpvv = refl
one Values.Dcrv = refl
one Values.Divv = refl
one Values.Incv = refl
one Values.Ldiv = refl
one Values.Ldivl = refl
one Values.Ldvv = refl
one Values.Mltv = refl
one Values.Modv = refl
one Values.Oriv = refl
one Values.Orvv = refl

pub returns : goal.returns
returns c = one c.args.form
