-- `values::step`: what is fetched is what the form's source names, and the op does what its rule says.
use Rattle.std.proofs.Common.{ap, length}
use Rattle.rules.specs.Meaning.{value}
use Rattle.step.proofs.Groups.{as-taken}
use Rattle.step.proofs.values.step.Goals as goal

pub returns-in-Adiv : goal.returns-in-Adiv
returns-in-Adiv c b st =
    as-taken (ap value c.in-Adiv.is) c.args.here.words.now c.args.here.pc.0 c.args.vars.now (c.long_var.ensures.0 c.args.vars.now) _ (c.add.ensures (length c.args.here.words.now) b st)

pub returns-in-Advv : goal.returns-in-Advv
returns-in-Advv c b st =
    as-taken (ap value c.in-Advv.is) c.args.here.words.now c.args.here.pc.0 c.args.vars.now c.var_var.ensures.0 _ (c.add-in-Advv.ensures (length c.args.here.words.now) b st)

pub returns-in-Andiv : goal.returns-in-Andiv
returns-in-Andiv c b st =
    as-taken (ap value c.in-Andiv.is) c.args.here.words.now c.args.here.pc.0 c.args.vars.now (c.long_var-in-Andiv.ensures.0 c.args.vars.now) _ (c.and.ensures (length c.args.here.words.now) b st)

pub returns-in-Andvv : goal.returns-in-Andvv
returns-in-Andvv c b st =
    as-taken (ap value c.in-Andvv.is) c.args.here.words.now c.args.here.pc.0 c.args.vars.now c.var_var-in-Andvv.ensures.0 _ (c.and-in-Andvv.ensures (length c.args.here.words.now) b st)

pub returns-in-Cpiv : goal.returns-in-Cpiv
returns-in-Cpiv c b st =
    as-taken (ap value c.in-Cpiv.is) c.args.here.words.now c.args.here.pc.0 c.args.vars.now (c.long_var-in-Cpiv.ensures.0 c.args.vars.now) _ (c.compare.ensures (length c.args.here.words.now) b st)

pub returns-in-Cpvv : goal.returns-in-Cpvv
returns-in-Cpvv c b st =
    as-taken (ap value c.in-Cpvv.is) c.args.here.words.now c.args.here.pc.0 c.args.vars.now c.var_var-in-Cpvv.ensures.0 _ (c.compare-in-Cpvv.ensures (length c.args.here.words.now) b st)

pub returns-in-Dcrv : goal.returns-in-Dcrv
returns-in-Dcrv c b st =
    as-taken (ap value c.in-Dcrv.is) c.args.here.words.now c.args.here.pc.0 c.args.vars.now (c.var.ensures.0 c.args.vars.now) _ (c.decrement.ensures (length c.args.here.words.now) b st)

pub returns-in-Divv : goal.returns-in-Divv
returns-in-Divv c b st =
    as-taken (ap value c.in-Divv.is) c.args.here.words.now c.args.here.pc.0 c.args.vars.now c.var_var-in-Divv.ensures.0 _ (c.divide.ensures (length c.args.here.words.now) b st)

pub returns-in-Incv : goal.returns-in-Incv
returns-in-Incv c b st =
    as-taken (ap value c.in-Incv.is) c.args.here.words.now c.args.here.pc.0 c.args.vars.now (c.var-in-Incv.ensures.0 c.args.vars.now) _ (c.increment.ensures (length c.args.here.words.now) b st)

pub returns-in-Ldiv : goal.returns-in-Ldiv
returns-in-Ldiv c b st =
    as-taken (ap value c.in-Ldiv.is) c.args.here.words.now c.args.here.pc.0 c.args.vars.now (c.word_var.ensures.0 c.args.vars.now) _ (c.load.ensures (length c.args.here.words.now) b st)

pub returns-in-Ldivl : goal.returns-in-Ldivl
returns-in-Ldivl c b st =
    as-taken (ap value c.in-Ldivl.is) c.args.here.words.now c.args.here.pc.0 c.args.vars.now (c.long_var-in-Ldivl.ensures.0 c.args.vars.now) _ (c.load-in-Ldivl.ensures (length c.args.here.words.now) b st)

pub returns-in-Ldvv : goal.returns-in-Ldvv
returns-in-Ldvv c b st =
    as-taken (ap value c.in-Ldvv.is) c.args.here.words.now c.args.here.pc.0 c.args.vars.now c.var_var-in-Ldvv.ensures.0 _ (c.load-in-Ldvv.ensures (length c.args.here.words.now) b st)

pub returns-in-Mltv : goal.returns-in-Mltv
returns-in-Mltv c b st =
    as-taken (ap value c.in-Mltv.is) c.args.here.words.now c.args.here.pc.0 c.args.vars.now c.var_var-in-Mltv.ensures.0 _ (c.multiply.ensures (length c.args.here.words.now) b st)

pub returns-in-Modv : goal.returns-in-Modv
returns-in-Modv c b st =
    as-taken (ap value c.in-Modv.is) c.args.here.words.now c.args.here.pc.0 c.args.vars.now c.var_var-in-Modv.ensures.0 _ (c.remainder.ensures (length c.args.here.words.now) b st)

pub returns-in-Oriv : goal.returns-in-Oriv
returns-in-Oriv c b st =
    as-taken (ap value c.in-Oriv.is) c.args.here.words.now c.args.here.pc.0 c.args.vars.now (c.long_var-in-Oriv.ensures.0 c.args.vars.now) _ (c.or.ensures (length c.args.here.words.now) b st)

pub returns-in-Orvv : goal.returns-in-Orvv
returns-in-Orvv c b st =
    as-taken (ap value c.in-Orvv.is) c.args.here.words.now c.args.here.pc.0 c.args.vars.now c.var_var-in-Orvv.ensures.0 _ (c.or-in-Orvv.ensures (length c.args.here.words.now) b st)
