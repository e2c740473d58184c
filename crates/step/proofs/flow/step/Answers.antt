-- `flow::step`: what is fetched is what the form's source names, and the op does what its rule says.
use Rattle.std.proofs.Common.{ap, length}
use Rattle.rules.specs.Meaning.{flow}
use Rattle.step.proofs.Groups.{as-taken}
use Rattle.step.proofs.flow.step.Goals as goal

pub returns-in-Noop : goal.returns-in-Noop
returns-in-Noop c b vs =
    as-taken (ap flow c.in-Noop.is) c.args.here.words.now c.args.here.pc.0 c.args.vars.now (c.plain.ensures c.args.vars.now) _ (c.noop.ensures (length c.args.here.words.now) b vs (c.args.stack.now))

pub returns-in-Eodl : goal.returns-in-Eodl
returns-in-Eodl c b vs =
    as-taken (ap flow c.in-Eodl.is) c.args.here.words.now c.args.here.pc.0 c.args.vars.now (c.plain-in-Eodl.ensures c.args.vars.now) _ (c.end.ensures (length c.args.here.words.now) b vs (c.args.stack.now))

pub returns-in-Cal : goal.returns-in-Cal
returns-in-Cal c b vs =
    as-taken (ap flow c.in-Cal.is) c.args.here.words.now c.args.here.pc.0 c.args.vars.now (c.long.ensures c.args.vars.now) _ (c.call.ensures b vs)

pub returns-in-Calv : goal.returns-in-Calv
returns-in-Calv c b vs =
    as-taken (ap flow c.in-Calv.is) c.args.here.words.now c.args.here.pc.0 c.args.vars.now c.variables.ensures _ (c.call-in-Calv.ensures b vs)

pub returns-in-Erpt : goal.returns-in-Erpt
returns-in-Erpt c b vs =
    as-taken (ap flow c.in-Erpt.is) c.args.here.words.now c.args.here.pc.0 c.args.vars.now (c.plain-in-Erpt.ensures c.args.vars.now) _ (c.end_repeat.ensures (length c.args.here.words.now) b vs)

pub returns-in-Rpt : goal.returns-in-Rpt
returns-in-Rpt c b vs =
    as-taken (ap flow c.in-Rpt.is) c.args.here.words.now c.args.here.pc.0 c.args.vars.now (c.plain-in-Rpt.ensures c.args.vars.now) _ (c.repeat.ensures (length c.args.here.words.now) b vs)

pub returns-in-Rtrn : goal.returns-in-Rtrn
returns-in-Rtrn c b vs =
    as-taken (ap flow c.in-Rtrn.is) c.args.here.words.now c.args.here.pc.0 c.args.vars.now (c.plain-in-Rtrn.ensures c.args.vars.now) _ (c.come_back.ensures (length c.args.here.words.now) b vs)

pub returns-in-Jumpa : goal.returns-in-Jumpa
returns-in-Jumpa c b vs =
    as-taken (ap flow c.in-Jumpa.is) c.args.here.words.now c.args.here.pc.0 c.args.vars.now (c.word_long.ensures c.args.vars.now) _ (c.jump.ensures b vs (c.args.stack.now))

pub returns-in-Jumpr : goal.returns-in-Jumpr
returns-in-Jumpr c b vs =
    as-taken (ap flow c.in-Jumpr.is) c.args.here.words.now c.args.here.pc.0 c.args.vars.now (c.plain-in-Jumpr.ensures c.args.vars.now) _ (c.jump_by.ensures b vs (c.args.stack.now))

pub returns-in-Calr : goal.returns-in-Calr
returns-in-Calr c b vs =
    as-taken (ap flow c.in-Calr.is) c.args.here.words.now c.args.here.pc.0 c.args.vars.now (c.plain-in-Calr.ensures c.args.vars.now) _ (c.call_by.ensures b vs)

pub returns-in-Calrv : goal.returns-in-Calrv
returns-in-Calrv c b vs =
    as-taken (ap flow c.in-Calrv.is) c.args.here.words.now c.args.here.pc.0 c.args.vars.now c.variables-in-Calrv.ensures _ (c.call_by-in-Calrv.ensures b vs)
