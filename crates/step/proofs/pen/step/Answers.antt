-- `pen::step`: what is fetched is what the form's source names, and the op does what its rule says.
use Rattle.std.proofs.Common.{ap, length}
use Rattle.rules.specs.Meaning.{pen}
use Rattle.step.proofs.Groups.{as-taken}
use Rattle.step.proofs.pen.step.Goals as goal

pub returns-in-Clipmode : goal.returns-in-Clipmode
returns-in-Clipmode c b vs st =
    as-taken (ap pen c.in-Clipmode.is) c.args.here.words.now c.args.here.pc.0 c.args.vars.now (c.plain.ensures c.args.vars.now) _ (c.clip_mode.ensures (length c.args.here.words.now) b vs st)

pub returns-in-Clipmodev : goal.returns-in-Clipmodev
returns-in-Clipmodev c b vs st =
    as-taken (ap pen c.in-Clipmodev.is) c.args.here.words.now c.args.here.pc.0 c.args.vars.now c.variables.ensures _ (c.clip_mode-in-Clipmodev.ensures (length c.args.here.words.now) b vs st)

pub returns-in-Clipwin : goal.returns-in-Clipwin
returns-in-Clipwin c b vs st =
    as-taken (ap pen c.in-Clipwin.is) c.args.here.words.now c.args.here.pc.0 c.args.vars.now (c.plain-in-Clipwin.ensures c.args.vars.now) _ (c.clip_window.ensures (length c.args.here.words.now) b vs st)

pub returns-in-Clipwinv : goal.returns-in-Clipwinv
returns-in-Clipwinv c b vs st =
    as-taken (ap pen c.in-Clipwinv.is) c.args.here.words.now c.args.here.pc.0 c.args.vars.now c.variables-in-Clipwinv.ensures _ (c.clip_window-in-Clipwinv.ensures (length c.args.here.words.now) b vs st)

pub returns-in-Colorf : goal.returns-in-Colorf
returns-in-Colorf c b vs st =
    as-taken (ap pen c.in-Colorf.is) c.args.here.words.now c.args.here.pc.0 c.args.vars.now (c.long.ensures c.args.vars.now) _ (c.colour.ensures (length c.args.here.words.now) b vs st)

pub returns-in-Colorfv : goal.returns-in-Colorfv
returns-in-Colorfv c b vs st =
    as-taken (ap pen c.in-Colorfv.is) c.args.here.words.now c.args.here.pc.0 c.args.vars.now c.variables-in-Colorfv.ensures _ (c.colour-in-Colorfv.ensures (length c.args.here.words.now) b vs st)

pub returns-in-Linepatn : goal.returns-in-Linepatn
returns-in-Linepatn c b vs st =
    as-taken (ap pen c.in-Linepatn.is) c.args.here.words.now c.args.here.pc.0 c.args.vars.now (c.long-in-Linepatn.ensures c.args.vars.now) _ (c.pattern.ensures (length c.args.here.words.now) b vs st)

pub returns-in-Linepatnv : goal.returns-in-Linepatnv
returns-in-Linepatnv c b vs st =
    as-taken (ap pen c.in-Linepatnv.is) c.args.here.words.now c.args.here.pc.0 c.args.vars.now c.variables-in-Linepatnv.ensures _ (c.pattern-in-Linepatnv.ensures (length c.args.here.words.now) b vs st)

pub returns-in-Moveto : goal.returns-in-Moveto
returns-in-Moveto c b vs st =
    as-taken (ap pen c.in-Moveto.is) c.args.here.words.now c.args.here.pc.0 c.args.vars.now (c.plain-in-Moveto.ensures c.args.vars.now) _ (c.move_to.ensures (length c.args.here.words.now) b vs st)

pub returns-in-Movetov : goal.returns-in-Movetov
returns-in-Movetov c b vs st =
    as-taken (ap pen c.in-Movetov.is) c.args.here.words.now c.args.here.pc.0 c.args.vars.now c.variables-in-Movetov.ensures _ (c.move_to-in-Movetov.ensures (length c.args.here.words.now) b vs st)

pub returns-in-Movetor : goal.returns-in-Movetor
returns-in-Movetor c b vs st =
    as-taken (ap pen c.in-Movetor.is) c.args.here.words.now c.args.here.pc.0 c.args.vars.now (c.plain-in-Movetor.ensures c.args.vars.now) _ (c.move_by.ensures (length c.args.here.words.now) b vs st)

pub returns-in-Movetorv : goal.returns-in-Movetorv
returns-in-Movetorv c b vs st =
    as-taken (ap pen c.in-Movetorv.is) c.args.here.words.now c.args.here.pc.0 c.args.vars.now c.variables-in-Movetorv.ensures _ (c.move_by-in-Movetorv.ensures (length c.args.here.words.now) b vs st)

pub returns-in-Xyorg : goal.returns-in-Xyorg
returns-in-Xyorg c b vs st =
    as-taken (ap pen c.in-Xyorg.is) c.args.here.words.now c.args.here.pc.0 c.args.vars.now (c.plain-in-Xyorg.ensures c.args.vars.now) _ (c.origin.ensures (length c.args.here.words.now) b vs st)

pub returns-in-Xyorgv : goal.returns-in-Xyorgv
returns-in-Xyorgv c b vs st =
    as-taken (ap pen c.in-Xyorgv.is) c.args.here.words.now c.args.here.pc.0 c.args.vars.now c.variables-in-Xyorgv.ensures _ (c.origin-in-Xyorgv.ensures (length c.args.here.words.now) b vs st)
