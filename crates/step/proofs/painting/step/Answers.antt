-- `painting::step`: what is fetched is what the form's source names, and the op does what its rule says.
use Rattle.std.proofs.Common.{ap, length}
use Rattle.rules.specs.Meaning.{paint}
use Rattle.step.proofs.Groups.{as-taken}
use Rattle.step.proofs.painting.step.Goals as goal

pub returns-in-Cir : goal.returns-in-Cir
returns-in-Cir c b vs st =
    as-taken (ap paint c.in-Cir.is) c.args.here.words.now c.args.here.pc.0 c.args.vars.now (c.plain.ensures c.args.vars.now) _ (c.circle.ensures b vs st)

pub returns-in-Cirv : goal.returns-in-Cirv
returns-in-Cirv c b vs st =
    as-taken (ap paint c.in-Cirv.is) c.args.here.words.now c.args.here.pc.0 c.args.vars.now c.variables.ensures _ (c.circle-in-Cirv.ensures b vs st)

pub returns-in-Cirs : goal.returns-in-Cirs
returns-in-Cirs c b vs st =
    as-taken (ap paint c.in-Cirs.is) c.args.here.words.now c.args.here.pc.0 c.args.vars.now (c.plain-in-Cirs.ensures c.args.vars.now) _ (c.circle-in-Cirs.ensures b vs st)

pub returns-in-Cirsv : goal.returns-in-Cirsv
returns-in-Cirsv c b vs st =
    as-taken (ap paint c.in-Cirsv.is) c.args.here.words.now c.args.here.pc.0 c.args.vars.now c.variables-in-Cirsv.ensures _ (c.circle-in-Cirsv.ensures b vs st)

pub returns-in-Line : goal.returns-in-Line
returns-in-Line c b vs st =
    as-taken (ap paint c.in-Line.is) c.args.here.words.now c.args.here.pc.0 c.args.vars.now (c.plain-in-Line.ensures c.args.vars.now) _ (c.line.ensures (length c.args.here.words.now) b vs st)

pub returns-in-Linev : goal.returns-in-Linev
returns-in-Linev c b vs st =
    as-taken (ap paint c.in-Linev.is) c.args.here.words.now c.args.here.pc.0 c.args.vars.now c.variables-in-Linev.ensures _ (c.line-in-Linev.ensures (length c.args.here.words.now) b vs st)

pub returns-in-Lineto : goal.returns-in-Lineto
returns-in-Lineto c b vs st =
    as-taken (ap paint c.in-Lineto.is) c.args.here.words.now c.args.here.pc.0 c.args.vars.now (c.plain-in-Lineto.ensures c.args.vars.now) _ (c.line_to.ensures (length c.args.here.words.now) b vs st)

pub returns-in-Linetov : goal.returns-in-Linetov
returns-in-Linetov c b vs st =
    as-taken (ap paint c.in-Linetov.is) c.args.here.words.now c.args.here.pc.0 c.args.vars.now c.variables-in-Linetov.ensures _ (c.line_to-in-Linetov.ensures (length c.args.here.words.now) b vs st)

pub returns-in-Linetor : goal.returns-in-Linetor
returns-in-Linetor c b vs st =
    as-taken (ap paint c.in-Linetor.is) c.args.here.words.now c.args.here.pc.0 c.args.vars.now (c.plain-in-Linetor.ensures c.args.vars.now) _ (c.line_by.ensures (length c.args.here.words.now) b vs st)

pub returns-in-Linetorv : goal.returns-in-Linetorv
returns-in-Linetorv c b vs st =
    as-taken (ap paint c.in-Linetorv.is) c.args.here.words.now c.args.here.pc.0 c.args.vars.now c.variables-in-Linetorv.ensures _ (c.line_by-in-Linetorv.ensures (length c.args.here.words.now) b vs st)

pub returns-in-Pixel : goal.returns-in-Pixel
returns-in-Pixel c b vs st =
    as-taken (ap paint c.in-Pixel.is) c.args.here.words.now c.args.here.pc.0 c.args.vars.now (c.plain-in-Pixel.ensures c.args.vars.now) _ (c.pixel.ensures (length c.args.here.words.now) b vs st)

pub returns-in-Pixelv : goal.returns-in-Pixelv
returns-in-Pixelv c b vs st =
    as-taken (ap paint c.in-Pixelv.is) c.args.here.words.now c.args.here.pc.0 c.args.vars.now c.variables-in-Pixelv.ensures _ (c.pixel-in-Pixelv.ensures (length c.args.here.words.now) b vs st)

pub returns-in-Pixelc : goal.returns-in-Pixelc
returns-in-Pixelc c b vs st =
    as-taken (ap paint c.in-Pixelc.is) c.args.here.words.now c.args.here.pc.0 c.args.vars.now (c.word2_long.ensures c.args.vars.now) _ (c.pixel_colour.ensures (length c.args.here.words.now) b vs st)

pub returns-in-Pixelcv : goal.returns-in-Pixelcv
returns-in-Pixelcv c b vs st =
    as-taken (ap paint c.in-Pixelcv.is) c.args.here.words.now c.args.here.pc.0 c.args.vars.now c.variables-in-Pixelcv.ensures _ (c.pixel_colour-in-Pixelcv.ensures (length c.args.here.words.now) b vs st)

pub returns-in-Clrwin : goal.returns-in-Clrwin
returns-in-Clrwin c b vs st =
    as-taken (ap paint c.in-Clrwin.is) c.args.here.words.now c.args.here.pc.0 c.args.vars.now (c.long_word.ensures c.args.vars.now) _ (c.clear.ensures (length c.args.here.words.now) b vs st)

pub returns-in-Clrwinv : goal.returns-in-Clrwinv
returns-in-Clrwinv c b vs st =
    as-taken (ap paint c.in-Clrwinv.is) c.args.here.words.now c.args.here.pc.0 c.args.vars.now c.variables-in-Clrwinv.ensures _ (c.clear-in-Clrwinv.ensures (length c.args.here.words.now) b vs st)
