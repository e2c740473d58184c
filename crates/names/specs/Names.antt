-- An opcode's name, as the AFGIS manual has it, and how many variables an operand of it names or implies at most.
use Rattle.std.specs.Prelude.{ℕ, max, [], ◌∷◌}
use Prim.Native.String.{String}
use Rattle.rules.specs.declared.opcode.FlowForm.{FlowForm}
use Rattle.rules.specs.declared.opcode.FlowForm.TheVariants as Flows
use Rattle.rules.specs.declared.opcode.ValueForm.{ValueForm}
use Rattle.rules.specs.declared.opcode.ValueForm.TheVariants as Values
use Rattle.rules.specs.declared.opcode.PenForm.{PenForm}
use Rattle.rules.specs.declared.opcode.PenForm.TheVariants as Pens
use Rattle.rules.specs.declared.opcode.PaintForm.{PaintForm}
use Rattle.rules.specs.declared.opcode.PaintForm.TheVariants as Paints
use Rattle.rules.specs.declared.opcode.Form.{Form}
use Rattle.rules.specs.declared.opcode.Form.TheVariants as Forms
use Rattle.rules.specs.Meaning.{Meaning, Unknown, Known}
use Rattle.rules.specs.Operands.{Piece, Source, word, long, from, dest}

abbrev pub flow_name : FlowForm → String
flow_name Flows.Noop = "NOOP"
flow_name Flows.Eodl = "EODL"
flow_name Flows.Cal = "CAL"
flow_name Flows.Calv = "CALV"
flow_name Flows.Erpt = "ERPT"
flow_name Flows.Rpt = "RPT"
flow_name Flows.Rtrn = "RTRN"
flow_name Flows.Jumpa = "JUMPA"
flow_name Flows.Jumpr = "JUMPR"
flow_name Flows.Calr = "CALR"
flow_name Flows.Calrv = "CALRV"

abbrev pub value_name : ValueForm → String
value_name Values.Adiv = "ADIV"
value_name Values.Advv = "ADVV"
value_name Values.Andiv = "ANDIV"
value_name Values.Andvv = "ANDVV"
value_name Values.Cpiv = "CPIV"
value_name Values.Cpvv = "CPVV"
value_name Values.Dcrv = "DCRV"
value_name Values.Divv = "DIVV"
value_name Values.Incv = "INCV"
value_name Values.Ldiv = "LDIV"
value_name Values.Ldivl = "LDIVL"
value_name Values.Ldvv = "LDVV"
value_name Values.Mltv = "MLTV"
value_name Values.Modv = "MODV"
value_name Values.Oriv = "ORIV"
value_name Values.Orvv = "ORVV"

abbrev pub pen_name : PenForm → String
pen_name Pens.Clipmode = "CLIPMODE"
pen_name Pens.Clipmodev = "CLIPMODEV"
pen_name Pens.Clipwin = "CLIPWIN"
pen_name Pens.Clipwinv = "CLIPWINV"
pen_name Pens.Colorf = "COLORF"
pen_name Pens.Colorfv = "COLORFV"
pen_name Pens.Linepatn = "LINEPATN"
pen_name Pens.Linepatnv = "LINEPATNV"
pen_name Pens.Moveto = "MOVETO"
pen_name Pens.Movetov = "MOVETOV"
pen_name Pens.Movetor = "MOVETOR"
pen_name Pens.Movetorv = "MOVETORV"
pen_name Pens.Xyorg = "XYORG"
pen_name Pens.Xyorgv = "XYORGV"

abbrev pub paint_name : PaintForm → String
paint_name Paints.Cir = "CIR"
paint_name Paints.Cirv = "CIRV"
paint_name Paints.Cirs = "CIRS"
paint_name Paints.Cirsv = "CIRSV"
paint_name Paints.Line = "LINE"
paint_name Paints.Linev = "LINEV"
paint_name Paints.Lineto = "LINETO"
paint_name Paints.Linetov = "LINETOV"
paint_name Paints.Linetor = "LINETOR"
paint_name Paints.Linetorv = "LINETORV"
paint_name Paints.Pixel = "PIXEL"
paint_name Paints.Pixelv = "PIXELV"
paint_name Paints.Pixelc = "PIXELC"
paint_name Paints.Pixelcv = "PIXELCV"
paint_name Paints.Clrwin = "CLRWIN"
paint_name Paints.Clrwinv = "CLRWINV"

abbrev pub name_of : Form → String
name_of Forms.Unknown = "no opcode"
name_of (Forms.Flow f) = flow_name f
name_of (Forms.Value f) = value_name f
name_of (Forms.Pen f) = pen_name f
name_of (Forms.Paint f) = paint_name f

-- how many variables a piece names or implies
abbrev pub counted : Piece → ℕ
counted word = 0
counted long = 0
counted (from n) = n
counted dest = 1

-- the greatest count of a source's pieces
abbrev pub most : Source → ℕ
most [] = 0
most (p ∷ ps) = max (counted p) (most ps)

-- that of what an opcode means; 0 where there is no opcode
abbrev pub variables_of : Meaning → ℕ
variables_of Unknown = 0
variables_of (Known op source) = most source
