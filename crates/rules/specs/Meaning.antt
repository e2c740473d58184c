-- Document 01, 'Opcodes of the base', and document 02, T-01, T-03, T-06 and T-09: what each opcode does and where its operands come from. The comments are the paper's names with their operands.
use Rattle.std.specs.Prelude.{[], ◌∷◌}
use Rattle.rules.specs.declared.opcode.FlowForm.{FlowForm}
use Rattle.rules.specs.declared.opcode.FlowForm.TheVariants as Flows
use Rattle.rules.specs.declared.opcode.ValueForm.{ValueForm}
use Rattle.rules.specs.declared.opcode.ValueForm.TheVariants as Values
use Rattle.rules.specs.declared.opcode.PenForm.{PenForm}
use Rattle.rules.specs.declared.opcode.PenForm.TheVariants as Pens
use Rattle.rules.specs.declared.opcode.PaintForm.{PaintForm}
use Rattle.rules.specs.declared.opcode.PaintForm.TheVariants as Paints
use Rattle.rules.specs.declared.opcode.Form.TheVariants as Forms
use Rattle.rules.specs.Types.{Form}
use Rattle.rules.specs.Op as Op
use Rattle.rules.specs.Operands.{Source, word, long, from, dest, plain}

pub data Meaning : Type 0 where
  Unknown : Meaning
  Known : Op.Op → Source → Meaning

abbrev pub flow : FlowForm → Meaning
flow Flows.Noop = Known Op.Noop []  -- NOOP
flow Flows.Eodl = Known Op.End []  -- EODL
flow Flows.Cal = Known Op.Call (long ∷ [])  -- CAL long
flow Flows.Calv = Known Op.Call (from 1 ∷ [])  -- CALV V
flow Flows.Erpt = Known Op.EndRepeat []  -- ERPT
flow Flows.Rpt = Known Op.Repeat (plain 1)  -- RPT count
flow Flows.Rtrn = Known Op.Return []  -- RTRN
flow Flows.Jumpa = Known Op.Jump (word ∷ long ∷ [])  -- JUMPA condition long
flow Flows.Jumpr = Known Op.JumpBy (plain 2)  -- JUMPR condition word
flow Flows.Calr = Known Op.CallBy (plain 1)  -- CALR word
flow Flows.Calrv = Known Op.CallBy (from 1 ∷ [])  -- CALRV V

abbrev pub value : ValueForm → Meaning
value Values.Adiv = Known Op.Add (long ∷ dest ∷ [])  -- ADIV long Vd
value Values.Advv = Known Op.Add (from 1 ∷ dest ∷ [])  -- ADVV Vs Vd
value Values.Andiv = Known Op.And (long ∷ dest ∷ [])  -- ANDIV long Vd
value Values.Andvv = Known Op.And (from 1 ∷ dest ∷ [])  -- ANDVV Vs Vd
value Values.Cpiv = Known Op.Compare (long ∷ dest ∷ [])  -- CPIV long Vd
value Values.Cpvv = Known Op.Compare (from 1 ∷ dest ∷ [])  -- CPVV Vs Vd
value Values.Dcrv = Known Op.Decrement (dest ∷ [])  -- DCRV V
value Values.Divv = Known Op.Divide (from 1 ∷ dest ∷ [])  -- DIVV Vs Vd
value Values.Incv = Known Op.Increment (dest ∷ [])  -- INCV V
value Values.Ldiv = Known Op.Load (word ∷ dest ∷ [])  -- LDIV word Vd
value Values.Ldivl = Known Op.Load (long ∷ dest ∷ [])  -- LDIVL long Vd
value Values.Ldvv = Known Op.Load (from 1 ∷ dest ∷ [])  -- LDVV Vs Vd
value Values.Mltv = Known Op.Multiply (from 1 ∷ dest ∷ [])  -- MLTV Vs Vd
value Values.Modv = Known Op.Remainder (from 1 ∷ dest ∷ [])  -- MODV Vs Vd
value Values.Oriv = Known Op.Or (long ∷ dest ∷ [])  -- ORIV long Vd
value Values.Orvv = Known Op.Or (from 1 ∷ dest ∷ [])  -- ORVV Vs Vd

abbrev pub pen : PenForm → Meaning
pen Pens.Clipmode = Known Op.ClipMode (plain 1)  -- CLIPMODE mode
pen Pens.Clipmodev = Known Op.ClipMode (from 1 ∷ [])  -- CLIPMODEV V
pen Pens.Clipwin = Known Op.ClipWindow (plain 4)  -- CLIPWIN x0 y0 x1 y1
pen Pens.Clipwinv = Known Op.ClipWindow (from 4 ∷ [])  -- CLIPWINV Vi
pen Pens.Colorf = Known Op.Colour (long ∷ [])  -- COLORF long
pen Pens.Colorfv = Known Op.Colour (from 1 ∷ [])  -- COLORFV V
pen Pens.Linepatn = Known Op.Pattern (long ∷ [])  -- LINEPATN long
pen Pens.Linepatnv = Known Op.Pattern (from 1 ∷ [])  -- LINEPATNV V
pen Pens.Moveto = Known Op.MoveTo (plain 2)  -- MOVETO x y
pen Pens.Movetov = Known Op.MoveTo (from 2 ∷ [])  -- MOVETOV Vi
pen Pens.Movetor = Known Op.MoveBy (plain 2)  -- MOVETOR dx dy
pen Pens.Movetorv = Known Op.MoveBy (from 2 ∷ [])  -- MOVETORV Vi
pen Pens.Xyorg = Known Op.Origin (plain 2)  -- XYORG x y
pen Pens.Xyorgv = Known Op.Origin (from 2 ∷ [])  -- XYORGV Vi

abbrev pub paint : PaintForm → Meaning
paint Paints.Cir = Known Op.Outline (plain 4)  -- CIR type x y radius
paint Paints.Cirv = Known Op.Outline (from 4 ∷ [])  -- CIRV Vi
paint Paints.Cirs = Known Op.Disc (plain 4)  -- CIRS type x y radius
paint Paints.Cirsv = Known Op.Disc (from 4 ∷ [])  -- CIRSV Vi
paint Paints.Line = Known Op.Line (plain 5)  -- LINE type x0 y0 x1 y1
paint Paints.Linev = Known Op.Line (from 5 ∷ [])  -- LINEV Vi
paint Paints.Lineto = Known Op.LineTo (plain 3)  -- LINETO type x y
paint Paints.Linetov = Known Op.LineTo (from 3 ∷ [])  -- LINETOV Vi
paint Paints.Linetor = Known Op.LineBy (plain 3)  -- LINETOR type dx dy
paint Paints.Linetorv = Known Op.LineBy (from 3 ∷ [])  -- LINETORV Vi
paint Paints.Pixel = Known Op.Pixel (plain 2)  -- PIXEL x y
paint Paints.Pixelv = Known Op.Pixel (from 2 ∷ [])  -- PIXELV Vi
paint Paints.Pixelc = Known Op.PixelColour (word ∷ word ∷ long ∷ [])  -- PIXELC x y long
paint Paints.Pixelcv = Known Op.PixelColour (from 3 ∷ [])  -- PIXELCV Vi
paint Paints.Clrwin = Known Op.Clear (long ∷ word ∷ [])  -- CLRWIN long word
paint Paints.Clrwinv = Known Op.Clear (from 2 ∷ [])  -- CLRWINV Vi

abbrev pub meaning : Form → Meaning
meaning Forms.Unknown = Unknown
meaning (Forms.Flow f) = flow f
meaning (Forms.Value f) = value f
meaning (Forms.Pen f) = pen f
meaning (Forms.Paint f) = paint f
