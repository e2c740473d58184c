-- Document 01, 'Opcodes of the base', and document 02, T-01, T-03, T-06 and T-09: every opcode's number, in order. The numbers are theirs; those of ERPT, RPT, RTRN, XYORG and XYORGV are of 004's alphabetical list.
use Rattle.std.specs.Prelude.{ℕ, cond, List, [], ◌∷◌, eqb}
use Rattle.rules.specs.declared.opcode.FlowForm.TheVariants as Flows
use Rattle.rules.specs.declared.opcode.ValueForm.TheVariants as Values
use Rattle.rules.specs.declared.opcode.PenForm.TheVariants as Pens
use Rattle.rules.specs.declared.opcode.PaintForm.TheVariants as Paints
use Rattle.rules.specs.declared.opcode.Form.TheVariants.{Unknown, Flow, Value, Pen, Paint}
use Rattle.rules.specs.Types.{Form}

pub record Row : Type 0 where
  pub number : ℕ
  pub form : Form

abbrev pub row : ℕ → Form → Row
row n f = record { number = n; form = f }

abbrev pub table : List Row
table =
    row 0x0000 (Flow Flows.Noop) ∷
    row 0x0001 (Flow Flows.Eodl) ∷
    row 0x0002 (Value Values.Adiv) ∷
    row 0x0003 (Value Values.Advv) ∷
    row 0x0006 (Value Values.Andiv) ∷
    row 0x0007 (Value Values.Andvv) ∷
    row 0x000E (Flow Flows.Cal) ∷
    row 0x000F (Flow Flows.Calv) ∷
    row 0x0012 (Paint Paints.Cir) ∷
    row 0x0013 (Paint Paints.Cirv) ∷
    row 0x0014 (Paint Paints.Cirs) ∷
    row 0x0015 (Paint Paints.Cirsv) ∷
    row 0x0016 (Pen Pens.Clipmode) ∷
    row 0x0017 (Pen Pens.Clipmodev) ∷
    row 0x0018 (Pen Pens.Clipwin) ∷
    row 0x0019 (Pen Pens.Clipwinv) ∷
    row 0x001F (Pen Pens.Colorf) ∷
    row 0x0020 (Pen Pens.Colorfv) ∷
    row 0x0033 (Value Values.Cpiv) ∷
    row 0x0034 (Value Values.Cpvv) ∷
    row 0x0042 (Value Values.Dcrv) ∷
    row 0x0045 (Value Values.Divv) ∷
    row 0x004F (Flow Flows.Erpt) ∷
    row 0x005D (Value Values.Incv) ∷
    row 0x0065 (Value Values.Ldiv) ∷
    row 0x0066 (Value Values.Ldivl) ∷
    row 0x0071 (Value Values.Ldvv) ∷
    row 0x0074 (Paint Paints.Line) ∷
    row 0x0075 (Paint Paints.Linev) ∷
    row 0x0078 (Pen Pens.Linepatn) ∷
    row 0x0079 (Pen Pens.Linepatnv) ∷
    row 0x007C (Paint Paints.Lineto) ∷
    row 0x007D (Paint Paints.Linetov) ∷
    row 0x007E (Paint Paints.Linetor) ∷
    row 0x007F (Paint Paints.Linetorv) ∷
    row 0x0080 (Value Values.Mltv) ∷
    row 0x0081 (Value Values.Modv) ∷
    row 0x0082 (Pen Pens.Moveto) ∷
    row 0x0083 (Pen Pens.Movetov) ∷
    row 0x0084 (Pen Pens.Movetor) ∷
    row 0x0085 (Pen Pens.Movetorv) ∷
    row 0x0090 (Value Values.Oriv) ∷
    row 0x0091 (Value Values.Orvv) ∷
    row 0x009E (Paint Paints.Pixel) ∷
    row 0x009F (Paint Paints.Pixelv) ∷
    row 0x00B7 (Flow Flows.Rpt) ∷
    row 0x00B9 (Flow Flows.Rtrn) ∷
    row 0x0100 (Pen Pens.Xyorg) ∷
    row 0x0101 (Pen Pens.Xyorgv) ∷
    row 0x010A (Flow Flows.Jumpa) ∷
    row 0x010C (Flow Flows.Jumpr) ∷
    row 0x010E (Flow Flows.Calr) ∷
    row 0x010F (Flow Flows.Calrv) ∷
    row 0x0150 (Paint Paints.Pixelc) ∷
    row 0x0151 (Paint Paints.Pixelcv) ∷
    row 0x0188 (Paint Paints.Clrwin) ∷
    row 0x0189 (Paint Paints.Clrwinv) ∷
    []

-- the form of the row with that number; everything else is unknown
abbrev pub find : List Row → ℕ → Form
find [] n = Unknown
find (r ∷ rs) n = cond (eqb n r.number) r.form (find rs n)

unfoldable pub form_of : ℕ → Form
form_of n = find table n
