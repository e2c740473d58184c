-- How an opcode lies in a list: how many words it has, and whether the next one is due behind it.
use Rattle.std.specs.Prelude.{ℕ}
use Rattle.rules.specs.Op as Op
use Rattle.rules.specs.Meaning.{Meaning, Unknown, Known, meaning}
use Rattle.rules.specs.Table.{form_of}
use Rattle.rules.specs.Operands.{size_of}
use Rattle.forms.specs.declared.layout.Layout.{Layout}
use Rattle.forms.specs.declared.layout.Layout.TheVariants.{Strange, Plain, Flow, Ends, Opens, Closes}

-- an op whose opcode has n words
abbrev pub laid : Op.Op → ℕ → Layout
laid Op.Noop n = Plain n
laid Op.End n = Ends
laid Op.Load n = Plain n
laid Op.Add n = Plain n
laid Op.And n = Plain n
laid Op.Or n = Plain n
laid Op.Multiply n = Plain n
laid Op.Divide n = Plain n
laid Op.Remainder n = Plain n
laid Op.Increment n = Plain n
laid Op.Decrement n = Plain n
laid Op.Compare n = Plain n
laid Op.Jump n = Flow n
laid Op.JumpBy n = Flow n
laid Op.Call n = Flow n
laid Op.CallBy n = Flow n
laid Op.Return n = Flow n
laid Op.Repeat n = Opens
laid Op.EndRepeat n = Closes
laid Op.ClipMode n = Plain n
laid Op.ClipWindow n = Plain n
laid Op.Colour n = Plain n
laid Op.Pattern n = Plain n
laid Op.MoveTo n = Plain n
laid Op.MoveBy n = Plain n
laid Op.Origin n = Plain n
laid Op.Pixel n = Plain n
laid Op.PixelColour n = Plain n
laid Op.Line n = Plain n
laid Op.LineTo n = Plain n
laid Op.LineBy n = Plain n
laid Op.Disc n = Plain n
laid Op.Outline n = Plain n
laid Op.Clear n = Plain n

abbrev pub layout_of : Meaning → Layout
layout_of Unknown = Strange
layout_of (Known op s) = laid op (size_of s)

-- by the opcode word
unfoldable pub layout_at : ℕ → Layout
layout_at n = layout_of (meaning (form_of n))

-- how many words belong together, by the layout and by what the word means; what is no opcode stands by itself
abbrev pub words : Layout → ℕ
words Strange = 1
words (Plain n) = n
words (Flow n) = n
words Ends = 1
words Opens = 2
words Closes = 1

abbrev pub size_in : Meaning → ℕ
size_in Unknown = 1
size_in (Known op s) = size_of s
