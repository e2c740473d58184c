-- Document 01, 'Opcodes of the base', and document 02, T-01, T-03, T-06 and T-09: what each op does, one clause an op. A clause finds the counter at the next opcode.
use Rattle.std.specs.Prelude.{ℕ, ◌-◌, Bool, false, cond, not, ◌&&◌, ◌||◌, length, ltb, leb, eqb, pos, ◌+ℤ◌, Some, None, Option, is_none}
use Rattle.std.specs.Int.Bits.{bit_and, bit_or}
use Rattle.numbers.specs.Number.{signed32, low8, sum32, difference32, product32, quotient32, remainder32}
use Rattle.numbers.specs.Coordinate.{in_word, is_radius}
use Rattle.numbers.specs.Place.{word_of, index_of}
use Rattle.raster.specs.Shapes.{Shape, dot, shifted, all}
use Rattle.lines.specs.Line.{line}
use Rattle.lines.specs.Dashes.{dashed}
use Rattle.circles.specs.Circle.{disc, outline}
use Rattle.rules.specs.Types.{WordIndex, Dot, Window, Line, Circle, Operands, Repeat, Ended}
use Rattle.rules.specs.Op as Op
use Rattle.rules.specs.Operands.{at}
use Rattle.rules.specs.Environment.{Env, put, moved, based, coloured, patterned, clipped, windowed, compared, goto, stated, pushed, popped, top, repeat, opened, closed, innermost}
use Rattle.rules.specs.Conditions.{allowed, met}

-- ---- what an op says: which of 24 to 29 it breaks, the environment after it, which dots it paints and in which colour
pub record Rule : Type 0 where
  pub breaks : ℕ → Bool  -- by its number
  pub env : Env
  pub shape : Shape
  pub colour : ℕ

abbrev pub paints : Shape → ℕ → Env → Rule
paints S c e = record { breaks = λ n. false; env = e; shape = S; colour = c }

-- the environment alone changes
abbrev pub leaves : Env → Rule
leaves e = paints (λ x y. false) 0 e

-- the same, refused with k where the test holds
abbrev pub refuse : ℕ → Bool → Rule → Rule
refuse k b r = record { breaks = λ n. cond (eqb n k) b (r.breaks n); env = r.env; shape = r.shape; colour = r.colour }

-- ---- variables

-- Vd's value, and another value put there
abbrev pub old : Operands → Env → ℕ
old o e = at e.variables o.dest.0

abbrev pub gives : ℕ → Operands → Env → Rule
gives v o e = leaves (put o.dest v e)

-- ---- targets, in a list of n words

-- a bit address from the list's start
abbrev pub absolute : ℕ → ℕ → Option WordIndex
absolute bits n = word_of (record { 0 = bits }) n

-- the next opcode's index plus the signed offset
abbrev pub relative : ℕ → Env → ℕ → Option WordIndex
relative offset e n = index_of (pos e.flow.counter.0 +ℤ signed32 offset) n

abbrev pub missing : Option WordIndex → Bool
missing t = is_none t

abbrev pub reach : Option WordIndex → Env → Env
reach (Some i) e = goto i e
reach None e = e

-- whether condition k is met by the values last compared
abbrev pub taken : ℕ → Env → Bool
taken k e = met k (signed32 e.flow.first) (signed32 e.flow.second)

-- a jump not taken does not look at its target
abbrev pub jumps : ℕ → Option WordIndex → Env → Rule
jumps k t e =
    refuse 24 (not (allowed k))
    (refuse 27 (taken k e && missing t)
    (leaves (cond (taken k e) (reach t e) e)))

-- the return index is the next opcode's
abbrev pub calls : Option WordIndex → Env → Rule
calls t e = refuse 27 (missing t) (refuse 28 (leb 16 (length e.flow.stack)) (leaves (reach t (pushed e.flow.counter e))))

-- ---- repeats

-- how many passes a block may have
abbrev pub countable : ℕ → Bool
countable n = leb 1 n && leb n 1000

-- a pass is left behind the one that ends
abbrev pub another : Repeat → Bool
another r = ltb 1 r.left

-- one pass is taken off the innermost repeat r: back to the opcode behind its RPT if any is left, else the block is closed
abbrev pub passes : Repeat → Env → Env
passes r e = cond (another r) (goto r.start (opened (repeat r.start (r.left - 1)) (closed e))) (closed e)

-- ---- points
abbrev pub point : ℕ → ℕ → Dot
point a b = record { x = signed32 a; y = signed32 b }

-- two signed words
abbrev pub dot_fits : Dot → Bool
dot_fits p = in_word p.x && in_word p.y

-- a coordinate is outside -32,768 to 32,767
abbrev pub far : Dot → Bool
far p = not (dot_fits p)

abbrev pub window : Dot → Dot → Window
window p q = record { x0 = p.x; y0 = p.y; x1 = q.x; y1 = q.y }

abbrev pub dots : Dot → ℕ → Env → Rule
dots p c e = refuse 25 (far p) (paints (dot p) c e)

-- a type above the last one that is drawn: lines have types 0 and 1, circles type 0 alone
abbrev pub other_type : ℕ → ℕ → Bool
other_type last type = ltb last type

-- a line's dots: in type 0 all of them, in type 1 those that the pattern paints
abbrev pub typed : ℕ → ℕ → Line → Shape
typed type pattern l = cond (eqb type 0) (line l) (dashed pattern l)

-- a line from p to q; `out`: a coordinate or offset is outside
abbrev pub draws : ℕ → Bool → Dot → Dot → Env → Rule
draws type out p q e = refuse 24 (other_type 1 type) (refuse 25 out (paints (typed type e.pen.pattern (record { from = p; to = q })) e.pen.colour e))

-- a circle of the shape S in the foreground colour; a: its type; b, c: its centre; d: its radius
abbrev pub circles : (Circle → Shape) → Operands → Env → Rule
circles S o e =
    let p = point o.b o.c in
    let r = signed32 o.d in
    refuse 24 (other_type 0 o.a) (refuse 25 (far p || not (is_radius r)) (paints (S (record { centre = p; radius = r })) e.pen.colour e))

-- ---- each op, in a list of n words
abbrev pub rule : Op.Op → Operands → ℕ → Env → Rule
rule Op.Noop o n e = leaves e
rule Op.End o n e = leaves (stated Ended e)
rule Op.Load o n e = gives o.a o e
rule Op.Add o n e = gives (sum32 (old o e) o.a) o e
rule Op.And o n e = gives (bit_and (old o e) o.a) o e
rule Op.Or o n e = gives (bit_or (old o e) o.a) o e
rule Op.Multiply o n e = gives (product32 (old o e) o.a) o e
rule Op.Divide o n e = refuse 26 (eqb o.a 0) (gives (quotient32 (old o e) o.a) o e)
rule Op.Remainder o n e = refuse 26 (eqb o.a 0) (gives (remainder32 (old o e) o.a) o e)
rule Op.Increment o n e = gives (sum32 (old o e) 1) o e
rule Op.Decrement o n e = gives (difference32 (old o e) 1) o e
rule Op.Compare o n e = leaves (compared (old o e) o.a e)
rule Op.Jump o n e = jumps o.a (absolute o.b n) e
rule Op.JumpBy o n e = jumps o.a (relative o.b e n) e
rule Op.Call o n e = calls (absolute o.a n) e
rule Op.CallBy o n e = calls (relative o.a e n) e
rule Op.Return o n e = refuse 29 (eqb (length e.flow.stack) 0) (leaves (goto (top e) (popped e)))
rule Op.Repeat o n e = refuse 24 (not (countable o.a)) (refuse 28 (leb 8 (length e.flow.repeats)) (leaves (opened (repeat e.flow.counter o.a) e)))
rule Op.EndRepeat o n e = refuse 29 (eqb (length e.flow.repeats) 0) (leaves (passes (innermost e) e))
rule Op.ClipMode o n e = refuse 24 (ltb 2 o.a) (leaves (clipped o.a e))
rule Op.ClipWindow o n e =
    let p = point o.a o.b in
    let q = point o.c o.d in
    refuse 25 (far p || far q) (leaves (windowed (window p q) e))
rule Op.Colour o n e = leaves (coloured (low8 o.a) e)
rule Op.Pattern o n e = leaves (patterned o.a e)
rule Op.MoveTo o n e = let p = point o.a o.b in refuse 25 (far p) (leaves (moved p e))
rule Op.MoveBy o n e =
    let d = point o.a o.b in
    let p = shifted e.pen.position d in
    refuse 25 (far d || far p) (leaves (moved p e))
rule Op.Origin o n e = let p = point o.a o.b in refuse 25 (far p) (leaves (based p e))
rule Op.Pixel o n e = dots (point o.a o.b) e.pen.colour e
rule Op.PixelColour o n e = dots (point o.a o.b) (low8 o.c) e
rule Op.Line o n e =
    let p = point o.b o.c in
    let q = point o.d o.e in
    draws o.a (far p || far q) p q e
rule Op.LineTo o n e = let q = point o.b o.c in draws o.a (far q) e.pen.position q (moved q e)
rule Op.LineBy o n e =
    let d = point o.b o.c in
    let q = shifted e.pen.position d in
    draws o.a (far d || far q) e.pen.position q (moved q e)
rule Op.Disc o n e = circles disc o e
rule Op.Outline o n e = circles outline o e
rule Op.Clear o n e = paints all (low8 o.a) e
