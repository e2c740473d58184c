-- The environment with one field set to a value's bits: 'set NAME VALUE'.
use Rattle.std.specs.Prelude.{ℕ, ◌%◌, cond, List, [], ◌∷◌, ltb, eqb, ℤ, set, get_or, Option, None, Some, Result, Ok, Err}
use Rattle.numbers.specs.Number.{signed32}
use Rattle.numbers.specs.declared.place.WordIndex.{WordIndex}
use Rattle.raster.specs.declared.dots.Dot.{Dot}
use Rattle.raster.specs.declared.frame.Bounds.{Bounds}
use Rattle.raster.specs.declared.frame.Pane.{Pane}
use Rattle.raster.specs.declared.frame.Window.{Window}
use Rattle.rules.specs.declared.environment.Env.{Env}
use Rattle.rules.specs.declared.environment.Registers.{Registers}
use Rattle.rules.specs.declared.environment.Repeat.{Repeat}
use Rattle.rules.specs.Environment.{over}
use Rattle.text.specs.Number.{decimal_of, signed_of}
use Rattle.text.specs.declared.number.Flaw.{Flaw}
use Rattle.desk.specs.declared.desk.Desk.{Desk}
use Rattle.desk.specs.declared.fault.Fault.{Fault}
use Rattle.desk.specs.declared.fault.Fault.TheVariants.{NoField}
use Rattle.desk.specs.declared.field.Field.{Field}
use Rattle.desk.specs.declared.field.Bound.{Bound}
use Rattle.desk.specs.declared.field.Bound.TheVariants.{Width, Height, Left, Top, Right, Bottom}
use Rattle.desk.specs.declared.field.Axis.{Axis}
use Rattle.desk.specs.declared.field.Axis.TheVariants.{X, Y}
use Rattle.desk.specs.declared.field.Corner.{Corner}
use Rattle.desk.specs.declared.field.Corner.TheVariants.{X0, Y0, X1, Y1}
use Rattle.desk.specs.declared.field.Register.{Register}
use Rattle.desk.specs.declared.field.Register.TheVariants.{Mode, Pattern, First, Second, Counter, Depth, Place, Colour, State}
use Rattle.desk.specs.declared.field.Part.{Part}
use Rattle.desk.specs.declared.field.Part.TheVariants.{Start, Left as Passes}
use Rattle.desk.specs.Desks.{with_env}
use Rattle.desk.specs.Faults.{and_then}
use Rattle.desk.specs.Fields.{field_of, kind_of, read_as}

-- ---- one number of a part
abbrev pane : ℕ → ℕ → ℕ → ℕ → Pane
pane l t r b = record { left = l; top = t; right = r; bottom = b }

abbrev bounds : ℕ → ℕ → Pane → Bounds
bounds w h p = record { width = w; height = h; pane = p }

abbrev pub with_bound : Bound → ℕ → Bounds → Bounds
with_bound Width n b = bounds n b.height b.pane
with_bound Height n b = bounds b.width n b.pane
with_bound Left n b = let p = b.pane in bounds b.width b.height (pane n p.top p.right p.bottom)
with_bound Top n b = let p = b.pane in bounds b.width b.height (pane p.left n p.right p.bottom)
with_bound Right n b = let p = b.pane in bounds b.width b.height (pane p.left p.top n p.bottom)
with_bound Bottom n b = let p = b.pane in bounds b.width b.height (pane p.left p.top p.right n)

abbrev pub with_axis : Axis → ℤ → Dot → Dot
with_axis X z p = record { x = z; y = p.y }
with_axis Y z p = record { x = p.x; y = z }

abbrev pub with_part : Part → ℕ → Repeat → Repeat
with_part Start n r = record { start = record { 0 = n }; left = r.left }
with_part Passes n r = record { start = r.start; left = n }

abbrev window : ℤ → ℤ → ℤ → ℤ → Window
window a b c d = record { x0 = a; y0 = b; x1 = c; y1 = d }

abbrev pub with_corner : Corner → ℤ → Window → Window
with_corner X0 z w = window z w.y0 w.x1 w.y1
with_corner Y0 z w = window w.x0 z w.x1 w.y1
with_corner X1 z w = window w.x0 w.y0 z w.y1
with_corner Y1 z w = window w.x0 w.y0 w.x1 z

abbrev registers : Dot → Dot → Window → ℕ → ℕ → ℕ → ℕ → WordIndex → ℕ → WordIndex → ℕ → ℕ → Registers
registers p o w m l f s c d i k t =
    record { position = p; origin = o; window = w; mode = m; pattern = l; first = f; second = s; counter = c; depth = d; place = i; colour = k; state = t }

-- colour and state are bytes
abbrev pub with_register : Register → ℕ → Registers → Registers
with_register Mode n r = registers r.position r.origin r.window n r.pattern r.first r.second r.counter r.depth r.place r.colour r.state
with_register Pattern n r = registers r.position r.origin r.window r.mode n r.first r.second r.counter r.depth r.place r.colour r.state
with_register First n r = registers r.position r.origin r.window r.mode r.pattern n r.second r.counter r.depth r.place r.colour r.state
with_register Second n r = registers r.position r.origin r.window r.mode r.pattern r.first n r.counter r.depth r.place r.colour r.state
with_register Counter n r = registers r.position r.origin r.window r.mode r.pattern r.first r.second (record { 0 = n }) r.depth r.place r.colour r.state
with_register Depth n r = registers r.position r.origin r.window r.mode r.pattern r.first r.second r.counter n r.place r.colour r.state
with_register Place n r = registers r.position r.origin r.window r.mode r.pattern r.first r.second r.counter r.depth (record { 0 = n }) r.colour r.state
with_register Colour n r = registers r.position r.origin r.window r.mode r.pattern r.first r.second r.counter r.depth r.place (n % 256) r.state
with_register State n r = registers r.position r.origin r.window r.mode r.pattern r.first r.second r.counter r.depth r.place r.colour (n % 256)

abbrev pub positioned : Dot → Registers → Registers
positioned p r = registers p r.origin r.window r.mode r.pattern r.first r.second r.counter r.depth r.place r.colour r.state

abbrev pub based : Dot → Registers → Registers
based o r = registers r.position o r.window r.mode r.pattern r.first r.second r.counter r.depth r.place r.colour r.state

abbrev pub windowed : Window → Registers → Registers
windowed w r = registers r.position r.origin w r.mode r.pattern r.first r.second r.counter r.depth r.place r.colour r.state

-- ---- one field of the environment
abbrev env : Bounds → Registers → List ℕ → List WordIndex → ℕ → List Repeat → Env
env b r vs is n rs = record { bounds = b; registers = r; variables = vs; stack = is; nesting = n; repeats = rs }

abbrev pub bounded : Bounds → Env → Env
bounded b e = env b e.registers e.variables e.stack e.nesting e.repeats

abbrev pub registered : Registers → Env → Env
registered r e = env e.bounds r e.variables e.stack e.nesting e.repeats

abbrev pub with_field : Field → ℕ → Env → Env
with_field (Field.Bound b) n e = bounded (with_bound b n e.bounds) e
with_field (Field.Position a) n e = registered (positioned (with_axis a (signed32 n) e.registers.position) e.registers) e
with_field (Field.Origin a) n e = registered (based (with_axis a (signed32 n) e.registers.origin) e.registers) e
with_field (Field.Corner c) n e = registered (windowed (with_corner c (signed32 n) e.registers.window) e.registers) e
with_field (Field.Register r) n e = registered (with_register r n e.registers) e
with_field Field.Nesting n e = env e.bounds e.registers e.variables e.stack n e.repeats

abbrev pub with_variable : ℕ → ℕ → Env → Env
with_variable i n e = env e.bounds e.registers (set e.variables i n) e.stack e.nesting e.repeats

abbrev pub with_return : ℕ → ℕ → Env → Env
with_return i n e = env e.bounds e.registers e.variables (set e.stack i (record { 0 = n })) e.nesting e.repeats

abbrev pub with_repeats : List Repeat → Env → Env
with_repeats rs e = env e.bounds e.registers e.variables e.stack e.nesting rs

abbrev pub with_repeat : Part → ℕ → ℕ → Env → Env
with_repeat p i n e = with_repeats (set e.repeats i (with_part p n (get_or e.repeats i over))) e

-- ---- what the line leaves
abbrev pub stored : Desk → (ℕ → Env) → Result ℕ Flaw → Result Desk Fault
stored d put value = and_then value (λ n. Ok (with_env d (put n)))

-- a number above the last one names no field
abbrev pub up_to : ℕ → Result ℕ Flaw → Result ℕ Fault
up_to last (Ok i) = cond (ltb last i) (Err NoField) (Ok i)
up_to last (Err f) = Err NoField

abbrev pub at_number : Result ℕ Fault → (ℕ → Result Desk Fault) → Result Desk Fault
at_number (Ok i) further = further i
at_number (Err f) further = Err f

abbrev pub numbered : ℕ → Desk → (ℕ → ℕ → Env) → Result ℕ Flaw → Result ℕ Flaw → Result Desk Fault
numbered last d put number value = at_number (up_to last number) (λ i. stored d (put i) value)

abbrev pub set_variable : Desk → List ℕ → List ℕ → Result Desk Fault
set_variable d number value = numbered 63 d (λ i n. with_variable i n d.env) (decimal_of number) (signed_of value)

abbrev pub set_return : Desk → List ℕ → List ℕ → Result Desk Fault
set_return d number value = numbered 15 d (λ i n. with_return i n d.env) (decimal_of number) (decimal_of value)

abbrev pub set_repeat : Desk → Part → List ℕ → List ℕ → Result Desk Fault
set_repeat d p number value = numbered 7 d (λ i n. with_repeat p i n d.env) (decimal_of number) (decimal_of value)

abbrev pub set_known : Desk → Field → List ℕ → Result Desk Fault
set_known d f value = stored d (λ n. with_field f n d.env) (read_as (kind_of f) value)

abbrev pub set_named : Desk → Option Field → List ℕ → Result Desk Fault
set_named d (Some f) value = set_known d f value
set_named d None value = Err NoField

-- 86 is 'V', 83 'S', 66 'B', and 80 'P'
abbrev pub set_field : Desk → List ℕ → List ℕ → Result Desk Fault
set_field d [] value = Err NoField
set_field d (b ∷ bs) value =
    cond (eqb b 86) (set_variable d bs value)
    (cond (eqb b 83) (set_return d bs value)
    (cond (eqb b 66) (set_repeat d Start bs value)
    (cond (eqb b 80) (set_repeat d Passes bs value) (set_named d (field_of (b ∷ bs)) value))))
