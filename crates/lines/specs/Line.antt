-- A line's dots (document 01, 'Which dots are painted', with request T-02's sentence on k).
use Rattle.std.specs.Prelude.{ℕ, suc, ◌*◌, ◌/◌, max, Bool, cond, ℤ, pos, negsuc, ◌+ℤ◌, ◌-ℤ◌, ◌*ℤ◌, int_le, nat_le}
use Rattle.raster.specs.declared.dots.Dot.{Dot}
use Rattle.raster.specs.Shapes.{Shape, gap, dot, shifted, some_below}
use Rattle.lines.specs.declared.line.Line.{Line}

-- n, the larger of the two absolute differences
abbrev pub long : Line → ℕ
long l = max (gap l.from.x l.to.x) (gap l.from.y l.to.y)

-- x is the long axis: also when they are equal
abbrev pub flat : Line → Bool
flat l = nat_le (gap l.from.y l.to.y) (gap l.from.x l.to.x)

-- the first point's coordinate on the long axis is the smaller, or both are the same
abbrev pub rising : Line → Bool
rising l = cond (flat l) (int_le l.from.x l.to.x) (int_le l.from.y l.to.y)

-- the end with the smaller coordinate on the long axis, and the other
abbrev pub start : Line → Dot
start l = cond (rising l) l.from l.to

abbrev pub finish : Line → Dot
finish l = cond (rising l) l.to l.from

-- z / m, rounded toward minus infinity; 0 / 0 is 0
abbrev pub floor : ℤ → ℕ → ℤ
floor (pos a) m = pos (a / m)
floor (negsuc a) m = negsuc (a / m)

-- what the other axis gets at dot k: floor ((2kd + n) / 2n), d its signed difference
unfoldable pub side : ℕ → ℤ → ℕ → ℤ
side n d k = floor (pos (2 * k) *ℤ d +ℤ pos n) (2 * n)

-- dot k of a line from p to q, where t says that x is the long axis: k added on the long axis, and `side` on the other
abbrev pub dot_from : Bool → ℕ → Dot → Dot → ℕ → Dot
dot_from t n p q k =
    record {
      x = p.x +ℤ cond t (pos k) (side n (q.x -ℤ p.x) k);
      y = p.y +ℤ cond t (side n (q.y -ℤ p.y) k) (pos k);
    }

-- dot k, from the end with the smaller coordinate on the long axis
abbrev pub line_dot : Line → ℕ → Dot
line_dot l k = dot_from (flat l) (long l) (start l) (finish l) k

-- the dots for k from 0 to n
unfoldable pub line : Line → Shape
line l = λ x y. some_below (suc (long l)) (λ k. dot (line_dot l k) x y)

-- the line with both ends moved by o
abbrev pub line_by : Dot → Line → Line
line_by o l = record { from = shifted l.from o; to = shifted l.to o }
