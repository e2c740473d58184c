-- Request T-06: the origin enters no judgement, no variable and no position, only where what is painted lies; XYORG alone sets it, whatever it was; and
-- where it is (0, 0), all is as without one.
use Prim.Native.Nat.{ℕ}
use mathlib.Core.Path.{◌≡◌, refl, ap, ◌∙◌}
use mathlib.Core.Bool.{Bool, true, false, cond, ◌&&◌, ◌||◌}
use lib.Dec.{eqb}
use lib.IntN.{ℤ}
use Rattle.std.specs.Prelude.{Some, None, Option}
use Rattle.raster.specs.Shapes.{Shape, top_left, moved_by}
use Rattle.raster.specs.Frame.{on_screen, in_pane, in_window}
use Rattle.raster.proofs.Moved.{not-moved}
use Rattle.raster.proofs.Paintings.{drawable-without}
use Rattle.player.specs.Painting.{placed}
use Rattle.player.specs.Shown.{marks}
use Rattle.rules.specs.Types.{WordIndex, Dot, Operands}
use Rattle.rules.specs.Op as Op
use Rattle.rules.specs.Environment.{Env, based, pushed, closed, innermost, frame}
use Rattle.rules.specs.Opcodes.{Rule, rule, point, taken, absolute, relative, reach, another}

-- ---- the same op from another origin
abbrev pub with_origin : Dot → Rule → Rule
with_origin p r = record { breaks = r.breaks; env = based p r.env; shape = r.shape; colour = r.colour }

other-env : (r : Rule) {e : Env} → r.env ≡ e → r ≡ record { breaks = r.breaks; env = e; shape = r.shape; colour = r.colour }
other-env r q = λ i. record { breaks = r.breaks; env = q i; shape = r.shape; colour = r.colour }

reached : (t : Option WordIndex) (p : Dot) (e : Env) → reach t (based p e) ≡ based p (reach t e)
reached (Some i) p e = refl
reached None p e = refl

jumped : (taken : Bool) (t : Option WordIndex) (p : Dot) (e : Env) → cond taken (reach t (based p e)) (based p e) ≡ based p (cond taken (reach t e) e)
jumped true t p e = reached t p e
jumped false t p e = refl

passed : (t : Bool) (p : Dot) (x y : Env) → cond t (based p x) (based p y) ≡ based p (cond t x y)
passed true p x y = refl
passed false p x y = refl

-- every op but XYORG breaks the same, leaves the same environment but for the origin, which stays, and says the same shape and colour
pub slides : (op : Op.Op) → (op ≡ Op.Origin → ⊥) → (o : Operands) (n : ℕ) (p : Dot) (e : Env) → rule op o n (based p e) ≡ with_origin p (rule op o n e)
slides Op.Noop h o n p e = refl
slides Op.End h o n p e = refl
slides Op.Load h o n p e = refl
slides Op.Add h o n p e = refl
slides Op.And h o n p e = refl
slides Op.Or h o n p e = refl
slides Op.Multiply h o n p e = refl
slides Op.Divide h o n p e = refl
slides Op.Remainder h o n p e = refl
slides Op.Increment h o n p e = refl
slides Op.Decrement h o n p e = refl
slides Op.Compare h o n p e = refl
slides Op.Jump h o n p e = other-env _ (jumped (taken o.a e) (absolute o.b n) p e)
slides Op.JumpBy h o n p e = other-env _ (jumped (taken o.a e) (relative o.b e n) p e)
slides Op.Call h o n p e = other-env _ (reached (absolute o.a n) p (pushed e.flow.counter e))
slides Op.CallBy h o n p e = other-env _ (reached (relative o.a e n) p (pushed e.flow.counter e))
slides Op.Return h o n p e = refl
slides Op.Repeat h o n p e = refl
slides Op.EndRepeat h o n p e = other-env _ (passed (another (innermost e)) p _ (closed e))
slides Op.ClipMode h o n p e = refl
slides Op.ClipWindow h o n p e = refl
slides Op.Colour h o n p e = refl
slides Op.Pattern h o n p e = refl
slides Op.MoveTo h o n p e = refl
slides Op.MoveBy h o n p e = refl
slides Op.Origin h o n p e = absurd (h refl)
slides Op.Pixel h o n p e = refl
slides Op.PixelColour h o n p e = refl
slides Op.Line h o n p e = refl
slides Op.LineTo h o n p e = refl
slides Op.LineBy h o n p e = refl
slides Op.Disc h o n p e = refl
slides Op.Outline h o n p e = refl
slides Op.Clear h o n p e = refl

-- so it leaves the origin as it was
pub origin-stays : (op : Op.Op) → (op ≡ Op.Origin → ⊥) → (o : Operands) (n : ℕ) (e : Env) → (rule op o n e).env.pen.origin ≡ e.pen.origin
origin-stays op h o n e = ap (λ (r : Rule). r.env.pen.origin) (slides op h o n e.pen.origin e)

-- XYORG sets it to what it is given, whatever it was, and leaves the position
pub origin-set : (o : Operands) (n : ℕ) (p : Dot) (e : Env) → (rule Op.Origin o n (based p e)).env ≡ based (point o.a o.b) e
origin-set o n p e = refl

-- ---- where the origin is (0, 0): what is painted of a shape is the shape where it stands, inside the screen, the pane and, in modes 1 and 2, the window
pub as-without : (e : Env) → e.pen.origin ≡ top_left → (S : Shape) (c : ℕ) (x y : ℤ)
    → (marks (placed (frame e) S c)).dots x y
    ≡ (on_screen e.bounds x y && in_pane e.bounds x y && (eqb e.pen.mode 0 || in_window e.pen.window x y) && S x y)
as-without e h S c x y = λ i. drawable-without (frame e) h x y i && stands i x y
  where
    stands : moved_by e.pen.origin S ≡ S
    stands = ap (λ (o : Dot). moved_by o S) h ∙ not-moved S
