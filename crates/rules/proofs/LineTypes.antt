-- Request T-03: with a pattern of all ones a line of type 1 is a line of type 0, in the whole answer of each line opcode; and what T-02 says is kept for type 0.
use Prim.Native.Nat.{ℕ}
use mathlib.Core.Path.{◌≡◌, ap, ◌∙◌}
use mathlib.Core.Bool.{Bool, ◌||◌}
use lib.IntN.{ℤ}
use Rattle.raster.specs.Shapes.{shifted}
use Rattle.lines.specs.Line.{line}
use Rattle.lines.specs.Dashes.{dashed, solid}
use Rattle.lines.proofs.Directions.{swap_ends}
use Rattle.lines.proofs.Patterns.{solid-line}
use Rattle.player.specs.Player.{Outcome}
use Rattle.rules.specs.Types.{Dot, Line, Operands}
use Rattle.rules.specs.Op as Op
use Rattle.rules.specs.Environment.{Env, moved}
use Rattle.rules.specs.Opcodes.{Rule, point, far, typed, draws, rule}
use Rattle.rules.specs.Step.{carried}

-- operands with another type
abbrev pub of_type : ℕ → Operands → Operands
of_type type o = record { a = type; b = o.b; c = o.c; d = o.d; e = o.e; dest = o.dest }

module _ (out : Bool) (p q : Dot) (e : Env) (h : e.pen.pattern ≡ solid) where
  abbrev l : Line
  l = record { from = p; to = q }

  same-dots : dashed e.pen.pattern l ≡ line l
  same-dots = ap (λ (o : ℕ). dashed o l) h ∙ solid-line l

  drawn-alike : draws 1 out p q e ≡ draws 0 out p q e
  drawn-alike = let r = draws 0 out p q e in λ i. record { breaks = r.breaks; env = r.env; shape = same-dots i; colour = r.colour }

-- ---- what comes of a line op in a type, the opcode at the counter of e' and the next one at that of e: refused, or the environment and every dot
abbrev pub answered : Op.Op → ℕ → Operands → ℕ → Env → Env → Outcome Env
answered op type o n e e' = carried (rule op (of_type type o) n e) e'

module _ (o : Operands) (n : ℕ) (e e' : Env) (h : e.pen.pattern ≡ solid) where
  pub line-alike : answered Op.Line 1 o n e e' ≡ answered Op.Line 0 o n e e'
  line-alike = let p = point o.b o.c in let q = point o.d o.e in ap (λ (r : Rule). carried r e') (drawn-alike (far p || far q) p q e h)

  pub line-to-alike : answered Op.LineTo 1 o n e e' ≡ answered Op.LineTo 0 o n e e'
  line-to-alike = let q = point o.b o.c in ap (λ (r : Rule). carried r e') (drawn-alike (far q) e.pen.position q (moved q e) h)

  pub line-by-alike : answered Op.LineBy 1 o n e e' ≡ answered Op.LineBy 0 o n e e'
  line-by-alike =
      let d = point o.b o.c in
      let q = shifted e.pen.position d in
      ap (λ (r : Rule). carried r e') (drawn-alike (far d || far q) e.pen.position q (moved q e) h)

-- ---- T-02's statement is kept for type 0: swapping the ends gives the same dots
pub swap-kept : (o : ℕ) (p q : Dot) (x y : ℤ) → typed 0 o (record { from = p; to = q }) x y ≡ typed 0 o (record { from = q; to = p }) x y
swap-kept o p q x y = swap_ends p q x y
