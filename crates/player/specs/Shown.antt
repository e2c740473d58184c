-- What is seen of an opcode from outside, for which no screen is needed; what of it a loop paints; and what a state answers.
use Rattle.std.specs.Prelude.{ℕ, false, ◌&&◌, List, Option, Some, None, Result, Ok, Err}
use Rattle.raster.specs.declared.frame.Bounds.{Bounds}
use Rattle.raster.specs.declared.frame.Frame.{Frame}
use Rattle.raster.specs.Shapes.{Shape}
use Rattle.raster.specs.Frame.{drawable}
use Rattle.raster.specs.Paint.{recolour, column_of, row_of}
use Rattle.brush.specs.declared.Brush.{Brush}
use Rattle.brush.specs.Brush.{shape_of}
use Rattle.player.specs.declared.Verdict.{Verdict}
use Rattle.player.specs.declared.State.{State}
use Rattle.player.specs.declared.State.TheVariants.{Running, Ended, Stopped}
use Rattle.player.specs.Painting.{Painting, placed}
use Rattle.player.specs.Player.{verdict, Outcome, done, refused}

-- ---- the dots that are painted: all of them drawable, on a screen of this size, in this colour
pub record Marks : Type 0 where
  pub bounds : Bounds
  pub dots : Shape
  pub colour : ℕ

abbrev pub marks : Painting → Marks
marks p = record { bounds = p.frame.bounds; dots = λ x y. drawable p.frame x y && p.shape x y; colour = p.colour }

-- no dot
abbrev pub unmarked : Bounds → Marks
unmarked b = record { bounds = b; dots = λ x y. false; colour = 0 }

-- the screen with these dots painted
abbrev pub marked : Marks → List ℕ → List ℕ
marked m s = recolour (λ k. m.dots (column_of m.bounds k) (row_of m.bounds k)) m.colour s

-- ---- the environment afterwards with the dots that are painted, or the refusal with the environment that it left
pub data Shown (E : Type 0) : Type 0 where
  went : E → Marks → Shown E
  halted : Verdict → E → Shown E

-- of an opcode in the environment e, of which a refusal changes nothing
abbrev pub shown : {E : Type 0} → Outcome E → E → Shown E
shown (done e' p) e = went e' (marks p)
shown (refused v) e = halted v e

-- what a brush paints within a frame
abbrev pub brushed : Frame → Brush → Painting
brushed f p = placed f (shape_of p.figure) p.colour

-- what a program hands back of an opcode
abbrev pub Upshot : Type 0
Upshot = Result (Option Brush) Verdict

-- with the environment that it leaves: nothing is painted, or what the brush holds, or it was refused
abbrev pub seen : {E : Type 0} → (E → Frame) → Upshot → E → Shown E
seen frame (Ok None) e = went e (unmarked (frame e).bounds)
seen frame (Ok (Some p)) e = went e (marks (brushed (frame e) p))
seen frame (Err v) e = halted v e

-- ---- what a state answers; of one that still runs, that the budget is used up
abbrev pub verdict_of : State → Verdict
verdict_of Running = verdict 1
verdict_of Ended = verdict 0
verdict_of (Stopped v) = v
