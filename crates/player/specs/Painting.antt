-- What an opcode paints, as data, so that no opcode is given the screen.
use Rattle.std.specs.Prelude.{ℕ, false, List, [], ◌∷◌}
use Rattle.raster.specs.declared.frame.Frame.{Frame}
use Rattle.raster.specs.Shapes.{Shape, moved_by}
use Rattle.raster.specs.Paint.{paint}

-- the drawable dots of a shape, in one colour
pub record Painting : Type 0 where
  pub frame : Frame
  pub shape : Shape
  pub colour : ℕ

-- a shape whose coordinates are relative to the frame's origin: it is moved there
abbrev pub placed : Frame → Shape → ℕ → Painting
placed f S c = record { frame = f; shape = moved_by f.origin S; colour = c }

-- the empty shape
abbrev pub nothing : Frame → Painting
nothing f = record { frame = f; shape = λ x y. false; colour = 0 }

-- the screen after a painting
abbrev pub painted : Painting → List ℕ → List ℕ
painted p s = paint p.frame p.shape p.colour s

-- the screen after several, in their order
abbrev pub drawn : List Painting → List ℕ → List ℕ
drawn [] s = s
drawn (p ∷ ps) s = drawn ps (painted p s)
