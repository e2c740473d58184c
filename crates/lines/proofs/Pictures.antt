-- The pictures of document 01's cases 9 and 10, of request T-02's two examples and of three dashed lines, by computation.
use Rattle.std.proofs.Common.{◌≡◌, ℕ, [], ◌∷◌, replicate, pos, refl}
use Rattle.raster.specs.declared.frame.Frame.{Frame}
use Rattle.raster.specs.Shapes.{top_left, some_below}
use Rattle.raster.specs.Frame.{drawable}
use Rattle.raster.specs.Paint.{recolour_from, paint}
use Rattle.lines.specs.declared.line.Line.{Line}
use Rattle.lines.specs.Line.{side, line}
use Rattle.lines.specs.Dashes.{bit, dashed}

-- a fresh frame on a 5 x 3 screen, its pane from column l on
abbrev fresh : ℕ → Frame
fresh l =
    record {
      bounds = record { width = 5; height = 3; pane = record { left = l; top = 0; right = 4; bottom = 2 } };
      origin = top_left;
      mode = 0;
      window = record { x0 = pos 0; y0 = pos 0; x1 = pos 4; y1 = pos 2 };
    }

abbrev slant : Line
slant = record { from = record { x = pos 0; y = pos 0 }; to = record { x = pos 4; y = pos 2 } }

abbrev back : Line
back = record { from = record { x = pos 4; y = pos 2 }; to = record { x = pos 0; y = pos 0 } }

abbrev slope : Line
slope = record { from = record { x = pos 0; y = pos 2 }; to = record { x = pos 4; y = pos 0 } }

pub case-9 : paint (fresh 0) (line slant) 15 (replicate 15 0)
    ≡ 15 ∷ 0 ∷ 0 ∷ 0 ∷ 0
    ∷ 0 ∷ 15 ∷ 15 ∷ 0 ∷ 0
    ∷ 0 ∷ 0 ∷ 0 ∷ 15 ∷ 15 ∷ []
unfolding paint drawable line side some_below recolour_from
case-9 = refl

pub case-10 : paint (fresh 2) (line slant) 15 (replicate 15 0)
    ≡ 0 ∷ 0 ∷ 0 ∷ 0 ∷ 0
    ∷ 0 ∷ 0 ∷ 15 ∷ 0 ∷ 0
    ∷ 0 ∷ 0 ∷ 0 ∷ 15 ∷ 15 ∷ []
unfolding paint drawable line side some_below recolour_from
case-10 = refl

-- T-02: drawn, and rubbed out from the other end
pub rubbed-out : paint (fresh 0) (line back) 0 (paint (fresh 0) (line slant) 15 (replicate 15 0)) ≡ replicate 15 0
unfolding paint drawable line side some_below recolour_from
rubbed-out = refl

-- T-02: a line that falls
pub falling : paint (fresh 0) (line slope) 15 (replicate 15 0)
    ≡ 0 ∷ 0 ∷ 0 ∷ 0 ∷ 15
    ∷ 0 ∷ 0 ∷ 15 ∷ 15 ∷ 0
    ∷ 15 ∷ 15 ∷ 0 ∷ 0 ∷ 0 ∷ []
unfolding paint drawable line side some_below recolour_from
falling = refl

-- T-03: every second dot, from the first point on
pub dashes : paint (fresh 0) (dashed 0x55555555 slant) 15 (replicate 15 0)
    ≡ 15 ∷ 0 ∷ 0 ∷ 0 ∷ 0
    ∷ 0 ∷ 0 ∷ 15 ∷ 0 ∷ 0
    ∷ 0 ∷ 0 ∷ 0 ∷ 0 ∷ 15 ∷ []
unfolding paint drawable dashed bit side some_below recolour_from
dashes = refl

-- T-03: one dot in three, and the same pattern from the other end: the direction is seen
pub ahead : paint (fresh 0) (dashed 0x49249249 slant) 15 (replicate 15 0)
    ≡ 15 ∷ 0 ∷ 0 ∷ 0 ∷ 0
    ∷ 0 ∷ 0 ∷ 0 ∷ 0 ∷ 0
    ∷ 0 ∷ 0 ∷ 0 ∷ 15 ∷ 0 ∷ []
unfolding paint drawable dashed bit side some_below recolour_from
ahead = refl

pub astern : paint (fresh 0) (dashed 0x49249249 back) 15 (replicate 15 0)
    ≡ 0 ∷ 0 ∷ 0 ∷ 0 ∷ 0
    ∷ 0 ∷ 15 ∷ 0 ∷ 0 ∷ 0
    ∷ 0 ∷ 0 ∷ 0 ∷ 0 ∷ 15 ∷ []
unfolding paint drawable dashed bit side some_below recolour_from
astern = refl
