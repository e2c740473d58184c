-- The bytes of a row of the window.
use Rattle.std.specs.Prelude.{ℕ, zero, suc, ◌+◌, ◌*◌, List, [], ◌++◌}
use Rattle.picture.specs.declared.palette.Colour.{Colour}
use Rattle.terminal.specs.declared.cell.Depth.{Depth}
use Rattle.terminal.specs.declared.fit.View.{View}
use Rattle.terminal.specs.Cells.{cell, line_end}
use Rattle.terminal.specs.Means.{mean_of}
use Rattle.terminal.specs.Spans.{span_of}

-- the colour of the picture's dot (i, j)
unfoldable pub dot_of : List ℕ → View → ℕ → ℕ → Colour
dot_of screen v i j = mean_of screen v.width (span_of i v.columns v.width) (span_of j v.lines v.height)

-- the first n characters of row j
unfoldable pub cells : Depth → List ℕ → View → ℕ → ℕ → List ℕ
cells d screen v j zero = []
cells d screen v j (suc n) = cells d screen v j n ++ cell d (dot_of screen v n (2 * j)) (dot_of screen v n (2 * j + 1))

abbrev pub line : Depth → List ℕ → View → ℕ → List ℕ
line d screen v j = cells d screen v j v.columns ++ line_end
