-- The colour of a part of the screen.
use Rattle.std.specs.Prelude.{ℕ, zero, suc, ◌+◌, ◌*◌, List, [], ◌++◌, take, drop}
use Rattle.picture.specs.declared.palette.Colour.{Colour}
use Rattle.terminal.specs.declared.span.Span.{Span}
use Rattle.terminal.specs.Lights.{dark, with_dots, shade}

-- the dots of a row of the screen from one on
abbrev pub row : List ℕ → ℕ → Span → ℕ → List ℕ
row screen width across y = take across.count (drop (y * width + across.from) screen)

-- n rows from `top` on
unfoldable pub rows : List ℕ → ℕ → Span → ℕ → ℕ → List ℕ
rows screen width across top zero = []
rows screen width across top (suc n) = rows screen width across top n ++ row screen width across (top + n)

-- the mean light of the part's dots
abbrev pub mean_of : List ℕ → ℕ → Span → Span → Colour
mean_of screen width across down = shade (with_dots dark (rows screen width across down.from down.count)) (across.count * down.count)
