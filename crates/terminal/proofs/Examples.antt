-- Worked examples.
use mathlib.Core.Path.{◌≡◌, refl}
use mathlib.Core.List.{◌∷◌, ◌++◌}
use Rattle.text.specs.Bytes.{bytes}
use Rattle.picture.specs.Colours.{rgb}
use Rattle.terminal.specs.declared.cell.Depth.TheVariants.{Direct, Cube}
use Rattle.terminal.specs.Views.{view, view_of}
use Rattle.terminal.specs.Spans.{span_of}
use Rattle.terminal.specs.Lights.{root_up_to, root_of}
use Rattle.text.specs.Decimal.{digits, decimal}
use Rattle.terminal.specs.Cells.{level, cube, paint, upper_half_block, cell}

smaller : view_of 640 400 80 24 ≡ view 640 400 76 48
unfolding view_of
smaller = refl

larger : view_of 8 5 80 24 ≡ view 8 5 76 48
unfolding view_of
larger = refl

narrow : view_of 2048 1 40 24 ≡ view 2048 1 40 2
unfolding view_of
narrow = refl

last-dot : span_of 75 76 640 ≡ record { from = 631; count = 9 }
unfolding span_of
last-dot = refl

half-light : root_of 32512 ≡ 180
unfolding root_up_to root_of
half-light = refl

white : cube (rgb 255 255 255) ≡ 231
unfolding level
white = refl

full-colours : cell Direct (rgb 0 85 255) (rgb 9 10 100) ≡ 27 ∷ (bytes "[38;2;0;85;255;48;2;9;10;100m" ++ upper_half_block)
unfolding cell paint digits decimal
full-colours = refl

few-colours : cell Cube (rgb 0 0 85) (rgb 85 255 85) ≡ 27 ∷ (bytes "[38;5;17;48;5;83m" ++ upper_half_block)
unfolding cell paint digits decimal level
few-colours = refl
