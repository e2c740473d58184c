-- What a brush's invariant says of what it holds, by what the figure is; and the shape of a moved figure is the shape, moved.
use Rattle.raster.proofs.Moved.{dot-moved}
use Rattle.lines.proofs.Moved.{line-moved, dashed-moved}
use Rattle.circles.proofs.Moved.{disc-moved, outline-moved}
use Rattle.brush.proofs.Brushes.{of-dot, of-line, of-dashed, of-disc, of-outline}

pub ruleset figures = (of-dot, of-line, of-dashed, of-disc, of-outline, dot-moved, line-moved, dashed-moved, disc-moved, outline-moved)
