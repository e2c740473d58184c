-- A line is its dots 0, 1, .., each stored or skipped.
use Rattle.std.proofs.Common.{◌≡◌, ℕ, suc, List}
use Rattle.raster.specs.declared.frame.Frame.{Frame}
use Rattle.raster.specs.Paint.{paint}
use Rattle.raster.specs.Stores.{store_first}
use Rattle.raster.proofs.Stores.{paint-first}
use Rattle.lines.specs.declared.line.Line.{Line}
use Rattle.lines.specs.Line.{long, line_dot, line}

pub paint-line : (f : Frame) (c : ℕ) (l : Line) (s : List ℕ) → paint f (line l) c s ≡ store_first f c (line_dot l) (suc (long l)) s
unfolding line
paint-line f c l s = paint-first f c (line_dot l) (suc (long l)) s
