-- `on_line`: with a pattern of all ones the dashes are the line.
use mathlib.Core.Path.{◌∙◌}
use lib.IntN.{pos}
use Rattle.lines.specs.Courses.{line_of}
use Rattle.lines.proofs.Patterns.{all_ones}
use Rattle.contains.proofs.line.on_line.Goals as goal

pub returns : goal.returns
returns c = let g = c.args in c.on_dashed.ensures ∙ all_ones (line_of g.p g.q) (pos g.d.column) (pos g.d.row)
