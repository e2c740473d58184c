-- `lines::line::draw_line` meets its contract: what is drawn with a pattern of all ones is the line.
use Rattle.std.proofs.Common.{ap, ◌∙◌}
use Rattle.raster.specs.Shapes.{Shape}
use Rattle.raster.specs.Paint.{paint}
use Rattle.lines.specs.Courses.{line_of}
use Rattle.lines.proofs.Patterns.{solid-line}
use Rattle.lines.proofs.line.draw_line.Goals as goal

pub returns : goal.returns
returns c = let a = c.args in c.draw.ensures ∙ ap (λ (S : Shape). paint a.f S a.c a.screen.now) (solid-line (line_of a.p a.q))
