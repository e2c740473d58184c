-- `on_dashed`: the course's dots are the line's.
use Rattle.std.proofs.Common.{◌≡◌, sym, ap, ap₂, ◌∙◌}
use Rattle.raster.specs.Biased.{spot_of, dot_of}
use Rattle.raster.proofs.Coordinates.{spot_back}
use Rattle.lines.specs.declared.course.Course.{Course}
use Rattle.lines.specs.Courses.{line_of, course_of, dashed_b}
use Rattle.lines.proofs.Courses.{dashed-is}
use Rattle.contains.proofs.line.on_dashed.Goals as goal

pub returns : goal.returns
returns c =
    let g = c.args in
    let h = c.requires in
    let course : c.between.result.course ≡ course_of (spot_of (dot_of g.p)) (spot_of (dot_of g.q)) =
    c.between.ensures ∙ sym (ap₂ course_of (spot_back g.p) (spot_back g.q)) in
    c.on_course.ensures
    ∙ ap (λ (l : Course). dashed_b g.pattern l g.d.column g.d.row) course
    ∙ sym (dashed-is (line_of g.p g.q) h.0 h.1 g.d.column g.d.row g.pattern)
