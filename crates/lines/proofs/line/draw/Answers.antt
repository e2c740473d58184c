-- `lines::line::draw` meets its contract: what is drawn with the pattern.
use Rattle.std.proofs.Common.{◌∙◌}
use Rattle.lines.proofs.Walks.{stretched}
use Rattle.lines.proofs.Drawn.{framed, may-cut, none-drawn, all_seen, some-drawn}
use Rattle.lines.proofs.line.draw.Goals as goal

pub dots_within-s-requires : goal.dots_within-s-requires
dots_within-s-requires g c =
    let a = c.args in
    let v = framed a.f a.screen.now a.p a.q c.requires.fitting c.requires.near_b c.between-o.ensures c.rect_of.ensures in
    may-cut v

-- ---- where some dot is within
pub walk-requires : goal.walk-requires
walk-requires g c =
    let a = c.args in
    let v = framed a.f a.screen.now a.p a.q c.requires.fitting c.requires.near_b c.between-o.ensures c.rect_of.ensures in
    let cut = c.dots_within-s.ensures in
    record { all_seen = all_seen v cut; some_dot = (c.if-s.true, cut.limit) }

pub returns-then-s : goal.returns-then-s
returns-then-s g c =
    let a = c.args in
    let v = framed a.f a.screen.now a.p a.q c.requires.fitting c.requires.near_b c.between-o.ensures c.rect_of.ensures in
    let o = g.P.Pattern.bits a.pattern in
    let d = c.dots_within-s.result in
    ◌∙◌ {b = stretched a.f.bounds.width o c.between-o.result.course d.from d.past a.c a.screen.now} c.walk.ensures (some-drawn v c.dots_within-s.ensures o a.c)

-- ---- where none is
pub returns-else-s : goal.returns-else-s
returns-else-s g c =
    let a = c.args in
    let v = framed a.f a.screen.now a.p a.q c.requires.fitting c.requires.near_b c.between-o.ensures c.rect_of.ensures in
    none-drawn v c.dots_within-s.ensures c.if-s.false (g.P.Pattern.bits a.pattern) a.c
