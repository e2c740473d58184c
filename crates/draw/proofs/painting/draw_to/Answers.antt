-- `draw_to`: the line is from the position as it was.
use Rattle.std.proofs.Common.{refl}
use Rattle.brush.specs.Brush.{shape_of}
use Rattle.lent.proofs.Acting.{drawn}
use Rattle.draw.proofs.painting.draw_to.Goals as goal

pub returns : goal.returns
returns c b vs st = drawn _ _ _ refl refl (shape_of c.typed.result) _ refl c.typed.ensures.shape refl
