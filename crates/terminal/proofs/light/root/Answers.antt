-- `terminal::light::root` meets its contract.
use Rattle.std.proofs.Common.{◌≡◌, min, sym, ◌∙◌, arith}
use Rattle.terminal.specs.Lights.{root_of}
use Rattle.terminal.proofs.Lighting.{root-bright, root-capped}
use Rattle.terminal.proofs.light.root.Goals as goal

pub returns-then-n-ge65025 : goal.returns-then-n-ge65025
unfolding root_of
returns-then-n-ge65025 c = sym (root-bright 255 c.args.n c.if-n-ge65025.true)

pub returns : goal.returns
unfolding root_of
returns c =
    let all : c.isqrt.result ≡ min c.isqrt.result 255 = omega arith in
    all ∙ sym (root-capped 255 c.args.n c.isqrt.result c.isqrt.ensures.square_le c.isqrt.ensures.next_square_gt)
