-- `misnamed`: an index is its number.
use Rattle.player.specs.Player.{fault}
use Rattle.fetch.proofs.source.misnamed.Goals as goal

pub returns : goal.returns
returns c = λ i. fault (c.number.ensures i) (record { 0 = c.past.ensures i })
