-- `picture::ppm::put_colours` meets its contract: the dots so far are put.
use Rattle.std.proofs.Common.{take}
use Rattle.text.specs.Puts.{Puts}
use Rattle.picture.specs.Colours.{painted}
use Rattle.picture.proofs.ppm.put_colours.Given as goal

abbrev pub invariant-loop-dot : goal.invariant-loop-dot
invariant-loop-dot l = Puts (painted (take l.dot-index l.fitting)) l.initial.room 0 l.room l.at
