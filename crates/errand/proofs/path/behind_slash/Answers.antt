-- `errand::path::behind_slash` meets its contract: the last slash is the last that is found byte by byte.
use Rattle.errand.proofs.Paths.{no_slash, last_slash}
use Rattle.errand.proofs.path.behind_slash.Goals as goal

pub returns-in-Some : goal.returns-in-Some
returns-in-Some c = last_slash _ c.in-Some.ensures.within.0 c.in-Some.ensures.within.1 c.in-Some.ensures.last

pub returns-in-None : goal.returns-in-None
returns-in-None c = no_slash _ c.in-None.ensures.none
