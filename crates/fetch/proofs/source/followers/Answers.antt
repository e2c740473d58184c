-- `followers`: each value is the one of its place.
use Rattle.fetch.proofs.source.followers.Goals as goal

pub returns : goal.returns
returns c = cc
