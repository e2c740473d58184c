-- `errand::path::beside` meets its contract: the folder is put, and the name behind it.
use Rattle.errand.proofs.Paths.{ends, put_whole}
use Rattle.errand.proofs.path.beside.Goals as goal

pub returns-clause-value : goal.returns-clause-value
returns-clause-value c = ends _ _ _ c.folder.ensures c.put-at.ensures.value c.put-at.ensures.room_after c.put.ensures.value

pub returns-clause-room_after : goal.returns-clause-room_after
returns-clause-room_after c = put_whole _ _ _ c.folder.ensures c.put-at.ensures.value c.put-at.ensures.room_after c.put.ensures.room_after
