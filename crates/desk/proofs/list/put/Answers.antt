-- The word is put where there is room for it.
use Rattle.std.proofs.Common.{◌≡◌, ◌+◌, ◌-◌, replicate, rules}
use Rattle.desk.proofs.Listing.{puts}
use Rattle.desk.proofs.list.put.Goals as goal

pub returns-clause-room_after : goal.returns-clause-room_after
returns-clause-room_after c =
    let e : c.fill.new.self ≡ replicate (c.args.words + c.args.times - c.args.words) c.args.word = search rules in
    puts c.args.times c.args.word c.args.room.now c.args.words c.if-room-words.false c.requires e
