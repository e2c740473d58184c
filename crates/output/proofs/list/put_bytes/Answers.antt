-- `output::list::put_bytes` meets its contract: the words so far are put.
use Rattle.std.proofs.Common.{◌≡◌, ℕ, ◌/◌, length, take, min, List, arith}
use Rattle.std.proofs.lemmas.List.{length-take}
use Rattle.output.proofs.Putting.{none, one_word, room-on, all-put}
use Rattle.output.proofs.list.put_bytes.Goals as goal

pub loop-word-init : goal.loop-word-init
loop-word-init c = none (take c.min.result c.args.words.now) c.args.room.now

pub put_word-at-requires : goal.put_word-at-requires
put_word-at-requires c =
    let r = room-on (take c.min.result c.args.words.now) c.loop-word.word-index c.loop-word.invariant in
    omega (arith, length-take c.min.result c.args.words.now)

pub loop-word-preserved : goal.loop-word-preserved
loop-word-preserved c =
    one_word (take c.min.result c.args.words.now) c.loop-word.word-index c.loop-word-test.true c.loop-word.invariant c.put_word-at.ensures

pub returns : goal.returns
returns c =
    let words : List ℕ = take c.min.result c.args.words.now in
    let r = room-on words c.loop-word.word-index c.loop-word.invariant in
    let n : length words ≡ min c.min.result (length c.args.words.now) = length-take c.min.result c.args.words.now in
    let p = all-put c.args.words.now c.loop-word.word-index (length c.args.room.now / 2) c.loop-word-test.false c.min.ensures (omega arith) c.loop-word.invariant in
    record { value = p.0; room_after = p.1; prefix_len = p.2 }
