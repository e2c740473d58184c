-- What is still to be read, read, is what is asked; the words read so far are within the room.
use Rattle.std.proofs.Common.{◌≡◌, ℕ, sym, ap, ◌∙◌, arith, rules}
use Rattle.std.specs.Prelude.{Result, Err}
use Rattle.desk.specs.declared.fault.Fault.{Fault}
use Rattle.desk.specs.Lists.{loaded}
use Rattle.text.specs.Items.{items as items_of}
use Rattle.desk.proofs.Listing.{none_left, stops, goes_on}
use Rattle.desk.proofs.list.read_list.Goals as goal

pub returns-in_err-words-clause-room_after : goal.returns-in_err-words-clause-room_after
returns-in_err-words-clause-room_after c =
    let e : c.from_residual.result ≡ Err c.in_err-words.field-0.0 = search rules in
    ap (λ (r : Result ℕ Fault). loaded r c.read_item.new.room) e
    ∙ sym (stops (items_of c.args.line.now) c.loop-k.k c.loop-k.room c.loop-k.words (omega (arith, c.count-k-end.ensures)) c.item.ensures c.read_item.ensures.room_after c.in_err-words.was)
    ∙ c.loop-k.invariant.ahead

pub loop-k-preserved : goal.loop-k-preserved
loop-k-preserved c =
    record {
      within = search rules;
      ahead = sym (goes_on (items_of c.args.line.now) c.loop-k.k c.loop-k.room c.loop-k.words (omega (arith, c.count-k-end.ensures)) c.item.ensures c.read_item.ensures.room_after c.in_ok-words.was) ∙ c.loop-k.invariant.ahead;
    }

pub returns-clause-room_after : goal.returns-clause-room_after
returns-clause-room_after c = sym (none_left (items_of c.args.line.now) c.loop-k.k c.loop-k.room c.loop-k.words (omega (arith, c.count-k-end.ensures))) ∙ c.loop-k.invariant.ahead
