-- `text::join::put` meets its contract: what is still to be put, put, leaves what is asked.
use Rattle.std.proofs.Common.{ℕ, length-take, sym, ◌∙◌, arith}
use Rattle.text.proofs.Joining.{none_left}
use Rattle.text.proofs.join.put.Goals as goal

pub returns-clause-room_after : goal.returns-clause-room_after
returns-clause-room_after c = sym (none_left c.args.part.now c.loop-i.room c.args.at c.loop-i.i (omega (arith, length-take {A = ℕ}))) ∙ c.loop-i.invariant
