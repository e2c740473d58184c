-- `run_in`: refused at the door, or let in with what the loop relies on.
use Rattle.std.proofs.Common.{ℕ, List, refl, sym, ◌∙◌, length}
use Rattle.player.specs.Hosted.{Request}
use Rattle.player.proofs.Doors.{refused-whole, run-whole}
use Rattle.rules.specs.Environment.{held}
use Rattle.rules.proofs.DoorLaws.{opened}
use Rattle.run.specs.Inks.{machine}
use Rattle.run.proofs.Doors.{unfit-some}
use Rattle.run.proofs.run.run_in.Goals as goal

pub returns-in-Err : goal.returns-in-Err
returns-in-Err g c =
    let a = c.args in
    let q : Request (List ℕ) = record { list = a.list.now; budget = a.budget } in
    rw c.refused.ensures
    (refused-whole (machine (g.I.Ink.hue a.ink.now)) q (held a.env) a.screen.now _ (c.in-Err.ensures a.list.now a.env.variables refl)
    (unfit-some c.in-Err.unfit))

pub turns-steps-requires : goal.turns-steps-requires
turns-steps-requires g c =
    let a = c.args in
    let o = opened (record { list = a.list.now; budget = a.budget }) (held a.env) (length a.screen.now) (sym (c.in_default.ensures a.list.now a.env.variables refl)) in
    record { few = o.few; size = o.size; ranges = o.ranges; area = o.area }

pub returns : goal.returns
returns g c =
    let a = c.args in
    let q : Request (List ℕ) = record { list = a.list.now; budget = a.budget } in
    rw (c.verdict_of-verdict.ensures, c.state_of.ensures)
    (c.turns-steps.ensures
    ∙ run-whole (machine (g.I.Ink.hue a.ink.now)) q (held a.env) a.screen.now _ (c.in_default.ensures a.list.now a.env.variables refl) refl)
