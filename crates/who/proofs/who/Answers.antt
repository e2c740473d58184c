-- `who`: refused at the door or for its dot, or what the loop found.
use Rattle.std.proofs.Common.{◌≡◌, ℕ, ◌*◌, List, sym, ap, ◌∙◌, refl}
use Rattle.raster.specs.declared.dots.Dot.{Dot}
use Rattle.player.specs.Hosted.{Request}
use Rattle.rules.specs.declared.environment.Env as Held
use Rattle.rules.specs.Environment.{held}
use Rattle.rules.specs.Door as Door
use Rattle.rules.proofs.DoorLaws.{Open, opened}
use Rattle.run.proofs.Doors.{unfit-some}
use Rattle.who.specs.Who.{door, saying, found}
use Rattle.who.proofs.Numbers.{refused, outside, inside}
use Rattle.who.proofs.who.Goals as goal

-- ---- the door was asked of the environment that came in, and of a screen of its size
module _ (w : List ℕ) (e : Held.Env) (budget : ℕ) where
  abbrev q : Request (List ℕ)
  q = record { list = w; budget = budget }

  said : {d n : ℕ} → d ≡ Door.door q (held e) n → n ≡ e.bounds.width * e.bounds.height → d ≡ door q (held e)
  said asked area = asked ∙ ap (Door.door q (held e)) area

  -- it let in
  module _ {n : ℕ} (asked : 0 ≡ Door.door q (held e) n) (area : n ≡ e.bounds.width * e.bounds.height) where
    let-in : door q (held e) ≡ 0
    let-in = sym (said asked area)

    opening : Open q (held e) (e.bounds.width * e.bounds.height)
    opening = opened q (held e) _ let-in

pub returns-in-Err : goal.returns-in-Err
returns-in-Err c =
    let a = c.args in
    let n = c.number.ensures in
    c.saying.ensures
    ∙ refused a.list.now (held a.env) a.budget a.dot _ (n ∙ said a.list.now a.env a.budget (c.in-Err.ensures a.list.now a.env.variables refl) c.area.ensures)
    (λ z. unfit-some c.in-Err.unfit (sym n ∙ z))

pub pixel_of-requires : goal.pixel_of-requires
pixel_of-requires c = let a = c.args in (opening a.list.now a.env a.budget (c.in_default.ensures a.list.now a.env.variables refl) c.area.ensures).size

pub returns-in_default-pixel_of : goal.returns-in_default-pixel_of
returns-in_default-pixel_of c =
    let a = c.args in
    c.saying-in_default-pixel_of.ensures
    ∙ ap saying c.number-in_default-pixel_of.ensures
    ∙ outside a.list.now (held a.env) a.budget a.dot (let-in a.list.now a.env a.budget (c.in_default.ensures a.list.now a.env.variables refl) c.area.ensures) c.in_default-pixel_of.ensures

-- what is lent to the loop is the environment
pub last_writer-requires-clause-ready : goal.last_writer-requires-clause-ready
last_writer-requires-clause-ready c =
    let a = c.args in
    let o = opening a.list.now a.env a.budget (c.in_default.ensures a.list.now a.env.variables refl) c.area.ensures in
    record { few = o.few; size = o.size; ranges = o.ranges }

pub returns : goal.returns
returns c =
    let a = c.args in
    let d = c.in-Some.ensures in
    c.last_writer.ensures
    ∙ (ap (λ (d : Dot). found a.list.now (held a.env) a.budget d) d.dot
    ∙ inside a.list.now (held a.env) a.budget a.dot (let-in a.list.now a.env a.budget (c.in_default.ensures a.list.now a.env.variables refl) c.area.ensures) d.on)
