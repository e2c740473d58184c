-- The ranges that the door looks at, part by part, with the bounds, which no opcode changes.
use mathlib.Core.Path.{◌≡◌, refl}
use mathlib.Core.Bool.{Bool, true, false, ◌&&◌, ◌||◌}
use lib.ListN.{length}
use lib.Dec.{leb}
pub use Rattle.player.proofs.Doors.{one, other}
use Rattle.rules.specs.Types.{Bounds}
use Rattle.rules.specs.Environment.{Pen, Flow, Env}
use Rattle.rules.specs.Door.{pane_fits, dot_fits, window_fits, stack_fits, index_fits, repeat_fits, every, state_fits, pen_fits, flow_fits, fits}

-- ---- tests
pub both : (a b : Bool) → a ≡ true → b ≡ true → (a && b) ≡ true
both a b p q = rw (p, q)

pub neither : (a b : Bool) → (a || b) ≡ false → (a ≡ false) × (b ≡ false)
neither true b p = (p, cc)
neither false b p = (refl, p)

-- ---- each part in range: of the fields that have a range, so that a part with the same ones has the same
abbrev pub PenFits : Pen → Type 0
PenFits p =
    record {
      position : dot_fits p.position ≡ true;
      origin : dot_fits p.origin ≡ true;
      mode : leb p.mode 2 ≡ true;
      window : window_fits p.window ≡ true;
    }

abbrev pub FlowFits : Flow → Type 0
FlowFits f =
    record {
      counter : index_fits f.counter ≡ true;
      depth : leb (length f.stack) 16 ≡ true;
      returns : every index_fits f.stack ≡ true;
      nesting : leb (length f.repeats) 8 ≡ true;
      blocks : every repeat_fits f.repeats ≡ true;
    }

pen-joined : (p : Pen) → PenFits p → pen_fits p ≡ true
pen-joined p h = simp (h.position, h.origin, h.mode, h.window)

pen-parted : (p : Pen) → pen_fits p ≡ true → PenFits p
pen-parted p h =
    let p1 = other (dot_fits p.position) _ h in
    let p2 = other (dot_fits p.origin) _ p1 in
    record { position = one _ _ h; origin = one _ _ p1; mode = one _ _ p2; window = other (leb p.mode 2) _ p2 }

flow-joined : (f : Flow) → FlowFits f → flow_fits f ≡ true
flow-joined f h = simp (h.counter, h.depth, h.returns, h.nesting, h.blocks)

flow-parted : (f : Flow) → flow_fits f ≡ true → FlowFits f
flow-parted f h =
    let both = other (index_fits f.counter) _ h in
    let st = one (stack_fits f.stack) _ both in
    let rs = other (stack_fits f.stack) _ both in
    record {
      counter = one _ _ h;
      depth = one _ _ st;
      returns = other (leb (length f.stack) 16) _ st;
      nesting = one _ _ rs;
      blocks = other (leb (length f.repeats) 8) _ rs;
    }

-- ---- every field in range, by its part, with the bounds
abbrev pub Fits : Bounds → Env → Type 0
Fits b e = (pane_fits e.bounds ≡ true) × PenFits e.pen × FlowFits e.flow × (state_fits e.state ≡ true) × (e.bounds ≡ b)

pub joined : {b : Bounds} (e : Env) → Fits b e → fits e ≡ true
joined e h = simp (h.0, pen-joined e.pen h.1, flow-joined e.flow h.2, h.3)

pub parted : (e : Env) → fits e ≡ true → Fits e.bounds e
parted e h =
    let p1 = other (pane_fits e.bounds) _ h in
    let p2 = other (pen_fits e.pen) _ p1 in
    (one _ _ h, pen-parted e.pen (one _ _ p1), flow-parted e.flow (one _ _ p2), other (flow_fits e.flow) _ p2, refl)
