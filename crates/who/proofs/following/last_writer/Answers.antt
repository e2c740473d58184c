-- `last_writer`: after k opcodes it has named who wrote the dot last among them, and the rest of the run may name a later one.
use Rattle.std.proofs.Common.{◌≡◌, ℕ, suc, ◌+◌, ◌-◌, ◌<◌, cond, List, [], Some, None, Ok, Err, true, refl, sym, ap, ◌∙◌}
use native.Mathlib.Nat.{sub-zero}
use Rattle.raster.specs.declared.frame.Bounds.{Bounds}
use Rattle.raster.specs.declared.frame.Frame.{Frame}
use Rattle.raster.specs.declared.dots.Dot.{Dot}
use Rattle.raster.specs.Frame.{Sane}
use Rattle.brush.specs.declared.Brush.{Brush}
use Rattle.player.specs.declared.Verdict.{Verdict}
use Rattle.player.specs.declared.State.TheVariants.{Running}
use Rattle.player.specs.Player.{Outcome}
use Rattle.player.specs.Shown.{Marks, marks, unmarked, brushed, went, shown, Upshot}
use Rattle.player.specs.Writing.{writes}
use Rattle.player.proofs.Turning.{painting, quiet, not-carried-out}
use Rattle.player.proofs.Writings as Writings
use Rattle.rules.specs.declared.environment.Registers.{Registers}
use Rattle.rules.specs.Environment.{Env, frame}
use Rattle.rules.specs.Step.{step, afgis}
use Rattle.rules.specs.Door.{fits}
use Rattle.rules.proofs.Ranges.{parted}
use Rattle.rules.proofs.DoorLaws.{sane}
use Rattle.lent.specs.declared.Stack.{Stack}
use Rattle.lent.specs.Lent.{look}
use Rattle.step.specs.Steps.{Steps, came}
use Rattle.run.proofs.Inks.{own-colour}
use Rattle.run.proofs.Stepping.{running, not-running, leaves-fits}
use Rattle.who.specs.declared.Writer.{Writer}
use Rattle.who.specs.Who.{naming, found, saying}
use Rattle.who.specs.Following.{Ready, pixel}
use Rattle.who.proofs.following.last_writer.Invariants.{Going}
use Rattle.who.proofs.following.last_writer.Goals.{then-painted, else-painted}
use Rattle.who.proofs.following.last_writer.Goals as goal

-- an opcode that was carried out in e, step k + 1: the dots that it painted, and r' is named behind it
record Turned (w : List ℕ) (e e' : Env) (d : Dot) (k : ℕ) (r r' : Writer) : Type 0 where
  dots : Marks
  shows : went e' dots ≡ shown ((afgis w).step e) e
  names : r' ≡ cond (dots.dots d.x d.y) (naming (k + 1) e dots.colour) r

-- ---- an opcode
module _ {w : List ℕ} {b : Bounds} {e₀ : Env} {budget : ℕ} {d : Dot} {g : Registers} {vs : List ℕ} {st : Stack} {r : Writer} {k : ℕ}
    (i : Going w b e₀ budget d g vs st r k) (zero : g.state ≡ 0) (u : Upshot) (g' : Registers) (vs' : List ℕ) (st' : Stack) (x : Steps u w g vs st g' vs' st') where
  -- the environment before it, and behind it
  abbrev old : Env
  old = look b g vs st

  abbrev new : Env
  new = look b g' vs' st'

  -- the state's number is 0: it runs
  runs : old.state ≡ Running
  runs = running _ (parted old i.ready.ranges).3 zero

  -- what is left is in range
  fits-on : {m : Marks} → went new m ≡ shown (step w old) old → fits new ≡ true
  fits-on shows = leaves-fits w i.ready.few old i.ready.ranges (λ c. c) (shows ∙ ap (λ (o : Outcome Env). shown o old) (sym (own-colour (step w old))))

  refuses : {v : Verdict} → u ≡ Err v → k < budget → r ≡ found w e₀ budget d
  refuses is h = Writings.stopped naming (afgis w) d budget k old r _ i.same _ h runs (not-carried-out (afgis w) frame old [] new (x b) is)

  may-ask : {p : Brush} → u ≡ Ok (Some p) → {f : Frame} → f ≡ frame new → {c l : ℕ} → c < b.width → l < b.height → Sane f × (c < f.bounds.width) × (l < f.bounds.height)
  may-ask is same h l = rw same (sane new i.ready.size (fits-on (painting (afgis w) frame old [] new (x b) is)), h, l)

  turned-quiet : u ≡ Ok None → {r' : Writer} → r' ≡ r → Turned w old new d k r r'
  turned-quiet is same = record { dots = unmarked (frame new).bounds; shows = quiet (afgis w) frame old [] new (x b) is; names = same }

  turned-brushed : {p : Brush} → u ≡ Ok (Some p) → {r' : Writer} {f : Frame} → f ≡ frame new
      → r' ≡ cond (writes (brushed f p) d) (record { number = 0; colour = p.colour; step = k + 1; opcode = g.counter }) r → Turned w old new d k r r'
  turned-brushed {p} is same e =
      record {
        dots = marks (brushed (frame new) p);
        shows = painting (afgis w) frame old [] new (x b) is;
        names = e ∙ (λ t. cond (writes (brushed (same t) p) d) (record { number = 0; colour = p.colour; step = k + 1; opcode = g.counter }) r);
      }

  -- one opcode more
  went_on : {r' : Writer} → Turned w old new d k r r' → k < budget → Going w b e₀ budget d g' vs' st' r' (k + 1)
  went_on t h =
      record {
        ready = record { few = i.ready.few; size = i.ready.size; ranges = fits-on t.shows };
        same =
            Writings.went_on naming (afgis w) d budget k old r _ i.same new t.dots t.shows h runs
            ∙ ap (λ (r : Writer). Writings.rest naming (afgis w) d r (suc (k + 1)) (budget - (k + 1)) new) (sym t.names);
      }

-- where the run began nobody is named yet
began : {w : List ℕ} {b : Bounds} {budget : ℕ} {d : Dot} {g : Registers} {vs : List ℕ} {st : Stack} {r : Writer} → Ready w b g vs st → r ≡ saying 0
    → Going w b (look b g vs st) budget d g vs st r 0
began ready is = record { ready = ready; same = rw (is, sub-zero) }

-- it rests where the state does not run
rests : {w : List ℕ} {b : Bounds} {e : Env} {budget : ℕ} {d : Dot} {g : Registers} {vs : List ℕ} {st : Stack} {r : Writer} {k : ℕ}
    → Going w b e budget d g vs st r k → (g.state ≡ 0 → ⊥) → r ≡ found w e budget d
rests {w} {budget = budget} {d} {r = r} {k} i n = Writings.rested naming (afgis w) d budget k _ r _ i.same (not-running _ n)

pub returns-then-registers-ne0 : goal.returns-then-registers-ne0
returns-then-registers-ne0 c = rests (began c.requires.ready c.saying-writer.ensures) c.if-registers-ne0.true

pub loop-steps-init : goal.loop-steps-init
loop-steps-init c = (began c.requires.ready c.saying-writer.ensures, c.if-registers-ne0.false)

pub named-requires : goal.named-requires
named-requires c =
    let z = c.step.new in
    let i = c.loop-steps.invariant in
    let h = c.requires.inside in
    may-ask i.0 i.1 (came c.step.result z.brush) z.registers z.vars z.stack c.step.ensures {p = z.brush} (rw (c.in-Ok.is, c.if-painted.true) refl)
    (c.frame-f.ensures z.vars z.stack) h.0 h.1

pub returns-in_default : goal.returns-in_default
returns-in_default c =
    let z = c.step.new in
    let i = c.loop-steps.invariant in
    refuses i.0 i.1 (came c.step.result z.brush) z.registers z.vars z.stack c.step.ensures (ap (λ r. came r z.brush) c.in_default.is) c.loop-steps-test.true

pub returns-then-registers-ne0-2 : goal.returns-then-registers-ne0-2
returns-then-registers-ne0-2 c =
    let a = c.args in
    let z = c.step.new in
    let i = c.loop-steps in
    let u = came c.step.result z.brush in
    let turned : Turned a.words.now (look a.b i.registers i.vars i.stack) (look a.b z.registers z.vars z.stack) (pixel a.d.column a.d.row) i.steps i.writer c.if-painted.writer =
    elim c.if-painted.branch [
      | then-painted w ↦ turned-brushed i.invariant.0 i.invariant.1 u z.registers z.vars z.stack c.step.ensures {p = z.brush}
          (rw (c.in-Ok.is, w.if-painted.true) refl) (w.frame-f.ensures z.vars z.stack) (w.writer-is ∙ w.named.ensures)
      | else-painted w ↦ turned-quiet i.invariant.0 i.invariant.1 u z.registers z.vars z.stack c.step.ensures
          (rw (c.in-Ok.is, w.if-painted.false) refl) w.writer-is
    ] in
    rests (went_on i.invariant.0 i.invariant.1 u z.registers z.vars z.stack c.step.ensures turned c.loop-steps-test.true) c.if-registers-ne0-2.true

pub loop-steps-preserved : goal.loop-steps-preserved
loop-steps-preserved c =
    let a = c.args in
    let z = c.step.new in
    let i = c.loop-steps in
    let u = came c.step.result z.brush in
    let turned : Turned a.words.now (look a.b i.registers i.vars i.stack) (look a.b z.registers z.vars z.stack) (pixel a.d.column a.d.row) i.steps i.writer c.if-painted.writer =
    elim c.if-painted.branch [
      | then-painted w ↦ turned-brushed i.invariant.0 i.invariant.1 u z.registers z.vars z.stack c.step.ensures {p = z.brush}
          (rw (c.in-Ok.is, w.if-painted.true) refl) (w.frame-f.ensures z.vars z.stack) (w.writer-is ∙ w.named.ensures)
      | else-painted w ↦ turned-quiet i.invariant.0 i.invariant.1 u z.registers z.vars z.stack c.step.ensures
          (rw (c.in-Ok.is, w.if-painted.false) refl) w.writer-is
    ] in
    (went_on i.invariant.0 i.invariant.1 u z.registers z.vars z.stack c.step.ensures turned c.loop-steps-test.true, c.if-registers-ne0-2.false)

pub returns : goal.returns
returns c =
    let a = c.args in
    let i = c.loop-steps in
    Writings.used_up naming (afgis a.words.now) (pixel a.d.column a.d.row) a.budget i.steps _ i.writer _ i.invariant.0.same c.loop-steps-test.false
