-- A run of opcodes where the loop is: k of them are carried out, and what is held now goes on as the run from the start does.
use Prim.Native.Nat.{ℕ, ◌+◌, ◌-◌, ◌<◌}
use mathlib.Core.Path.{◌≡◌, refl, sym, ap, ◌∙◌}
use mathlib.Core.List.{List}
use native.Mathlib.Nat.{sub-zero}
use native.Mathlib.Omega.{arith}
use Rattle.std.specs.Prelude.{Option, Ok, Err, Some}
use Rattle.raster.specs.declared.frame.Bounds.{Bounds}
use Rattle.raster.specs.declared.frame.Frame.{Frame}
use Rattle.raster.specs.Frame.{Fitting}
use Rattle.brush.specs.declared.Brush.{Brush}
use Rattle.player.specs.declared.Verdict.{Verdict}
use Rattle.player.specs.declared.State.{State}
use Rattle.player.specs.declared.State.TheVariants.{Running, Ended, Stopped}
use Rattle.player.specs.Player.{verdict}
use Rattle.player.specs.Run.{answer, by_state, runs}
use Rattle.player.specs.Shown.{verdict_of}
use Rattle.player.proofs.Turning.{Turned, turned-long, rest, go_on}
use Rattle.player.proofs.Turning as Turning
use Rattle.rules.specs.declared.environment.Registers.{Registers}
use Rattle.rules.specs.Environment.{Env, frame}
use Rattle.rules.specs.Step.{afgis}
use Rattle.rules.proofs.Ranges.{parted}
use Rattle.lent.specs.declared.Stack.{Stack}
use Rattle.lent.specs.Lent.{look}
use Rattle.lent.specs.Shown.{Upshot, stop}
use Rattle.step.specs.Steps.{Steps}
use Rattle.run.specs.Inks.{Hue, inked}
use Rattle.run.specs.Turns.{Ready, left}
use Rattle.run.proofs.Inks.{tells, refused-in}
use Rattle.run.proofs.Stepping.{running, not-running, leaves-fits, may-draw, stopped}

-- e₀ and s₀ are what it began with
pub record Going (h : Hue) (w : List ℕ) (b : Bounds) (e₀ : Env) (s₀ : List ℕ) (budget : ℕ) (r : Registers) (vs : List ℕ) (st : Stack) (s : List ℕ) (k : ℕ) : Type 0 where
  pub ready : Ready w b r vs st s
  pub same : runs (inked h (afgis w)) budget e₀ s₀ 0 ≡ runs (inked h (afgis w)) (budget - k) (look b r vs st) s k

-- at the start nothing is carried out yet
pub began : (h : Hue) {w : List ℕ} {b : Bounds} {r : Registers} {vs : List ℕ} {st : Stack} {s : List ℕ} (budget : ℕ) → Ready w b r vs st s
    → Going h w b (look b r vs st) s budget r vs st s 0
began h budget ready = record { ready = ready; same = rw sub-zero }

module _ {h : Hue} {w : List ℕ} {b : Bounds} {e₀ : Env} {s₀ : List ℕ} {budget : ℕ} {r : Registers} {vs : List ℕ} {st : Stack} {s : List ℕ} {k : ℕ}
    (g : Going h w b e₀ s₀ budget r vs st s k) where
  -- it rests where the state does not run
  pub rests : (r.state ≡ 0 → ⊥) → left (look b r vs st) s k ≡ runs (inked h (afgis w)) budget e₀ s₀ 0
  rests n = rest (inked h (afgis w)) budget k (look b r vs st) s _ g.same (not-running _ n)

  -- and where the budget is used up
  pub spent : budget ≡ k → left (look b r vs st) s budget ≡ runs (inked h (afgis w)) budget e₀ s₀ 0
  unfolding runs
  spent is =
      let none : budget - k ≡ 0 = omega (arith, is) in
      ap (λ (n : ℕ). left (look b r vs st) s n) is ∙ at_end (look b r vs st).state ∙ sym (g.same ∙ ap (λ (n : ℕ). runs (inked h (afgis w)) n (look b r vs st) s k) none)
    where
      at_end : (q : State) → answer (verdict_of q) (look b r vs st) s k ≡ by_state (inked h (afgis w)) q (look b r vs st) s k (answer (verdict 1) (look b r vs st) s k)
      at_end Running = refl
      at_end Ended = refl
      at_end (Stopped v) = refl

-- ---- an opcode, and the turn that it is in
module _ {h : Hue} {w : List ℕ} {b : Bounds} {e₀ : Env} {s₀ : List ℕ} {budget : ℕ} {r : Registers} {vs : List ℕ} {st : Stack} {s : List ℕ} {k : ℕ}
    (g : Going h w b e₀ s₀ budget r vs st s k) (zero : r.state ≡ 0) (u : Upshot) (r' : Registers) (vs' : List ℕ) (st' : Stack) (x : Steps u w r vs st r' vs' st') where
  -- the environment before it, and after it
  abbrev old : Env
  old = look b r vs st

  abbrev new : Env
  new = look b r' vs' st'

  abbrev shade : ℕ → ℕ
  shade = h r.counter

  -- the state's number is 0, so it runs
  runs-on : old.state ≡ Running
  runs-on = running _ (parted old g.ready.ranges).3 zero

  pub refuses : {v : Verdict} {r₁ : Registers} → u ≡ Err v → r₁ ≡ record r' { state = v.number; place = v.place } → k < budget
      → left (look b r₁ vs' st') s k ≡ runs (inked h (afgis w)) budget e₀ s₀ 0
  refuses {v} is now more =
      let shows = refused-in h w old u new (x b) is in
      let fits = leaves-fits w g.ready.few old g.ready.ranges shade shows in
      ap (λ (e : Env). left e s k) (stopped b r' vs' st' v (parted (stop v new) fits).3 now)
      ∙ Turning.stop (inked h (afgis w)) budget k old s _ g.same (λ v e. refl) new more runs-on shows

  pub may-paint : {o : Option Brush} {p : Brush} {f : Frame} → u ≡ Ok o → o ≡ Some p → f ≡ frame new → Fitting f s
  may-paint is some same =
      may-draw new s same g.ready.size (leaves-fits w g.ready.few old g.ready.ranges shade (rw (is, some) at (tells h w old u new (x b)))) g.ready.area

  -- one opcode more
  pub went_on : {s' : List ℕ} → Turned (inked h (afgis w)) old s new s' → k < budget → Going h w b e₀ s₀ budget r' vs' st' s' (k + 1)
  went_on {s'} turned more =
      record {
        ready = record {
          few = g.ready.few;
          size = g.ready.size;
          ranges = leaves-fits w g.ready.few old g.ready.ranges shade turned.shows;
          area = turned-long _ turned ∙ g.ready.area;
        };
        same = go_on (inked h (afgis w)) budget k old s _ g.same new s' turned more runs-on;
      }
