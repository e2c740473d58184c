-- Demand 1 of the rules: a refused opcode changes nothing, the opcodes before it stand, and the environment says that it was stopped.
use Prim.Native.Nat.{ℕ, zero, suc, ◌≤◌}
use mathlib.Core.Path.{◌≡◌, refl, sym, ap, ◌∙◌}
use mathlib.Core.Bool.{Bool, true, false, cond}
use mathlib.Core.List.{List}
use lib.ListN.{length}
use native.Mathlib.Omega.{arith}
use borrow.Author.Tests.{leb-true}
use lib.Dec.{leb}
use Rattle.std.specs.Prelude.{Some, None, Option}
use Rattle.player.specs.Player.{verdict, Outcome, Unstopped, LeavesUnstopped, OnlyRefusalsStop}
use Rattle.player.specs.Hosted.{Request}
use Rattle.player.specs.Stands.{LetsInLess, Stands}
use Rattle.player.proofs.Doors as Doors
use Rattle.player.proofs.Stands as Player
use Rattle.player.specs.declared.State.{State}
use Rattle.player.specs.declared.State.TheVariants.{Ended}
use Rattle.player.specs.Run.{Answer}
use Rattle.player.specs.Shown.{verdict_of}
use Rattle.rules.specs.Types.{WordIndex, Verdict, Running, Stopped, Operands}
use Rattle.rules.specs.Op as Op
use Rattle.rules.specs.Meaning.{Meaning, Unknown, Known, meaning}
use Rattle.rules.specs.Table.{form_of}
use Rattle.rules.specs.Operands.{at}
use Rattle.rules.specs.Environment.{Env, pushed, closed, innermost, stated}
use Rattle.rules.specs.Opcodes.{Rule, rule, taken, absolute, relative, reach, another}
use Rattle.rules.specs.Step.{check, unknown, cut, misnamed, ruled, carried, judged, step, afgis}
use Rattle.rules.specs.Door.{between, fits, door, machine, whole}
use Rattle.rules.proofs.Ranges.{one}

-- ---- no op stops an environment
abbrev Going : Env → Type 0
Going e = Unstopped e.state

reached : (t : Option WordIndex) (e : Env) → Going e → Going (reach t e)
reached (Some i) e h = h
reached None e h = h

jumped : (taken : Bool) (t : Option WordIndex) (e : Env) → Going e → Going (cond taken (reach t e) e)
jumped true t e h = reached t e h
jumped false t e h = h

passed : (t : Bool) (x y : Env) → Going x → Going y → Going (cond t x y)
passed true x y h k = h
passed false x y h k = k

rule-goes : (op : Op.Op) (o : Operands) (n : ℕ) (e : Env) → Going e → Going (rule op o n e).env
rule-goes Op.Noop o n e h = h
rule-goes Op.End o n e h = tt
rule-goes Op.Load o n e h = h
rule-goes Op.Add o n e h = h
rule-goes Op.And o n e h = h
rule-goes Op.Or o n e h = h
rule-goes Op.Multiply o n e h = h
rule-goes Op.Divide o n e h = h
rule-goes Op.Remainder o n e h = h
rule-goes Op.Increment o n e h = h
rule-goes Op.Decrement o n e h = h
rule-goes Op.Compare o n e h = h
rule-goes Op.Jump o n e h = jumped (taken o.a e) (absolute o.b n) e h
rule-goes Op.JumpBy o n e h = jumped (taken o.a e) (relative o.b e n) e h
rule-goes Op.Call o n e h = reached (absolute o.a n) (pushed e.flow.counter e) h
rule-goes Op.CallBy o n e h = reached (relative o.a e n) (pushed e.flow.counter e) h
rule-goes Op.Return o n e h = h
rule-goes Op.Repeat o n e h = h
rule-goes Op.EndRepeat o n e h = passed (another (innermost e)) _ (closed e) h h
rule-goes Op.ClipMode o n e h = h
rule-goes Op.ClipWindow o n e h = h
rule-goes Op.Colour o n e h = h
rule-goes Op.Pattern o n e h = h
rule-goes Op.MoveTo o n e h = h
rule-goes Op.MoveBy o n e h = h
rule-goes Op.Origin o n e h = h
rule-goes Op.Pixel o n e h = h
rule-goes Op.PixelColour o n e h = h
rule-goes Op.Line o n e h = h
rule-goes Op.LineTo o n e h = h
rule-goes Op.LineBy o n e h = h
rule-goes Op.Disc o n e h = h
rule-goes Op.Outline o n e h = h
rule-goes Op.Clear o n e h = h

ruled-goes : (m : Meaning) (w : List ℕ) (e : Env) → Going e → Going (ruled m w e).env
ruled-goes Unknown w e h = h
ruled-goes (Known op s) w e h = rule-goes op _ _ _ h

module _ (w : List ℕ) where
  checked : (n : ℕ) (i : WordIndex) (b : Bool) (x : Outcome Env) → LeavesUnstopped (afgis w) x → LeavesUnstopped (afgis w) (check n i b x)
  checked n i true x h = tt
  checked n i false x h = h

  judged-goes : (m : Meaning) (r : Rule) (e : Env) → Going r.env → LeavesUnstopped (afgis w) (judged m r w e)
  unfolding carried
  judged-goes m r e h =
      checked 20 _ (leb (length w) e.flow.counter.0) _
      (checked 21 _ (unknown m) _
      (checked 22 _ (cut m w e.flow.counter.0) _
      (checked 23 _ (misnamed m w e.flow.counter.0) _
      (checked 24 _ (r.breaks 24) _
      (checked 25 _ (r.breaks 25) _
      (checked 26 _ (r.breaks 26) _
      (checked 27 _ (r.breaks 27) _
      (checked 28 _ (r.breaks 28) _
      (checked 29 _ (r.breaks 29) _ h)))))))))

  only-refusals-stop : OnlyRefusalsStop (afgis w)
  unfolding step
  only-refusals-stop e h = let m = meaning (form_of (at w e.flow.counter.0)) in judged-goes m (ruled m w e) e (ruled-goes m w e (rw h tt))

at-most-14 : (q : Request (List ℕ)) (e : Env) (bytes : ℕ) → door q e bytes ≤ 14
unfolding door
at-most-14 q e bytes = Doors.at-most-14 q e.bounds (fits e) bytes

lets-in-less : LetsInLess machine
unfolding door
lets-in-less q e bytes k l h = Doors.lets-in-less q e.bounds (fits e) bytes k l h

-- ---- a call that began running and answers a number 20 to 29
module _ (w s : List ℕ) (e : Env) (budget : ℕ) (began : e.state ≡ Running) (refusal : between 20 29 (whole w s e budget).verdict.number ≡ true) where
  abbrev x : Answer Env
  x = whole w s e budget

  -- the refusal, with its place
  abbrev v : Verdict
  v = x.verdict

  -- the same call with a budget of just the steps that it counts
  abbrev y : Answer Env
  y = whole w s e x.steps

  above : 20 ≤ v.number
  above = leb-true 20 v.number (one _ _ refusal)

  -- the door's numbers are below 20
  entered : door (record { list = w; budget = budget }) e (length s) ≡ 0
  entered = by-door (door (record { list = w; budget = budget }) e (length s)) refl
    where
      by-door : (d : ℕ) → d ≡ door (record { list = w; budget = budget }) e (length s) → door (record { list = w; budget = budget }) e (length s) ≡ 0
      by-door zero is = sym is
      by-door (suc d) is =
          let said = Doors.refused-whole machine (record { list = w; budget = budget }) e s (suc d) is (λ z. omega (arith, z)) in
          let number : suc d ≡ v.number = ap (λ (a : Answer Env). a.verdict.number) said in
          absurd (omega (arith, number, above, is, at-most-14 (record { list = w; budget = budget }) e (length s)))

  -- a number from 20 on is that of a stopped state alone
  ends : (q : State) → x.env.state ≡ q → v ≡ verdict_of q → x.env.state ≡ Stopped v
  ends Running h z = absurd (omega (arith, ap (λ (u : Verdict). u.number) z, above))
  ends Ended h z = absurd (omega (arith, ap (λ (u : Verdict). u.number) z, above))
  ends (Stopped u) h z = h ∙ ap Stopped (sym z)

  stopped : x.env.state ≡ Stopped v
  stopped = ends x.env.state refl (Doors.says-state machine (λ w v e. refl) (record { list = w; budget = budget }) e s entered)

  pub stands : Stands (afgis w) v x y
  stands =
      Player.stands machine lets-in-less (λ w v e. refl) only-refusals-stop (record { list = w; budget = budget }) e s v
      (record { entered = entered; began = began; stopped = stopped })

  -- y is out of budget; x has its screen, its steps and, but for the state, its environment: so the refused opcode changed no variable and no pixel, and those
  -- before it stand
  pub nothing-changed : (y.verdict ≡ verdict 1) × (x.screen ≡ y.screen) × (x.steps ≡ y.steps) × (x.env ≡ stated (Stopped v) y.env)
  nothing-changed = let t = stands in (t.used_up, t.screen, t.steps, t.env)
