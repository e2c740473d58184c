-- No opcode changes size or pane, and each paints inside its frame: so demand 3 holds of the rules.
use Prim.Native.Nat.{ℕ}
use mathlib.Core.Path.{◌≡◌, refl}
use mathlib.Core.Bool.{Bool, true, false, cond}
use mathlib.Core.List.{List}
use lib.ListN.{length}
use lib.Dec.{leb}
use Rattle.std.specs.Prelude.{Some, None, Option}
use Rattle.player.specs.Player.{Outcome}
use Rattle.player.specs.Pane.{Apart}
use Rattle.player.specs.Mixing.{Mix, ones, twos, mixed}
use Rattle.player.specs.Undisturbed.{Undisturbed}
use Rattle.player.specs.Hosted.{callable}
use Rattle.player.specs.Keeps.{Stays, Keeps}
use Rattle.player.proofs.Hosts
use Rattle.rules.specs.Types.{WordIndex, Bounds, Operands}
use Rattle.rules.specs.Op as Op
use Rattle.rules.specs.Meaning.{Meaning, Unknown, Known, meaning}
use Rattle.rules.specs.Table.{form_of}
use Rattle.rules.specs.Operands.{at}
use Rattle.rules.specs.Environment.{Env, pushed, closed, innermost}
use Rattle.rules.specs.Opcodes.{Rule, rule, taken, absolute, relative, reach, another}
use Rattle.rules.specs.Step.{check, unknown, cut, misnamed, ruled, carried, judged, step, afgis}
use Rattle.rules.specs.Door.{machine}

abbrev bounds : Env → Bounds
bounds e = e.bounds

-- ---- size and pane after each op
reached : (t : Option WordIndex) (e : Env) → (reach t e).bounds ≡ e.bounds
reached (Some i) e = refl
reached None e = refl

jumped : (taken : Bool) (t : Option WordIndex) (e : Env) → (cond taken (reach t e) e).bounds ≡ e.bounds
jumped true t e = reached t e
jumped false t e = refl

passed : (t : Bool) (x y e : Env) → x.bounds ≡ e.bounds → y.bounds ≡ e.bounds → (cond t x y).bounds ≡ e.bounds
passed true x y e h k = h
passed false x y e h k = k

rule-keeps : (op : Op.Op) (o : Operands) (n : ℕ) (e : Env) → (rule op o n e).env.bounds ≡ e.bounds
rule-keeps Op.Noop o n e = refl
rule-keeps Op.End o n e = refl
rule-keeps Op.Load o n e = refl
rule-keeps Op.Add o n e = refl
rule-keeps Op.And o n e = refl
rule-keeps Op.Or o n e = refl
rule-keeps Op.Multiply o n e = refl
rule-keeps Op.Divide o n e = refl
rule-keeps Op.Remainder o n e = refl
rule-keeps Op.Increment o n e = refl
rule-keeps Op.Decrement o n e = refl
rule-keeps Op.Compare o n e = refl
rule-keeps Op.Jump o n e = jumped (taken o.a e) (absolute o.b n) e
rule-keeps Op.JumpBy o n e = jumped (taken o.a e) (relative o.b e n) e
rule-keeps Op.Call o n e = reached (absolute o.a n) (pushed e.flow.counter e)
rule-keeps Op.CallBy o n e = reached (relative o.a e n) (pushed e.flow.counter e)
rule-keeps Op.Return o n e = refl
rule-keeps Op.Repeat o n e = refl
rule-keeps Op.EndRepeat o n e = passed (another (innermost e)) _ (closed e) e refl refl
rule-keeps Op.ClipMode o n e = refl
rule-keeps Op.ClipWindow o n e = refl
rule-keeps Op.Colour o n e = refl
rule-keeps Op.Pattern o n e = refl
rule-keeps Op.MoveTo o n e = refl
rule-keeps Op.MoveBy o n e = refl
rule-keeps Op.Origin o n e = refl
rule-keeps Op.Pixel o n e = refl
rule-keeps Op.PixelColour o n e = refl
rule-keeps Op.Line o n e = refl
rule-keeps Op.LineTo o n e = refl
rule-keeps Op.LineBy o n e = refl
rule-keeps Op.Disc o n e = refl
rule-keeps Op.Outline o n e = refl
rule-keeps Op.Clear o n e = refl

ruled-keeps : (m : Meaning) (w : List ℕ) (e : Env) → (ruled m w e).env.bounds ≡ e.bounds
ruled-keeps Unknown w e = refl
ruled-keeps (Known op s) w e = rule-keeps op _ _ _

-- ---- a check refuses, and a refusal does nothing
checked : (n : ℕ) (i : WordIndex) (b : Bool) (e : Env) (x : Outcome Env) → Stays bounds e x → Stays bounds e (check n i b x)
checked n i true e x h = tt
checked n i false e x h = h

stays : (m : Meaning) (r : Rule) (w : List ℕ) (e : Env) → r.env.bounds ≡ e.bounds → Stays bounds e (judged m r w e)
unfolding carried
stays m r w e h =
    checked 20 _ (leb (length w) e.flow.counter.0) e _
    (checked 21 _ (unknown m) e _
    (checked 22 _ (cut m w e.flow.counter.0) e _
    (checked 23 _ (misnamed m w e.flow.counter.0) e _
    (checked 24 _ (r.breaks 24) e _
    (checked 25 _ (r.breaks 25) e _
    (checked 26 _ (r.breaks 26) e _
    (checked 27 _ (r.breaks 27) e _
    (checked 28 _ (r.breaks 28) e _
    (checked 29 _ (r.breaks 29) e _ (refl, h))))))))))

pub keeps : (w : List ℕ) → Keeps bounds (afgis w)
unfolding step
keeps w = record { steps = λ e. at-meaning (meaning (form_of (at w e.flow.counter.0))) e; stops = λ v e. refl }
  where
    at-meaning : (m : Meaning) (e : Env) → Stays bounds e (judged m (ruled m w e) w e)
    at-meaning m e = stays m (ruled m w e) w e (ruled-keeps m w e)

-- ---- demand 3
module _ (a b : Env) (apart : Apart a.bounds b.bounds) (s : List ℕ) where
  pub undisturbed : (m : Mix (callable machine) (callable machine))
      → Undisturbed (callable machine) (callable machine) m a b s (mixed (callable machine) (callable machine) m a b s)
  undisturbed m = Hosts.undisturbed machine machine keeps keeps a b apart s m

  pub any_order : (m n : Mix (callable machine) (callable machine)) → ones m ≡ ones n → twos m ≡ twos n
      → mixed (callable machine) (callable machine) m a b s ≡ mixed (callable machine) (callable machine) n a b s
  any_order m n p q = Hosts.any_order machine machine keeps keeps a b apart s m n p q
