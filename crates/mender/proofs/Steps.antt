-- Document 02, T-14, 'such a walk meets nothing unknown or cut', of the step of a run: wherever its counter is a place of the walk, inside the list, it is not
-- refused with 20, 21 or 22.
use Prim.Native.Nat.{ℕ, ◌+◌, ◌<◌, ◌≤◌}
use mathlib.Core.Path.{◌≡◌, sym, subst}
use mathlib.Core.Bool.{Bool, true, false, true≢false}
use mathlib.Core.List.{List}
use native.Mathlib.Omega.{arith}
use borrow.Author.Tests.{lt-leb}
use lib.Dec.{leb, lit≤}
use lib.ListN.{length}
use Rattle.player.specs.declared.Verdict.{Verdict}
use Rattle.player.specs.Player.{Outcome, done, refused}
use Rattle.rules.specs.Types.{WordIndex}
use Rattle.rules.specs.Meaning.{Meaning}
use Rattle.rules.specs.Environment.{Env}
use Rattle.rules.specs.Opcodes.{Rule}
use Rattle.rules.specs.Step.{check, unknown, cut, misnamed, misnaming, ruled, carried, judged, step}
use Rattle.mender.specs.Walk.{mended}
use Rattle.forms.specs.Layout.{size_in}
use Rattle.mender.specs.Walks.{standing, Walks, end, opcode}
use Rattle.mender.proofs.Afterwards.{mended-walks}

-- ---- a step is carried out, or refused with 23 or more
abbrev Later : Outcome Env → Type 0
Later (done e p) = Unit {0}
Later (refused v) = 23 ≤ v.number

passes : (n : ℕ) (i : WordIndex) (t : Bool) (x : Outcome Env) → t ≡ false → Later x → Later (check n i t x)
passes n i true x h l = absurd (true≢false h)
passes n i false x h l = l

stops : (n : ℕ) (i : WordIndex) (t : Bool) (x : Outcome Env) → 23 ≤ n → Later x → Later (check n i t x)
stops n i true x h l = h
stops n i false x h l = l

judged-later : (m : Meaning) (r : Rule) (w : List ℕ) (e : Env) → let pc = e.flow.counter.0 in
    leb (length w) pc ≡ false → unknown m ≡ false → cut m w pc ≡ false → Later (judged m r w e)
unfolding carried
judged-later m r w e inside known whole =
    let pc = e.flow.counter in
    passes 20 pc (leb (length w) pc.0) _ inside
    (passes 21 pc (unknown m) _ known
    (passes 22 pc (cut m w pc.0) _ whole
    (stops 23 (misnaming m w pc) (misnamed m w pc.0) _ (lit≤ tt)
    (stops 24 pc (r.breaks 24) _ (lit≤ tt)
    (stops 25 pc (r.breaks 25) _ (lit≤ tt)
    (stops 26 pc (r.breaks 26) _ (lit≤ tt)
    (stops 27 pc (r.breaks 27) _ (lit≤ tt)
    (stops 28 pc (r.breaks 28) _ (lit≤ tt)
    (stops 29 pc (r.breaks 29) _ (lit≤ tt) tt)))))))))

-- ---- where a list walks
module _ (w : List ℕ) where
  met : {pc : ℕ} → Walks w pc → pc < length w → (unknown (standing w pc) ≡ false) × (cut (standing w pc) w pc ≡ false)
  met (end h) inside = absurd (omega arith)
  met (opcode known whole on) inside = (known, whole)

  pub stepped : {pc : ℕ} → Walks w pc → pc < length w → (e : Env) → e.flow.counter.0 ≡ pc → (v : Verdict) → step w e ≡ refused v → 23 ≤ v.number
  unfolding step
  stepped h inside e is v refuses =
      let pc = e.flow.counter.0 in
      let near : pc < length w = omega arith in
      let t = met (subst (Walks w) (sym is) h) near in
      subst Later refuses (judged-later (standing w pc) (ruled (standing w pc) w e) w e (lt-leb (length w) pc near) t.0 t.1)

-- the places of the walk from word 0
pub data Place (w : List ℕ) : ℕ → Type 0 where
  first : Place w 0
  next : {pc : ℕ} → Place w pc → Place w (pc + size_in (standing w pc))

onward : {w : List ℕ} {pc : ℕ} → Walks w pc → Walks w (pc + size_in (standing w pc))
onward {w} {pc} (end h) = end {pc = pc + size_in (standing w pc)} (omega arith)
onward (opcode known whole on) = on

pub from_place : {w : List ℕ} {pc : ℕ} → Walks w 0 → Place w pc → Walks w pc
from_place h first = h
from_place h (next p) = onward (from_place h p)

-- ---- of a mended list
pub mended-steps : (w : List ℕ) {pc : ℕ} → Place (mended w) pc → pc < length (mended w) → (e : Env) → e.flow.counter.0 ≡ pc
    → (v : Verdict) → step (mended w) e ≡ refused v → 23 ≤ v.number
mended-steps w p = stepped (mended w) (from_place (mended-walks w) p)
