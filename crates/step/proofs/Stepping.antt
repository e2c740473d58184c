-- What a step may rely on, and that a group's promise is the rules' step.
use Rattle.std.proofs.Common.{◌≡◌, ℕ, ◌+◌, ◌<◌, ◌≤◌, Bool, true, false, List, length, Ok, Err, refl, sym, ap, arith}
use mathlib.Core.Bool.{cond}
use borrow.Author.Tests.{leb-true}
use lib.Dec.{ltb}
use Rattle.numbers.specs.declared.place.WordIndex.{WordIndex}
use Rattle.raster.specs.declared.frame.Bounds.{Bounds}
use Rattle.player.specs.Player.{fault, Outcome}
use Rattle.rules.specs.declared.environment.Registers.{Registers}
use Rattle.rules.specs.declared.opcode.Operands.{Operands}
use Rattle.rules.specs.Table.{form_of}
use Rattle.rules.specs.Meaning.{Meaning, Unknown, Known, meaning}
use Rattle.rules.specs.Operands.{at, size_of, highest, operands}
use Rattle.rules.specs.Environment.{Env, start, over, firsts}
use Rattle.rules.specs.Opcodes.{rule, dot_fits}
use Rattle.rules.specs.Step.{step}
use Rattle.rules.proofs.StackLaws.{length-firsts}
use Rattle.rules.proofs.Ranges.{Fits, parted}
use Rattle.fetch.specs.Stages.{Reaches, fetched, taken_of}
use Rattle.fetch.proofs.Steps as Fetched
use Rattle.lent.specs.declared.Stack.{Stack}
use Rattle.lent.specs.Lent.{look}
use Rattle.lent.specs.Leaves.{Stacked}
use Rattle.lent.specs.Shown.{seen, shown, does, answers}
use Rattle.step.specs.Steps.{shows, Able}

module _ {w : List ℕ} {r : Registers} {vs : List ℕ} {st : Stack} (ready : Able w r vs st) where
  -- an environment that is in range
  abbrev some : Env
  some = look ready.bounds r vs st

  in-range : Fits ready.bounds some
  in-range = parted some ready.ranges

  -- ---- what act and draw ask
  pub reaches : r.counter.0 < length w → Reaches w r.counter.0 0
  reaches inside = (omega (arith, inside), ready.few)

  pub positioned : dot_fits r.position ≡ true
  positioned = in-range.1.position

  pub stacked : Stacked r st
  stacked =
      record {
        deep = omega (arith, leb-true (length (firsts start r.depth st.returns)) 16 in-range.2.depth, length-firsts start r.depth st.returns);
        nested = omega (arith, leb-true (length (firsts over st.nesting st.repeats)) 8 in-range.2.nesting, length-firsts over st.nesting st.repeats);
      }

  -- ---- what the opcode word says
  pub step-20 : length w ≤ r.counter.0 → (b : Bounds) → seen (Err (fault 20 r.counter)) (look b r vs st) ≡ shown (step w (look b r vs st)) (look b r vs st)
  step-20 l b = let e = look b r vs st in sym (ap (λ (x : Outcome Env). shown x e) (Fetched.step-20 w e l))

  module _ (inside : r.counter.0 < length w) where
    pub step-21 : meaning (form_of (at w r.counter.0)) ≡ Unknown → (b : Bounds)
        → seen (Err (fault 21 r.counter)) (look b r vs st) ≡ shown (step w (look b r vs st)) (look b r vs st)
    step-21 k b = let e = look b r vs st in sym (ap (λ (x : Outcome Env). shown x e) (Fetched.step-21 w e inside k))

    -- what an opcode must show, by what it means, is what the rules say of the step
    pub is-step : {m : Meaning} → meaning (form_of (at w r.counter.0)) ≡ m → (b : Bounds)
        → shows m w r.counter.0 vs (look b r vs st) ≡ shown (step w (look b r vs st)) (look b r vs st)
    unfolding shows answers does taken_of
    is-step {m} k b = by-meaning m k
      where
        e : Env
        e = look b r vs st

        by-meaning : (m : Meaning) → meaning (form_of (at w r.counter.0)) ≡ m → shows m w r.counter.0 vs e ≡ shown (step w e) e
        by-meaning Unknown k = step-21 k b
        by-meaning (Known op source) k =
            rw (Fetched.step-taken w e inside {op = op} {s = source} k)
            (go (operands source w r.counter.0 vs) _ _ (ltb (length w) (r.counter.0 + size_of source)) (ltb 63 (highest source w r.counter.0 1)))
          where
            go : (o : Operands) (next i : WordIndex) (x y : Bool)
                → let t = cond x (Err (fault 22 r.counter)) (cond y (Err (fault 23 i)) (Ok (fetched o next))) in
                answers t (λ o. rule op o (length w)) e ≡ shown (Fetched.resolved w e inside op t) e
            go o next i true y = refl
            go o next i false true = refl
            go o next i false false = refl
