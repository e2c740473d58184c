-- Fetching is the beginning of the rules' own order: a step is what was taken behind its opcode word, carried out.
use Prim.Native.Nat.{ℕ, ◌+◌, ◌<◌, ◌≤◌}
use mathlib.Core.Path.{◌≡◌, refl}
use mathlib.Core.Bool.{Bool, true, false, cond}
use mathlib.Core.List.{List}
use borrow.Author.Tests.{le-leb, lt-leb}
use lib.ListN.{length}
use lib.Dec.{ltb}
use Rattle.player.specs.Player.{fault, Outcome, refused}
use Rattle.numbers.specs.declared.place.WordIndex.{WordIndex}
use Rattle.rules.specs.declared.opcode.Operands.{Operands}
use Rattle.rules.specs.Op.{Op}
use Rattle.rules.specs.Table.{form_of}
use Rattle.rules.specs.Meaning.{Unknown, Known, meaning}
use Rattle.rules.specs.Operands.{Source, at, size_of, highest, first_above, operands}
use Rattle.rules.specs.Environment.{Env, goto}
use Rattle.rules.specs.Opcodes.{rule}
use Rattle.rules.specs.Step.{check, carried, step}
use Rattle.std.specs.Prelude.{Ok, Err}
use Rattle.fetch.specs.Stages.{fetched, Taken, taken_of}

module _ (w : List ℕ) (e : Env) where
  pub step-20 : length w ≤ e.flow.counter.0 → step w e ≡ refused (fault 20 e.flow.counter)
  unfolding step
  step-20 h = rw (le-leb _ _ h)

  module _ (h : e.flow.counter.0 < length w) where
    pub step-21 : meaning (form_of (at w e.flow.counter.0)) ≡ Unknown → step w e ≡ refused (fault 21 e.flow.counter)
    unfolding step
    step-21 k = rw (lt-leb _ _ h, k)

    -- what an op makes of what was taken
    abbrev pub resolved : Op → Taken → Outcome Env
    resolved op (Err v) = refused v
    resolved op (Ok f) = carried (rule op f.operands (length w) (goto f.next e)) e

    pub step-taken : {op : Op} {s : Source} → meaning (form_of (at w e.flow.counter.0)) ≡ Known op s
        → step w e ≡ resolved op (taken_of s w e.flow.counter.0 e.variables)
    unfolding step taken_of
    step-taken {op} {s} k =
        let pc = e.flow.counter.0 in
        let next = pc + size_of s in
        rw (lt-leb _ _ h, k)
        (go (operands s w pc e.variables) (record { 0 = next }) (record { 0 = pc + first_above s w pc 1 }) (ltb (length w) next) (ltb 63 (highest s w pc 1)))
      where
        go : (o : Operands) (next i : WordIndex) (b d : Bool)
            → check 22 e.flow.counter b (check 23 i d (carried (rule op o (length w) (goto next e)) e))
            ≡ resolved op (cond b (Err (fault 22 e.flow.counter)) (cond d (Err (fault 23 i)) (Ok (fetched o next))))
        go o next i true d = refl
        go o next i false true = refl
        go o next i false false = refl
