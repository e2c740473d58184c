-- What a target and the depth tell of the rules of a call and a return.
use Rattle.std.proofs.Common.{◌≡◌, ℕ, suc, ◌+◌, ◌-◌, ◌<◌, ◌≤◌, List, [], ◌∷◌, ◌++◌, length, Option, Some, None, Ok, Err, refl, add-one, arith}
use borrow.Author.Tests.{le-leb, lt-leb, eq-eqb, ne_eqb}
use lib.ListN.{set, get_or}
use Rattle.numbers.specs.declared.place.WordIndex.{WordIndex}
use Rattle.raster.specs.declared.frame.Bounds.{Bounds}
use Rattle.rules.specs.declared.environment.Registers.{Registers}
use Rattle.rules.specs.declared.opcode.Operands.{Operands}
use Rattle.rules.specs.Op as Op
use Rattle.rules.specs.Environment.{Env, start, firsts}
use Rattle.rules.specs.Opcodes.{calls, rule}
use Rattle.rules.proofs.StackLaws.{length-firsts, push, pop, each}
use Rattle.lent.specs.declared.Stack.{Stack}
use Rattle.lent.specs.Lent.{look}
use Rattle.lent.specs.Shown.{seen, does}
use Rattle.player.specs.Player.{fault}
use Rattle.lent.proofs.Acting.{halts, quiet}

module _ (b : Bounds) (r : Registers) (vs : List ℕ) (st : Stack) (next : WordIndex) where
  abbrev e : Env
  e = look b r vs st

  -- ---- a call
  module _ (target : Option WordIndex) where
    pub call-27 : target ≡ None → seen (Err (fault 27 r.counter)) e ≡ does (calls target) next e
    call-27 m = halts (calls target) next e refl refl (rw m refl)

    module _ {i : WordIndex} (m : target ≡ Some i) where
      pub call-28 : 16 ≤ r.depth → seen (Err (fault 28 r.counter)) e ≡ does (calls target) next e
      call-28 l = halts (calls target) next e refl refl (rw (m, length-firsts start r.depth st.returns, le-leb 16 r.depth l) refl)

      -- the next opcode's index is stacked at the depth
      pub call_at : length st.returns ≡ 16 → r.depth < 16
          → seen (Ok None) (look b (record r { counter = i; depth = r.depth + 1 }) vs (record st { returns = set st.returns r.depth next })) ≡ does (calls target) next e
      call_at full h =
          let stacked : firsts start (r.depth + 1) (set st.returns r.depth next) ≡ firsts start r.depth st.returns ++ (next ∷ [])
          = rw add-one (push start r.depth next st.returns (omega (arith, h, full))) in
          quiet (calls target) next e (rw (m, length-firsts start r.depth st.returns, lt-leb 16 r.depth h) refl) (rw (m, stacked) refl) (rw m refl) refl

  -- ---- a return
  module _ (o : Operands) (n : ℕ) where
    pub back-29 : r.depth ≡ 0 → seen (Err (fault 29 r.counter)) e ≡ does (rule Op.Return o n) next e
    back-29 z = halts (rule Op.Return o n) next e refl refl (rw (length-firsts start r.depth st.returns, eq-eqb r.depth 0 z) refl)

    -- the last return stacked stands below the depth
    pub back_at : (r.depth ≡ 0 → ⊥)
        → seen (Ok None) (look b (record r { counter = get_or st.returns (r.depth - 1) start; depth = r.depth - 1 }) vs st) ≡ does (rule Op.Return o n) next e
    back_at h =
        let above : suc (r.depth - 1) ≡ r.depth = omega (arith, h) in
        let left = rw above at (pop start (r.depth - 1) st.returns) in
        let last = each start r.depth (r.depth - 1) st.returns (omega (arith, h)) in
        quiet (rule Op.Return o n) next e (rw (length-firsts start r.depth st.returns, ne_eqb r.depth 0 h) refl)
        (rw (length-firsts start r.depth st.returns, last, left) refl) refl refl
