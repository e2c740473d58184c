-- What the count and the open repeats tell of the rules of RPT and ERPT.
use Rattle.std.proofs.Common.{◌≡◌, ℕ, suc, ◌+◌, ◌-◌, ◌<◌, ◌≤◌, Bool, true, false, ◌&&◌, List, [], ◌∷◌, ◌++◌, length, take, None, Ok, Err, refl, ap, ◌∙◌, add-one, arith}
use mathlib.Core.Bool.{and-false}
use mathlib.Core.Logic.{◌⊎◌, inl, inr}
use borrow.Author.Tests.{le-leb, lt-leb, lt-ltb, le-ltb, eq-eqb, ne_eqb}
use lib.Dec.{leb}
use lib.ListN.{set, get_or}
use Rattle.numbers.specs.declared.place.WordIndex.{WordIndex}
use Rattle.raster.specs.declared.frame.Bounds.{Bounds}
use Rattle.rules.specs.declared.environment.Registers.{Registers}
use Rattle.rules.specs.declared.environment.Repeat.{Repeat}
use Rattle.rules.specs.declared.opcode.Operands.{Operands}
use Rattle.rules.specs.Op as Op
use Rattle.rules.specs.Environment.{Env, repeat, over, firsts}
use Rattle.rules.specs.Opcodes.{rule, countable}
use Rattle.rules.proofs.StackLaws.{length-firsts, push, pop, each}
use Rattle.lent.specs.declared.Stack.{Stack}
use Rattle.lent.specs.Lent.{look}
use Rattle.lent.specs.Shown.{seen, does}
use Rattle.player.specs.Player.{fault}
use Rattle.lent.proofs.Acting.{halts, quiet}

-- ---- a count of passes
pub uncountable : (k : ℕ) → (k ≡ 0) ⊎ ((k ≡ 0 → ⊥) × (1000 < k)) → countable k ≡ false
uncountable k (inl h) = ap countable h
uncountable k (inr h) = ap (λ (t : Bool). leb 1 k && t) (lt-leb k 1000 h.1) ∙ and-false (leb 1 k)

pub some : (k : ℕ) → (k ≡ 0 → ⊥) → k ≤ 1000 → countable k ≡ true
some k h l = let least : 1 ≤ k = omega (arith, h) in rw (le-leb 1 k least, le-leb k 1000 l)

module _ (b : Bounds) (r : Registers) (vs : List ℕ) (st : Stack) (next : WordIndex) (o : Operands) (n : ℕ) where
  abbrev e : Env
  e = look b r vs st

  -- ---- RPT, in a list of n words
  pub open-24 : countable o.a ≡ false → seen (Err (fault 24 r.counter)) e ≡ does (rule Op.Repeat o n) next e
  open-24 c = halts (rule Op.Repeat o n) next e refl refl (rw c refl)

  module _ (c : countable o.a ≡ true) where
    pub open-28 : 8 ≤ st.nesting → seen (Err (fault 28 r.counter)) e ≡ does (rule Op.Repeat o n) next e
    open-28 l = halts (rule Op.Repeat o n) next e refl refl (rw (c, length-firsts over st.nesting st.repeats, le-leb 8 st.nesting l) refl)

    -- the block begins at the next opcode
    pub opens : length st.repeats ≡ 8 → st.nesting < 8
        → seen (Ok None) (look b (record r { counter = next }) vs (record st { nesting = st.nesting + 1; repeats = set st.repeats st.nesting (repeat next o.a) }))
        ≡ does (rule Op.Repeat o n) next e
    opens full h =
        let stacked_as : firsts over (st.nesting + 1) (set st.repeats st.nesting (repeat next o.a)) ≡ firsts over st.nesting st.repeats ++ (repeat next o.a ∷ [])
        = rw add-one (push over st.nesting (repeat next o.a) st.repeats (omega (arith, h, full))) in
        quiet (rule Op.Repeat o n) next e (rw (c, length-firsts over st.nesting st.repeats, lt-leb 8 st.nesting h) refl) (rw stacked_as refl) refl refl

  -- ---- ERPT
  pub pass-29 : st.nesting ≡ 0 → seen (Err (fault 29 r.counter)) e ≡ does (rule Op.EndRepeat o n) next e
  pass-29 z = halts (rule Op.EndRepeat o n) next e refl refl (rw (length-firsts over st.nesting st.repeats, eq-eqb st.nesting 0 z) refl)

  module _ (h : st.nesting ≡ 0 → ⊥) where
    abbrev innermost : Repeat
    innermost = get_or st.repeats (st.nesting - 1) over

    above : suc (st.nesting - 1) ≡ st.nesting
    above = omega (arith, h)

    closed-as : take (st.nesting - 1) (firsts over st.nesting st.repeats) ≡ firsts over (st.nesting - 1) st.repeats
    closed-as = rw above at (pop over (st.nesting - 1) st.repeats)

    innermost-is : get_or (firsts over st.nesting st.repeats) (st.nesting - 1) over ≡ innermost
    innermost-is = each over st.nesting (st.nesting - 1) st.repeats (omega (arith, h))

    -- with no pass left the block is closed
    pub closes : innermost.left ≤ 1
        → seen (Ok None) (look b (record r { counter = next }) vs (record st { nesting = st.nesting - 1 })) ≡ does (rule Op.EndRepeat o n) next e
    closes l =
        quiet (rule Op.EndRepeat o n) next e (rw (length-firsts over st.nesting st.repeats, ne_eqb st.nesting 0 h) refl)
        (rw (length-firsts over st.nesting st.repeats, innermost-is, le-ltb 1 innermost.left l, closed-as) refl)
        (rw (length-firsts over st.nesting st.repeats, innermost-is, le-ltb 1 innermost.left l) refl) refl

    -- else the list goes back to its start
    pub goes_back : length st.repeats ≡ 8 → st.nesting ≤ 8 → 1 < innermost.left
        → let again = repeat innermost.start (innermost.left - 1) in
        seen (Ok None) (look b (record r { counter = innermost.start }) vs (record st { repeats = set st.repeats (st.nesting - 1) again }))
        ≡ does (rule Op.EndRepeat o n) next e
    goes_back full nested l =
        let again = repeat innermost.start (innermost.left - 1) in
        let stacked_as : firsts over st.nesting (set st.repeats (st.nesting - 1) again) ≡ firsts over (st.nesting - 1) st.repeats ++ (again ∷ [])
        = rw above at (push over (st.nesting - 1) again st.repeats (omega (arith, h, full, nested))) in
        quiet (rule Op.EndRepeat o n) next e (rw (length-firsts over st.nesting st.repeats, ne_eqb st.nesting 0 h) refl)
        (rw (length-firsts over st.nesting st.repeats, innermost-is, lt-ltb 1 innermost.left l, closed-as, stacked_as) refl)
        (rw (length-firsts over st.nesting st.repeats, innermost-is, lt-ltb 1 innermost.left l) refl) refl
