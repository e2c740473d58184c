-- Where the readers get to: each goes on in the list, so that as many opcodes as words are enough, and a sequence is read one opcode after the other.
use Prim.Native.Nat.{ℕ, zero, suc, ◌+◌, ◌<◌, ◌≤◌}
use mathlib.Core.Path.{◌≡◌, refl, ap, ◌∙◌, subst}
use mathlib.Core.Bool.{cond}
use mathlib.Core.List.{List}
use native.Mathlib.Omega.{arith}
use lib.ListN.{length}
use lib.Dec.{ltb, leb, lit≤}
use borrow.Author.Tests.{leb-false, le-leb, lt-leb}
use Rattle.std.specs.Prelude.{Ok, Err}
use Rattle.numbers.specs.declared.place.WordIndex.{WordIndex}
use Rattle.numbers.specs.Place.{past}
use Rattle.numbers.proofs.Answers.{by-test}
use Rattle.player.specs.Player.{fault}
use Rattle.rules.specs.Operands.{at}
use Rattle.rules.specs.Opcodes.{countable}
use Rattle.forms.specs.declared.layout.Layout.{Layout}
use Rattle.forms.specs.declared.layout.Layout.TheVariants.{Strange, Plain, Flow, Ends, Opens, Closes}
use Rattle.forms.specs.Layout.{layout_at, words}
use Rattle.forms.proofs.Layouts.{some_words}
use Rattle.checker.specs.declared.reading.Closer.{Closer}
use Rattle.checker.specs.declared.reading.Closer.TheVariants.{Eodl, Erpt}
use Rattle.checker.specs.Reading.{Reading, Block, longer, joined, opcode, sequence, count, closes_block, repeated, opening, block_at, sequence_at}

-- the layout of what closes a sequence
abbrev pub layout_by : Closer → Layout
layout_by Eodl = Ends
layout_by Erpt = Closes

-- a fault's number is 20 to 30; what closes a sequence read from pc stands at pc or later, in the list
abbrev pub After : List ℕ → WordIndex → Reading → Type 0
After w pc (Err v) = (20 ≤ v.number) × (v.number ≤ 30)
After w pc (Ok c) = (pc.0 ≤ c.place.0) × (c.place.0 < length w) × (layout_at (at w c.place.0) ≡ layout_by c.by)

-- what is behind a block at pc is later
abbrev pub Onward : List ℕ → WordIndex → Block → Type 0
Onward w pc (Err v) = (20 ≤ v.number) × (v.number ≤ 30)
Onward w pc (Ok b) = (pc.0 < b.next.0) × (b.next.0 ≤ length w)

longer-after : (w : List ℕ) (pc next : WordIndex) (k : ℕ) (x : Reading) → pc.0 ≤ next.0 → After w next x → After w pc (longer k x)
longer-after w pc next k (Err v) l h = h
longer-after w pc next k (Ok c) l h = (omega (arith, l, h.0), h.1, h.2)

-- a plain opcode has a word
pub plain-words : (m n : ℕ) → layout_at m ≡ Plain n → 1 ≤ n
plain-words m n is = subst (λ (l : Layout). 1 ≤ words l) is (some_words m)

module _ (w : List ℕ) (inner : WordIndex → Block) (onward : (pc : WordIndex) → Onward w pc (inner pc)) where
  opcode-after : (on : WordIndex → Reading) (pc : WordIndex) → pc.0 < length w → ((next : WordIndex) → pc.0 < next.0 → After w next (on next))
      → (l : Layout) → layout_at (at w pc.0) ≡ l → After w pc (opcode w inner on pc l)
  opcode-after on pc inside later Strange is = (lit≤ tt, lit≤ tt)
  opcode-after on pc inside later (Flow n) is = (lit≤ tt, lit≤ tt)
  opcode-after on pc inside later (Plain n) is =
      let some = plain-words (at w pc.0) n is in
      by-test (ltb (length w) (pc.0 + n)) (Err (fault 22 pc)) (longer 1 (on (past pc n))) (After w pc)
      (λ cut. (lit≤ tt, lit≤ tt))
      (λ whole. longer-after w pc (past pc n) 1 (on (past pc n)) (omega arith) (later (past pc n) (omega (arith, some))))
  opcode-after on pc inside later Ends is = (omega arith, inside, is)
  opcode-after on pc inside later Closes is = (omega arith, inside, is)
  opcode-after on pc inside later Opens is = go (inner pc) (onward pc)
    where
      go : (c : Block) → Onward w pc c → After w pc (joined c on)
      go (Err v) h = h
      go (Ok b) h = longer-after w pc b.next b.steps (on b.next) (omega (arith, h.0)) (later b.next h.0)

  sequence-after : (more : ℕ) (pc : WordIndex) → After w pc (sequence w inner more pc)
  unfolding sequence
  sequence-after zero pc = (lit≤ tt, lit≤ tt)
  sequence-after (suc more) pc =
      by-test (leb (length w) pc.0) (Err (fault 20 pc)) (opcode w inner (λ next. sequence w inner more next) pc (layout_at (at w pc.0))) (After w pc)
      (λ out. (lit≤ tt, lit≤ tt))
      (λ here. opcode-after (λ next. sequence w inner more next) pc (leb-false (length w) pc.0 here) (λ next l. sequence-after more next) (layout_at (at w pc.0)) refl)

  -- ---- more opcodes than words make no difference
  opcode-same : (on other : WordIndex → Reading) (pc : WordIndex) → ((next : WordIndex) → pc.0 < next.0 → on next ≡ other next)
      → (l : Layout) → layout_at (at w pc.0) ≡ l → opcode w inner on pc l ≡ opcode w inner other pc l
  opcode-same on other pc same Strange is = refl
  opcode-same on other pc same (Flow n) is = refl
  opcode-same on other pc same (Plain n) is =
      let some = plain-words (at w pc.0) n is in
      ap (λ (x : Reading). cond (ltb (length w) (pc.0 + n)) (Err (fault 22 pc)) (longer 1 x)) (same (past pc n) (omega (arith, some)))
  opcode-same on other pc same Ends is = refl
  opcode-same on other pc same Closes is = refl
  opcode-same on other pc same Opens is = go (inner pc) (onward pc)
    where
      go : (c : Block) → Onward w pc c → joined c on ≡ joined c other
      go (Err v) h = refl
      go (Ok b) h = ap (longer b.steps) (same b.next h.0)

  sequence-same : (f g : ℕ) (pc : WordIndex) → length w ≤ f + pc.0 → length w ≤ g + pc.0 → sequence w inner f pc ≡ sequence w inner g pc
  unfolding sequence
  sequence-same zero zero pc p q = refl
  sequence-same zero (suc g) pc p q = let out : length w ≤ pc.0 = omega arith in rw (le-leb (length w) pc.0 out)
  sequence-same (suc f) zero pc p q = let out : length w ≤ pc.0 = omega arith in rw (le-leb (length w) pc.0 out)
  sequence-same (suc f) (suc g) pc p q =
      ap (cond (leb (length w) pc.0) (Err (fault 20 pc)))
      (opcode-same (λ next. sequence w inner f next) (λ next. sequence w inner g next) pc
      (λ next l. sequence-same f g next (omega (arith, l, p)) (omega (arith, l, q))) (layout_at (at w pc.0)) refl)

-- ---- blocks
repeated-onward : (w : List ℕ) (pc : WordIndex) (c : ℕ) (x : Reading) → After w (past pc 2) x → Onward w pc (repeated c x)
repeated-onward w pc c (Err v) h = h
repeated-onward w pc c (Ok s) h = go s.by
  where
    go : (k : Closer) → Onward w pc (closes_block c k s.place s.steps)
    go Eodl = (lit≤ tt, lit≤ tt)
    go Erpt = (omega (arith, h.0), omega (arith, h.1))

opening-onward : (w : List ℕ) (pc : WordIndex) (x : Block) → Onward w pc x → Onward w pc (opening w pc x)
opening-onward w pc x h =
    by-test (ltb (length w) (pc.0 + 2)) (Err (fault 22 pc)) (cond (countable (count w pc)) x (Err (fault 24 pc))) (Onward w pc)
    (λ cut. (lit≤ tt, lit≤ tt))
    (λ whole. by-test (countable (count w pc)) x (Err (fault 24 pc)) (Onward w pc) (λ good. h) (λ bad. (lit≤ tt, lit≤ tt)))

pub block-onward : (w : List ℕ) (room : ℕ) (pc : WordIndex) → Onward w pc (block_at w room pc)
unfolding block_at
block-onward w zero pc = opening-onward w pc (Err (fault 28 pc)) (lit≤ tt, lit≤ tt)
block-onward w (suc room) pc =
    let x = sequence w (λ i. block_at w room i) (length w) (past pc 2) in
    opening-onward w pc (repeated (count w pc) x)
    (repeated-onward w pc (count w pc) x (sequence-after w (λ i. block_at w room i) (block-onward w room) (length w) (past pc 2)))

-- ---- a sequence, one opcode after the other
module _ (w : List ℕ) (room : ℕ) (pc : WordIndex) where
  pub reading-after : After w pc (sequence_at w room pc)
  reading-after = sequence-after w (λ i. block_at w room i) (block-onward w room) (length w) pc

  once_more : sequence_at w room pc ≡ sequence w (λ i. block_at w room i) (suc (length w)) pc
  once_more = sequence-same w (λ i. block_at w room i) (block-onward w room) (length w) (suc (length w)) pc (omega arith) (omega arith)

  pub run_out : length w ≤ pc.0 → sequence_at w room pc ≡ Err (fault 20 pc)
  unfolding sequence
  run_out out = once_more ∙ rw (le-leb (length w) pc.0 out)

  pub goes_on : pc.0 < length w
      → sequence_at w room pc ≡ opcode w (λ i. block_at w room i) (λ next. sequence_at w room next) pc (layout_at (at w pc.0))
  unfolding sequence
  goes_on inside = once_more ∙ rw (lt-leb (length w) pc.0 inside)
