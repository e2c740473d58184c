-- `sequence` and `block`: each way on and out is one law, of Sequences or of Blocks.
use Prim.Native.Nat.{ℕ, ◌<◌, ◌≤◌, ◌-◌}
use mathlib.Core.Path.{◌≡◌, ap, ◌∙◌}
use mathlib.Core.List.{List}
use native.Mathlib.Omega.{arith}
use native.Mathlib.Nat.{pos_of_ne-zero}
use lib.ListN.{length}
use Rattle.std.specs.Prelude.{Ok}
use Rattle.std.proofs.lemmas.Result.{err_from_is_err_and}
use Rattle.numbers.specs.declared.place.WordIndex.{WordIndex}
use Rattle.numbers.specs.Place.{past}
use Rattle.rules.specs.Operands.{at}
use Rattle.rules.specs.Meaning.{meaning}
use Rattle.rules.specs.declared.opcode.Form.{Form}
use Rattle.rules.specs.Table.{form_of}
use Rattle.forms.specs.Layout.{layout_of}
use Rattle.forms.specs.declared.layout.Layout.{Layout}
use Rattle.forms.proofs.Layouts.{by_form}
use Rattle.checker.specs.declared.reading.Behind.{Behind}
use Rattle.checker.specs.Reading.{count}
use Rattle.checker.proofs.Sequences.{Read, out, Met, foreign, cut, plain, eodl, erpt, fails, passed}
use Rattle.checker.proofs.Blocks as Blocks
use Rattle.checker.proofs.Blocks.{Counts, bad-passes, Counted, full, closes, closes_by, after_erpt, closing, times}
use Rattle.checker.proofs.reading.+block_sequence.Goals as goal

-- ---- the block reader: where the count was read, and where it was found allowed
module _ {w : List ℕ} {pc : WordIndex} {c : ℕ} (long : 2 ≤ length w - pc.0) (is : c ≡ count w pc) where
  counts : Counts w pc c
  counts = record { whole = omega (arith, long); is = is }

  counted : (c ≡ 0 → ⊥) → c ≤ 1000 → Counted w pc c
  counted some few = record { counts = counts; some = pos_of_ne-zero some; few = few }

pub block-returns-then-list-at-lt2 : goal.block-returns-then-list-at-lt2
block-returns-then-list-at-lt2 t c = rw c.refused.ensures (Blocks.cut _ _ _ (omega (arith, c.if-list-at-lt2.true, c.requires.1)))

pub block-returns-then-count-eq0 : goal.block-returns-then-count-eq0
block-returns-then-count-eq0 t c =
    rw c.refused-then-count-eq0.ensures (bad-passes _ (counts c.if-list-at-lt2.false c.extend-count.ensures) c.then-count-eq0.either)

pub block-returns-then-room-eq0 : goal.block-returns-then-room-eq0
block-returns-then-room-eq0 t c =
    rw c.refused-then-room-eq0.ensures
    (full (counted c.if-list-at-lt2.false c.extend-count.ensures c.if-count-eq0.false c.if-count-gt1000.false) _ c.if-room-eq0.true)

pub block-returns-in_err-inside : goal.block-returns-in_err-inside
block-returns-in_err-inside t c =
    let m = counted c.if-list-at-lt2.false c.extend-count.ensures c.if-count-eq0.false c.if-count-gt1000.false in
    let p = err_from_is_err_and c.from_residual.result c.from_residual.ensures.1 in
    rw (p.1, p.2) (closes m c.if-room-eq0.false c.past.ensures c.in_err-inside.ensures)

pub block-past-requires-in-Erpt : goal.block-past-requires-in-Erpt
block-past-requires-in-Erpt t c = let e = closing _ _ c.in_ok-inside.ensures in omega (arith, e.inside, c.requires.0)

pub block-overflow_add-inside : goal.block-overflow_add-inside
block-overflow_add-inside t c = let e = closing _ _ c.in_ok-inside.ensures in omega (arith, e.small)

pub block-overflow_mul-count : goal.block-overflow_mul-count
block-overflow_mul-count t c =
    let m : Counted c.args.list.now c.args.place c.extend-count.result =
    counted c.if-list-at-lt2.false c.extend-count.ensures c.if-count-eq0.false c.if-count-gt1000.false in
    omega (arith, times m (closing _ _ c.in_ok-inside.ensures))

pub block-overflow_add-count : goal.block-overflow_add-count
block-overflow_add-count t c =
    let m : Counted c.args.list.now c.args.place c.extend-count.result =
    counted c.if-list-at-lt2.false c.extend-count.ensures c.if-count-eq0.false c.if-count-gt1000.false in
    omega (arith, times m (closing _ _ c.in_ok-inside.ensures))

pub block-returns-in-Eodl : goal.block-returns-in-Eodl
block-returns-in-Eodl t c =
    let m = counted c.if-list-at-lt2.false c.extend-count.ensures c.if-count-eq0.false c.if-count-gt1000.false in
    closes_by m c.if-room-eq0.false c.past.ensures c.in_ok-inside.ensures c.in-Eodl.is

pub block-returns-in-Erpt : goal.block-returns-in-Erpt
block-returns-in-Erpt t c =
    let m = counted c.if-list-at-lt2.false c.extend-count.ensures c.if-count-eq0.false c.if-count-gt1000.false in
    ap (λ (b : Behind). Ok b) (after_erpt _ c.past-in-Erpt.ensures c.cap.ensures)
    ∙ closes_by m c.if-room-eq0.false c.past.ensures c.in_ok-inside.ensures c.in-Erpt.is

-- ---- the sequence reader: where the layout was found
met : {w : List ℕ} {room steps : ℕ} {from place : WordIndex} {l : Layout} {f : Form} → Read w room from place steps → place.0 < length w
    → l ≡ layout_of (meaning f) → f ≡ form_of (at w place.0) → Met w room from place steps l
met read inside of form = record { read = read; inside = inside; is = of ∙ by_form _ form }

pub sequence-returns-then-list-at : goal.sequence-returns-then-list-at
sequence-returns-then-list-at t c =
    rw c.refused.ensures
    (cut (met c.loop-place.invariant c.loop-place-test.true c.in-Plain.ensures c.form_of.ensures)
    (omega (arith, c.if-list-at.true, c.loop-place-test.true)))

pub sequence-loop-place-preserved-in-Plain : goal.sequence-loop-place-preserved-in-Plain
sequence-loop-place-preserved-in-Plain t c =
    let there : c.past-place.result ≡ past c.loop-place.place c.in-Plain.words = λ k. record { 0 = c.past-place.ensures k } in
    rw (there, c.cap-steps.ensures)
    (plain (met c.loop-place.invariant c.loop-place-test.true c.in-Plain.ensures c.form_of.ensures)
    (omega (arith, c.loop-place-test.true, c.if-list-at.false)))

pub sequence-returns-in-Ends : goal.sequence-returns-in-Ends
sequence-returns-in-Ends t c = eodl (met c.loop-place.invariant c.loop-place-test.true c.in-Ends.ensures c.form_of.ensures)

pub sequence-returns-in-Closes : goal.sequence-returns-in-Closes
sequence-returns-in-Closes t c = erpt (met c.loop-place.invariant c.loop-place-test.true c.in-Closes.ensures c.form_of.ensures)

pub sequence-returns-in_err-inner-in-Opens : goal.sequence-returns-in_err-inner-in-Opens
sequence-returns-in_err-inner-in-Opens t c =
    let p = err_from_is_err_and c.from_residual.result c.from_residual.ensures.1 in
    rw (p.1, p.2)
    (fails (met c.loop-place.invariant c.loop-place-test.true c.in-Opens.ensures c.form_of.ensures) c.in_err-inner-in-Opens.ensures)

pub sequence-overflow_add-steps-in-Opens : goal.sequence-overflow_add-steps-in-Opens
sequence-overflow_add-steps-in-Opens t c =
    let p = passed (met c.loop-place.invariant c.loop-place-test.true c.in-Opens.ensures c.form_of.ensures) c.in_ok-inner-in-Opens.ensures in
    omega (arith, p.few, c.loop-place.invariant.small)

pub sequence-loop-place-smaller : goal.sequence-loop-place-smaller
sequence-loop-place-smaller t c =
    let p = passed (met c.loop-place.invariant c.loop-place-test.true c.in-Opens.ensures c.form_of.ensures) c.in_ok-inner-in-Opens.ensures in
    omega (arith, p.later, c.loop-place-test.true)

pub sequence-loop-place-preserved : goal.sequence-loop-place-preserved
sequence-loop-place-preserved t c =
    let p = passed (met c.loop-place.invariant c.loop-place-test.true c.in-Opens.ensures c.form_of.ensures) c.in_ok-inner-in-Opens.ensures in
    rw c.cap-steps-in-Opens.ensures p.read

pub sequence-returns-in-Strange : goal.sequence-returns-in-Strange
sequence-returns-in-Strange t c =
    rw c.refused-in-Strange.ensures
    (foreign (met c.loop-place.invariant c.loop-place-test.true c.layout_of.ensures c.form_of.ensures) c.in-Strange.is)

pub sequence-returns : goal.sequence-returns
sequence-returns t c = rw c.refused-2.ensures (out c.loop-place.invariant c.loop-place-test.false)
