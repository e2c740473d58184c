-- What the checker makes of the sequence that a whole list is.
use Prim.Native.Nat.{ℕ, ◌+◌, ◌<◌, ◌≤◌}
use mathlib.Core.Path.{◌≡◌, ap, ◌∙◌, sym}
use mathlib.Core.List.{List}
use native.Mathlib.Omega.{arith}
use lib.ListN.{length}
use borrow.Author.Tests.{le-leb, lt-leb}
use Rattle.std.specs.Prelude.{Ok}
use Rattle.player.specs.Player.{fault, verdict}
use Rattle.rules.specs.Environment.{start}
use Rattle.checker.specs.declared.reading.Closer.{Closer}
use Rattle.checker.specs.declared.reading.Closer.TheVariants.{Eodl, Erpt}
use Rattle.checker.specs.declared.reading.Closed.{Closed}
use Rattle.checker.specs.Reading.{Reading, sequence_at}
use Rattle.checker.specs.Checked.{refusal, accepted, closes_list, told, checked}
use Rattle.checker.specs.Sums.{capped}
use Rattle.checker.proofs.Caps.{told-kept}

pub too_long : (w : List ℕ) → 65536 < length w → refusal (verdict 13) ≡ checked w
unfolding checked
too_long w h = rw (lt-leb (length w) 65536 h)

pub stated : (w : List ℕ) → length w ≤ 65536 → told (sequence_at w 8 start) ≡ checked w
unfolding checked
stated w short = rw (le-leb (length w) 65536 short)

pub tells : (w : List ℕ) {x : Reading} → length w ≤ 65536 → x ≡ capped (sequence_at w 8 start) → told x ≡ checked w
tells w short is = ap told is ∙ (sym (told-kept (sequence_at w 8 start)) ∙ stated w short)

-- by what closes the sequence
module _ (w : List ℕ) {c : Closed} (short : length w ≤ 65536) (is : Ok c ≡ capped (sequence_at w 8 start)) where
  tells_by : {k : Closer} → c.by ≡ k → closes_list k c.place c.steps ≡ checked w
  tells_by h = ap (λ (k : Closer). closes_list k c.place c.steps) (sym h) ∙ tells w short is

  pub stray : c.by ≡ Erpt → refusal (fault 29 c.place) ≡ checked w
  stray h = tells_by h

  -- the EODL counts as one
  pub enough : c.by ≡ Eodl → c.steps < 1000000 → accepted (c.steps + 1) ≡ checked w
  enough h few =
      let l : c.steps + 1 ≤ 1000000 = omega (arith, few) in
      let t : accepted (c.steps + 1) ≡ closes_list Eodl c.place c.steps = rw (le-leb (c.steps + 1) 1000000 l) in
      t ∙ tells_by h

  pub too_many : c.by ≡ Eodl → 1000000 ≤ c.steps → refusal (verdict 31) ≡ checked w
  too_many h many =
      let l : 1000000 < c.steps + 1 = omega (arith, many) in
      let t : refusal (verdict 31) ≡ closes_list Eodl c.place c.steps = rw (lt-leb (c.steps + 1) 1000000 l) in
      t ∙ tells_by h
