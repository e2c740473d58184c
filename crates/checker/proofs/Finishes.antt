-- Document 02, T-09: given that budget, in a run not refused at the door, what the checker accepts ends in exactly that many steps from a fresh environment, or is
-- stopped earlier by one of 23 to 26.
use Prim.Native.Nat.{ℕ, ◌+◌, ◌*◌, ◌<◌, ◌≤◌}
use mathlib.Core.Path.{◌≡◌, refl, sym, subst}
use mathlib.Core.Bool.{true}
use mathlib.Core.List.{List, []}
use native.Mathlib.Omega.{arith}
use native.Mathlib.Nat.{zero-add}
use lib.ListN.{length}
use lib.Dec.{leb, lit≤}
use borrow.Author.Tests.{leb-true}
use Rattle.std.specs.Prelude.{Ok, Err}
use Rattle.numbers.specs.declared.place.WordIndex.{WordIndex}
use Rattle.numbers.proofs.Answers.{by-test}
use Rattle.raster.specs.declared.frame.Bounds.{Bounds}
use Rattle.player.specs.declared.State.TheVariants.{Ended}
use Rattle.player.specs.Player.{verdict}
use Rattle.player.specs.Run.{Answer, runs}
use Rattle.player.proofs.Doors.{opens, run-whole}
use Rattle.rules.specs.declared.environment.Repeat.{Repeat}
use Rattle.rules.specs.Operands.{at}
use Rattle.rules.specs.Environment.{Env, start}
use Rattle.rules.specs.Step.{step, afgis}
use Rattle.rules.specs.Door.{size_fits, pane_fits, fits, door, machine, whole}
use Rattle.rules.specs.Fresh.{fresh}
use Rattle.rules.proofs.DoorLaws.{fresh-fits}
use Rattle.forms.specs.declared.layout.Layout.TheVariants.{Ends}
use Rattle.forms.specs.Layout.{layout_at}
use Rattle.forms.proofs.Layouts.{ends_is}
use Rattle.checker.specs.declared.Checked.{Checked}
use Rattle.checker.specs.declared.reading.Closer.{Closer}
use Rattle.checker.specs.declared.reading.Closer.TheVariants.{Eodl, Erpt}
use Rattle.checker.specs.Reading.{Reading, sequence_at}
use Rattle.checker.specs.Checked.{refusal, accepted, closes_list, told, checked, Promise}
use Rattle.checker.proofs.Reach.{Once, Reach, then, Finished, finished}
use Rattle.checker.proofs.Steps.{Stands, eodl-once}
use Rattle.checker.proofs.Places.{layout_by, After, reading-after}
use Rattle.checker.proofs.Following.{Ready, Runs, reading-runs}

pub begins : (b : Bounds) → Ready 8 start (fresh b)
begins b = record { counter = refl; state = refl; open-yet = refl }

abbrev Over : Env → Type 0
Over e = e.state ≡ Ended

module _ (w : List ℕ) where
  -- the EODL
  ending : (i : WordIndex) → i.0 < length w → layout_at (at w i.0) ≡ Ends → (rs : List Repeat) (x : Env) → Stands i rs x → Reach w 1 Over x
  ending i inside is rs x s = (
    s.state,
    subst (λ (k : WordIndex). k.0 < length w → at w k.0 ≡ 0x0001 → Once Over (step w x)) s.counter
        (λ p q. eodl-once w x p s.state q) inside (ends_is (at w i.0) is),
  )

  told-runs : (b : Bounds) (x : Reading) → After w start x → Runs w 8 start x → (told x).number ≡ 0 → Reach w (told x).steps Over (fresh b)
  told-runs b (Err v) after go h = absurd (omega (arith, after.0, h))
  told-runs b (Ok c) after go h = closes c.by after.2 h
    where
      i : WordIndex
      i = c.place

      n : ℕ
      n = c.steps

      closes : (k : Closer) → layout_at (at w i.0) ≡ layout_by k → (closes_list k i n).number ≡ 0 → Reach w (closes_list k i n).steps Over (fresh b)
      closes Erpt is h = absurd (omega (arith, h))
      closes Eodl is h =
          by-test (leb (n + 1) 1000000) (accepted (n + 1)) (refusal (verdict 31)) (λ (c : Checked). c.number ≡ 0 → Reach w c.steps Over (fresh b))
          (λ few p. then w (Stands i []) Over n 1 (fresh b) (go (fresh b) (begins b)) (λ y s. ending i after.1 is [] y s))
          (λ many p. absurd (omega (arith, p)))
          h

  accepted-runs : (b : Bounds) → (checked w).number ≡ 0 → Reach w (checked w).steps Over (fresh b)
  unfolding checked
  accepted-runs b h =
      by-test (leb (length w) 65536) (told (sequence_at w 8 start)) (refusal (verdict 13)) (λ (c : Checked). c.number ≡ 0 → Reach w c.steps Over (fresh b))
      (λ short p. told-runs b (sequence_at w 8 start) (reading-after w 8 start) (reading-runs w 8 start) p)
      (λ long p. absurd (omega (arith, p)))
      h

pub finishes : (w s : List ℕ) (b : Bounds) → (checked w).number ≡ 0
    → door (record { list = w; budget = (checked w).steps }) (fresh b) (length s) ≡ 0
    → Finished (checked w).steps (whole w s (fresh b) (checked w).steps)
finishes w s b ok opens =
    let n = (checked w).steps in
    subst (λ (a : Answer Env). Finished n a) (run-whole machine (record { list = w; budget = n }) (fresh b) s 0 (sym opens) refl)
    (subst (λ (k : ℕ). Finished k (runs (afgis w) n (fresh b) s 0)) (zero-add n) (finished w n (fresh b) s 0 (accepted-runs w b ok)))

-- the same of what the program states
pub as-stated : (w s : List ℕ) (b : Bounds) (c : Checked) → Promise w c → c.number ≡ 0
    → door (record { list = w; budget = c.steps }) (fresh b) (length s) ≡ 0 → Finished c.steps (whole w s (fresh b) c.steps)
as-stated w s b c is =
    subst (λ (r : Checked). r.number ≡ 0 → door (record { list = w; budget = r.steps }) (fresh b) (length s) ≡ 0 → Finished r.steps (whole w s (fresh b) r.steps)) (sym is)
    (finishes w s b)

-- ---- what is stated: 0 with 1 to 1,000,000 steps, so that no run is refused for that budget; or 13, 20 to 30 or 31 with none. Only 20 to 30 have a place
pub data Stated (c : Checked) : Type 0 where
  sound : c.number ≡ 0 → c.place ≡ start → 1 ≤ c.steps → c.steps ≤ 1000000 → Stated c
  faulty : 20 ≤ c.number → c.number ≤ 30 → c.steps ≡ 0 → Stated c
  too_long : c.number ≡ 13 → c.place ≡ start → c.steps ≡ 0 → Stated c
  too_many : c.number ≡ 31 → c.place ≡ start → c.steps ≡ 0 → Stated c

told-so : (w : List ℕ) (x : Reading) → After w start x → Stated (told x)
told-so w (Err v) after = faulty after.0 after.1 refl
told-so w (Ok c) after = closes c.by
  where
    n : ℕ
    n = c.steps

    closes : (k : Closer) → Stated (closes_list k c.place n)
    closes Erpt = faulty (lit≤ tt) (lit≤ tt) refl
    closes Eodl =
        by-test (leb (n + 1) 1000000) (accepted (n + 1)) (refusal (verdict 31)) Stated
        (λ few. sound refl refl (omega arith) (leb-true (n + 1) 1000000 few))
        (λ many. too_many refl refl refl)

pub stated : (w : List ℕ) → Stated (checked w)
unfolding checked
stated w =
    by-test (leb (length w) 65536) (told (sequence_at w 8 start)) (refusal (verdict 13)) Stated
    (λ short. told-so w (sequence_at w 8 start) (reading-after w 8 start))
    (λ long. too_long refl refl refl)

-- ---- so on a screen of its size no such run is refused at the door
allowed : {c : Checked} → Stated c → c.steps ≤ 1000000
allowed (sound number place some few) = few
allowed (faulty low high steps) = omega (arith, steps)
allowed (too_long number place steps) = omega (arith, steps)
allowed (too_many number place steps) = omega (arith, steps)

short-enough : (w : List ℕ) → (checked w).number ≡ 0 → length w ≤ 65536
unfolding checked
short-enough w h =
    by-test (leb (length w) 65536) (told (sequence_at w 8 start)) (refusal (verdict 13)) (λ (c : Checked). c.number ≡ 0 → length w ≤ 65536)
    (λ short p. leb-true (length w) 65536 short)
    (λ long p. absurd (omega (arith, p)))
    h

pub let-in : (w s : List ℕ) (b : Bounds) → (checked w).number ≡ 0 → size_fits b ≡ true → pane_fits b ≡ true → length s ≡ b.width * b.height
    → door (record { list = w; budget = (checked w).steps }) (fresh b) (length s) ≡ 0
unfolding door
let-in w s b ok size pane area =
    opens (record { list = w; budget = (checked w).steps }) b (fits (fresh b)) (length s)
    (record { size = size; area = area; ranges = fresh-fits b size pane; few = short-enough w ok; short = allowed (stated w) })
