-- Document 02, T-14: what a mending answers and what it leaves.
use Rattle.std.specs.Prelude.{ℕ, ◌*◌, ◌≡◌, cond, List, ltb, length, Result, Ok, Err}
use Rattle.std.proofs.lemmas.List.Edits.{sets}
use Rattle.mender.specs.declared.Mended.{Mended}
use Rattle.mender.specs.declared.Unmended.{Unmended}
use Rattle.mender.specs.declared.Unmended.TheVariants.{TooLong, NoRoom}
use Rattle.mender.specs.Walk.{mended}
use Rattle.mender.specs.Report.{changes, numbers}

-- how many words were changed, or why none was, as one struct
abbrev pub answered : Result ℕ Unmended → Mended
answered (Ok k) = record { number = 0; changes = k }
answered (Err TooLong) = record { number = 13; changes = 0 }
answered (Err (NoRoom k)) = record { number = 32; changes = k }

-- the answer, and the list and the report as they are left
pub record Left : Type 0 where
  pub answer : Mended
  pub list : List ℕ
  pub report : List ℕ

abbrev pub left : ℕ → ℕ → List ℕ → List ℕ → Left
left n k w r = record { answer = record { number = n; changes = k }; list = w; report = r }

-- a list above 65,536 words is 13; then a report without room for every change is 32, and tells how many there are; either leaves list and report untouched.
-- The report has the changes from its start, and what lies behind them is as it was
unfoldable pub mending : List ℕ → List ℕ → Left
mending w r =
    let m = mended w in
    let cs = changes w m in
    cond (ltb 65536 (length w)) (left 13 0 w r)
    (cond (ltb (length r) (3 * length cs)) (left 32 (length cs) w r)
    (left 0 (length cs) m (sets r 0 (numbers cs))))

-- what is promised of any list and any report
abbrev pub Promise : List ℕ → List ℕ → Mended → List ℕ → List ℕ → Type 0
Promise w r a w' r' = record { answer = a; list = w'; report = r' } ≡ mending w r
