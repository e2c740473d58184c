-- Document 02, T-12: what appending a block answers, and what it leaves of the record.
use Rattle.std.specs.Prelude.{ℕ, ◌+◌, ◌≡◌, Bool, cond, ◌||◌, Option, Some, None, List, ltb, length}
use Rattle.std.proofs.lemmas.List.Edits.{sets}
use Rattle.text.specs.Number.{limit}
use Rattle.record.specs.declared.Recorded.{Recorded}
use Rattle.record.specs.Block.{block_text}

-- the answer, and the record as it is left
pub record Left : Type 0 where
  pub answer : Recorded
  pub lines : List ℕ

abbrev pub left : ℕ → ℕ → List ℕ → Left
left n used r = record { answer = record { number = n; used = used }; lines = r }

-- a number too large
abbrev pub large : ℕ → ℕ → ℕ → Bool
large b a s = ltb limit b || (ltb limit a || ltb limit s)

-- a block with no room in the lent record, or a number too large, is refused with 32 and writes nothing; else it stands behind the bytes in use,
-- and all else is as it was
unfoldable pub appending : List ℕ → ℕ → ℕ → ℕ → ℕ → Left
appending r used b a s =
    let text = block_text b a s in
    cond (large b a s || ltb (length r) (used + length text)) (left 32 used r) (left 0 (used + length text) (sets r used text))

-- what is promised of any record and any numbers
abbrev pub Promise : List ℕ → ℕ → ℕ → ℕ → ℕ → Recorded → List ℕ → Type 0
Promise r used b a s answer r' = record { answer = answer; lines = r' } ≡ appending r used b a s

-- what is answered where so many bytes were in use: as many as are in use now with 0, or none of the block with 32
abbrev pub told : ℕ → Option ℕ → Recorded
told used None = record { number = 32; used = used }
told used (Some end) = record { number = 0; used = end }
