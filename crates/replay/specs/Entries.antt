-- Document 02, T-12: the blocks of a record in their order, read apart from any run. Behind a malformed one nothing is read.
use Rattle.std.specs.Prelude.{ℕ, zero, suc, Option, Some, None, Result, Ok, Err, List, [], ◌∷◌, length, drop}
use Rattle.record.specs.declared.Block.{Block}
use Rattle.record.specs.declared.Malformed.{Malformed}
use Rattle.record.specs.Read.{block_of}

pub data Entry : Type 0 where
  whole : ℕ → ℕ → ℕ → Entry  -- budget, answer, steps
  malformed : Entry

-- what comes of a block, and of what is read behind its bytes
abbrev pub onto : Result (Option Block) Malformed → (ℕ → List Entry) → List Entry
onto (Ok None) later = []
onto (Err m) later = malformed ∷ []
onto (Ok (Some b)) later = whole b.budget b.answer b.steps ∷ later b.size

-- the first argument bounds how many there are
unfoldable pub entries_in : ℕ → List ℕ → List Entry
entries_in zero t = []
entries_in (suc f) t = onto (block_of t) (λ size. entries_in f (drop size t))

-- a block takes a byte at least
unfoldable pub entries : List ℕ → List Entry
entries t = entries_in (length t) t
