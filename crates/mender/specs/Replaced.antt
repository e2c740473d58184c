-- What making the word x at index i the word y leaves: the word, and the report from k on; n is where the report goes on. Only the mender's loop asks for it.
use Rattle.std.specs.Prelude.{ℕ, ◌+◌, ◌≡◌, List, length}
use Rattle.std.proofs.lemmas.List.Edits.{sets}
use Rattle.mender.specs.Report.{change_of, numbers}

pub record Replaced (x : ℕ) (r : List ℕ) (i y k n x' : ℕ) (r' : List ℕ) : Type 0 where
  pub word : x' ≡ y
  pub report : r' ≡ sets r k (numbers (change_of i x y))
  pub next : n ≡ k + length (numbers (change_of i x y))
