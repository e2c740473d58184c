-- Bytes are put into a room, and the place behind them is answered.
use Rattle.std.specs.Prelude.{◌≡◌, ℕ, ◌+◌, List, length}
use Rattle.std.proofs.lemmas.List.Edits.{sets}

pub record Puts (bytes before : List ℕ) (at : ℕ) (after : List ℕ) (end : ℕ) : Type 0 where
  pub stored : after ≡ sets before at bytes
  pub place : end ≡ at + length bytes
