-- A table of names, and what stands beside each.
use Rattle.std.specs.Prelude.{ℕ, List, Option, option_map, find}
use Rattle.std.specs.Borrow.{Bor}
use Rattle.std.specs.Str.{bytes_eq}

-- what stands beside a name, where it is in the table
unfoldable pub beside : {T : Type 0} → List (Bor (List ℕ) × T) → List ℕ → Option T
beside table name = option_map (λ e. e.1) (find (λ e. bytes_eq name e.0.now) table)
