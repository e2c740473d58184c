-- The dots of the screen that a dot of the picture shows.
use Rattle.std.specs.Prelude.{ℕ, ◌+◌, ◌*◌, ◌-◌, ◌/◌, ◌≤◌, max}
use Rattle.terminal.specs.declared.span.Span.{Span}

-- dot i of n, at least one dot of `size`
unfoldable pub span_of : ℕ → ℕ → ℕ → Span
span_of i n size = record { from = i * size / n; count = max 1 ((i + 1) * size / n - i * size / n) }

pub record Inside (s : Span) (size : ℕ) : Type 0 where
  pub some : 1 ≤ s.count
  pub within : s.from + s.count ≤ size
