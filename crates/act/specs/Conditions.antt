-- What a condition answers: None where it is not allowed.
use Rattle.std.specs.Prelude.{ℕ, Bool, cond, Option, Some, None}
use Rattle.numbers.specs.Number.{signed32}
use Rattle.rules.specs.Conditions.{allowed, met}

unfoldable pub is_met : ℕ → ℕ → ℕ → Option Bool
is_met k first second = cond (allowed k) (Some (met k (signed32 first) (signed32 second))) None
