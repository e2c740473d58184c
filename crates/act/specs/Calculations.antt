-- What a calculation makes of two numbers.
use Rattle.std.specs.Prelude.{ℕ, ◌≡◌}

-- what may be answered for Vd's value and the operand a is what g makes of them
abbrev pub Makes : (ℕ → ℕ → ℕ → Type 0) → (ℕ → ℕ → ℕ) → ℕ → Type 0
Makes answers g a = (x v : ℕ) → answers x a v → v ≡ g x a
