-- Products modulo m, over plain naturals.
use Rattle.std.proofs.Common.{◌≡◌, ℕ, ◌+◌, ◌*◌, ◌/◌, ◌%◌, sym, ap, ◌∙◌, mul_assoc, mul_comm, add-mul, mul-zero, mul-add}
use native.Mathlib.Nat.{add-mul-mod_self_left, mod-add-div, zero-mod}

-- a factor may be reduced first
pub mod-mul-l : (m a b : ℕ) → (a % m * b) % m ≡ (a * b) % m
mod-mul-l m a b =
    sym (add-mul-mod_self_left (a % m * b) m (a / m * b))
    ∙ ap (λ (n : ℕ). n % m) (rw (← mul_assoc m (a / m) b, ← add-mul (a % m) (m * (a / m)) b, mod-add-div a m))

pub mod-mul-r : (m a b : ℕ) → (a * (b % m)) % m ≡ (a * b) % m
mod-mul-r m a b = rw (mul_comm a (b % m), mul_comm a b) (mod-mul-l m b a)

-- where y and b cancel modulo m, so do a * y and a * b
pub cancels : (m a y b : ℕ) → (y + b) % m ≡ 0 → (a * y + a * b) % m ≡ 0
cancels m a y b e = rw (← mul-add a y b, ← mod-mul-r m a (y + b), e, mul-zero a) (zero-mod m)
