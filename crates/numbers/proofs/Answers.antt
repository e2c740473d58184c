-- Values and answers that go by a test; which answer it is tells how the test came out.
use Rattle.std.proofs.Common.{◌≡◌, ℕ, Bool, true, false, cond, refl, arith}

pub by-test : {X : Type 0} (t : Bool) (x y : X) (P : X → Type 0) → (t ≡ true → P x) → (t ≡ false → P y) → P (cond t x y)
by-test true x y P f g = f refl
by-test false x y P f g = g refl

-- two different answers, from which `cc` proves 0 ≡ 1
pub clash : ◌≡◌ {A = ℕ} 0 1 → ⊥
clash e = omega arith

pub told-first : {X : Type 0} {a b r : X} (t : Bool) → (b ≡ r → ⊥) → cond t a b ≡ r → (t ≡ true) × (a ≡ r)
told-first true n e = (refl, e)
told-first false n e = absurd (n e)

pub told-second : {X : Type 0} {a b r : X} (t : Bool) → (a ≡ r → ⊥) → cond t a b ≡ r → (t ≡ false) × (b ≡ r)
told-second true n e = absurd (n e)
told-second false n e = (refl, e)
