-- A list of which the length is known is its entries, one by one: what is set or read there computes.
use mathlib.Core.Path.{◌≡◌, refl, ap, subst⁻¹}
use mathlib.Core.List.{List, [], ◌∷◌}
use Prim.Native.Nat.{ℕ, zero, suc}
use native.Mathlib.Omega.{arith}
use lib.ListN.{length, get_or, drop}

module _ {A : Type 0} (d : A) where
  -- the first n entries
  abbrev pub spelt : ℕ → List A → List A
  spelt zero xs = []
  spelt (suc n) xs = get_or xs 0 d ∷ spelt n (drop 1 xs)

  is-spelt : (n : ℕ) (xs : List A) → length xs ≡ n → xs ≡ spelt n xs
  is-spelt zero [] h = refl
  is-spelt zero (x ∷ xs) h = absurd (omega (arith, h))
  is-spelt (suc n) [] h = absurd (omega (arith, h))
  is-spelt (suc n) (x ∷ xs) h = ap (λ (ys : List A). x ∷ ys) (is-spelt n xs (omega (arith, h)))

  pub one_by_one : (P : List A → Type 0) {n : ℕ} (xs : List A) → length xs ≡ n → P (spelt n xs) → P xs
  one_by_one P {n} xs h p = subst⁻¹ P (is-spelt n xs h) p
