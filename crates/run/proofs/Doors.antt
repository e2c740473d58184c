-- The door's tests as the program makes them.
use Prim.Native.Nat.{ℕ, zero, suc, ◌≤◌}
use mathlib.Core.Path.{◌≡◌, refl, sym, ap, ◌∙◌}
use mathlib.Core.Bool.{Bool, true, false}
use mathlib.Core.List.{List, [], ◌∷◌}
use native.Mathlib.Omega.{arith}
use lib.ListN.{length, take}
use Rattle.std.specs.Prelude.{All, ◌↔◌}
use Rattle.std.proofs.lemmas.List.Elements.{All-cons, All-nil, All-head, All-tail}
use Rattle.player.specs.declared.refusal.Unfit.{Unfit}
use Rattle.player.specs.declared.refusal.Unfit.TheVariants as Unfits
use Rattle.player.specs.Refusals.{unfit_number}
use Rattle.rules.specs.Environment.{firsts}
use Rattle.rules.specs.Door.{every}
use Rattle.rules.proofs.Ranges.{both, one, other}

-- ---- what is stacked or open: b is what the program says of the first n
module _ {A : Type 0} (test : A → Bool) where
  abbrev pub Passes : A → Type 0
  Passes x = test x ≡ true

  each : (xs : List A) → every test xs ≡ true → All Passes xs
  each [] h = All-nil Passes
  each (x ∷ xs) h = All-cons Passes x xs (one (test x) _ h) (each xs (other (test x) _ h))

  all_of : (xs : List A) → All Passes xs → every test xs ≡ true
  all_of [] h = refl
  all_of (x ∷ xs) h = both (test x) (every test xs) (All-head Passes x xs h) (all_of xs (All-tail Passes x xs h))

  decided : (xs : List A) (b : Bool) → ((b ≡ true) ↔ All Passes xs) → b ≡ every test xs
  decided xs true h = sym (all_of xs (h.0 refl))
  decided xs false h = by-every (every test xs) refl
    where
      by-every : (t : Bool) → every test xs ≡ t → false ≡ t
      by-every true e = h.1 (each xs e)
      by-every false e = refl

  -- the first n of a list that has so many
  first : (d : A) (n : ℕ) (xs : List A) → n ≤ length xs → firsts d n xs ≡ take n xs
  unfolding firsts
  first d zero xs h = refl
  first d (suc n) [] h = absurd (omega (arith, h))
  first d (suc n) (x ∷ xs) h = ap (λ (t : List A). x ∷ t) (first d n xs (omega (arith, h)))

  pub first-pass : (d : A) (n : ℕ) (xs : List A) (b : Bool) → n ≤ length xs → ((b ≡ true) ↔ All Passes (take n xs)) → b ≡ every test (firsts d n xs)
  first-pass d n xs b h is = decided (take n xs) b is ∙ ap (every test) (sym (first d n xs h))

-- ---- no refusal at the door has the number 0
pub unfit-some : (u : Unfit) → unfit_number u ≡ 0 → ⊥
unfit-some Unfits.Size h = omega (arith, h)
unfit-some Unfits.Screen h = omega (arith, h)
unfit-some Unfits.Field h = omega (arith, h)
unfit-some Unfits.List h = omega (arith, h)
unfit-some Unfits.Budget h = omega (arith, h)
