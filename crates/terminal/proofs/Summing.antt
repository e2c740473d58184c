-- The rows of a part are summed one by one.
use Prim.Native.Nat.{ℕ, ◌+◌, ◌-◌, ◌*◌}
use mathlib.Core.Path.{◌≡◌, refl, sym, ap, ◌∙◌}
use mathlib.Core.List.{List}
use native.Mathlib.Numerals.{add-one}
use native.Mathlib.Omega.{arith}
use lib.ListN.{take, drop}
use Rattle.terminal.specs.declared.light.Light.{Light}
use Rattle.terminal.specs.declared.span.Span.{Span}
use Rattle.terminal.specs.Lights.{dark, with_dots, Small, Grown}
use Rattle.terminal.specs.Means.{row, rows}
use Rattle.terminal.proofs.Lighting.{dots-append}

pub record Summed (screen : List ℕ) (width : ℕ) (across : Span) (top : ℕ) (light : Light) (n : ℕ) : Type 0 where
  pub small : Small light (133171200 * n)
  pub sum : light ≡ with_dots dark (rows screen width across top n)

module _ {screen : List ℕ} {width : ℕ} {across : Span} {top : ℕ} where
  pub none-summed : Summed screen width across top dark 0
  unfolding with_dots rows
  none-summed = record { small = record { red = omega arith; green = omega arith; blue = omega arith }; sum = refl }

  module _ {light : Light} {n : ℕ} (c : Summed screen width across top light n) where
    pub one-summed : {m : Light} → m ≡ with_dots light (row screen width across (top + n)) → Grown light m 133171200 → Summed screen width across top m (n + 1)
    unfolding rows
    one-summed e g =
        let b = c.small in
        let dots : List ℕ = row screen width across (top + n) in
        record {
          small = record { red = omega arith; green = omega arith; blue = omega arith };
          sum =
              e
              ∙ ap (λ (x : Light). with_dots x dots) c.sum
              ∙ dots-append dark (rows screen width across top n) dots
              ∙ ap (λ (k : ℕ). with_dots dark (rows screen width across top k)) (sym (add-one n));
        }

pub up_to : (l : Light) (from count : ℕ) (screen : List ℕ) → with_dots l (take (from + count - from) (drop from screen)) ≡ with_dots l (take count (drop from screen))
up_to l from count screen = let e : from + count - from ≡ count = omega arith in ap (λ (k : ℕ). with_dots l (take k (drop from screen))) e
