-- Counting the words that will differ: those counted, with those from here on, are all.
use Prim.Native.Nat.{ℕ, ◌+◌, ◌<◌, ◌≤◌}
use mathlib.Core.Path.{◌≡◌, sym, ap, ◌∙◌, subst}
use mathlib.Core.List.{List}
use native.Mathlib.Omega.{arith}
use lib.ListN.{length, get_or, length-append}
use Rattle.std.specs.Prelude.{Option, Some}
use Rattle.mender.specs.declared.walk.Passed.{Passed}
use Rattle.mender.specs.declared.report.Change.{Change}
use Rattle.mender.specs.Walk.{mended}
use Rattle.mender.specs.Report.{change_of, changes}
use Rattle.mender.proofs.Walking.{passed_at}
use Rattle.mender.proofs.Reporting.{at_most_one, changes_at, changed-on, none_left}

pub record Counting (w : List ℕ) (p : Option ℕ) (n i : ℕ) : Type 0 where
  pub inside : i ≤ length w
  pub few : n ≤ i
  pub so_far : n + length (changes_at w i p) ≡ length (changes w (mended w))

pub none-counted : (w : List ℕ) → Counting w (Some 0) 0 0
unfolding mended
none-counted w = record { inside = omega arith; few = omega arith; so_far = omega arith }

module _ {w : List ℕ} {p : Option ℕ} {n i : ℕ} (c : Counting w p n i) where
  -- m counts word i too
  module _ (h : i < length w) where
    counted : (m : ℕ) → m ≡ n + length (change_of i (get_or w i 0) (passed_at w i p).word) → Counting w (passed_at w i p).left m (i + 1)
    counted m e =
        let cs = change_of i (get_or w i 0) (passed_at w i p).word in
        record {
          inside = omega arith;
          few = omega (arith, e, c.few, at_most_one i (get_or w i 0) (passed_at w i p).word);
          so_far = omega (arith, e, ap length (changed-on w i p h) ∙ length-append cs (changes_at w (i + 1) (passed_at w i p).left), c.so_far);
        }

    pub one-counted : {t : Passed} → t ≡ passed_at w i p → (m : ℕ) → m ≡ n + length (change_of i (get_or w i 0) t.word) → Counting w t.left m (i + 1)
    one-counted is m =
        subst (λ (t : Passed). m ≡ n + length (change_of i (get_or w i 0) t.word) → Counting w t.left m (i + 1)) (sym is) (counted m)

  pub all-counted : length w ≤ i → n ≡ length (changes w (mended w))
  all-counted h = omega (arith, ap (λ (cs : List Change). length cs) (none_left w i p h), c.so_far)
