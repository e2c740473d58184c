-- Squares are summed dot by dot, and a root is found from above.
use Prim.Native.Nat.{ℕ, zero, suc, ◌+◌, ◌*◌, ◌<◌, ◌≤◌, min}
use native.Mathlib.Decide.{dec_lt}
use mathlib.Core.Path.{◌≡◌, refl, sym, ap, ◌∙◌}
use mathlib.Core.Bool.{Bool, cond}
use mathlib.Core.List.{List, [], ◌∷◌, ◌++◌}
use native.Mathlib.Nat.{mul-le-mul}
use native.Mathlib.Numerals.{add-one}
use native.Mathlib.Omega.{arith}
use borrow.Author.Tests.{lt-leb, le-leb}
use lib.ListN.{length, get_or, drop, drop_of_length-le}
use lib.Seq.{drop-cons}
use Rattle.picture.specs.declared.palette.Colour.{Colour}
use Rattle.picture.specs.Colours.{colour_of}
use Rattle.terminal.specs.declared.light.Light.{Light}
use Rattle.terminal.specs.Lights.{square, with_colour, with_dots, root_up_to, Grown}

-- the largest of the numbers up to k is the root, or k where the root is above
pub root-capped : (k n r : ℕ) → r * r ≤ n → n < (r + 1) * (r + 1) → root_up_to k n ≡ min r k
unfolding root_up_to
root-capped zero n r low high = omega arith
root-capped (suc k) n r low high = by (dec_lt r (suc k)) (root-capped k n r low high)
  where
    by : Dec (r < suc k) → root_up_to k n ≡ min r k → root_up_to (suc k) n ≡ min r (suc k)
    by (yes h) rest =
        let one : r + 1 ≤ suc k = omega arith in
        let above : n < square (suc k) = omega (arith, mul-le-mul {n₂ = suc k} {m₂ = suc k} one one) in
        let same : min r k ≡ min r (suc k) = omega arith in
        ap (λ (b : Bool). cond b (suc k) (root_up_to k n)) (lt-leb (square (suc k)) n above) ∙ rest ∙ same
    by (no h) rest =
        let one : suc k ≤ r = omega arith in
        let below : square (suc k) ≤ n = omega (arith, mul-le-mul {n₂ = r} {m₂ = r} one one) in
        let same : suc k ≡ min r (suc k) = omega arith in
        ap (λ (b : Bool). cond b (suc k) (root_up_to k n)) (le-leb (square (suc k)) n below) ∙ same

-- the highest of the numbers is the root where its own square is at most n
pub root-bright : (k n : ℕ) → square k ≤ n → root_up_to k n ≡ k
unfolding root_up_to
root-bright zero n h = refl
root-bright (suc k) n h = ap (λ (b : Bool). cond b (suc k) (root_up_to k n)) (le-leb (square (suc k)) n h)

one-dot : (l : Light) (ds : List ℕ) (i : ℕ) → i < length ds → with_dots (with_colour l (colour_of (get_or ds i 0))) (drop (i + 1) ds) ≡ with_dots l (drop i ds)
unfolding with_dots
one-dot l ds i h =
    ap (λ (j : ℕ). with_dots (with_colour l (colour_of (get_or ds i 0))) (drop j ds)) (add-one i) ∙ sym (ap (with_dots l) (drop-cons ds i 0 h))

pub dots-append : (l : Light) (a b : List ℕ) → with_dots (with_dots l a) b ≡ with_dots l (a ++ b)
unfolding with_dots
dots-append l [] b = refl
dots-append l (d ∷ a) b = dots-append (with_colour l (colour_of d)) a b

-- ---- a loop over dots
pub record Adding (dots : List ℕ) (light₀ light : Light) (i : ℕ) : Type 0 where
  pub inside : i ≤ length dots
  pub grown : Grown light₀ light (65025 * i)
  pub left : with_dots light (drop i dots) ≡ with_dots light₀ dots

module _ {dots : List ℕ} {light₀ light : Light} {i : ℕ} (c : Adding dots light₀ light i) where
  pub one-added : i < length dots → {k : Colour} → k ≡ colour_of (get_or dots i 0) → {m : Light} → m ≡ with_colour light k → Grown light m 65025
      → Adding dots light₀ m (i + 1)
  one-added h e f g =
      let b = c.grown in
      record {
        inside = omega arith;
        grown = record { red = omega arith; green = omega arith; blue = omega arith };
        left = ap (λ (x : Light). with_dots x (drop (i + 1) dots)) (f ∙ ap (with_colour light) e) ∙ one-dot light dots i h ∙ c.left;
      }

  pub all-added : length dots ≤ i → light ≡ with_dots light₀ dots
  unfolding with_dots
  all-added h = sym (ap (with_dots light) (drop_of_length-le dots h)) ∙ c.left
