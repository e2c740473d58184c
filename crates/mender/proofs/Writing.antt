-- Writing list and report: with what is still to be stored in them, they are what they will be. Nothing is said of what lies before.
use Prim.Native.Nat.{ℕ, suc, ◌+◌, ◌-◌, ◌<◌, ◌≤◌}
use mathlib.Core.Path.{◌≡◌, refl, sym, ap, ◌∙◌, subst}
use mathlib.Core.List.{List, [], ◌∷◌, ◌++◌, append-nil}
use native.Mathlib.Numerals.{add-one}
use native.Mathlib.Omega.{arith}
use lib.ListN.{length, get_or, drop, set, length-append, length-set, drop_of_length-le}
use lib.Seq.{drop-set-lt, sets, sets-eq, length-sets}
use Rattle.std.specs.Prelude.{Option, Some}
use Rattle.mender.specs.declared.walk.Passed.{Passed}
use Rattle.mender.specs.declared.report.Change.{Change}
use Rattle.mender.specs.Walk.{passing, mended_from, mended}
use Rattle.mender.specs.Report.{change_of, changes_from, changes, three, numbers}
use Rattle.mender.specs.Replaced.{Replaced}
use Rattle.mender.proofs.Walking.{same-long, passed_at, mended_at, one_on}
use Rattle.mender.proofs.Reporting.{change, same_word, other_word, changes_at, changed-on, none_left, numbers-append}

-- ---- one word
module _ (x : ℕ) (r : List ℕ) (i y k : ℕ) where
  pub same-put : x ≡ y → Replaced x r i y k k x r
  unfolding numbers
  same-put h =
      let none = same_word i h in
      record {
        word = h;
        report = sym (ap (λ (cs : List Change). sets r k (numbers cs)) none);
        next = omega (arith, ap (λ (cs : List Change). length (numbers cs)) none);
      }

  module _ (differs : x ≡ y → ⊥) where
    pub room-for-three : k + length (numbers (change_of i x y)) ≤ length r → k + 3 ≤ length r
    unfolding numbers
    room-for-three h = omega (arith, ap (λ (cs : List Change). length (numbers cs)) (other_word i differs), h)

    pub other-put : {n : ℕ} {r' : List ℕ} → n ≡ k + 3 → r' ≡ sets r k (three (change i x y)) → Replaced x r i y k n y r'
    unfolding numbers
    other-put e h =
        let one = other_word i differs in
        record {
          word = refl;
          report = h ∙ sym (ap (λ (cs : List Change). sets r k (numbers cs)) one);
          next = omega (arith, ap (λ (cs : List Change). length (numbers cs)) one);
        }

-- ---- all of them
sets-append : (l : List ℕ) (i : ℕ) (xs ys : List ℕ) → sets l i (xs ++ ys) ≡ sets (sets l i xs) (i + length xs) ys
sets-append l i [] ys = ap (λ (j : ℕ). sets l j ys) (omega arith)
sets-append l i (x ∷ xs) ys = sets-append (set l i x) (suc i) xs ys ∙ ap (λ (j : ℕ). sets (sets (set l i x) (suc i) xs) j ys) (omega arith)

pub record Writing (w₀ r₀ w r : List ℕ) (p : Option ℕ) (k i : ℕ) : Type 0 where
  pub inside : i ≤ length w
  pub as_long : length w ≡ length w₀
  pub report-long : length r ≡ length r₀
  pub list-so-far : sets w i (mended_at w i p) ≡ mended w₀
  pub report-so-far : sets r k (numbers (changes_at w i p)) ≡ sets r₀ 0 (numbers (changes w₀ (mended w₀)))
  pub room : k + length (numbers (changes_at w i p)) ≤ length r

replaced : (w m : List ℕ) → length m ≡ length w → sets w 0 m ≡ m
replaced w m h = sets-eq m w 0 (omega arith) ∙ (ap (λ (l : List ℕ). m ++ l) (drop_of_length-le w {i = 0 + length m} (omega arith)) ∙ append-nil m)

pub none_written : (w r : List ℕ) → length (numbers (changes w (mended w))) ≤ length r → Writing w r w r (Some 0) 0 0
unfolding mended
none_written w r h =
    record {
      inside = omega arith;
      as_long = refl;
      report-long = refl;
      list-so-far = replaced w (mended w) (same-long (Some 0) w);
      report-so-far = refl;
      room = omega arith;
    }

module _ {w₀ r₀ w r : List ℕ} {p : Option ℕ} {k i : ℕ} (c : Writing w₀ r₀ w r p k i) where
  module _ (h : i < length w) where
    abbrev t : Passed
    t = passed_at w i p

    -- what is reported of this word, and what of the later ones
    abbrev here : List ℕ
    here = numbers (change_of i (get_or w i 0) t.word)

    abbrev later : List ℕ
    later = numbers (changes_at w (i + 1) t.left)

    parts : numbers (changes_at w i p) ≡ here ++ later
    parts = ap numbers (changed-on w i p h) ∙ numbers-append (change_of i (get_or w i 0) t.word) (changes_at w (i + 1) t.left)

    lengths : length (numbers (changes_at w i p)) ≡ length here + length later
    lengths = ap length parts ∙ length-append here later

    same_rest : drop (i + 1) (set w i t.word) ≡ drop (i + 1) w
    same_rest = drop-set-lt (i + 1) w i t.word (omega arith)

    written : Writing w₀ r₀ (set w i t.word) (sets r k here) t.left (k + length here) (i + 1)
    written =
        record {
          inside = simp length-set (omega arith);
          as_long = length-set w i t.word ∙ c.as_long;
          report-long = length-sets r k here ∙ c.report-long;
          list-so-far =
              ap (λ (l : List ℕ). sets (set w i t.word) (i + 1) (mended_from t.left l)) same_rest
              ∙ (ap (λ (j : ℕ). sets (set w i t.word) j (mended_at w (i + 1) t.left)) (add-one i)
              ∙ (sym (ap (sets w i) (one_on w i h p))
              ∙ c.list-so-far));
          report-so-far =
              ap (λ (l : List ℕ). sets (sets r k here) (k + length here) (numbers (changes_from (i + 1) l (mended_from t.left l)))) same_rest
              ∙ (sym (sets-append r k here later)
              ∙ (sym (ap (sets r k) parts)
              ∙ c.report-so-far));
          room = rw (length-sets r k here, same_rest) (omega (arith, lengths, c.room));
        }

    put : {n x : ℕ} {r' : List ℕ} → Replaced (get_or w i 0) r i t.word k n x r' → Writing w₀ r₀ (set w i x) r' t.left n (i + 1)
    put {n} {x} {r'} f =
        subst (λ (y : ℕ). Writing w₀ r₀ (set w i y) r' t.left n (i + 1)) (sym f.word)
        (subst (λ (l : List ℕ). Writing w₀ r₀ (set w i t.word) l t.left n (i + 1)) (sym f.report)
        (subst (λ (j : ℕ). Writing w₀ r₀ (set w i t.word) (sets r k here) t.left j (i + 1)) (sym f.next) written))

    -- the same of what the walk answered
    module _ {u : Passed} (answered : u ≡ passing p (get_or w i 0) (length w₀ - i)) where
      is : u ≡ t
      is = answered ∙ ap (λ (n : ℕ). passing p (get_or w i 0) (n - i)) (sym c.as_long)

      pub room-for-it : k + length (numbers (change_of i (get_or w i 0) u.word)) ≤ length r
      room-for-it =
          let fits : k + length here ≤ length r = omega (arith, lengths, c.room) in
          subst (λ (v : Passed). k + length (numbers (change_of i (get_or w i 0) v.word)) ≤ length r) (sym is) fits

      pub one_written : {n x : ℕ} {r' : List ℕ} → Replaced (get_or w i 0) r i u.word k n x r' → Writing w₀ r₀ (set w i x) r' u.left n (i + 1)
      one_written {n} {x} {r'} =
          subst (λ (v : Passed). Replaced (get_or w i 0) r i v.word k n x r' → Writing w₀ r₀ (set w i x) r' v.left n (i + 1)) (sym is) (put)

  -- past the end
  module _ (h : length w ≤ i) where
    pub list_written : w ≡ mended w₀
    unfolding mended_from
    list_written = sym (ap (λ (l : List ℕ). sets w i (mended_from p l)) (drop_of_length-le w h)) ∙ c.list-so-far

    pub report-written : r ≡ sets r₀ 0 (numbers (changes w₀ (mended w₀)))
    unfolding numbers
    report-written = sym (ap (λ (cs : List Change). sets r k (numbers cs)) (none_left w i p h)) ∙ c.report-so-far
