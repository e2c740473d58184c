-- Document 02, T-14: what is reported is each index whose word differs afterwards, with old and new word, in rising order, and nothing else.
use Prim.Native.Nat.{ℕ, zero, suc, ◌+◌, ◌<◌, ◌≤◌}
use mathlib.Core.Path.{◌≡◌, refl, sym, ap, ◌∙◌, subst}
use mathlib.Core.Bool.{Bool, true, false, cond}
use mathlib.Core.Logic.{◌⊎◌, inl, inr}
use mathlib.Core.List.Memᴰ
use mathlib.Core.List.{List, [], ◌∷◌, ◌++◌, Memᴰ}
use native.Mathlib.Omega.{arith}
use borrow.Author.Tests.{eqb-false}
use lib.Dec.{eqb}
use lib.ListN.{length, get_or}
use Rattle.mender.specs.declared.report.Change.{Change}
use Rattle.mender.specs.Report.{change_of, changes_from, changes}
use Rattle.mender.proofs.Reporting.{change, other_word}

-- the words of index i, before and after
abbrev pub change_at : List ℕ → List ℕ → ℕ → Change
change_at w m i = change i (get_or w i 0) (get_or m i 0)

pub record Differs (w m : List ℕ) (i : ℕ) : Type 0 where
  pub inside : i < length w
  pub other : get_or w i 0 ≡ get_or m i 0 → ⊥

-- the indices rise, the first being at least i
abbrev pub Rising : ℕ → List Change → Type 0
Rising i [] = Unit {0}
Rising i (c ∷ cs) = (i ≤ c.index.0) × Rising (suc c.index.0) cs

-- cs are the changes from w to m: each one that differs, only those, in order
pub record Exactly (w m : List ℕ) (cs : List Change) : Type 0 where
  pub all : (i : ℕ) → Differs w m i → Memᴰ (change_at w m i) cs
  pub only : (c : Change) → Memᴰ c cs → (i : ℕ) × Differs w m i × (c ≡ change_at w m i)
  pub rising : Rising 0 cs

-- ---- in rising order
sooner : (i : ℕ) (cs : List Change) → Rising (suc i) cs → Rising i cs
sooner i [] h = tt
sooner i (c ∷ cs) h = (omega (arith, h.0), h.1)

rises : (i : ℕ) (xs ys : List ℕ) → Rising i (changes_from i xs ys)
unfolding changes_from
rises i [] ys = tt
rises i (x ∷ xs) [] = tt
rises i (x ∷ xs) (y ∷ ys) = by (eqb x y) (rises (suc i) xs ys)
  where
    by : (b : Bool) → Rising (suc i) (changes_from (suc i) xs ys) → Rising i (cond b [] (change i x y ∷ []) ++ changes_from (suc i) xs ys)
    by true h = sooner i (changes_from (suc i) xs ys) h
    by false h = (omega arith, h)

-- ---- each index whose word differs; the words of index j are reported as those of k + j
abbrev change_from : ℕ → List ℕ → List ℕ → ℕ → Change
change_from k xs ys j = change (k + j) (get_or xs j 0) (get_or ys j 0)

one_more : (k : ℕ) (x y : ℕ) (xs ys : List ℕ) (j : ℕ) → change_from (suc k) xs ys j ≡ change_from k (x ∷ xs) (y ∷ ys) (suc j)
one_more k x y xs ys j = let same : suc k + j ≡ k + suc j = omega arith in ap (λ (i : ℕ). change i (get_or xs j 0) (get_or ys j 0)) same

told : (k : ℕ) (xs ys : List ℕ) → length ys ≡ length xs → (j : ℕ) → Differs xs ys j → Memᴰ (change_from k xs ys j) (changes_from k xs ys)
unfolding changes_from
told k [] ys long j d = absurd (omega (arith, d.inside))
told k (x ∷ xs) [] long j d = absurd (omega (arith, long))
told k (x ∷ xs) (y ∷ ys) long zero d = first (other_word k d.other)
  where
    first : change_of k x y ≡ change k x y ∷ [] → Memᴰ (change_from k (x ∷ xs) (y ∷ ys) 0) (change_of k x y ++ changes_from (suc k) xs ys)
    first is =
        let same : k + 0 ≡ k = omega arith in
        subst (λ (cs : List Change). Memᴰ (change_from k (x ∷ xs) (y ∷ ys) 0) (cs ++ changes_from (suc k) xs ys)) (sym is) (Memᴰ.head (ap (λ (i : ℕ). change i x y) same))
told k (x ∷ xs) (y ∷ ys) long (suc j) d =
    Memᴰ.append_right (change_of k x y)
    (Memᴰ.cast (sym (one_more k x y xs ys j)) (told (suc k) xs ys (omega (arith, long)) j (record { inside = omega (arith, d.inside); other = d.other })))

-- ---- and nothing else
abbrev Of : ℕ → List ℕ → List ℕ → Change → Type 0
Of k xs ys c = (j : ℕ) × Differs xs ys j × (c ≡ change_from k xs ys j)

here : (k : ℕ) (x y : ℕ) (xs ys : List ℕ) (c : Change) → (x ≡ y → ⊥) → c ≡ change k x y → Of k (x ∷ xs) (y ∷ ys) c
here k x y xs ys c other is =
    let same : k ≡ k + 0 = omega arith in
    (0, record { inside = omega arith; other = other }, is ∙ ap (λ (i : ℕ). change i x y) same)

later : (k : ℕ) (x y : ℕ) (xs ys : List ℕ) (c : Change) → Of (suc k) xs ys c → Of k (x ∷ xs) (y ∷ ys) c
later k x y xs ys c h = (suc h.0, record { inside = omega (arith, h.1.inside); other = h.1.other }, h.2 ∙ one_more k x y xs ys h.0)

true_of : (k : ℕ) (xs ys : List ℕ) (c : Change) → Memᴰ c (changes_from k xs ys) → Of k xs ys c
unfolding changes_from
true_of k [] ys c m = absurd (Memᴰ.not-nil m)
true_of k (x ∷ xs) [] c m = absurd (Memᴰ.not-nil m)
true_of k (x ∷ xs) (y ∷ ys) c m = by (eqb x y) refl m (true_of (suc k) xs ys c)
  where
    first : (x ≡ y → ⊥) → (c ≡ change k x y) ⊎ Memᴰ c (changes_from (suc k) xs ys) → (Memᴰ c (changes_from (suc k) xs ys) → Of (suc k) xs ys c)
        → Of k (x ∷ xs) (y ∷ ys) c
    first other (inl is) on = here k x y xs ys c other is
    first other (inr m) on = later k x y xs ys c (on m)

    by : (b : Bool) → eqb x y ≡ b → Memᴰ c (cond b [] (change k x y ∷ []) ++ changes_from (suc k) xs ys)
        → (Memᴰ c (changes_from (suc k) xs ys) → Of (suc k) xs ys c) → Of k (x ∷ xs) (y ∷ ys) c
    by true is m on = later k x y xs ys c (on m)
    by false is m on = first (eqb-false x y is) (Memᴰ.cases_cons m) on

-- ---- of two lists of one length
pub exactly : (w m : List ℕ) → length m ≡ length w → Exactly w m (changes w m)
exactly w m long =
    record {
      all = λ i d. Memᴰ.cast (from_0 i) (told 0 w m long i d);
      only = λ c h. let t = true_of 0 w m c h in (t.0, t.1, t.2 ∙ sym (from_0 t.0));
      rising = rises 0 w m;
    }
  where
    from_0 : (i : ℕ) → change_at w m i ≡ change_from 0 w m i
    from_0 i = let same : i ≡ 0 + i = omega arith in ap (λ (j : ℕ). change j (get_or w i 0) (get_or m i 0)) same
