-- Laws of `recolour`: its length, its bytes, one shape after another, and a store.
use Rattle.std.proofs.Common.{◌≡◌, ℕ, zero, suc, ◌+◌, ◌<◌, Bool, true, false, cond, ◌||◌, T, List, [], ◌∷◌, length, get_or, set, sym, refl, ap, ◌∙◌, subst, add-zero, add-suc, suc-add, arith, length-set, get_or-set_other, get_or-set_same, ext_get_or}
use Rattle.raster.specs.Paint.{recolour_from, recolour}
use Rattle.raster.proofs.Tests.{T_false}

length_from : (i : ℕ) (hit : ℕ → Bool) (c : ℕ) (s : List ℕ) → length (recolour_from i hit c s) ≡ length s
unfolding recolour_from
length_from i hit c [] = refl
length_from i hit c (b ∷ bs) = ap suc (length_from (suc i) hit c bs)

pub length-recolour : (hit : ℕ → Bool) (c : ℕ) (s : List ℕ) → length (recolour hit c s) ≡ length s
length-recolour hit c s = length_from 0 hit c s

get_d-from : (i : ℕ) (hit : ℕ → Bool) (c : ℕ) (s : List ℕ) (j : ℕ) → j < length s → get_or (recolour_from i hit c s) j 0 ≡ cond (hit (i + j)) c (get_or s j 0)
unfolding recolour_from
get_d-from i hit c [] j h = absurd (omega arith)
get_d-from i hit c (b ∷ bs) zero h = ap (λ (k : ℕ). cond (hit k) c b) (sym (add-zero i))
get_d-from i hit c (b ∷ bs) (suc j) h =
    get_d-from (suc i) hit c bs j (omega arith) ∙ ap (λ (k : ℕ). cond (hit k) c (get_or bs j 0)) (suc-add i j ∙ sym (add-suc i j))

-- every byte
pub get_d-recolour : (hit : ℕ → Bool) (c : ℕ) (s : List ℕ) (j : ℕ) → j < length s → get_or (recolour hit c s) j 0 ≡ cond (hit j) c (get_or s j 0)
get_d-recolour hit c s j h = get_d-from 0 hit c s j h ∙ ap (λ (k : ℕ). cond (hit k) c (get_or s j 0)) (omega arith)

-- a list that has these bytes is the one
pub only : (hit : ℕ → Bool) (c : ℕ) (s t : List ℕ) → length t ≡ length s
    → ((j : ℕ) → j < length s → get_or t j 0 ≡ cond (hit j) c (get_or s j 0)) → t ≡ recolour hit c s
only hit c s t e f =
    ext_get_or 0 t (recolour hit c s) (e ∙ sym (length-recolour hit c s))
    (λ j l. let l' : j < length s = omega arith in f j l' ∙ sym (get_d-recolour hit c s j l'))

-- shapes that agree at every byte
pub agree : (g h : ℕ → Bool) (c : ℕ) (s : List ℕ) → ((j : ℕ) → j < length s → g j ≡ h j) → recolour g c s ≡ recolour h c s
agree g h c s e =
    only h c s (recolour g c s) (length-recolour g c s)
    (λ j l. get_d-recolour g c s j l ∙ ap (λ (t : Bool). cond t c (get_or s j 0)) (e j l))

-- nothing is hit
pub none : (g : ℕ → Bool) (c : ℕ) (s : List ℕ) → ((j : ℕ) → j < length s → T (g j) → ⊥) → s ≡ recolour g c s
none g c s e = only g c s s refl (λ j l. ap (λ (t : Bool). cond t c (get_or s j 0)) (sym (T_false (g j) (e j l))))

or-cond : (a b : Bool) (c x : ℕ) → cond b c (cond a c x) ≡ cond (a || b) c x
or-cond true true c x = refl
or-cond true false c x = refl
or-cond false b c x = refl

-- one shape and then another in the same colour
pub twice : (g h : ℕ → Bool) (c : ℕ) (s : List ℕ) → recolour h c (recolour g c s) ≡ recolour (λ i. g i || h i) c s
twice g h c s =
    only (λ i. g i || h i) c s (recolour h c (recolour g c s)) (length-recolour h c (recolour g c s) ∙ length-recolour g c s)
    (λ j l. get_d-recolour h c (recolour g c s) j (subst (λ (n : ℕ). j < n) (sym (length-recolour g c s)) l)
    ∙ ap (λ (x : ℕ). cond (h j) c x) (get_d-recolour g c s j l) ∙ or-cond (g j) (h j) c (get_or s j 0))

-- one byte
pub one : (g : ℕ → Bool) (c : ℕ) (s : List ℕ) (a : ℕ) → T (g a) → ((j : ℕ) → j < length s → T (g j) → j ≡ a) → set s a c ≡ recolour g c s
one g c s a y e =
    only g c s (set s a c) (length-set s a c)
    (λ j l. by j l (g j) refl)
  where
    by : (j : ℕ) → j < length s → (t : Bool) → g j ≡ t → get_or (set s a c) j 0 ≡ cond (g j) c (get_or s j 0)
    by j l true q =
        let p : j ≡ a = e j l (subst T (sym q) tt) in
        subst (λ (k : ℕ). get_or (set s a c) k 0 ≡ c) (sym p) (get_or-set_same s a c 0 (subst (λ (k : ℕ). k < length s) p l))
        ∙ sym (ap (λ (t : Bool). cond t c (get_or s j 0)) q)
    by j l false q =
        get_or-set_other s a j c 0 (λ p. subst T q (subst (λ (k : ℕ). T (g k)) (sym p) y))
        ∙ sym (ap (λ (t : Bool). cond t c (get_or s j 0)) q)
