-- The place behind the last '/', byte by byte; the name of a list's file, its folder and its own name one behind the other.
use Rattle.std.proofs.Common.{◌≡◌, ℕ, zero, suc, ◌+◌, ◌-◌, ◌<◌, ◌≤◌, min, Bool, true, false, not, cond, eqb, List, [], ◌∷◌, ◌++◌, length, get_or, take, sym, refl, ap, ◌∙◌, ap₂, arith, length-append, eq-eqb, ne_eqb, eqb-true}
use lib.Seq.{sets, length-sets}
use Rattle.text.proofs.Joining.{joined}
use Rattle.errand.specs.Paths.{behind_slash, from_top, folder_for, beside_of}

-- where no slash is to come, what was found stays; else the last one is what is found
stays : (found i : ℕ) (bs : List ℕ) → ((k : ℕ) → k < length bs → get_or bs k 0 ≡ 47 → ⊥) → found ≡ behind_slash found i bs
unfolding behind_slash
stays found i [] h = refl
stays found i (b ∷ bs) h =
    stays found (suc i) bs (λ k l. h (suc k) (omega arith))
    ∙ ap (λ (t : Bool). behind_slash (cond t (suc i) found) (suc i) bs) (sym (ne_eqb b 47 (h 0 (omega arith))))

pub no_slash : (path : List ℕ) → ((k : ℕ) → k < length path → get_or path k 0 ≡ 47 → ⊥) → 0 ≡ behind_slash 0 0 path
no_slash path h = stays 0 0 path h

last_of : (found i : ℕ) (bs : List ℕ) (j : ℕ) → j < length bs → get_or bs j 0 ≡ 47 → ((k : ℕ) → j < k → k < length bs → get_or bs k 0 ≡ 47 → ⊥)
    → suc i + j ≡ behind_slash found i bs
unfolding behind_slash
last_of found i [] j l e h = absurd (omega arith)
last_of found i (b ∷ bs) zero l e h =
    let on : suc i + 0 ≡ suc i = omega arith in
    on
    ∙ stays (suc i) (suc i) bs (λ k m. h (suc k) (omega arith) (omega arith))
    ∙ ap (λ (t : Bool). behind_slash (cond t (suc i) found) (suc i) bs) (sym (eq-eqb b 47 e))
last_of found i (b ∷ bs) (suc j) l e h =
    let on : suc i + suc j ≡ suc (suc i) + j = omega arith in
    on ∙ last_of (cond (eqb b 47) (suc i) found) (suc i) bs j (omega arith) e (λ k m n. h (suc k) (omega arith) (omega arith))

pub last_slash : (path : List ℕ) {j : ℕ} → j < length path → get_or path j 0 ≡ 47 → ((k : ℕ) → j < k → k < length path → get_or path k 0 ≡ 47 → ⊥)
    → j + 1 ≡ behind_slash 0 0 path
last_slash path {j} l e h = let on : j + 1 ≡ 1 + j = omega arith in on ∙ last_of 0 0 path j l e h

-- it is within the path
by_byte : (t : Bool) (found i : ℕ) (bs : List ℕ) → behind_slash (suc i) (suc i) bs ≤ suc i + length bs → behind_slash found (suc i) bs ≤ suc i + length bs
    → behind_slash (cond t (suc i) found) (suc i) bs ≤ i + suc (length bs)
by_byte true found i bs here before = omega (arith, here)
by_byte false found i bs here before = omega (arith, before)

pub within : (found i : ℕ) (s : List ℕ) → found ≤ i → behind_slash found i s ≤ i + length s
unfolding behind_slash
within found i [] h = omega arith
within found i (b ∷ bs) h = by_byte (eqb b 47) found i bs (within (suc i) (suc i) bs (omega arith)) (within found (suc i) bs (omega arith))

-- ---- the folder that a name needs
pub no_name : (name : List ℕ) {t : Bool} → t ≡ eqb (length name) 0 → t ≡ true → not t ≡ from_top name
unfolding from_top
no_name [] e h = ap not h
no_name (b ∷ bs) e h = absurd (omega (arith, eqb-true (length (b ∷ bs)) 0 (sym e ∙ h)))

pub by_first : (name : List ℕ) {t : Bool} → t ≡ eqb (length name) 0 → t ≡ false → eqb (get_or name 0 0) 47 ≡ from_top name
unfolding from_top
by_first [] e h = cc
by_first (b ∷ bs) e h = refl

module _ (page name : List ℕ) {t : Bool} (e : t ≡ from_top name) where
  pub from_above : t ≡ true → [] ≡ folder_for page name
  unfolding folder_for
  from_above h = sym (ap (λ (b : Bool). cond b [] (take (behind_slash 0 0 page) page)) (sym e ∙ h))

  pub from-here : t ≡ false → {n : ℕ} → n ≡ behind_slash 0 0 page → take n page ≡ folder_for page name
  unfolding folder_for
  from-here h {n} f = ap (λ (k : ℕ). take k page) f ∙ sym (ap (λ (b : Bool). cond b [] (take (behind_slash 0 0 page) page)) (sym e ∙ h))

pub in_path : (page : List ℕ) {n : ℕ} → n ≡ behind_slash 0 0 page → n ≤ length page
in_path page e = omega (arith, e, within 0 0 page (omega arith))

-- ---- the folder, and the name behind it
module _ (page name room : List ℕ) {folder : List ℕ} (e : folder ≡ folder_for page name) where
  is_whole : folder ++ name ≡ beside_of page name
  unfolding beside_of
  is_whole = ap (λ (f : List ℕ). f ++ name) e

  module _ {room₁ : List ℕ} {at : ℕ} (a : at ≡ 0 + min (length folder) (length room - 0)) (r : room₁ ≡ sets room 0 folder) where
    pub ends : {end : ℕ} → end ≡ at + min (length name) (length room₁ - at) → end ≡ min (length (beside_of page name)) (length room)
    ends b = omega (arith, a, b, ap length r, length-sets room 0 folder, sym (ap length is_whole), length-append folder name)

    pub put_whole : {room₂ : List ℕ} → room₂ ≡ sets room₁ at name → room₂ ≡ sets room 0 (beside_of page name)
    put_whole s = s ∙ ap₂ (λ (m : List ℕ) (i : ℕ). sets m i name) r a ∙ joined room 0 folder name ∙ ap (sets room 0) is_whole
