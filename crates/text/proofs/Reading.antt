-- A number is read digit by digit.
use Rattle.std.proofs.Common.{◌≡◌, ℕ, Result, Ok, Err, ◌+◌, ◌-◌, ◌%◌, ◌^◌, ◌<◌, ◌≤◌, Bool, true, false, cond, ◌&&◌, eqb, ltb, leb, List, [], ◌∷◌, length, get_or, take, drop, sym, refl, ap, ◌∙◌, ap₂, true≢false, add-one, arith, drop_of_length-le, drop-cons, le-ltb, lt-ltb, leb-true}
use Rattle.std.specs.Cmp.Lexicographic.{pointwise}
use Rattle.text.specs.declared.number.Flaw.{Flaw}
use Rattle.text.specs.declared.number.Flaw.TheVariants.{Foreign, Large}
use Rattle.text.specs.Number.{limit, digit, with_digit, reading, decimal_of, at_most, negated, signed_of}

-- ---- a digit
pub bounds : (b : ℕ) → digit b ≡ true → (48 ≤ b) × (b ≤ 57)
unfolding digit
bounds b h = go (leb 48 b) (leb b 57) refl refl h
  where
    go : (x y : Bool) → leb 48 b ≡ x → leb b 57 ≡ y → (x && y) ≡ true → (48 ≤ b) × (b ≤ 57)
    go true true p q r = (leb-true 48 b p, leb-true b 57 q)
    go true false p q r = absurd (true≢false (sym r))
    go false y p q r = absurd (true≢false (sym r))

-- ---- one byte on
module _ (n b : ℕ) (bs : List ℕ) where
  abbrev after : Bool → Bool → Result ℕ Flaw
  after d l = cond d (cond l (Err Large) (reading (with_digit n b) bs)) (Err Foreign)

  is-after : (d l : Bool) → digit b ≡ d → ltb limit (with_digit n b) ≡ l → reading n (b ∷ bs) ≡ after d l
  unfolding reading
  is-after d l p q = ap₂ after p q

  pub goes_on : digit b ≡ true → with_digit n b ≤ limit → reading n (b ∷ bs) ≡ reading (with_digit n b) bs
  goes_on h l = is-after true false h (le-ltb limit (with_digit n b) l)

  pub grows-large : digit b ≡ true → limit < with_digit n b → reading n (b ∷ bs) ≡ Err Large
  grows-large h l = is-after true true h (lt-ltb limit (with_digit n b) l)

  pub stops : digit b ≡ false → reading n (b ∷ bs) ≡ Err Foreign
  stops h = is-after false (ltb limit (with_digit n b)) h refl

  -- what one byte makes of a number decides, where more bytes follow
  pub first-decides : {m : ℕ} → reading n (b ∷ []) ≡ Ok m → reading n (b ∷ bs) ≡ reading m bs
  unfolding reading
  first-decides {m} h = go (digit b) (ltb limit (with_digit n b)) h
    where
      go : (d l : Bool) → cond d (cond l (Err Large) (Ok (with_digit n b))) (Err Foreign) ≡ Ok m
          → cond d (cond l (Err Large) (reading (with_digit n b) bs)) (Err Foreign) ≡ reading m bs
      go true true e = absurd (cc)
      go true false e = let same : with_digit n b ≡ m = cc in ap (λ (v : ℕ). reading v bs) same
      go false l e = absurd (cc)

  pub digit-read : {m : ℕ} → digit b ≡ true → m ≡ with_digit n b → m ≤ limit → Ok m ≡ reading n (b ∷ [])
  unfolding reading
  digit-read {m} h e l = let v : with_digit n b ≤ limit = omega (arith, e) in ap Ok e ∙ sym (ap₂ (λ (d x : Bool). cond d (cond x (Err Large) (Ok (with_digit n b))) (Err Foreign)) h (le-ltb limit (with_digit n b) v))

  pub first-ends : {f : Flaw} → reading n (b ∷ []) ≡ Err f → reading n (b ∷ bs) ≡ Err f
  unfolding reading
  first-ends {f} h = go (digit b) (ltb limit (with_digit n b)) h
    where
      go : (d l : Bool) → cond d (cond l (Err Large) (Ok (with_digit n b))) (Err Foreign) ≡ Err f
          → cond d (cond l (Err Large) (reading (with_digit n b) bs)) (Err Foreign) ≡ Err f
      go true true e = e
      go true false e = absurd (cc)
      go false l e = e

-- ---- the same in an item: what will be read from here is what is read
opened : (s : List ℕ) (i : ℕ) → i < length s → drop i s ≡ get_or s i 0 ∷ drop (i + 1) s
opened s i h = drop-cons s i 0 h ∙ ap (λ (j : ℕ). get_or s i 0 ∷ drop j s) (sym (add-one i))

pub begun : (s : List ℕ) → (length s ≡ 0 → ⊥) → reading 0 s ≡ decimal_of s
unfolding decimal_of
begun [] n = absurd (n refl)
begun (b ∷ bs) n = refl

pub nothing : (s : List ℕ) → length s ≡ 0 → Err Foreign ≡ decimal_of s
unfolding decimal_of
nothing [] h = refl
nothing (b ∷ bs) h = absurd (omega arith)

module _ (s : List ℕ) (n i : ℕ) {r : Result ℕ Flaw} (so_far : reading n (drop i s) ≡ r) where
  pub at-end : length s ≤ i → Ok n ≡ r
  unfolding reading
  at-end h = sym (ap (reading n) (drop_of_length-le s h)) ∙ so_far

  pub one_on : {m : ℕ} → i < length s → reading n (get_or s i 0 ∷ []) ≡ Ok m → reading m (drop (i + 1) s) ≡ r
  one_on h e = sym (ap (reading n) (opened s i h) ∙ first-decides n (get_or s i 0) (drop (i + 1) s) e) ∙ so_far

  pub ended : {f : Flaw} → i < length s → reading n (get_or s i 0 ∷ []) ≡ Err f → Err f ≡ r
  ended h e = sym (ap (reading n) (opened s i h) ∙ first-ends n (get_or s i 0) (drop (i + 1) s) e) ∙ so_far

-- ---- bounds and signs
module _ (most : ℕ) {read : Result ℕ Flaw} where
  pub too_large : {n : ℕ} → read ≡ Ok n → most < n → Err Large ≡ at_most most read
  unfolding at_most
  too_large {n} e h = sym (ap (at_most most) e ∙ ap (λ (t : Bool). cond t (Err Large) (Ok n)) (lt-ltb most n h))

  pub within : {n : ℕ} → read ≡ Ok n → n ≤ most → Ok n ≡ at_most most read
  unfolding at_most
  within {n} e h = sym (ap (at_most most) e ∙ ap (λ (t : Bool). cond t (Err Large) (Ok n)) (le-ltb most n h))

  pub still-wrong : {f : Flaw} → read ≡ Err f → Err f ≡ at_most most read
  unfolding at_most
  still-wrong e = sym (ap (at_most most) e)

-- a minus sign leads, or none does
pub signed-minus : (s : List ℕ) {d : List ℕ} → pointwise eqb (take 1 s) (45 ∷ []) ≡ true → d ≡ drop 1 s → negated (at_most (2 ^ 31) (decimal_of d)) ≡ signed_of s
unfolding signed_of
signed-minus [] h e = absurd (cc)
signed-minus (b ∷ bs) {d} h e = go (eqb b 45) h
  where
    go : (t : Bool) → (t && true) ≡ true → negated (at_most (2 ^ 31) (decimal_of d)) ≡ cond t (negated (at_most (2 ^ 31) (decimal_of bs))) (at_most (2 ^ 31 - 1) (decimal_of (b ∷ bs)))
    go true h = ap (λ (s : List ℕ). negated (at_most (2 ^ 31) (decimal_of s))) e
    go false h = absurd (cc)

pub signed-plain : (s : List ℕ) → pointwise eqb (take 1 s) (45 ∷ []) ≡ false → at_most (2 ^ 31 - 1) (decimal_of s) ≡ signed_of s
unfolding signed_of at_most decimal_of
signed-plain [] h = refl
signed-plain (b ∷ bs) h = go (eqb b 45) h
  where
    go : (t : Bool) → (t && true) ≡ false → at_most (2 ^ 31 - 1) (decimal_of (b ∷ bs)) ≡ cond t (negated (at_most (2 ^ 31) (decimal_of bs))) (at_most (2 ^ 31 - 1) (decimal_of (b ∷ bs)))
    go true h = absurd (cc)
    go false h = refl

module _ {read : Result ℕ Flaw} where
  pub bits-of-minus : {r n : ℕ} → read ≡ Ok n → r < 2 ^ 32 → n < 2 ^ 32 → (r + n) % 2 ^ 32 ≡ 0 → Ok r ≡ negated read
  unfolding negated
  bits-of-minus {r} {n} e h l m = let bits : r ≡ (2 ^ 32 - n) % 2 ^ 32 = omega arith in ap Ok bits ∙ sym (ap negated e)

  pub no_minus : {f : Flaw} → read ≡ Err f → Err f ≡ negated read
  unfolding negated
  no_minus e = sym (ap negated e)
