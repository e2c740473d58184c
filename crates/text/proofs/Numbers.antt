-- A number has one text without leading zeros: what is written is read back, and what is read was written so.
use Rattle.std.proofs.Common.{◌≡◌, ℕ, Result, Ok, Err, ◌+◌, ◌/◌, ◌%◌, ◌<◌, ◌≤◌, Bool, true, false, cond, ◌&&◌, eqb, ltb, List, [], ◌∷◌, ◌++◌, length, get_or, take, sym, refl, ap, ◌∙◌, subst, ap₂, append_assoc, append-nil, arith, ltb-false, le-ltb, lt-ltb, eq-eqb, ne_eqb, eqb-true, le-leb}
use borrow.Author.Tests.{eqb-false}
use Rattle.std.specs.Cmp.Lexicographic.{pointwise}
use Rattle.text.specs.declared.number.Flaw.{Flaw}
use Rattle.text.specs.declared.number.Flaw.TheVariants.{Foreign, Large}
use Rattle.text.specs.Number.{limit, digit, with_digit, reading, decimal_of, unpadded_of}
use Rattle.text.specs.Decimal.{decimal}
use Rattle.text.specs.Items.{place_of}
use Rattle.text.proofs.Parting.{place_here, place-on}
use Rattle.text.proofs.Reading.{bounds, goes_on}
use Rattle.text.proofs.Decimals.{tens, by-tenths, short, long, one-wide, more-wide}

-- ---- by the tests
module _ (s : List ℕ) where
  abbrev by : Bool → Result ℕ Flaw
  by t = cond t (Err Foreign) (decimal_of s)

  is-by : (t : Bool) → (eqb (get_or s 0 0) 48 && ltb 1 (length s)) ≡ t → by t ≡ unpadded_of s
  unfolding unpadded_of
  is-by t e = sym (ap by e)

  never : (x : Bool) → (x && false) ≡ false
  never true = refl
  never false = refl

  pub lone : length s < 2 → decimal_of s ≡ unpadded_of s
  lone h = is-by false (ap (λ (x : Bool). eqb (get_or s 0 0) 48 && x) (le-ltb 1 (length s) (omega arith)) ∙ never (eqb (get_or s 0 0) 48))

  pub zero-leads : 2 ≤ length s → get_or s 0 0 ≡ 48 → Err Foreign ≡ unpadded_of s
  zero-leads h e = is-by true (ap₂ (λ (x y : Bool). x && y) (eq-eqb (get_or s 0 0) 48 e) (lt-ltb 1 (length s) h))

  pub no-zero-leads : (get_or s 0 0 ≡ 48 → ⊥) → decimal_of s ≡ unpadded_of s
  no-zero-leads n = is-by false (ap (λ (x : Bool). x && ltb 1 (length s)) (ne_eqb (get_or s 0 0) 48 n))

  pub leads-zero : 2 ≤ length s → pointwise eqb (48 ∷ []) (take 1 s) ≡ true → Err Foreign ≡ unpadded_of s
  leads-zero l h = zero-leads l (led s h)
    where
      led : (s : List ℕ) → pointwise eqb (48 ∷ []) (take 1 s) ≡ true → get_or s 0 0 ≡ 48
      led [] h = absurd (cc)
      led (b ∷ bs) h = go (eqb 48 b) refl h
        where
          go : (t : Bool) → eqb 48 b ≡ t → (t && true) ≡ true → b ≡ 48
          go true e h = sym (eqb-true 48 b e)
          go false e h = absurd (cc)

  pub leads_no-zero : 2 ≤ length s → pointwise eqb (48 ∷ []) (take 1 s) ≡ false → decimal_of s ≡ unpadded_of s
  leads_no-zero l h = no-zero-leads (other s l h)
    where
      other : (s : List ℕ) → 2 ≤ length s → pointwise eqb (48 ∷ []) (take 1 s) ≡ false → get_or s 0 0 ≡ 48 → ⊥
      other [] l h e = absurd (omega arith)
      other (b ∷ bs) l h e = let same : eqb 48 b ≡ true = eq-eqb 48 b (sym e) in cc

-- ---- a digit, and none of the digits is a line feed
is_digit : (d : ℕ) → d < 10 → digit (48 + d) ≡ true
unfolding digit
is_digit d h = ap₂ (λ (x y : Bool). x && y) (le-leb 48 (48 + d) (omega arith)) (le-leb (48 + d) 57 (omega arith))

abbrev Fed : ℕ → Type 0
Fed n = (rest : List ℕ) → place_of 10 (decimal n ++ rest) ≡ length (decimal n) + place_of 10 rest

pub behind-digits : (n : ℕ) → Fed n
behind-digits = by-tenths Fed one more
  where
    one : (n : ℕ) → n < 10 → Fed n
    one n h rest =
        let z = ap (λ (l : List ℕ). place_of 10 (l ++ rest)) (short n h) ∙ place-on 10 (48 + n) rest (λ e. omega (arith, e)) in
        omega (arith, z, one-wide n h)

    more : (n : ℕ) → 10 ≤ n → Fed (n / 10) → Fed n
    more n h later rest =
        let d = 48 + n % 10 in
        let z = ap (λ (l : List ℕ). place_of 10 (l ++ rest)) (long n h)
        ∙ ap (place_of 10) (append_assoc (decimal (n / 10)) (d ∷ []) rest)
        ∙ later (d ∷ rest) in
        let y = place-on 10 d rest (λ e. omega (arith, e)) in
        omega (arith, z, y, more-wide n h)

-- the place of the line feed behind a number
pub feed-behind : (n : ℕ) (rest : List ℕ) → place_of 10 (decimal n ++ (10 ∷ rest)) ≡ length (decimal n)
feed-behind n rest = let z = place_here 10 10 rest refl in omega (arith, behind-digits n (10 ∷ rest), z)

-- ---- what is written is read back
abbrev Over : ℕ → Type 0
Over n = n ≤ limit → (rest : List ℕ) → reading 0 (decimal n ++ rest) ≡ reading n rest

over : (n : ℕ) → Over n
over = by-tenths Over one more
  where
    one : (n : ℕ) → n < 10 → Over n
    one n h l rest =
        let v : with_digit 0 (48 + n) ≡ n = omega arith in
        ap (λ (d : List ℕ). reading 0 (d ++ rest)) (short n h)
        ∙ goes_on 0 (48 + n) rest (is_digit n h) (omega (arith, v))
        ∙ ap (λ (v : ℕ). reading v rest) v

    more : (n : ℕ) → 10 ≤ n → Over (n / 10) → Over n
    more n h later l rest =
        let t = tens n in
        let d = 48 + n % 10 in
        let m = n / 10 in
        let v : with_digit m d ≡ n = omega (arith, t.whole) in
        ap (λ (x : List ℕ). reading 0 (x ++ rest)) (long n h)
        ∙ ap (reading 0) (append_assoc (decimal m) (d ∷ []) rest)
        ∙ later (omega (arith, t.whole)) (d ∷ rest)
        ∙ goes_on m d rest (is_digit (n % 10) t.unit) (omega (arith, v))
        ∙ ap (λ (v : ℕ). reading v rest) v

-- the first digit is no zero, but that of 0
record Begins (n : ℕ) : Type 0 where
  first : ℕ
  rest : List ℕ
  is : decimal n ≡ first ∷ rest
  alone : first ≡ 48 → (n ≡ 0) × (rest ≡ [])

begins : (n : ℕ) → Begins n
begins = by-tenths Begins one more
  where
    one : (n : ℕ) → n < 10 → Begins n
    one n h = record { first = 48 + n; rest = []; is = short n h; alone = λ z. (omega arith, refl) }

    more : (n : ℕ) → 10 ≤ n → Begins (n / 10) → Begins n
    more n h b =
        record {
          first = b.first;
          rest = b.rest ++ ((48 + n % 10) ∷ []);
          is = long n h ∙ ap (λ (l : List ℕ). l ++ ((48 + n % 10) ∷ [])) b.is;
          alone = λ z. absurd (omega (arith, (b.alone z).0, (tens n).whole, (tens n).unit));
        }

-- with or without leading zeros
any-zeros : (n : ℕ) → n ≤ limit → decimal_of (decimal n) ≡ Ok n
unfolding decimal_of reading
any-zeros n h =
    let b = begins n in
    ap decimal_of b.is ∙ sym (ap (reading 0) b.is) ∙ sym (ap (reading 0) (append-nil (decimal n))) ∙ over n h []

no-zeros : (n : ℕ) (b : Begins n) (t : Bool) → eqb b.first 48 ≡ t → decimal_of (decimal n) ≡ unpadded_of (decimal n)
no-zeros n b true e =
    let z : n ≡ 0 = (b.alone (eqb-true b.first 48 e)).0 in
    lone (decimal n) (omega (arith, one-wide n (omega arith)))
no-zeros n b false e = no-zero-leads (decimal n) (λ z. eqb-false b.first 48 e (sym (ap (λ (l : List ℕ). get_or l 0 0) b.is) ∙ z))

pub read_back : (n : ℕ) → n ≤ limit → unpadded_of (decimal n) ≡ Ok n
read_back n h = sym (no-zeros n (begins n) (eqb (begins n).first 48) refl) ∙ any-zeros n h

-- ---- what is read was written so
pub record Written (s : List ℕ) (n : ℕ) : Type 0 where
  pub text : s ≡ decimal n
  pub small : n ≤ limit

abbrev Only : List ℕ → Result ℕ Flaw → Type 0
Only s (Ok n) = Written s n
Only s (Err f) = Unit {0}

-- one digit more
grown : (v b : ℕ) → 1 ≤ v → digit b ≡ true → decimal (with_digit v b) ≡ decimal v ++ (b ∷ [])
grown v b h d =
    let r = bounds b d in
    let n = with_digit v b in
    let t = tens n in
    let tenth : n / 10 ≡ v = omega (arith, t.whole, t.unit, r.0, r.1) in
    let last : 48 + n % 10 ≡ b = omega (arith, t.whole, t.unit, r.0, r.1) in
    long n (omega arith) ∙ ap₂ (λ (m c : ℕ). decimal m ++ (c ∷ [])) tenth last

reading-only : (bs : List ℕ) (v : ℕ) → 1 ≤ v → v ≤ limit → Only (decimal v ++ bs) (reading v bs)
unfolding reading
reading-only [] v h l = record { text = append-nil (decimal v); small = l }
reading-only (b ∷ bs) v h l = go (digit b) (ltb limit (with_digit v b)) refl refl (reading-only bs (with_digit v b))
  where
    go : (d x : Bool) → digit b ≡ d → ltb limit (with_digit v b) ≡ x
        → (1 ≤ with_digit v b → with_digit v b ≤ limit → Only (decimal (with_digit v b) ++ bs) (reading (with_digit v b) bs))
        → Only (decimal v ++ (b ∷ bs)) (cond d (cond x (Err Large) (reading (with_digit v b) bs)) (Err Foreign))
    go true true p q later = tt
    go true false p q later =
        subst (λ (s : List ℕ). Only s (reading (with_digit v b) bs))
        (ap (λ (d : List ℕ). d ++ bs) (grown v b h p) ∙ append_assoc (decimal v) (b ∷ []) bs)
        (later (omega arith) (ltb-false limit (with_digit v b) q))
    go false x p q later = tt

-- the first digit is no zero
first-digit : (b : ℕ) (bs : List ℕ) → (b ≡ 48 → ⊥) → Only (b ∷ bs) (reading 0 (b ∷ bs))
unfolding reading
first-digit b bs n = go (digit b) (ltb limit (with_digit 0 b)) refl refl
  where
    go : (d x : Bool) → digit b ≡ d → ltb limit (with_digit 0 b) ≡ x → Only (b ∷ bs) (cond d (cond x (Err Large) (reading (with_digit 0 b) bs)) (Err Foreign))
    go true true p q = tt
    go true false p q =
        let r = bounds b p in
        let v = with_digit 0 b in
        let some : 1 ≤ v = omega (arith, r.0, n) in
        let one : decimal v ≡ b ∷ [] = short v (omega (arith, r.0, r.1)) ∙ ap (λ (c : ℕ). c ∷ []) (omega (arith, r.0)) in
        subst (λ (s : List ℕ). Only s (reading v bs)) (ap (λ (d : List ℕ). d ++ bs) one) (reading-only bs v some (ltb-false limit v q))
    go false x p q = tt

-- a zero alone
lone-zero : (b : ℕ) (bs : List ℕ) → b ≡ 48 → length bs < 1 → Only (b ∷ bs) (reading 0 (b ∷ bs))
unfolding reading digit
lone-zero b [] e h = subst (λ (c : ℕ). Only (c ∷ []) (reading 0 (c ∷ []))) (sym e) (record { text = sym (short 0 (omega arith)); small = omega arith })
lone-zero b (c ∷ bs) e h = absurd (omega arith)

all-only : (s : List ℕ) → Only s (unpadded_of s)
unfolding unpadded_of decimal_of
all-only [] = tt
all-only (b ∷ bs) = go (eqb b 48) (ltb 1 (length (b ∷ bs))) refl refl
  where
    go : (t u : Bool) → eqb b 48 ≡ t → ltb 1 (length (b ∷ bs)) ≡ u → Only (b ∷ bs) (cond (t && u) (Err Foreign) (reading 0 (b ∷ bs)))
    go true true e f = tt
    go true false e f = lone-zero b bs (eqb-true b 48 e) (omega (arith, ltb-false 1 (length (b ∷ bs)) f))
    go false u e f = first-digit b bs (eqb-false b 48 e)

pub only : (s : List ℕ) {n : ℕ} → unpadded_of s ≡ Ok n → Written s n
only s h = subst (Only s) h (all-only s)
