-- The digits of a number: one, or those of its tenth and the last; how many, and how they are put.
use Rattle.std.proofs.Common.{◌≡◌, ℕ, zero, suc, ◌+◌, ◌-◌, ◌*◌, ◌/◌, ◌%◌, ◌<◌, ◌≤◌, Bool, true, false, cond, ltb, List, [], ◌∷◌, ◌++◌, length, set, sym, refl, ap, ◌∙◌, mod-lt, div-add-mod', arith, length-append, ltb-false, ltb-true, le-ltb, lt-ltb}
use lib.Seq.{sets}
use Rattle.text.specs.Decimal.{digits, decimal}
use Rattle.text.specs.Puts.{Puts}
use Rattle.text.proofs.Joining.{and_then}

-- ---- a number by its tenth
pub record Tens (n : ℕ) : Type 0 where
  pub whole : n / 10 * 10 + n % 10 ≡ n
  pub unit : n % 10 < 10

pub tens : (n : ℕ) → Tens n
tens n = record { whole = div-add-mod' n 10; unit = mod-lt n (omega arith) }

pub less : (n : ℕ) → 10 ≤ n → n / 10 < n
less n h = omega (arith, (tens n).whole, (tens n).unit)

-- what holds of numbers of one digit, and of those of more where it holds of their tenth, holds of all
pub by-tenths : (P : ℕ → Type 0) → ((n : ℕ) → n < 10 → P n) → ((n : ℕ) → 10 ≤ n → P (n / 10) → P n) → (n : ℕ) → P n
by-tenths P one more n = up_to n n (omega arith)
  where
    up_to : (f n : ℕ) → n ≤ f → P n
    up_to zero n a = one n (omega arith)
    up_to (suc f) n a = go (ltb n 10) refl (up_to f)
      where
        go : (b : Bool) → ltb n 10 ≡ b → ((m : ℕ) → m ≤ f → P m) → P n
        go true e later = one n (ltb-true n 10 e)
        go false e later = let h = ltb-false n 10 e in more n h (later (n / 10) (omega (arith, less n h)))

-- ---- the bound does not matter where it is no less than the number
few : (f n : ℕ) → n < 10 → digits f n ≡ (48 + n) ∷ []
unfolding digits
few zero n h = refl
few (suc f) n h = ap (λ (b : Bool). cond b ((48 + n) ∷ []) (digits f (n / 10) ++ ((48 + n % 10) ∷ []))) (lt-ltb n 10 h)

many : (f n : ℕ) → 10 ≤ n → digits (suc f) n ≡ digits f (n / 10) ++ ((48 + n % 10) ∷ [])
unfolding digits
many f n h = ap (λ (b : Bool). cond b ((48 + n) ∷ []) (digits f (n / 10) ++ ((48 + n % 10) ∷ []))) (le-ltb n 10 h)

abbrev Enough : ℕ → Type 0
Enough n = (f : ℕ) → n ≤ f → digits f n ≡ digits n n

enough : (n : ℕ) → Enough n
enough = by-tenths Enough (λ n h f a. few f n h ∙ sym (few n n h)) longer
  where
    longer : (n : ℕ) → 10 ≤ n → Enough (n / 10) → Enough n
    longer n h later f a =
        let one_less : f ≡ suc (f - 1) = omega arith in
        let this : n ≡ suc (n - 1) = omega arith in
        let l = less n h in
        ap (λ (g : ℕ). digits g n) one_less ∙ many (f - 1) n h
        ∙ ap (λ (l : List ℕ). l ++ ((48 + n % 10) ∷ [])) (later (f - 1) (omega arith) ∙ sym (later (n - 1) (omega arith)))
        ∙ sym (ap (λ (g : ℕ). digits g n) this ∙ many (n - 1) n h)

pub short : (n : ℕ) → n < 10 → decimal n ≡ (48 + n) ∷ []
unfolding decimal
short n h = few n n h

pub long : (n : ℕ) → 10 ≤ n → decimal n ≡ decimal (n / 10) ++ ((48 + n % 10) ∷ [])
unfolding decimal
long n h =
    let this : n ≡ suc (n - 1) = omega arith in
    let l = less n h in
    ap (λ (f : ℕ). digits f n) this ∙ many (n - 1) n h
    ∙ ap (λ (l : List ℕ). l ++ ((48 + n % 10) ∷ [])) (enough (n / 10) (n - 1) (omega arith))

-- ---- how many
pub one-wide : (n : ℕ) → n < 10 → length (decimal n) ≡ 1
one-wide n h = ap length (short n h)

pub more-wide : (n : ℕ) → 10 ≤ n → length (decimal n) ≡ length (decimal (n / 10)) + 1
more-wide n h = ap length (long n h) ∙ length-append (decimal (n / 10)) ((48 + n % 10) ∷ [])

-- good enough for sums to fit
pub few-digits : (n : ℕ) → length (decimal n) ≤ n + 1
few-digits = by-tenths (λ n. length (decimal n) ≤ n + 1) (λ n h. omega (arith, one-wide n h)) (λ n h later. omega (arith, more-wide n h, less n h, later))

-- ---- how they are put
module _ {l : List ℕ} {at : ℕ} (n : ℕ) where
  pub put_one : n < 10 → Puts (decimal n) l at (set l at (48 + n)) (at + 1)
  put_one h = record { stored = sym (ap (sets l at) (short n h)); place = omega (arith, one-wide n h) }

  pub put-more : {m : List ℕ} {end : ℕ} → 10 ≤ n → Puts (decimal (n / 10)) l at m end → Puts (decimal n) l at (set m end (48 + n % 10)) (end + 1)
  put-more {m} {end} h p =
      let last : Puts ((48 + n % 10) ∷ []) m end (set m end (48 + n % 10)) (end + 1) = record { stored = refl; place = refl } in
      let all = and_then p last in
      record { stored = all.stored ∙ sym (ap (sets l at) (long n h)); place = omega (arith, p.place, more-wide n h) }
