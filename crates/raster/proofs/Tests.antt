-- Tests that compute, as facts.
use Rattle.std.proofs.Common.{◌≡◌, ℕ, ◌+◌, ◌<◌, Bool, true, false, ◌&&◌, ◌||◌, T, eqb, ltb, sym, refl, subst, arith, eqb→eq, ltb→lt, lt→ltb, ltb-false}
use lib.Dec.{eqb_refl}

-- two tests that follow from each other are one
pub same : (a b : Bool) → (T a → T b) → (T b → T a) → a ≡ b
same true true f g = refl
same true false f g = absurd (f tt)
same false true f g = absurd (g tt)
same false false f g = refl

pub both : (a b : Bool) → T a → T b → T (a && b)
both true true p q = tt
both true false p q = q
both false b p q = p

pub left : (a b : Bool) → T (a && b) → T a
left true b p = tt
left false b p = p

pub right : (a b : Bool) → T (a && b) → T b
right true b p = p
right false b p = absurd p

pub yes-or : (a b : Bool) → T a → T (a || b)
yes-or true b p = tt
yes-or false b p = absurd p

pub or_yes : (a b : Bool) → T b → T (a || b)
or_yes true b p = tt
or_yes false b p = p

pub or_elim : {X : Type 0} (a b : Bool) → T (a || b) → (T a → X) → (T b → X) → X
or_elim true b p f g = f tt
or_elim false b p f g = g p

pub T_false : (b : Bool) → (T b → ⊥) → b ≡ false
T_false true f = absurd (f tt)
T_false false f = refl

pub eq→T : (a b : ℕ) → a ≡ b → T (eqb a b)
eq→T a b e = subst (λ (k : ℕ). T (eqb a k)) e (eqb_refl a)

pub and-true : (a : Bool) → (a && true) ≡ a
and-true true = refl
and-true false = refl

pub and-swap : (a b c d : Bool) → (a && b && (c && d)) ≡ (a && c && (b && d))
and-swap true true c d = refl
and-swap true false true d = refl
and-swap true false false d = refl
and-swap false b c d = refl

pub and-or : (a b c : Bool) → (a && (b || c)) ≡ (a && b || (a && c))
and-or true b c = refl
and-or false b c = refl

pub or-and : (a b c : Bool) → (a && c || (b && c)) ≡ ((a || b) && c)
or-and true b true = refl
or-and true true false = refl
or-and true false false = refl
or-and false b c = refl

-- two tests that are the same where another holds
pub and_same : (a b c : Bool) → (T a → b ≡ c) → (a && b) ≡ (a && c)
and_same true b c f = f tt
and_same false b c f = refl

-- below the next number is below the number, or the number itself
pub lt-next : (j y : ℕ) → (ltb j y || eqb j y) ≡ ltb j (y + 1)
lt-next j y =
    same (ltb j y || eqb j y) (ltb j (y + 1))
    (λ t. or_elim (ltb j y) (eqb j y) t (λ u. lt→ltb j (y + 1) (omega (arith, ltb→lt j y u))) (λ u. lt→ltb j (y + 1) (omega (arith, eqb→eq j y u))))
    (λ t. by (ltb→lt j (y + 1) t) (ltb j y) refl)
  where
    by : j < y + 1 → (b : Bool) → ltb j y ≡ b → T (ltb j y || eqb j y)
    by l true q = yes-or (ltb j y) (eqb j y) (subst T (sym q) tt)
    by l false q = or_yes (ltb j y) (eqb j y) (eq→T j y (omega (arith, ltb-false j y q)))

-- the form of every test on a rectangle
pub four : (a b c d : Bool) → T (a && b && (c && d)) → T a × T b × T c × T d
four a b c d t =
    let p = left (a && b) (c && d) t in
    let q = right (a && b) (c && d) t in
    (left a b p, right a b p, left c d q, right c d q)

pub quad : (a b c d : Bool) → T a → T b → T c → T d → T (a && b && (c && d))
quad a b c d p q r s = both (a && b) (c && d) (both a b p q) (both c d r s)
