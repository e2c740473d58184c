-- Steps kept as 1,000,001 where they are more than 1,000,000: what is made of them comes out as if they had been kept as they are.
use Prim.Native.Nat.{ℕ, ◌+◌, ◌*◌, ◌<◌, ◌≤◌}
use mathlib.Core.Path.{◌≡◌, refl, sym, ap, ◌∙◌}
use mathlib.Core.Bool.{Bool, true, false}
use native.Mathlib.Omega.{arith}
use native.Mathlib.Nat.{mul-le-mul_right, one-mul}
use lib.Dec.{leb}
use borrow.Author.Tests.{leb-true, leb-false, le-leb, lt-leb}
use Rattle.std.specs.Prelude.{min, Ok, Err}
use Rattle.numbers.specs.declared.place.WordIndex.{WordIndex}
use Rattle.checker.specs.declared.reading.Closer.{Closer}
use Rattle.checker.specs.declared.reading.Closer.TheVariants.{Eodl, Erpt}
use Rattle.checker.specs.Reading.{Reading, Block, closed, behind, longer, joined, closes_block, repeated}
use Rattle.checker.specs.Checked.{told, closes_list}
use Rattle.checker.specs.Sums.{cap, capped, capped_block}

-- ---- numbers
low : (n : ℕ) → n ≤ 1000000 → cap n ≡ n
unfolding cap
low n h = rw (le-leb n 1000000 h)

high : (n : ℕ) → 1000000 < n → cap n ≡ 1000001
unfolding cap
high n h = rw (lt-leb n 1000000 h)

-- by whether n is one or the other
sides : (P : ℕ → Type 0) (n : ℕ) → (n ≤ 1000000 → P n) → (1000000 < n → P n) → P n
sides P n l h = go (leb n 1000000) refl
  where
    go : (b : Bool) → leb n 1000000 ≡ b → P n
    go true e = l (leb-true n 1000000 e)
    go false e = h (leb-false n 1000000 e)

-- the lesser of the two
pub least : (n : ℕ) → min n 1000001 ≡ cap n
least n = sides (λ k. min k 1000001 ≡ cap k) n (λ l. omega (arith, low n l)) (λ h. omega (arith, high n h))

pub below : (n : ℕ) → cap n ≤ 1000001
below n = sides (λ k. cap k ≤ 1000001) n (λ l. omega (arith, low n l)) (λ h. omega (arith, high n h))

pub kept : (n : ℕ) → n ≤ 1000001 → cap n ≡ n
kept n s = sides (λ k. k ≤ 1000001 → cap k ≡ k) n (λ l t. low n l) (λ h t. omega (arith, high n h)) s

-- two that are both too many are kept alike
many : (m n : ℕ) → 1000000 < m → 1000000 < n → cap m ≡ cap n
many m n p q = high m p ∙ sym (high n q)

sum_kept : (a b : ℕ) → cap (a + b) ≡ cap (a + cap b)
sum_kept a b =
    sides (λ k. cap (a + k) ≡ cap (a + cap k)) b
    (λ l. ap (λ (k : ℕ). cap (a + k)) (sym (low b l)))
    (λ h. many (a + b) (a + cap b) (omega (arith, h)) (omega (arith, high b h)))

kept-sum : (a b : ℕ) → cap (a + b) ≡ cap (cap a + b)
kept-sum a b =
    sides (λ k. cap (k + b) ≡ cap (cap k + b)) a
    (λ l. ap (λ (k : ℕ). cap (k + b)) (sym (low a l)))
    (λ h. many (a + b) (cap a + b) (omega (arith, h)) (omega (arith, high a h)))

-- at least one pass
passes : (c n : ℕ) → 1 ≤ c → n ≤ c * n
passes c n h = let m : 1 * n ≤ c * n = mul-le-mul_right n h in omega (arith, m, one-mul n)

product-kept : (c n : ℕ) → 1 ≤ c → cap (1 + c * (n + 1)) ≡ cap (1 + c * (cap n + 1))
product-kept c n some =
    sides (λ k. cap (1 + c * (k + 1)) ≡ cap (1 + c * (cap k + 1))) n
    (λ l. ap (λ (k : ℕ). cap (1 + c * (k + 1))) (sym (low n l)))
    (λ h. many (1 + c * (n + 1)) (1 + c * (cap n + 1)) (omega (arith, h, passes c (n + 1) some)) (omega (arith, high n h, passes c (cap n + 1) some)))

-- ---- readings
pub none_more : (x : Reading) → capped x ≡ capped (longer 0 x)
none_more (Err v) = refl
none_more (Ok c) = let z : c.steps ≡ 0 + c.steps = omega arith in ap (λ (k : ℕ). Ok (closed c.by c.place (cap k))) z

regroup : (a b n : ℕ) → cap (a + (b + n)) ≡ cap (cap (a + b) + n)
regroup a b n = let z : a + (b + n) ≡ (a + b) + n = omega arith in ap cap z ∙ kept-sum (a + b) n

pub some_more : (a b : ℕ) (x : Reading) → capped (longer a (longer b x)) ≡ capped (longer (cap (a + b)) x)
some_more a b (Err v) = refl
some_more a b (Ok c) = ap (λ (k : ℕ). Ok (closed c.by c.place k)) (regroup a b c.steps)

-- ---- what is made of a block, of a sequence inside one, and of the whole list
pub joined-kept : (a : ℕ) (on : WordIndex → Reading) (c : Block) → capped (longer a (joined c on)) ≡ capped (longer a (joined (capped_block c) on))
joined-kept a on (Err v) = refl
joined-kept a on (Ok b) =
    some_more a b.steps (on b.next)
    ∙ (ap (λ (n : ℕ). capped (longer n (on b.next))) (sum_kept a b.steps) ∙ sym (some_more a (cap b.steps) (on b.next)))

pub repeated-kept : (c : ℕ) → 1 ≤ c → (x : Reading) → capped_block (repeated c x) ≡ capped_block (repeated c (capped x))
repeated-kept c some (Err v) = refl
repeated-kept c some (Ok s) = go s.by
  where
    go : (k : Closer) → capped_block (closes_block c k s.place s.steps) ≡ capped_block (closes_block c k s.place (cap s.steps))
    go Eodl = refl
    go Erpt = ap (λ (k : ℕ). Ok (behind (record { 0 = s.place.0 + 1 }) k)) (product-kept c s.steps some)

pub told-kept : (x : Reading) → told x ≡ told (capped x)
told-kept (Err v) = refl
told-kept (Ok c) = go c.by
  where
    n : ℕ
    n = c.steps

    go : (k : Closer) → closes_list k c.place n ≡ closes_list k c.place (cap n)
    go Erpt = refl
    go Eodl =
        sides (λ k. closes_list Eodl c.place k ≡ closes_list Eodl c.place (cap k)) n
        (λ l. ap (λ (k : ℕ). closes_list Eodl c.place k) (sym (low n l)))
        (λ h. rw (high n h, lt-leb (n + 1) 1000000 (omega (arith, h))))

-- ---- so steps that were kept are few
abbrev pub Few : Reading → Type 0
Few (Err v) = Unit {0}
Few (Ok c) = c.steps ≤ 1000001

abbrev pub FewInside : Block → Type 0
FewInside (Err v) = Unit {0}
FewInside (Ok b) = b.steps ≤ 1000001

pub few : (x : Reading) → Few (capped x)
few (Err v) = tt
few (Ok c) = below c.steps

pub few-inside : (c : Block) → FewInside (capped_block c)
few-inside (Err v) = tt
few-inside (Ok b) = below b.steps
