-- T-12 of the program itself, of any appending that kept its promise: 32 exactly where it is due, and what was appended is read back.
use Prim.Native.Nat.{ℕ, ◌+◌, ◌≤◌}
use mathlib.Core.Path.{◌≡◌, refl, sym, ap, ◌∙◌, subst}
use mathlib.Core.Logic.{◌↔◌}
use mathlib.Core.Bool.{Bool, true, false, cond, ◌||◌}
use Rattle.std.specs.Prelude.{Some, Ok}
use mathlib.Core.List.{List, ◌++◌, append_assoc}
use native.Mathlib.Omega.{arith}
use borrow.Author.Tests.{ltb-true, ltb-false}
use lib.Dec.{ltb}
use lib.ListN.{length, take, drop, length-append}
use lib.Seq.{sets, sets-eq, take_at, drop_at, length-sets, length-take-le}
use Rattle.text.specs.Number.{limit}
use Rattle.record.specs.declared.Recorded.{Recorded}
use Rattle.record.specs.Block.{block_text}
use Rattle.record.specs.Read.{block, block_of}
use Rattle.record.specs.Append.{Left, left, appending, Promise}
use Rattle.record.proofs.Blocks.{block_back}

-- no number is too large, and there is room
pub record Fits (r : List ℕ) (used b a s : ℕ) : Type 0 where
  pub budget : b ≤ limit
  pub answer : a ≤ limit
  pub steps : s ≤ limit
  pub room : used + length (block_text b a s) ≤ length r

pub data Came (r : List ℕ) (used b a s : ℕ) (l : Left) : Type 0 where
  at-32 : (Fits r used b a s → ⊥) → l ≡ left 32 used r → Came r used b a s l
  at-0 : Fits r used b a s → l ≡ left 0 (used + length (block_text b a s)) (sets r used (block_text b a s)) → Came r used b a s l

module _ (r : List ℕ) (used b a s : ℕ) where
  abbrev text : List ℕ
  text = block_text b a s

  by_tests : (x y z w : Bool) → ltb limit b ≡ x → ltb limit a ≡ y → ltb limit s ≡ z → ltb (length r) (used + length text) ≡ w
      → Came r used b a s (cond ((x || (y || z)) || w) (left 32 used r) (left 0 (used + length text) (sets r used text)))
  by_tests true y z w p q f g = at-32 (λ h. omega (arith, ltb-true limit b p, h.budget)) refl
  by_tests false true z w p q f g = at-32 (λ h. omega (arith, ltb-true limit a q, h.answer)) refl
  by_tests false false true w p q f g = at-32 (λ h. omega (arith, ltb-true limit s f, h.steps)) refl
  by_tests false false false true p q f g = at-32 (λ h. omega (arith, ltb-true (length r) (used + length text) g, h.room)) refl
  by_tests false false false false p q f g =
      at-0 (record { budget = ltb-false limit b p; answer = ltb-false limit a q; steps = ltb-false limit s f; room = ltb-false (length r) (used + length text) g }) refl

  pub came : Came r used b a s (appending r used b a s)
  unfolding appending
  came = by_tests _ _ _ _ refl refl refl refl

-- ---- an appending that kept the promise: it was asked for a block behind `used` bytes of the record r, and answered x and left r'
pub record Call (r : List ℕ) (used b a s : ℕ) (x : Recorded) (r' : List ℕ) : Type 0 where
  pub kept : Promise r used b a s x r'

abbrev pub outcome : Recorded → List ℕ → Left
outcome x r' = record { answer = x; lines = r' }

-- 0: the block stands behind the bytes that were in use, which are as they were, and so is what lies behind it; it is read back
pub record Appends (r : List ℕ) (used b a s : ℕ) (x : Recorded) (r' : List ℕ) : Type 0 where
  pub fits : Fits r used b a s
  pub used-now : x.used ≡ used + length (block_text b a s)
  pub in_use : take x.used r' ≡ take used r ++ block_text b a s
  pub behind : drop x.used r' ≡ drop x.used r
  pub as_long : length r' ≡ length r
  pub read_back : block_of (drop used r') ≡ Ok (Some (block b a s (length (block_text b a s))))

appends : (r : List ℕ) (used b a s : ℕ) → Fits r used b a s
    → Appends r used b a s (record { number = 0; used = used + length (block_text b a s) }) (sets r used (block_text b a s))
appends r used b a s h =
    let t = block_text b a s in
    let n = used + length t in
    let front : length (take used r) ≡ used = length-take-le used r (omega (arith, h.room)) in
    let long : length (take used r ++ t) ≡ n = length-append (take used r) t ∙ ap (λ (k : ℕ). k + length t) front in
    let parts : sets r used t ≡ (take used r ++ t) ++ drop n r = sets-eq t r used h.room in
    let here : drop used (sets r used t) ≡ t ++ drop n r =
    ap (drop used) (parts ∙ append_assoc (take used r) t (drop n r)) ∙ drop_at (take used r) (t ++ drop n r) used front in
    record {
      fits = h;
      used-now = refl;
      in_use = ap (take n) parts ∙ take_at (take used r ++ t) (drop n r) n long;
      behind = ap (drop n) parts ∙ drop_at (take used r ++ t) (drop n r) n long;
      as_long = length-sets r used t;
      read_back = ap block_of here ∙ block_back b a s (drop n r) h.budget h.answer h.steps;
    }

module _ {r : List ℕ} {used b a s : ℕ} {x : Recorded} {r' : List ℕ} (c : Call r used b a s x r') where
  went : Came r used b a s (outcome x r')
  went = subst (Came r used b a s) (sym c.kept) (came r used b a s)

  number_is : {n u : ℕ} {l : List ℕ} → outcome x r' ≡ left n u l → x.number ≡ n
  number_is e = ap (λ (l : Left). l.answer.number) e

  by : {A : Type 0} → (outcome x r' ≡ left 32 used r → (Fits r used b a s → ⊥) → A)
      → (outcome x r' ≡ left 0 (used + length (block_text b a s)) (sets r used (block_text b a s)) → Fits r used b a s → A) → A
  by {A} refusal done = go went
    where
      go : Came r used b a s (outcome x r') → A
      go (at-32 n e) = refusal e n
      go (at-0 h e) = done e h

  -- which number: 0 or 32, each exactly where it is due
  pub zero : (x.number ≡ 0) ↔ Fits r used b a s
  zero =
      by
      (λ e n. (λ z. absurd (omega (arith, z, number_is e)), λ h. absurd (n h)))
      (λ e h. (λ z. h, λ z. number_is e))

  pub thirty_two : (x.number ≡ 32) ↔ (Fits r used b a s → ⊥)
  thirty_two =
      by
      (λ e n. (λ z. n, λ z. number_is e))
      (λ e h. (λ z. absurd (omega (arith, z, number_is e)), λ n. absurd (n h)))

  pub appended : x.number ≡ 0 → Appends r used b a s x r'
  appended ok =
      by
      (λ e n. absurd (omega (arith, ok, number_is e)))
      (λ e h. subst (λ (l : Left). Appends r used b a s l.answer l.lines) (sym e) (appends r used b a s h))

  -- 32 writes nothing
  pub untouched : x.number ≡ 32 → (r' ≡ r) × (x.used ≡ used)
  untouched ok =
      by
      (λ e n. (ap (λ (l : Left). l.lines) e, ap (λ (l : Left). l.answer.used) e))
      (λ e h. absurd (omega (arith, ok, number_is e)))

  -- the promise is kept by one answer alone
  pub unique : {y : Recorded} {l : List ℕ} → Call r used b a s y l → (x ≡ y) × (r' ≡ l)
  unique other = let same = c.kept ∙ sym other.kept in (ap (λ (l : Left). l.answer) same, ap (λ (l : Left). l.lines) same)
