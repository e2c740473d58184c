-- A line put and a line read: what is put is read back, and what is read was put so.
use Prim.Native.Nat.{ℕ, suc, ◌+◌, ◌<◌, ◌≤◌}
use mathlib.Core.Path.{◌≡◌, refl, sym, ap, ap₂, ◌∙◌, subst}
use Rattle.std.specs.Prelude.{Option, Some, None, Result, Ok, Err}
use mathlib.Core.Bool.{Bool, true, false, cond, ◌&&◌}
use mathlib.Core.List.{List, [], ◌∷◌, ◌++◌, append_assoc}
use native.Mathlib.Omega.{arith}
use borrow.Author.Tests.{lt-ltb, le-ltb, ltb-true, ltb-false}
use lib.Dec.{ltb, eqb}
use lib.ListN.{length, take, drop, length-append, take-append-drop}
use lib.Seq.{take-append_seam, drop-append_seam, drop-drop, length-take-le}
use Rattle.text.specs.declared.number.Flaw.{Flaw}
use Rattle.text.specs.Number.{limit, unpadded_of}
use Rattle.text.specs.Decimal.{decimal}
use Rattle.text.specs.Items.{place_of, same}
use Rattle.text.specs.Puts.{Puts}
use Rattle.text.proofs.Joining.{and_then}
use Rattle.std.specs.Cmp.Lexicographic.{pointwise}
use Rattle.std.specs.List.{position}
use Rattle.std.specs.Option.{option_map}
use Rattle.std.specs.Result.{result_ok}
use Rattle.text.proofs.Parting.{stands, place-prefix, same-pointwise, same-is, same-only}
use Rattle.text.proofs.Numbers.{Written, feed-behind, read_back, only}
use Rattle.record.specs.declared.line.Line.{Line}
use Rattle.record.specs.Block.{line_text}
use Rattle.record.specs.Read.{line, numbered, line_of}

pub length-line : (l : List ℕ) (n : ℕ) → length (line_text l n) ≡ length l + length (decimal n) + 1
unfolding line_text
length-line l n =
    let e = length-append l (decimal n ++ (10 ∷ [])) in
    let f = length-append (decimal n) (10 ∷ []) in
    omega (arith, e, f)

-- ---- put: what it is called, its number and the line feed, one behind the other
pub line-put : (n : ℕ) {l r r₁ r₂ r₃ : List ℕ} {at e₁ e₂ e₃ : ℕ} → Puts l r at r₁ e₁ → Puts (decimal n) r₁ e₁ r₂ e₂ → Puts (10 ∷ []) r₂ e₂ r₃ e₃
    → Puts (line_text l n) r at r₃ e₃
unfolding line_text
line-put n p q f = and_then p (and_then q f)

-- ---- read, by the tests
module _ (l s : List ℕ) where
  abbrev pub rest : List ℕ
  rest = drop (length l) s

  abbrev pub feed : ℕ
  feed = place_of 10 rest

  abbrev read : Bool → Bool → Result ℕ Flaw → Option Line
  read t u m = cond (t && u) (numbered m (length l + feed + 1)) None

  is_read : (t u : Bool) → same (take (length l) s) l ≡ t → ltb feed (length rest) ≡ u → read t u (unpadded_of (take feed rest)) ≡ line_of l s
  unfolding line_of
  is_read t u p q = sym (ap₂ (λ (t u : Bool). read t u (unpadded_of (take feed rest))) p q)

  pub other_name : same (take (length l) s) l ≡ false → None ≡ line_of l s
  other_name h = is_read false (ltb feed (length rest)) h refl

  module _ (h : same (take (length l) s) l ≡ true) where
    pub no-feed : length rest ≤ feed → None ≡ line_of l s
    no-feed g = is_read true false h (le-ltb feed (length rest) g)

    pub by_number : feed < length rest → (m : Result ℕ Flaw) → m ≡ unpadded_of (take feed rest) → numbered m (length l + feed + 1) ≡ line_of l s
    by_number g m e = ap (read true true) e ∙ is_read true true h (lt-ltb feed (length rest) g)

-- ---- where the line ends
abbrev pub is_feed : ℕ → Bool
is_feed x = eqb x 10

module _ (s : List ℕ) where
  found : position is_feed s ≡ cond (ltb (place_of 10 s) (length s)) (Some (place_of 10 s)) None
  found = ap (λ (k : ℕ). cond (ltb k (length s)) (Some k) None) (sym (place-prefix 10 s))

  pub ends-at : {k : ℕ} → Some k ≡ position is_feed s → (k ≡ place_of 10 s) × (place_of 10 s < length s)
  ends-at {k} e = go (ltb (place_of 10 s) (length s)) refl (e ∙ found)
    where
      go : (t : Bool) → ltb (place_of 10 s) (length s) ≡ t → Some k ≡ cond t (Some (place_of 10 s)) None → (k ≡ place_of 10 s) × (place_of 10 s < length s)
      go true p h = (cc, ltb-true (place_of 10 s) (length s) p)
      go false p h = absurd (cc)

  pub endless : None ≡ position is_feed s → length s ≤ place_of 10 s
  endless e = go (ltb (place_of 10 s) (length s)) refl (e ∙ found)
    where
      go : (t : Bool) → ltb (place_of 10 s) (length s) ≡ t → None ≡ cond t (Some (place_of 10 s)) None → length s ≤ place_of 10 s
      go true p h = absurd (cc)
      go false p h = ltb-false (place_of 10 s) (length s) p

-- the line of a number that was read, or none
pub line-read : (m : Result ℕ Flaw) (size : ℕ) {o : Option ℕ} → o ≡ result_ok m → option_map (λ (n : ℕ). line n size) o ≡ numbered m size
line-read (Ok n) size e = ap (option_map (λ (n : ℕ). line n size)) e
line-read (Err f) size e = ap (option_map (λ (n : ℕ). line n size)) e

-- a line whose name and line feed were found, by what is read between them
pub by-item : (l s : List ℕ) {r : List ℕ} {k : ℕ} {m : Result ℕ Flaw} {o : Option ℕ} → pointwise eqb (take (length l) s) l ≡ true → r ≡ drop (length l) s
    → Some k ≡ position is_feed r → m ≡ unpadded_of (take k r) → o ≡ result_ok m → option_map (λ (n : ℕ). line n (length l + k + 1)) o ≡ line_of l s
by-item l s {r} {k} {m} {o} name behind at read is =
    let a = ends-at r at in
    let place : k ≡ feed l s = a.0 ∙ ap (place_of 10) behind in
    let size : length l + k + 1 ≡ length l + feed l s + 1 = omega (arith, place) in
    line-read m (length l + k + 1) is
    ∙ ap (numbered m) size
    ∙ by_number l s (same-pointwise (take (length l) s) l ∙ name) (omega (arith, a.1, ap (place_of 10) behind, ap length behind)) m
    (read ∙ ap₂ (λ (n : ℕ) (x : List ℕ). unpadded_of (take n x)) place behind)

-- ---- what is put is read back
module _ (l : List ℕ) (n : ℕ) (behind : List ℕ) where
  apart : line_text l n ++ behind ≡ l ++ (decimal n ++ (10 ∷ behind))
  unfolding line_text
  apart = append_assoc l (decimal n ++ (10 ∷ [])) behind ∙ ap (λ (t : List ℕ). l ++ t) (append_assoc (decimal n) (10 ∷ []) behind)

  pub line-back : n ≤ limit → line_of l (line_text l n ++ behind) ≡ Some (line n (length (line_text l n)))
  line-back small =
      let t : List ℕ = decimal n ++ (10 ∷ behind) in
      let s : List ℕ = l ++ t in
      let behind-name : rest l s ≡ t = drop-append_seam l t in
      let place : feed l s ≡ length (decimal n) = ap (place_of 10) behind-name ∙ feed-behind n behind in
      let number : take (feed l s) (rest l s) ≡ decimal n = ap₂ (λ (k : ℕ) (x : List ℕ). take k x) place behind-name ∙ take-append_seam (decimal n) (10 ∷ behind) in
      let long : length t ≡ length (decimal n) + suc (length behind) = length-append (decimal n) (10 ∷ behind) in
      let fed : feed l s < length (rest l s) = omega (arith, place, ap length behind-name, long) in
      let name : same (take (length l) s) l ≡ true = same-is (take (length l) s) l (take-append_seam l t) in
      let size : length l + feed l s + 1 ≡ length (line_text l n) = omega (arith, place, length-line l n) in
      ap (line_of l) apart
      ∙ sym (by_number l s name fed (Ok n) (sym (ap unpadded_of number ∙ read_back n small)))
      ∙ ap (λ (k : ℕ). Some (line n k)) size

-- ---- what is read was put so
pub record Stood (l s : List ℕ) (n k : ℕ) : Type 0 where
  pub text : s ≡ line_text l n ++ drop k s
  pub size : k ≡ length (line_text l n)
  pub small : n ≤ limit

abbrev Only : List ℕ → List ℕ → Option Line → Type 0
Only l s (Some x) = Stood l s x.number x.size
Only l s None = Unit {0}

module _ (l s : List ℕ) where
  stood : same (take (length l) s) l ≡ true → feed l s < length (rest l s) → (n : ℕ) → Written (take (feed l s) (rest l s)) n → Stood l s n (length l + feed l s + 1)
  unfolding line_text
  stood name fed n w =
      let k = feed l s in
      let x : List ℕ = drop (length l + k + 1) s in
      let one_on : length l + suc k ≡ length l + k + 1 = omega arith in
      let behind : drop k (rest l s) ≡ 10 ∷ x = stands 10 (rest l s) fed ∙ ap (λ (t : List ℕ). 10 ∷ t) (drop-drop (suc k) (length l) s ∙ ap (λ (j : ℕ). drop j s) one_on) in
      let number : rest l s ≡ decimal n ++ (10 ∷ x) = sym (take-append-drop k (rest l s)) ∙ ap₂ (λ (a b : List ℕ). a ++ b) w.text behind in
      let wide : k ≡ length (decimal n) = sym (length-take-le k (rest l s) (omega arith)) ∙ ap length w.text in
      record {
        text =
            sym (take-append-drop (length l) s)
            ∙ ap₂ (λ (a b : List ℕ). a ++ b) (same-only (take (length l) s) l name) number
            ∙ sym (apart l n x);
        size = omega (arith, wide, length-line l n);
        small = w.small;
      }

  by_read : same (take (length l) s) l ≡ true → feed l s < length (rest l s) → (m : Result ℕ Flaw) → m ≡ unpadded_of (take (feed l s) (rest l s))
      → Only l s (numbered m (length l + feed l s + 1))
  by_read name fed (Ok n) e = stood name fed n (only (take (feed l s) (rest l s)) (sym e))
  by_read name fed (Err f) e = tt

  line-only : Only l s (line_of l s)
  line-only = go (same (take (length l) s) l) (ltb (feed l s) (length (rest l s))) refl refl
    where
      go : (t u : Bool) → same (take (length l) s) l ≡ t → ltb (feed l s) (length (rest l s)) ≡ u → Only l s (line_of l s)
      go true true p q =
          subst (Only l s) (is_read l s true true p q) (by_read p (ltb-true (feed l s) (length (rest l s)) q) (unpadded_of (take (feed l s) (rest l s))) refl)
      go true false p q = subst (Only l s) (is_read l s true false p q) tt
      go false u p q = subst (Only l s) (is_read l s false u p q) tt

  pub line-stood : {n size : ℕ} → Some (line n size) ≡ line_of l s → Stood l s n size
  line-stood h = subst (Only l s) (sym h) line-only

  -- so it takes a byte at least, and none past the text's end
  pub line-ends : {n size : ℕ} → Some (line n size) ≡ line_of l s → (1 ≤ size) × (size ≤ length s)
  line-ends {n} {size} h =
      let o = line-stood h in
      let long : length s ≡ length (line_text l n) + length (drop size s) = ap length o.text ∙ length-append (line_text l n) (drop size s) in
      (omega (arith, o.size, length-line l n), omega (arith, long, o.size))
