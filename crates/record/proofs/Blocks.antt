-- A block put and a block read: what is put is read back, and what is read was put so. So a text is malformed exactly where no block stands.
use Prim.Native.Nat.{ℕ, ◌+◌, ◌≤◌}
use mathlib.Core.Path.{◌≡◌, refl, sym, ap, ◌∙◌, subst}
use Rattle.std.specs.Prelude.{Option, Some, None, Result, Ok, Err}
use mathlib.Core.List.{List, [], ◌∷◌, ◌++◌, append_assoc}
use native.Mathlib.Omega.{arith}
use lib.ListN.{length, drop, length-append}
use lib.Seq.{drop-append_seam, drop-drop}
use Rattle.text.specs.Number.{limit}
use Rattle.text.specs.Decimal.{decimal}
use Rattle.text.specs.Puts.{Puts}
use Rattle.text.proofs.Joining.{and_then}
use Rattle.record.specs.declared.line.Line.{Line}
use Rattle.record.specs.declared.Block.{Block}
use Rattle.record.specs.declared.Malformed.{Malformed}
use Rattle.record.specs.Block.{budget_label, answer_label, steps_label, line_text, block_text}
use Rattle.record.specs.Read.{line, line_of, block, first, second, third, three_lines, due, block_of}
use Rattle.record.proofs.Lines.{length-line, line-back, Stood, line-stood}

pub length-block : (b a s : ℕ) → length (block_text b a s) ≡ length (decimal b) + length (decimal a) + length (decimal s) + 23
unfolding block_text
length-block b a s =
    let e = length-append (line_text budget_label b) (line_text answer_label a ++ line_text steps_label s) in
    let f = length-append (line_text answer_label a) (line_text steps_label s) in
    omega (arith, e, f, length-line budget_label b, length-line answer_label a, length-line steps_label s)

-- ---- put: three lines, one behind the other
pub block-put : (b a s : ℕ) {r r₁ r₂ r₃ : List ℕ} {at e₁ e₂ e₃ : ℕ} → Puts (line_text budget_label b) r at r₁ e₁ → Puts (line_text answer_label a) r₁ e₁ r₂ e₂
    → Puts (line_text steps_label s) r₂ e₂ r₃ e₃ → Puts (block_text b a s) r at r₃ e₃
unfolding block_text
block-put b a s p q f = and_then p (and_then q f)

-- ---- read, by its lines
pub text-ends : (t : List ℕ) → length t ≡ 0 → Ok None ≡ block_of t
unfolding block_of
text-ends [] h = refl
text-ends (x ∷ xs) h = absurd (omega arith)

pub opened : (t : List ℕ) → (length t ≡ 0 → ⊥) → due (three_lines t) ≡ block_of t
unfolding block_of
opened [] n = absurd (n refl)
opened (x ∷ xs) n = refl

module _ (t : List ℕ) {b i : ℕ} (p : Some (line b i) ≡ line_of budget_label t) where
  pub by-second : (x : Option Line) → x ≡ line_of answer_label (drop i t) → second t b i x ≡ three_lines t
  by-second x e = ap (second t b i) e ∙ ap (first t) p

  module _ {a j : ℕ} (q : Some (line a j) ≡ line_of answer_label (drop i t)) where
    pub by-third : (x : Option Line) → x ≡ line_of steps_label (drop (i + j) t) → third b a (i + j) x ≡ three_lines t
    by-third x e = ap (third b a (i + j)) e ∙ by-second (Some (line a j)) q

-- ---- what is put is read back
module _ (b a s : ℕ) (behind : List ℕ) where
  abbrev l₁ : List ℕ
  l₁ = line_text budget_label b

  abbrev l₂ : List ℕ
  l₂ = line_text answer_label a

  abbrev l₃ : List ℕ
  l₃ = line_text steps_label s

  abbrev all : List ℕ
  all = l₁ ++ (l₂ ++ (l₃ ++ behind))

  apart : block_text b a s ++ behind ≡ all
  unfolding block_text
  apart = append_assoc l₁ (l₂ ++ l₃) behind ∙ ap (λ (t : List ℕ). l₁ ++ t) (append_assoc l₂ l₃ behind)

  pub block_back : b ≤ limit → a ≤ limit → s ≤ limit → block_of (block_text b a s ++ behind) ≡ Ok (Some (block b a s (length (block_text b a s))))
  unfolding block_text
  block_back hb ha hs =
      let x = l₂ ++ (l₃ ++ behind) in
      let two : drop (length l₁) all ≡ x = drop-append_seam l₁ x in
      let three : drop (length l₁ + length l₂) all ≡ l₃ ++ behind =
      sym (drop-drop (length l₂) (length l₁) all) ∙ ap (drop (length l₂)) two ∙ drop-append_seam l₂ (l₃ ++ behind) in
      let some : length all ≡ 0 → ⊥ = λ z. omega (arith, z, length-append l₁ x, length-line budget_label b) in
      let p = sym (line-back budget_label b x hb) in
      let q = sym (ap (line_of answer_label) two ∙ line-back answer_label a (l₃ ++ behind) ha) in
      let r = sym (ap (line_of steps_label) three ∙ line-back steps_label s behind hs) in
      let size : length l₁ + length l₂ + length l₃ ≡ length (l₁ ++ (l₂ ++ l₃)) = omega (arith, length-append l₁ (l₂ ++ l₃), length-append l₂ l₃) in
      ap block_of apart ∙ sym (ap due (by-third all p q (Some (line s (length l₃))) r) ∙ opened all some) ∙ ap (λ (k : ℕ). Ok (Some (block b a s k))) size

-- ---- what is read was put so
pub record Whole (t : List ℕ) (b a s k : ℕ) : Type 0 where
  pub text : t ≡ block_text b a s ++ drop k t
  pub size : k ≡ length (block_text b a s)
  pub budget : b ≤ limit
  pub answer : a ≤ limit
  pub steps : s ≤ limit

abbrev Only : List ℕ → Result (Option Block) Malformed → Type 0
Only t (Ok (Some x)) = Whole t x.budget x.answer x.steps x.size
Only t (Ok None) = Unit {0}
Only t (Err m) = Unit {0}

module _ (t : List ℕ) where
  whole : {b a s i j k : ℕ} → Stood budget_label t b i → Stood answer_label (drop i t) a j → Stood steps_label (drop (i + j) t) s k → Whole t b a s (i + j + k)
  unfolding block_text
  whole {b} {a} {s} {i} {j} {k} p q r =
      let l₁ = line_text budget_label b in
      let l₂ = line_text answer_label a in
      let l₃ = line_text steps_label s in
      let two : drop i t ≡ l₂ ++ drop (i + j) t = q.text ∙ ap (λ (x : List ℕ). l₂ ++ x) (drop-drop j i t) in
      let three : drop (i + j) t ≡ l₃ ++ drop (i + j + k) t = r.text ∙ ap (λ (x : List ℕ). l₃ ++ x) (drop-drop k (i + j) t) in
      record {
        text =
            p.text
            ∙ ap (λ (x : List ℕ). l₁ ++ x) (two ∙ ap (λ (x : List ℕ). l₂ ++ x) three)
            ∙ sym (append_assoc l₁ (l₂ ++ l₃) (drop (i + j + k) t) ∙ ap (λ (x : List ℕ). l₁ ++ x) (append_assoc l₂ l₃ (drop (i + j + k) t)));
        size = omega (arith, p.size, q.size, r.size, length-append l₁ (l₂ ++ l₃), length-append l₂ l₃);
        budget = p.small;
        answer = q.small;
        steps = r.small;
      }

  third-only : {b a i j : ℕ} → Stood budget_label t b i → Stood answer_label (drop i t) a j → (x : Option Line) → x ≡ line_of steps_label (drop (i + j) t)
      → Only t (due (third b a (i + j) x))
  third-only p q None e = tt
  third-only {i = i} {j = j} p q (Some l) e = whole p q (line-stood steps_label (drop (i + j) t) e)

  second-only : {b i : ℕ} → Stood budget_label t b i → (x : Option Line) → x ≡ line_of answer_label (drop i t) → Only t (due (second t b i x))
  second-only p None e = tt
  second-only {i = i} p (Some l) e = third-only p (line-stood answer_label (drop i t) e) (line_of steps_label (drop (i + l.size) t)) refl

  first-only : (x : Option Line) → x ≡ line_of budget_label t → Only t (due (first t x))
  first-only None e = tt
  first-only (Some l) e = second-only (line-stood budget_label t e) (line_of answer_label (drop l.size t)) refl

all-only : (t : List ℕ) → Only t (block_of t)
unfolding block_of
all-only [] = tt
all-only (x ∷ xs) = first-only (x ∷ xs) (line_of budget_label (x ∷ xs)) refl

pub block-whole : (t : List ℕ) {b a s size : ℕ} → Ok (Some (block b a s size)) ≡ block_of t → Whole t b a s size
block-whole t h = subst (Only t) (sym h) (all-only t)

-- so it takes a byte at least, and none past the text's end
pub block-ends : (t : List ℕ) {b a s size : ℕ} → Ok (Some (block b a s size)) ≡ block_of t → (1 ≤ size) × (size ≤ length t)
block-ends t {b} {a} {s} {size} h =
    let w = block-whole t h in
    let long : length t ≡ length (block_text b a s) + length (drop size t) = ap length w.text ∙ length-append (block_text b a s) (drop size t) in
    (omega (arith, w.size, length-block b a s), omega (arith, long, w.size))
