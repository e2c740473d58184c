-- Words are put one by one, as far as the room goes.
use Rattle.std.proofs.Common.{◌≡◌, ℕ, suc, ◌+◌, ◌*◌, ◌-◌, ◌/◌, ◌<◌, ◌≤◌, min, List, [], ◌∷◌, length, get_or, drop, set, sym, refl, ap, ◌∙◌, add-one, arith, length-drop, length-set, drop-cons}
use lib.Seq.{sets}
use native.Mathlib.Decide.{dec_lt}
use Rattle.text.proofs.Joining.{sets-out}
use Rattle.errand.specs.Words.{word, words_in}

pub two-on : (s : List ℕ) (i : ℕ) → 1 < length s - i → words_in (drop i s) ≡ word (get_or s i 0) (get_or s (i + 1) 0) ∷ words_in (drop (i + 2) s)
unfolding words_in
two-on s i h =
    let at : i + 1 ≡ suc i = add-one i in
    let on : suc (suc i) ≡ i + 2 = omega arith in
    ap words_in (drop-cons s i 0 (omega arith))
    ∙ ap (λ (l : List ℕ). words_in (get_or s i 0 ∷ l)) (drop-cons s (suc i) 0 (omega arith))
    ∙ ap (λ (j : ℕ). word (get_or s i 0) (get_or s j 0) ∷ words_in (drop (suc (suc i)) s)) (sym at)
    ∙ ap (λ (j : ℕ). word (get_or s i 0) (get_or s (i + 1) 0) ∷ words_in (drop j s)) on

few : (s : List ℕ) → length s ≤ 1 → words_in s ≡ []
unfolding words_in
few [] h = refl
few (x ∷ []) h = refl
few (x ∷ (y ∷ ys)) h = absurd (omega arith)

pub none_left : (s : List ℕ) (i : ℕ) → length s - i ≤ 1 → words_in (drop i s) ≡ []
none_left s i h = few (drop i s) (omega (arith, length-drop i s))

-- a word for two bytes
pub halved : (s : List ℕ) → length (words_in s) ≡ length s / 2
unfolding words_in
halved [] = refl
halved (x ∷ []) = refl
halved (x ∷ (y ∷ ys)) = omega (arith, halved ys)

-- the first i words are put, and what is still to be put leaves what all words leave
pub record Puts (bytes words₀ words : List ℕ) (i : ℕ) : Type 0 where
  pub long : length words ≡ length words₀
  pub stored : sets words i (words_in (drop (2 * i) bytes)) ≡ sets words₀ 0 (words_in bytes)

module _ {bytes words₀ words : List ℕ} {i : ℕ} (c : Puts bytes words₀ words i) where
  pub all_put : i ≡ min (length words) (length bytes / 2) → words ≡ sets words₀ 0 (words_in bytes)
  all_put e = by (dec_lt i (length words))
    where
      by : Dec (i < length words) → words ≡ sets words₀ 0 (words_in bytes)
      by (yes room) = sym (ap (sets words i) (none_left bytes (2 * i) (omega (arith, e)))) ∙ c.stored
      by (no full) = sym (sets-out words i (words_in (drop (2 * i) bytes)) (omega (arith, full))) ∙ c.stored

  pub one_word : 2 * i + 1 < length bytes → i < length words → {w : ℕ} → w ≡ word (get_or bytes (2 * i) 0) (get_or bytes (2 * i + 1) 0)
      → Puts bytes words₀ (set words i w) (i + 1)
  one_word h l {w} e =
      let opened = two-on bytes (2 * i) (omega arith) in
      let on : 2 * (i + 1) ≡ 2 * i + 2 = omega arith in
      record {
        long = length-set words i w ∙ c.long;
        stored =
            ap (λ (j : ℕ). sets (set words i w) (i + 1) (words_in (drop j bytes))) on
            ∙ ap (λ (j : ℕ). sets (set words i w) j (words_in (drop (2 * i + 2) bytes))) (add-one i)
            ∙ ap (λ (v : ℕ). sets words i (v ∷ words_in (drop (2 * i + 2) bytes))) e
            ∙ sym (ap (sets words i) opened)
            ∙ c.stored;
      }
