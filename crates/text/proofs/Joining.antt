-- Bytes are put one by one, as far as the room goes.
use Rattle.std.proofs.Common.{◌≡◌, ℕ, suc, ◌+◌, ◌-◌, ◌<◌, ◌≤◌, min, List, [], ◌∷◌, ◌++◌, length, drop, set, sym, refl, ap, ◌∙◌, add-zero, arith, length-append, drop_of_length-le}
use native.Mathlib.Decide.{dec_lt}
use lib.Seq.{sets, set_out, length-sets}
use Rattle.text.specs.Puts.{Puts}

-- stores past the end change nothing
pub sets-out : (l : List ℕ) (i : ℕ) (vs : List ℕ) → length l ≤ i → sets l i vs ≡ l
sets-out l i [] h = refl
sets-out l i (v ∷ vs) h = let same = set_out l i v h in ap (λ (m : List ℕ). sets m (suc i) vs) same ∙ sets-out l (suc i) vs (omega arith)

-- behind the last byte that fits nothing is put
pub none_left : (part room : List ℕ) (at n : ℕ) → n ≡ min (length part) (length room - at) → sets room (at + n) (drop n part) ≡ room
none_left part room at n e = by (dec_lt n (length part))
  where
    by : Dec (n < length part) → sets room (at + n) (drop n part) ≡ room
    by (yes h) = sets-out room (at + n) (drop n part) (omega (arith, e))
    by (no h) = ap (sets room (at + n)) (drop_of_length-le part (omega (arith, e)))

-- ---- one part behind the other
behind : (l : List ℕ) (i : ℕ) (a b : List ℕ) → sets (sets l i a) (i + length a) b ≡ sets l i (a ++ b)
behind l i [] b = ap (λ (j : ℕ). sets l j b) (add-zero i)
behind l i (v ∷ vs) b =
    let on : i + suc (length vs) ≡ suc i + length vs = omega arith in
    ap (λ (j : ℕ). sets (sets (set l i v) (suc i) vs) j b) on ∙ behind (set l i v) (suc i) vs b

pub joined : (l : List ℕ) (i : ℕ) (a b : List ℕ) → sets (sets l i a) (i + min (length a) (length l - i)) b ≡ sets l i (a ++ b)
joined l i a b = by (dec_lt (length l) (i + length a))
  where
    by : Dec (length l < i + length a) → sets (sets l i a) (i + min (length a) (length l - i)) b ≡ sets l i (a ++ b)
    by (yes h) =
        sets-out (sets l i a) (i + min (length a) (length l - i)) b (omega (arith, length-sets l i a))
        ∙ sym (sets-out (sets l i a) (i + length a) b (omega (arith, length-sets l i a)))
        ∙ behind l i a b
    by (no n) =
        let all : i + min (length a) (length l - i) ≡ i + length a = omega arith in
        ap (λ (j : ℕ). sets (sets l i a) j b) all ∙ behind l i a b

module _ {s l m : List ℕ} {at to : ℕ} (p : Puts s l at m to) where
  pub same-long : length m ≡ length l
  same-long = ap length p.stored ∙ length-sets l at s

  pub and_then : {t n : List ℕ} {end : ℕ} → Puts t m to n end → Puts (s ++ t) l at n end
  and_then {t} q = record {
    stored =
        q.stored
        ∙ ap (λ (x : List ℕ). sets x to t) p.stored
        ∙ ap (λ (j : ℕ). sets (sets l at s) j t) p.place
        ∙ behind l at s t;
    place = omega (arith, q.place, p.place, length-append s t);
  }
