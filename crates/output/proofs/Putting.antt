-- The bytes of words are put one word after the other, as far as the room goes.
use Rattle.std.proofs.Common.{◌≡◌, ℕ, ◌+◌, ◌*◌, ◌<◌, ◌≤◌, min, List, [], ◌∷◌, ◌++◌, length, get_or, take, sym, refl, ap, subst, ◌∙◌, add-one, arith}
use Rattle.std.proofs.Math.Seq.{sets, take-suc, take_all}
use Rattle.std.proofs.lemmas.List.{length-take, take_min}
use Rattle.io.specs.Counts.{IsPrefixLen}
use Rattle.io.proofs.Counting.{prefix_len_of_le}
use Rattle.text.specs.Puts.{Puts}
use Rattle.text.proofs.Joining.{and_then, same-long}
use Rattle.output.specs.Bytes.{low_of, high_of, bytes_of}

two_each : (ws : List ℕ) → length (bytes_of ws) ≡ 2 * length ws
unfolding bytes_of
two_each [] = refl
two_each (w ∷ ws) = omega (arith, two_each ws)

behind : (a b : List ℕ) → bytes_of (a ++ b) ≡ bytes_of a ++ bytes_of b
unfolding bytes_of
behind [] b = refl
behind (w ∷ a) b = ap (λ (l : List ℕ). low_of w ∷ (high_of w ∷ l)) (behind a b)

pub none : (words room : List ℕ) → Puts (bytes_of (take 0 words)) room 0 room 0
unfolding bytes_of
none words room = record { stored = refl; place = refl }

pub one_word : (words : List ℕ) {room₀ room room' : List ℕ} (i : ℕ) {at end : ℕ} → i < length words → Puts (bytes_of (take i words)) room₀ 0 room at
    → Puts (low_of (get_or words i 0) ∷ (high_of (get_or words i 0) ∷ [])) room at room' end → Puts (bytes_of (take (i + 1) words)) room₀ 0 room' end
unfolding bytes_of
one_word words {room₀} {room} {room'} i {at} {end} h p q =
    let all = sym (ap bytes_of (ap (λ (n : ℕ). take n words) (add-one i) ∙ take-suc words i 0 h) ∙ behind (take i words) (get_or words i 0 ∷ [])) in
    subst (λ (s : List ℕ). Puts s room₀ 0 room' end) all (and_then p q)

-- where they end
pub room-on : (words : List ℕ) (i : ℕ) {room₀ room : List ℕ} {at : ℕ} → Puts (bytes_of (take i words)) room₀ 0 room at
    → (at ≡ 2 * min i (length words)) × (length room ≡ length room₀)
room-on words i p = (omega (arith, p.place, two_each (take i words), length-take i words), same-long p)

pub all-put : (words : List ℕ) (i m : ℕ) {n : ℕ} {room₀ room : List ℕ} {at : ℕ} → length (take n words) ≤ i → n ≡ min m (length words) → at ≤ length room
    → Puts (bytes_of (take i (take n words))) room₀ 0 room at
    → (at ≡ length (bytes_of (take m words))) × (room ≡ sets room₀ 0 (bytes_of (take m words))) × IsPrefixLen at room
all-put words i m {n} {room₀} {room} {at} h e w p =
    let same = ap bytes_of (take_all i (take n words) h ∙ ap (λ (k : ℕ). take k words) e ∙ take_min m words) in
    let all = subst (λ (s : List ℕ). Puts s room₀ 0 room at) same p in
    (omega (arith, all.place), all.stored, prefix_len_of_le at room w)
