-- Colours are put one by one, as far as the room goes.
use Rattle.std.proofs.Common.{◌≡◌, ℕ, ◌+◌, ◌*◌, ◌<◌, ◌≤◌, min, List, [], ◌∷◌, ◌++◌, length, get_or, take, sym, refl, ap, ◌∙◌, add-one, arith}
use Rattle.std.proofs.Math.Seq.{sets, take-suc, take_all}
use Rattle.std.proofs.lemmas.List.{length-take, take_min}
use Rattle.io.specs.Counts.{IsPrefixLen}
use Rattle.io.proofs.Counting.{prefix_len_of_le}
use Rattle.text.specs.Puts.{Puts}
use Rattle.text.proofs.Joining.{and_then, same-long}
use Rattle.picture.specs.declared.palette.Colour.{Colour}
use Rattle.picture.specs.Colours.{colour_of, painted}
use Rattle.picture.proofs.Storing.{named}

pub painted-length : (l : List ℕ) → length (painted l) ≡ 3 * length l
unfolding painted
painted-length [] = refl
painted-length (d ∷ ds) = omega (arith, painted-length ds)

painted-append : (a b : List ℕ) → painted (a ++ b) ≡ painted a ++ painted b
unfolding painted
painted-append [] b = refl
painted-append (d ∷ a) b = ap (λ (l : List ℕ). (colour_of d).red ∷ ((colour_of d).green ∷ ((colour_of d).blue ∷ l))) (painted-append a b)

pub no-dot : (dots room : List ℕ) → Puts (painted (take 0 dots)) room 0 room 0
unfolding painted
no-dot dots room = record { stored = refl; place = refl }

pub one-dot : (dots : List ℕ) {room₀ room room' : List ℕ} (i : ℕ) {at end : ℕ} {c : Colour} → i < length dots → Puts (painted (take i dots)) room₀ 0 room at
    → c ≡ colour_of (get_or dots i 0) → Puts (c.red ∷ (c.green ∷ (c.blue ∷ []))) room at room' end
    → Puts (painted (take (i + 1) dots)) room₀ 0 room' end
unfolding painted
one-dot dots i h p e q =
    let last = ap (λ (k : Colour). k.red ∷ (k.green ∷ (k.blue ∷ []))) e in
    let all = sym (ap painted (ap (λ (n : ℕ). take n dots) (add-one i) ∙ take-suc dots i 0 h) ∙ painted-append (take i dots) (get_or dots i 0 ∷ [])) in
    named all (and_then p (named last q))

-- where they end
pub room-on : (dots : List ℕ) (i : ℕ) {room₀ room : List ℕ} {at : ℕ} → Puts (painted (take i dots)) room₀ 0 room at
    → (at ≡ 3 * min i (length dots)) × (length room ≡ length room₀)
room-on dots i p = (omega (arith, p.place, painted-length (take i dots), length-take i dots), same-long p)

pub all-put : (dots : List ℕ) (i m : ℕ) {n : ℕ} {room₀ room : List ℕ} {at : ℕ} → length (take n dots) ≤ i → n ≡ min m (length dots) → at ≤ length room
    → Puts (painted (take i (take n dots))) room₀ 0 room at
    → (at ≡ length (painted (take m dots))) × (room ≡ sets room₀ 0 (painted (take m dots))) × IsPrefixLen at room
all-put dots i m {n} {room = room} {at} h e w p =
    let all = named (ap painted (take_all i (take n dots) h ∙ ap (λ (k : ℕ). take k dots) e ∙ take_min m dots)) p in
    (omega (arith, all.place), all.stored, prefix_len_of_le at room w)
