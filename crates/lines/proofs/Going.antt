-- What a walk keeps on its way, whatever the pattern: where it begins, what it may store and step to, one dot more, and its end.
use Rattle.std.proofs.Common.{◌≡◌, ℕ, suc, ◌+◌, ◌*◌, ◌<◌, ◌≤◌, max, cond, List, length, set, sym, refl, ap, ◌∙◌, subst, le_refl, le_antisymm, add-one, arith}
use mathlib.Core.Path.{subst⁻¹}
use Rattle.raster.specs.declared.biased.Spot.{Spot}
use Rattle.raster.specs.Rects.{byte_b, Placed}
use Rattle.lines.specs.declared.course.Course.{Course}
use Rattle.lines.specs.declared.walk.Pace.{Pace}
use Rattle.lines.specs.declared.walk.Place.{Place}
use Rattle.lines.specs.Courses.{offset_of, spot_at, line_spot, lit_b, Fair}
use Rattle.lines.specs.Walks.{next_place, AllSeen, Paced, Reached}
use Rattle.lines.proofs.Walks.{stretched, none_yet, put, at_most}
use Rattle.lines.proofs.Paces.{next-is, on-low}

-- of the dots from the first on, before dot k, those are painted that the pattern o paints; at is dot k's byte, and e what is left there
pub record Going (w o : ℕ) (l : Course) (first last c : ℕ) (s₀ s : List ℕ) (k at e : ℕ) : Type 0 where
  pub painted : s ≡ stretched w o l first k c s₀
  pub long_as : length s ≡ length s₀
  pub from : first ≤ k
  pub to : k ≤ last
  pub slope : Reached l k (offset_of l k) e
  pub byte : at ≡ byte_b w (line_spot l k)

-- ---- at the first dot, q aside
module _ (w : ℕ) (l : Course) (first last : ℕ) (s₀ : List ℕ) (seen : AllSeen w l first (suc last) s₀) (q e : ℕ)
    (h : Fair l × Reached l first q e × (first ≤ last) × (last ≤ l.n)) where
  pub may-begin : Fair l × (first ≤ l.n) × (q ≤ l.m)
  may-begin = let g : first ≤ l.n = omega (arith, h.2, h.3) in (h.0, g, at_most l first q e g h.1)

  -- its spot
  pub first-spot : {p : Spot} → p ≡ spot_at l first q → p ≡ line_spot l first
  first-spot z = z ∙ ap (λ (q : ℕ). spot_at l first q) h.1.is_offset

  pub begins : (o c : ℕ) {at : ℕ} {p : Spot} → p ≡ spot_at l first q → at ≡ byte_b w p → Going w o l first last c s₀ s₀ first at e
  begins o c z b =
      record {
        painted = none_yet w o l first c s₀ first (le_refl first);
        long_as = refl;
        from = le_refl first;
        to = h.2;
        slope = subst (λ (q : ℕ). Reached l first q e) h.1.is_offset h.1;
        byte = b ∙ ap (λ (p : Spot). byte_b w p) (first-spot z);
      }

-- ---- on the way
module _ {w o : ℕ} {l : Course} {first last c : ℕ} {s₀ s : List ℕ} {k at e : ℕ} (seen : AllSeen w l first (suc last) s₀)
    (v : Going w o l first last c s₀ s k at e) where
  -- dot k has a byte of the screen
  here : Placed w (line_spot l k)
  here = (seen k v.from (omega (arith, v.to))).0

  pub on-screen : at < length s
  on-screen =
      subst⁻¹ (λ (n : ℕ). at < n) v.long_as
      (subst⁻¹ (λ (b : ℕ). b < length s₀) v.byte (seen k v.from (omega (arith, v.to))).1)

  -- and is stored where the pattern paints it
  dot-put : cond (lit_b o l k) (set s at c) s ≡ stretched w o l first (suc k) c s₀
  dot-put = put w o l first c s₀ k at s v.from v.byte here v.painted

  -- the last one too
  pub ends : last ≤ k → cond (lit_b o l k) (set s at c) s ≡ stretched w o l first (suc last) c s₀
  ends h = dot-put ∙ ap (λ (b : ℕ). stretched w o l first (suc b) c s₀) (le_antisymm v.to h)

  -- before the last there is a next one
  module _ (fair : Fair l) (far : last ≤ l.n) (h : k < last) where
    module _ (p : Pace) (paced : Paced w l p) where
      pub may-go : (l.m ≤ l.n) × (l.n < 131072) × (e < 2 * l.n) × (at < 4294967296) × (p.on ≤ 2048)
      may-go =
          (fair.short, omega (arith, fair.far), below v.slope.left, low_byte (line_spot l k) v.byte here, on-low w l p paced here.narrow)
        where
          below : e < max 1 (2 * l.n) → e < 2 * l.n
          below g = omega arith

          low_byte : (q : Spot) → at ≡ byte_b w q → Placed w q → at < 4294967296
          low_byte q b g = omega (arith, g)

      pub one_on : {t : List ℕ} {r : Place} → t ≡ cond (lit_b o l k) (set s at c) s → length t ≡ length s → r ≡ next_place l p at e
          → Going w o l first last c s₀ t (k + 1) r.at r.e
      one_on {t} {r} q g z =
          let there = (seen (k + 1) (omega (arith, v.from)) (omega arith)).0 in
          let n = next-is w l p fair paced k e (omega arith) v.slope here there in
          let is = z ∙ ap (λ (b : ℕ). next_place l p b e) v.byte in
          record {
            painted = q ∙ dot-put ∙ ap (λ (b : ℕ). stretched w o l first b c s₀) (sym (add-one k));
            long_as = g ∙ v.long_as;
            from = omega (arith, v.from);
            to = omega arith;
            slope = subst⁻¹ (λ (m : Place). Reached l (k + 1) (offset_of l (k + 1)) m.e) is n.0;
            byte = ap (λ (m : Place). m.at) is ∙ n.1;
          }
