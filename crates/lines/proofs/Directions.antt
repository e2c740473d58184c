-- A line does not depend on its direction (request T-02), so what is rubbed out from the other end leaves nothing.
use Rattle.std.proofs.Common.{◌≡◌, ℕ, zero, suc, ◌<◌, ◌≤◌, max, Bool, true, false, cond, not, T, leb, ◌⊎◌, List, ℤ, pos, negsuc, ◌+ℤ◌, ◌-ℤ◌, neg_ℤ, nat_abs, sym, refl, ap, ◌∙◌, subst, ap₂, inl, inr, ⊎_elim, arith, le-leb, leb-false, leb-true}
use native.Mathlib.Decide.{dec_lt}
use lib.IntN.{+ℤ_idl, +ℤ_comm, +ℤ_invr, -ℤ-+ℤ_cancel, neg_ℤ-neg_ℤ, neg_ℤ-+ℤ}
use lib.Signed.{le_z, ≤ℤ_refl}
use borrow.Author.Tests.{lt-leb}
use Rattle.raster.specs.declared.dots.Dot.{Dot}
use Rattle.raster.specs.declared.frame.Frame.{Frame}
use Rattle.raster.specs.Shapes.{gap, dot, some_below}
use Rattle.raster.specs.Paint.{paint}
use Rattle.raster.proofs.Paintings.{over}
use Rattle.lines.specs.declared.line.Line.{Line}
use Rattle.lines.specs.Line.{long, flat, rising, start, finish, dot_from, line_dot, line}

-- ---- two coordinates: they are one, or one of them is the smaller
either_way : (a b : ℕ) → (a ≡ b) ⊎ (leb b a ≡ not (leb a b))
either_way a b = by (dec_lt a b) (dec_lt b a)
  where
    by : Dec (a < b) → Dec (b < a) → (a ≡ b) ⊎ (leb b a ≡ not (leb a b))
    by (yes h) d = inr (lt-leb b a h ∙ sym (ap not (le-leb a b (omega arith))))
    by (no h) (yes k) = inr (le-leb b a (omega arith) ∙ sym (ap not (lt-leb a b k)))
    by (no h) (no k) = inl (omega arith)

order : (a b : ℤ) → (a ≡ b) ⊎ (le_z b a ≡ not (le_z a b))
order (pos a) (pos b) = ⊎_elim (λ e. inl (ap pos e)) (λ e. inr e) (either_way a b)
order (pos a) (negsuc b) = inr refl
order (negsuc a) (pos b) = inr refl
order (negsuc a) (negsuc b) = ⊎_elim (λ e. inl (ap negsuc (sym e))) (λ e. inr e) (either_way b a)

-- ---- their difference
abs_neg : (z : ℤ) → nat_abs (neg_ℤ z) ≡ nat_abs z
abs_neg (pos zero) = refl
abs_neg (pos (suc n)) = refl
abs_neg (negsuc n) = refl

pub gap-swap : (a b : ℤ) → gap a b ≡ gap b a
gap-swap a b = sym (abs_neg (b -ℤ a)) ∙ ap nat_abs (neg_ℤ-+ℤ b (neg_ℤ a) ∙ ap (λ (z : ℤ). neg_ℤ b +ℤ z) (neg_ℤ-neg_ℤ a) ∙ +ℤ_comm (neg_ℤ b) a)

pub gap-none : (a : ℤ) → gap a a ≡ 0
gap-none a = ap nat_abs (+ℤ_invr a)

abs-none : (z : ℤ) → nat_abs z ≡ 0 → z ≡ pos 0
abs-none (pos n) e = ap pos e
abs-none (negsuc n) e = absurd (omega arith)

no_gap : (a b : ℤ) → gap a b ≡ 0 → a ≡ b
no_gap a b e = sym (+ℤ_idl a) ∙ ap (λ (z : ℤ). z +ℤ a) (sym (abs-none (b -ℤ a) e)) ∙ -ℤ-+ℤ_cancel b a

-- no difference on the long axis is none on the other
none-aside : (a b : ℤ) (g : ℕ) → g ≤ gap a b → a ≡ b → g ≡ 0
none-aside a b g h e = least g (gap a b) h (ap (λ (z : ℤ). gap a z) (sym e) ∙ gap-none a)
  where
    least : (g k : ℕ) → g ≤ k → k ≡ 0 → g ≡ 0
    least g k l z = omega arith

-- ---- the ends swapped
abbrev pub swapped : Line → Line
swapped l = record { from = l.to; to = l.from }

-- `rising`, where t says that x is the long axis
abbrev pub rising_by : Bool → Line → Bool
rising_by t l = cond t (le_z l.from.x l.to.x) (le_z l.from.y l.to.y)

-- where the first point is not the smaller on the long axis, the second is
falls : (a b : ℤ) → le_z a b ≡ false → le_z b a ≡ true
falls a b h = ⊎_elim (λ e. absurd (subst T (ap (λ (z : ℤ). le_z a z) e ∙ h) (≤ℤ_refl a).le)) (λ e. e ∙ ap not h) (order a b)

pub turned : (t : Bool) (l : Line) → rising_by t l ≡ false → rising_by t (swapped l) ≡ true
turned true l h = falls l.from.x l.to.x h
turned false l h = falls l.from.y l.to.y h

-- the start, where r says that p is the smaller on the long axis and s that q is
same_end : (r s : Bool) (p q : Dot) → (p ≡ q) ⊎ (s ≡ not r) → cond s q p ≡ cond r p q
same_end true true p q (inl e) = sym e
same_end true true p q (inr e) = absurd (subst T e tt)
same_end true false p q o = refl
same_end false true p q o = refl
same_end false false p q (inl e) = e
same_end false false p q (inr e) = absurd (subst T (sym e) tt)

module _ (l : Line) where
  pub flat-swap : flat (swapped l) ≡ flat l
  flat-swap = ap₂ (λ (a b : ℕ). leb a b) (gap-swap l.to.y l.from.y) (gap-swap l.to.x l.from.x)

  pub long-swap : long (swapped l) ≡ long l
  long-swap = ap₂ (λ (a b : ℕ). max a b) (gap-swap l.to.x l.from.x) (gap-swap l.to.y l.from.y)

  -- the ends are one point, or one of them is the smaller on the long axis
  ends : (t : Bool) → flat l ≡ t → (l.from ≡ l.to) ⊎ (rising_by t (swapped l) ≡ not (rising_by t l))
  ends true h = ⊎_elim (λ e. inl (one e)) (λ e. inr e) (order l.from.x l.to.x)
    where
      one : l.from.x ≡ l.to.x → l.from ≡ l.to
      one e =
          let g = none-aside l.from.x l.to.x (gap l.from.y l.to.y) (leb-true (gap l.from.y l.to.y) (gap l.from.x l.to.x) h) e in
          (λ i. record { x = e i; y = no_gap l.from.y l.to.y g i })
  ends false h = ⊎_elim (λ e. absurd (more e)) (λ e. inr e) (order l.from.y l.to.y)
    where
      more : l.from.y ≡ l.to.y → ⊥
      more e =
          let k = leb-false (gap l.from.y l.to.y) (gap l.from.x l.to.x) h in
          let z = none-aside l.from.y l.to.y (suc (gap l.from.x l.to.x)) k e in
          omega arith

  start-swap : start (swapped l) ≡ start l
  start-swap =
      ap (λ (t : Bool). cond (rising_by t (swapped l)) l.to l.from) flat-swap
      ∙ same_end (rising l) (rising_by (flat l) (swapped l)) l.from l.to (ends (flat l) refl)

  finish-swap : finish (swapped l) ≡ finish l
  finish-swap =
      ap (λ (t : Bool). cond (rising_by t (swapped l)) l.from l.to) flat-swap
      ∙ same_end (rising l) (rising_by (flat l) (swapped l)) l.to l.from (⊎_elim (λ e. inl (sym e)) (λ e. inr e) (ends (flat l) refl))

-- T-02: swapping the ends gives the same dots, one by one and all together
pub swap-dot : (p q : Dot) (k : ℕ) → line_dot (record { from = p; to = q }) k ≡ line_dot (record { from = q; to = p }) k
swap-dot p q k =
    let l : Line = record { from = q; to = p } in
    (λ i. dot_from (flat-swap l i) (long-swap l i) (start-swap l i) (finish-swap l i) k)

pub swap_ends : (p q : Dot) (x y : ℤ) → line (record { from = p; to = q }) x y ≡ line (record { from = q; to = p }) x y
unfolding line
swap_ends p q x y =
    let l : Line = record { from = q; to = p } in
    (λ i. some_below (suc (long-swap l i)) (λ k. dot (swap-dot p q k i) x y))

-- so a line drawn in c and then, from the other end, in d leaves no dot in c
pub no-crumbs : (f : Frame) (p q : Dot) (c d : ℕ) (s : List ℕ)
    → paint f (line (record { from = q; to = p })) d (paint f (line (record { from = p; to = q })) c s) ≡ paint f (line (record { from = q; to = p })) d s
no-crumbs f p q c d s =
    let S = line (record { from = q; to = p }) in
    (λ i. paint f S d (paint f (λ x y. swap_ends p q x y i) c s)) ∙ over f S c d s
