-- A page's line by the tests of its bytes and items; the pane of a whole screen.
use Rattle.std.proofs.Common.{◌≡◌, ℕ, ◌+◌, ◌-◌, ◌%◌, ◌^◌, ◌<◌, Bool, true, false, not, ◌&&◌, eqb, List, [], ◌∷◌, length, get_or, sym, refl, ap, ◌∙◌, ap₂, arith, eqb-true}
use Rattle.raster.specs.declared.frame.Pane.{Pane}
use Rattle.errand.specs.Numbers.{number_in}
use Rattle.errand.specs.Panes.{has_no_list, item_at, has_five_items, pane_of, whole}

pub empty-line : (s : List ℕ) {t : Bool} → t ≡ eqb (length s) 0 → t ≡ true → t ≡ has_no_list s
unfolding has_no_list
empty-line [] e h = h
empty-line (b ∷ bs) e h = absurd (omega (arith, eqb-true (length (b ∷ bs)) 0 (sym e ∙ h)))

pub by_first : (s : List ℕ) {t : Bool} → t ≡ eqb (length s) 0 → t ≡ false → eqb (get_or s 0 0) 35 ≡ has_no_list s
unfolding has_no_list
by_first [] e h = cc
by_first (b ∷ bs) e h = refl

module _ (line : List ℕ) {four : List ℕ} {t : Bool} (f : four ≡ item_at line 4) (e : t ≡ eqb (length four) 0) where
  tested : {s : Bool} → t ≡ s → (not s && eqb (length (item_at line 5)) 0) ≡ has_five_items line
  unfolding has_five_items
  tested h = ap (λ (x : Bool). not x && eqb (length (item_at line 5)) 0) (sym h ∙ e ∙ ap (λ (i : List ℕ). eqb (length i) 0) f)

  pub no-fifth : t ≡ true → not t ≡ has_five_items line
  no-fifth h = ap not h ∙ tested h

  pub no-sixth : t ≡ false → {five : List ℕ} {u : Bool} → five ≡ item_at line 5 → u ≡ eqb (length five) 0 → u ≡ has_five_items line
  no-sixth h g k = k ∙ ap (λ (i : List ℕ). eqb (length i) 0) g ∙ tested h

abbrev paned : ℕ → ℕ → ℕ → ℕ → Pane
paned l t r b = record { left = l; top = t; right = r; bottom = b }

pub pane-is : (line : List ℕ) {l t r b : ℕ} → l ≡ number_in (item_at line 1) → t ≡ number_in (item_at line 2) → r ≡ number_in (item_at line 3)
    → b ≡ number_in (item_at line 4) → paned l t r b ≡ pane_of line
pane-is line {l} {t} {r} {b} p q s u = ap₂ (λ (l t : ℕ). paned l t r b) p q ∙ ap₂ (paned (number_in (item_at line 1)) (number_in (item_at line 2))) s u

-- one less, around 2^32
one_less : (n r : ℕ) → n < 2 ^ 32 → r < 2 ^ 32 → (r + 1) % 2 ^ 32 ≡ n → r ≡ (n + (2 ^ 32 - 1)) % 2 ^ 32
one_less n r h l e = omega arith

pub whole_is : (w h : ℕ) {r b : ℕ} → w < 2 ^ 32 → h < 2 ^ 32 → r < 2 ^ 32 → b < 2 ^ 32 → (r + 1) % 2 ^ 32 ≡ w → (b + 1) % 2 ^ 32 ≡ h
    → paned 0 0 r b ≡ whole w h
whole_is w h {r} {b} fw fh fr fb p q = ap₂ (paned 0 0) (one_less w r fw fr p) (one_less h b fh fb q)
