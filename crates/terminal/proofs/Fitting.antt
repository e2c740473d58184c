-- The two cases of a fit.
use Prim.Native.Nat.{ℕ, ◌*◌, ◌/◌, ◌<◌, ◌≤◌, max}
use mathlib.Core.Path.{◌≡◌, sym, ap, ap₂, ◌∙◌}
use mathlib.Core.Bool.{Bool, cond}
use borrow.Author.Tests.{lt-leb, le-leb}
use Rattle.terminal.specs.declared.fit.View.{View}
use Rattle.terminal.specs.Views.{even, view, view_of}

module _ (w h c r : ℕ) where
  abbrev by : Bool → View
  by b = cond b (view w h c (even (c * h / w))) (view w h (max 1 (2 * r * w / h)) (2 * r))

  all-columns : c * h ≤ 2 * r * w → view_of w h c r ≡ view w h c (even (c * h / w))
  unfolding view_of
  all-columns l = ap by (le-leb (c * h) (2 * r * w) l)

  all-rows : 2 * r * w < c * h → view_of w h c r ≡ view w h (max 1 (2 * r * w / h)) (2 * r)
  unfolding view_of
  all-rows l = ap by (lt-leb (c * h) (2 * r * w) l)

module _ {w h c r c' r' n : ℕ} (p : c' ≡ c) (q : r' ≡ r) where
  pub fills-width : n ≡ even (c' * h / w) → c' * h ≤ 2 * r' * w → view w h c' n ≡ view_of w h c r
  fills-width e l = ap (view w h c') e ∙ sym (all-columns w h c' r' l) ∙ ap₂ (view_of w h) p q

  pub fills-height : n ≡ max 1 (2 * r' * w / h) → 2 * r' * w < c' * h → view w h n (2 * r') ≡ view_of w h c r
  fills-height e l = ap (λ (k : ℕ). view w h k (2 * r')) e ∙ sym (all-rows w h c' r' l) ∙ ap₂ (view_of w h) p q
