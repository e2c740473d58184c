-- The door: what it lets in; what a run that it let in leaves; and that it lets in a fresh environment.
use Prim.Native.Nat.{ℕ, ◌-◌, ◌*◌, ◌≤◌}
use mathlib.Core.Path.{◌≡◌, refl, ◌∙◌}
use mathlib.Core.Bool.{true, ◌&&◌}
use mathlib.Core.List.{List}
use native.Mathlib.Nat.{mul_comm}
use native.Mathlib.Omega.{arith}
use lib.ListN.{length}
use lib.Dec.{leb, ltb, lit≤}
use lib.IntN.{ℤ, pos}
use borrow.Author.Tests.{leb-true, ltb-true, le-leb}
use Rattle.numbers.specs.Coordinate.{in_word}
use Rattle.numbers.proofs.Coordinates.{within-mag}
use Rattle.raster.specs.Frame.{Word, Sound, Sane, Fitting}
use Rattle.player.specs.Hosted.{Request}
use Rattle.player.specs.Run.{runs}
use Rattle.player.proofs.Runs.{invariant}
use Rattle.player.proofs.Doors as Doors
use Rattle.rules.specs.Types.{Bounds, Dot, Window}
use Rattle.rules.specs.Environment.{Env, frame}
use Rattle.rules.specs.Step.{afgis}
use Rattle.rules.specs.Door.{size_fits, pane_fits, dot_fits, window_fits, between, fits, door}
use Rattle.rules.specs.Fresh.{fresh}
use Rattle.rules.proofs.Ranges.{both, one, other, Fits, joined, parted}
use Rattle.rules.proofs.Kept.{step_keeps}

-- ---- what the door lets in
abbrev pub Open : Request (List ℕ) → Env → ℕ → Type 0
Open q e bytes = Doors.Open q e.bounds (fits e) bytes

pub opened : (q : Request (List ℕ)) (e : Env) (bytes : ℕ) → door q e bytes ≡ 0 → Open q e bytes
unfolding door
opened q e bytes h = Doors.opened q e.bounds (fits e) bytes h

-- ---- what is let in may be drawn on
word : (z : ℤ) → in_word z ≡ true → Word z
word z h = record { small = omega (arith, within-mag z h) }

pub logical : (p : Dot) → dot_fits p ≡ true → Word p.x × Word p.y
logical p h = (word p.x (one _ _ h), word p.y (other (in_word p.x) _ h))

pub sound : (b : Bounds) → size_fits b ≡ true → pane_fits b ≡ true → Sound b
sound b s p =
    let w = one (between 1 2048 b.width) _ s in
    let h = other (between 1 2048 b.width) _ s in
    let x = one (leb b.pane.left b.pane.right && ltb b.pane.right b.width) _ p in
    let y = other (leb b.pane.left b.pane.right && ltb b.pane.right b.width) _ p in
    record {
      width_from = leb-true _ _ (one (leb 1 b.width) _ w);
      width_to = leb-true _ _ (other (leb 1 b.width) _ w);
      height_from = leb-true _ _ (one (leb 1 b.height) _ h);
      height_to = leb-true _ _ (other (leb 1 b.height) _ h);
      left_right = leb-true _ _ (one (leb b.pane.left b.pane.right) _ x);
      right_inside = ltb-true _ _ (other (leb b.pane.left b.pane.right) _ x);
      top_bottom = leb-true _ _ (one (leb b.pane.top b.pane.bottom) _ y);
      bottom_inside = ltb-true _ _ (other (leb b.pane.top b.pane.bottom) _ y);
    }

words : (w : Window) → window_fits w ≡ true → Word w.x0 × Word w.y0 × Word w.x1 × Word w.y1
words w h =
    let p = logical (record { x = w.x0; y = w.y0 }) (one _ _ h) in
    let q = logical (record { x = w.x1; y = w.y1 }) (other (in_word w.x0 && in_word w.y0) _ h) in
    (p.0, p.1, q.0, q.1)

pub sane : (e : Env) → size_fits e.bounds ≡ true → fits e ≡ true → Sane (frame e)
sane e size h =
    let f = parted e h in
    record { bounds = sound e.bounds size f.0; origin = logical e.pen.origin f.1.origin; window = words e.pen.window f.1.window }

pub fitting : (e : Env) (s : List ℕ) → size_fits e.bounds ≡ true → fits e ≡ true → length s ≡ e.bounds.width * e.bounds.height → Fitting (frame e) s
fitting e s size h area = record { sane = sane e size h; bytes = area ∙ mul_comm e.bounds.width e.bounds.height }

-- ---- what a run leaves
module _ (w : List ℕ) (few : length w ≤ 65536) where
  -- every field in range, and the bounds as they were
  pub run-keeps : (left : ℕ) (e : Env) (s : List ℕ) (k : ℕ) → fits e ≡ true → Fits e.bounds (runs (afgis w) left e s k).env
  run-keeps left e s k h = invariant (afgis w) (Fits e.bounds) (λ x g. step_keeps w few e.bounds x g) left e s k (parted e h)

-- ---- a fresh environment is let in
small_word : (n : ℕ) → n ≤ 2047 → in_word (pos n) ≡ true
unfolding in_word
small_word n h = let k : n ≤ 32767 = omega (arith, h) in le-leb n 32767 k

-- a side of 1 to 2,048, less one
side : (n : ℕ) → between 1 2048 n ≡ true → in_word (pos (n - 1)) ≡ true
side n h = let k : n - 1 ≤ 2047 = omega (arith, leb-true n 2048 (other (leb 1 n) (leb n 2048) h)) in small_word (n - 1) k

pub fresh-fits : (b : Bounds) → size_fits b ≡ true → pane_fits b ≡ true → fits (fresh b) ≡ true
fresh-fits b s p =
    let top_left = both _ _ (small_word 0 (lit≤ tt)) (small_word 0 (lit≤ tt)) in
    let w = side b.width (one (between 1 2048 b.width) (between 1 2048 b.height) s) in
    let h = side b.height (other (between 1 2048 b.width) (between 1 2048 b.height) s) in
    joined (fresh b) (
      p,
      record { position = top_left; origin = top_left; mode = refl; window = both _ _ top_left (both _ _ w h) },
      record { counter = refl; depth = refl; returns = refl; nesting = refl; blocks = refl },
      refl,
      refl,
    )
