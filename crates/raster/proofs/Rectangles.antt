-- The drawable pixels are those of `rect_of`, and it has room in the frame's screen.
use Rattle.std.proofs.Common.{◌≡◌, ℕ, ◌+◌, ◌-◌, ◌*◌, ◌<◌, ◌≤◌, min, max, Bool, true, false, cond, ◌&&◌, ◌||◌, T, eqb, ltb, leb, List, length, ℤ, pos, ◌+ℤ◌, ap, ◌∙◌, ap₂, mul-le-mul_right, arith, le→leb, leb→le, lt-ltb, le-leb}
use Rattle.raster.specs.declared.frame.Bounds.{Bounds}
use Rattle.raster.specs.declared.frame.Window.{Window}
use Rattle.raster.specs.declared.frame.Frame.{Frame}
use Rattle.raster.specs.declared.dots.Dot.{Dot}
use Rattle.raster.specs.declared.rect.Rect.{Rect}
use Rattle.raster.specs.Shapes.{moved_by}
use Rattle.raster.specs.Frame.{within, on_screen, in_pane, in_window, in_clip, drawable, Coord, Sound, Sane, Fitting}
use Rattle.raster.specs.Biased.{bias, biased}
use Rattle.raster.specs.Rects.{inside_b, in_rect, pane_rect, window_rect, shifted_rect, clip_by, clip_rect, overlap_of, rect_by, rect_of, Room}
use Rattle.raster.proofs.Tests.{same, both, left, right, four, quad, and-true, and-swap}
use Rattle.raster.proofs.Coordinates.{le-pos, pos-le}
use Rattle.raster.proofs.Words.{word-coord, sum-coord, biased-sum}
use Rattle.raster.proofs.Moved.{within-moved}

-- ---- the points of both
module _ (a b c d x : ℕ) where
  within_both : T (leb (max a c) x && leb x (min b d)) → T (leb a x && leb x b && (leb c x && leb x d))
  within_both t =
      let from = leb→le (max a c) x (left (leb (max a c) x) (leb x (min b d)) t) in
      let to = leb→le x (min b d) (right (leb (max a c) x) (leb x (min b d)) t) in
      quad (leb a x) (leb x b) (leb c x) (leb x d) (le→leb a x (omega arith)) (le→leb x b (omega arith)) (le→leb c x (omega arith)) (le→leb x d (omega arith))

  within-overlap : T (leb a x && leb x b && (leb c x && leb x d)) → T (leb (max a c) x && leb x (min b d))
  within-overlap t =
      let q = four (leb a x) (leb x b) (leb c x) (leb x d) t in
      let from = leb→le a x q.0 in
      let to = leb→le x b q.1 in
      let from' = leb→le c x q.2 in
      let to' = leb→le x d q.3 in
      both (leb (max a c) x) (leb x (min b d)) (le→leb (max a c) x (omega arith)) (le→leb x (min b d) (omega arith))

  overlap-axis : (leb a x && leb x b && (leb c x && leb x d)) ≡ (leb (max a c) x && leb x (min b d))
  overlap-axis = same (leb a x && leb x b && (leb c x && leb x d)) (leb (max a c) x && leb x (min b d)) within-overlap within_both

overlap-is : (p q : Rect) (x y : ℕ) → (inside_b p x y && inside_b q x y) ≡ inside_b (overlap_of p q) x y
overlap-is p q x y =
    and-swap (leb p.l x && leb x p.r) (leb p.t y && leb y p.b) (leb q.l x && leb x q.r) (leb q.t y && leb y q.b)
    ∙ ap₂ (λ (t u : Bool). t && u) (overlap-axis p.l p.r q.l q.r x) (overlap-axis p.t p.b q.t q.b y)

-- the pane and, in modes 1 and 2, the window
module _ (f : Frame) (x y : ℕ) where
  abbrev pane : Rect
  pane = pane_rect f.bounds.pane

  abbrev window : Rect
  window = clip_rect f

  by_mode : (m : Bool) → (inside_b pane x y && (m || inside_b window x y)) ≡ inside_b (rect_by m f) x y
  by_mode true = and-true (inside_b pane x y)
  by_mode false = overlap-is pane window x y

  pub rect-is : (inside_b pane x y && (eqb f.mode 0 || inside_b window x y)) ≡ inside_b (rect_of f) x y
  rect-is = by_mode (eqb f.mode 0)

-- ---- the pane's points and the window's
within-is : (a b : ℤ) (i : ℕ) → Coord a → Coord b → within a b (pos i) ≡ (leb (biased a) (i + bias) && leb (i + bias) (biased b))
within-is a b i h k = ap₂ (λ (t u : Bool). t && u) (le-pos a i h.small) (pos-le b i k.small)

module _ (i j : ℕ) where
  window-is : (w : Window) → Coord w.x0 → Coord w.y0 → Coord w.x1 → Coord w.y1 → in_window w (pos i) (pos j) ≡ in_rect (window_rect w) i j
  window-is w hx0 hy0 hx1 hy1 = ap₂ (λ (t u : Bool). t && u) (within-is w.x0 w.x1 i hx0 hx1) (within-is w.y0 w.y1 j hy0 hy1)

  pane-is : (b : Bounds) → Sound b → in_pane b (pos i) (pos j) ≡ in_rect (pane_rect b.pane) i j
  pane-is b h =
      window-is (record { x0 = pos b.pane.left; y0 = pos b.pane.top; x1 = pos b.pane.right; y1 = pos b.pane.bottom })
      (record { small = omega (arith, h) }) (record { small = omega (arith, h) }) (record { small = omega (arith, h) }) (record { small = omega (arith, h) })

-- the clip window where it lies
module _ (i j : ℕ) (f : Frame) (h : Sane f) where
  abbrev w : Window
  w = f.window

  abbrev o : Dot
  o = f.origin

  -- as it stands
  stands : in_window w (pos i) (pos j) ≡ in_rect (window_rect w) i j
  stands =
      let v = h.window in
      window-is i j w (word-coord w.x0 v.0) (word-coord w.y0 v.1) (word-coord w.x1 v.2) (word-coord w.y1 v.3)

  -- relative to the origin: each corner is moved
  abbrev away : Window
  away = record { x0 = w.x0 +ℤ o.x; y0 = w.y0 +ℤ o.y; x1 = w.x1 +ℤ o.x; y1 = w.y1 +ℤ o.y }

  away-is : in_window away (pos i) (pos j) ≡ in_rect (window_rect away) i j
  away-is =
      let v = h.window in
      let k = h.origin in
      window-is i j away (sum-coord w.x0 o.x v.0 k.0) (sum-coord w.y0 o.y v.1 k.1)
      (sum-coord w.x1 o.x v.2 k.0) (sum-coord w.y1 o.y v.3 k.1)

  corners : window_rect away ≡ shifted_rect (window_rect w) o
  corners =
      let v = h.window in
      let k = h.origin in
      λ u. record {
        l = biased-sum w.x0 o.x v.0 k.0 u;
        t = biased-sum w.y0 o.y v.1 k.1 u;
        r = biased-sum w.x1 o.x v.2 k.0 u;
        b = biased-sum w.y1 o.y v.3 k.1 u;
      }

  relative : moved_by o (in_window w) (pos i) (pos j) ≡ in_rect (shifted_rect (window_rect w) o) i j
  relative =
      ap₂ (λ (t u : Bool). t && u) (within-moved w.x0 w.x1 o.x (pos i)) (within-moved w.y0 w.y1 o.y (pos j))
      ∙ away-is
      ∙ ap (λ (r : Rect). in_rect r i j) corners

  by-relative : (t : Bool) → cond t (moved_by o (in_window w)) (in_window w) (pos i) (pos j) ≡ in_rect (clip_by t f) i j
  by-relative true = relative
  by-relative false = stands

  clip-is : in_clip f (pos i) (pos j) ≡ in_rect (clip_rect f) i j
  clip-is = by-relative (eqb f.mode 1)

-- ---- drawable
on-screen : (b : Bounds) (i j : ℕ) → i < b.width → j < b.height → on_screen b (pos i) (pos j) ≡ true
on-screen b i j h k =
    ap₂ (λ (t u : Bool). t && u && (leb 0 j && ltb j b.height)) (le-leb 0 i (omega arith)) (lt-ltb i b.width h)
    ∙ ap₂ (λ (t u : Bool). t && u) (le-leb 0 j (omega arith)) (lt-ltb j b.height k)

pub drawable-is : (f : Frame) → Sane f → (i j : ℕ) → i < f.bounds.width → j < f.bounds.height → drawable f (pos i) (pos j) ≡ in_rect (rect_of f) i j
unfolding drawable
drawable-is f h i j k l =
    ap (λ (t : Bool). t && in_pane f.bounds (pos i) (pos j) && (eqb f.mode 0 || in_clip f (pos i) (pos j))) (on-screen f.bounds i j k l)
    ∙ ap₂ (λ (t u : Bool). t && (eqb f.mode 0 || u)) (pane-is i j f.bounds h.bounds) (clip-is i j f h)
    ∙ rect-is f (i + bias) (j + bias)

-- ---- room
pub room : (f : Frame) (s : List ℕ) → Fitting f s → Room f.bounds.width (rect_of f) s
room f s h = by (eqb f.mode 0)
  where
    v : Sound f.bounds
    v = h.sane.bounds

    rows : (b : ℕ) → b ≤ f.bounds.height → b * f.bounds.width ≤ length s
    rows b k = omega (arith, mul-le-mul_right f.bounds.width k, h.bytes)

    by : (m : Bool) → Room f.bounds.width (rect_by m f) s
    by true =
        record {
          narrow = v.width_to;
          from_left = omega arith;
          from_top = omega arith;
          to_right = omega (arith, v);
          to_bottom = omega (arith, v);
          down = rows (f.bounds.pane.bottom + bias + 1 - bias) (omega (arith, v));
        }
    by false =
        record {
          narrow = v.width_to;
          from_left = omega arith;
          from_top = omega arith;
          to_right = omega (arith, v);
          to_bottom = omega (arith, v);
          down = rows (min (f.bounds.pane.bottom + bias) (clip_rect f).b + 1 - bias) (omega (arith, v));
        }
