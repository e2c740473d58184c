-- What follows of every painting: each byte, that no second screen has these bytes, that no byte outside the pane changes, what an empty window is,
-- that paintings in panes that share no point commute, and shapes painted one after the other.
use Rattle.std.proofs.Common.{◌≡◌, ℕ, ◌/◌, ◌%◌, ◌<◌, Bool, true, false, cond, ◌&&◌, ◌||◌, T, eqb, List, length, get_or, ℤ, pos, ◌<ℤ◌, sym, refl, ap, ◌∙◌, subst, ext_get_or}
use lib.Signed.{le_z, lt_z, <ℤ-≤ℤ_trans, clash_ℤ}
use Rattle.raster.specs.declared.frame.Bounds.{Bounds}
use Rattle.raster.specs.declared.frame.Window.{Window}
use Rattle.raster.specs.declared.frame.Frame.{Frame}
use Rattle.raster.specs.declared.dots.Dot.{Dot}
use Rattle.raster.specs.Shapes.{Shape, top_left, moved_by}
use Rattle.raster.specs.Frame.{within, on_screen, in_pane, in_window, in_clip, drawable}
use Rattle.raster.specs.Paint.{column_of, row_of, hit, paint}
use Rattle.raster.proofs.Tests.{left, right, or_elim, T_false, and-or}
use Rattle.raster.proofs.Moved.{not-moved}
use Rattle.raster.proofs.Recolour.{length-recolour, get_d-recolour, only, agree, twice, none}

-- ---- every byte
module _ (f : Frame) (S : Shape) (c : ℕ) (s : List ℕ) where
  pub length-paint : length (paint f S c s) ≡ length s
  unfolding paint
  length-paint = length-recolour (hit f S) c s

  pub byte-paint : (k : ℕ) → k < length s → get_or (paint f S c s) k 0 ≡ cond (hit f S k) c (get_or s k 0)
  unfolding paint
  byte-paint k h = get_d-recolour (hit f S) c s k h

  -- the promise byte by byte
  pub record Painted (t : List ℕ) : Type 0 where
    pub long_as : length t ≡ length s
    pub bytes : (k : ℕ) → k < length s → get_or t k 0 ≡ cond (hit f S k) c (get_or s k 0)

  pub is-painted : Painted (paint f S c s)
  is-painted = record { long_as = length-paint; bytes = byte-paint }

  -- no second screen meets it
  pub unique : (t : List ℕ) → Painted t → t ≡ paint f S c s
  unfolding paint
  unique t p = only (hit f S) c s t p.long_as p.bytes

  -- a byte that shows no drawable dot of the shape stays
  pub kept : (k : ℕ) → k < length s → (T (hit f S k) → ⊥) → get_or (paint f S c s) k 0 ≡ get_or s k 0
  kept k h n = byte-paint k h ∙ ap (λ (b : Bool). cond b c (get_or s k 0)) (T_false (hit f S k) n)

-- ---- the pane
-- a drawable point is on the screen and in the pane
pub drawable-pixel : (f : Frame) (x y : ℤ) → T (drawable f x y) → T (on_screen f.bounds x y) × T (in_pane f.bounds x y)
unfolding drawable
drawable-pixel f x y t =
    let p = left (on_screen f.bounds x y && in_pane f.bounds x y) (eqb f.mode 0 || in_clip f x y) t in
    (left (on_screen f.bounds x y) (in_pane f.bounds x y) p, right (on_screen f.bounds x y) (in_pane f.bounds x y) p)

hit-pane : (f : Frame) (S : Shape) (k : ℕ) → T (hit f S k) → T (in_pane f.bounds (column_of f.bounds k) (row_of f.bounds k))
hit-pane f S k t =
    let x = column_of f.bounds k in
    let y = row_of f.bounds k in
    (drawable-pixel f x y (left (drawable f x y) (S x y) t)).1

-- no byte outside the pane changes, whatever the mode, the window and the shape
pub outside : (f : Frame) (S : Shape) (c : ℕ) (s : List ℕ) (k : ℕ) → k < length s → (T (in_pane f.bounds (column_of f.bounds k) (row_of f.bounds k)) → ⊥)
    → get_or (paint f S c s) k 0 ≡ get_or s k 0
outside f S c s k h n = kept f S c s k h (λ t. n (hit-pane f S k t))

-- ---- the window
none_within : (a b z : ℤ) → T (lt_z b a) → T (within a b z) → ⊥
none_within a b z l t =
    let past : b <ℤ z = <ℤ-≤ℤ_trans {b = a} (record { lt = l }) (record { le = left (le_z a z) (le_z z b) t }) in
    clash_ℤ past (record { le = right (le_z a z) (le_z z b) t })

-- where the origin is (0, 0), it stands as it was given, in mode 1 as in mode 2
pub drawable-without : (f : Frame) → f.origin ≡ top_left → (x y : ℤ)
    → drawable f x y ≡ (on_screen f.bounds x y && in_pane f.bounds x y && (eqb f.mode 0 || in_window f.window x y))
unfolding drawable
drawable-without f h x y =
    ap (λ (S : Shape). on_screen f.bounds x y && in_pane f.bounds x y && (eqb f.mode 0 || S x y)) (by (eqb f.mode 1))
  where
    by : (t : Bool) → cond t (moved_by f.origin (in_window f.window)) (in_window f.window) ≡ in_window f.window
    by true = ap (λ (o : Dot). moved_by o (in_window f.window)) h ∙ not-moved (in_window f.window)
    by false = refl

pub modes-agree : (b : Bounds) (w : Window) (x y : ℤ)
    → drawable (record { bounds = b; origin = top_left; mode = 1; window = w }) x y ≡ drawable (record { bounds = b; origin = top_left; mode = 2; window = w }) x y
modes-agree b w x y = drawable-without _ refl x y ∙ sym (drawable-without _ refl x y)

-- it is empty where x0 is above x1, or y0 above y1
pub empty-window : (w : Window) (x y : ℤ) → T (lt_z w.x1 w.x0 || lt_z w.y1 w.y0) → T (in_window w x y) → ⊥
empty-window w x y l t =
    or_elim (lt_z w.x1 w.x0) (lt_z w.y1 w.y0) l
    (λ u. none_within w.x0 w.x1 x u (left (within w.x0 w.x1 x) (within w.y0 w.y1 y) t))
    (λ u. none_within w.y0 w.y1 y u (right (within w.x0 w.x1 x) (within w.y0 w.y1 y) t))

-- ---- two panes of one screen that share no point
either_order : (a b : Bool) (c d v : ℕ) → (T a → T b → ⊥) → cond b d (cond a c v) ≡ cond a c (cond b d v)
either_order true true c d v n = absurd (n tt tt)
either_order true false c d v n = refl
either_order false b c d v n = refl

module _ (f g : Frame) (S R : Shape) (c d : ℕ) (s : List ℕ) where
  length_both : length (paint g R d (paint f S c s)) ≡ length s
  length_both = length-paint g R d (paint f S c s) ∙ length-paint f S c s

  byte-both : (k : ℕ) → k < length s → get_or (paint g R d (paint f S c s)) k 0 ≡ cond (hit g R k) d (cond (hit f S k) c (get_or s k 0))
  byte-both k h =
      byte-paint g R d (paint f S c s) k (subst (λ (m : ℕ). k < m) (sym (length-paint f S c s)) h)
      ∙ ap (λ (v : ℕ). cond (hit g R k) d v) (byte-paint f S c s k h)

pub commute : (f g : Frame) (S R : Shape) (c d : ℕ) (s : List ℕ) → f.bounds.width ≡ g.bounds.width
    → ((x y : ℤ) → T (in_pane f.bounds x y) → T (in_pane g.bounds x y) → ⊥) → paint g R d (paint f S c s) ≡ paint f S c (paint g R d s)
commute f g S R c d s e n =
    ext_get_or 0 (paint g R d (paint f S c s)) (paint f S c (paint g R d s)) (length_both f g S R c d s ∙ sym (length_both g f R S d c s))
    (λ k l.
    let h : k < length s = subst (λ (m : ℕ). k < m) (length_both f g S R c d s) l in
    byte-both f g S R c d s k h ∙ either_order (hit f S k) (hit g R k) c d (get_or s k 0) (apart k) ∙ sym (byte-both g f R S d c s k h))
  where
    apart : (k : ℕ) → T (hit f S k) → T (hit g R k) → ⊥
    apart k t u =
        n (column_of f.bounds k) (row_of f.bounds k) (hit-pane f S k t)
        (subst (λ (w : ℕ). T (in_pane g.bounds (pos (k % w)) (pos (k / w)))) (sym e) (hit-pane g R k u))

-- ---- shapes one after the other
pub union : (f : Frame) (S R : Shape) (c : ℕ) (s : List ℕ) → paint f R c (paint f S c s) ≡ paint f (λ x y. S x y || R x y) c s
unfolding paint
union f S R c s =
    twice (hit f S) (hit f R) c s
    ∙ agree (λ k. hit f S k || hit f R k) (hit f (λ x y. S x y || R x y)) c s
    (λ k l.
    let x = column_of f.bounds k in
    let y = row_of f.bounds k in
    sym (and-or (drawable f x y) (S x y) (R x y)))

-- a shape painted twice shows the second colour
pub over : (f : Frame) (S : Shape) (c d : ℕ) (s : List ℕ) → paint f S d (paint f S c s) ≡ paint f S d s
over f S c d s =
    unique f S d s (paint f S d (paint f S c s))
    (record {
      long_as = length_both f f S S c d s;
      bytes = λ k h. byte-both f f S S c d s k h ∙ again (hit f S k) (get_or s k 0);
    })
  where
    again : (b : Bool) (v : ℕ) → cond b d (cond b c v) ≡ cond b d v
    again true v = refl
    again false v = refl

-- the empty shape paints nothing
pub nothing : (f : Frame) (c : ℕ) (s : List ℕ) → paint f (λ x y. false) c s ≡ s
unfolding paint
nothing f c s =
    sym (none (hit f (λ x y. false)) c s (λ k l t. right (drawable f (column_of f.bounds k) (row_of f.bounds k)) false t))
