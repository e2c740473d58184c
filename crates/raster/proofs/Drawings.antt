-- From pixels within the rectangle to `paint`: what a drawing function has to show.
use Rattle.std.proofs.Common.{◌≡◌, ℕ, ◌/◌, ◌%◌, ◌<◌, Bool, true, ◌&&◌, List, length, pos, sym, refl, ◌∙◌, subst, ap₂, mod-lt, div-lt_iff_lt-mul}
use Rattle.raster.specs.declared.biased.Spot.{Spot}
use Rattle.raster.specs.declared.frame.Frame.{Frame}
use Rattle.raster.specs.Shapes.{Shape, dot, all}
use Rattle.raster.specs.Frame.{Fitting}
use Rattle.raster.specs.Paint.{hit, paint}
use Rattle.raster.specs.Biased.{dot_of, dot_b}
use Rattle.raster.specs.Rects.{pixels, in_rect, rect_of}
use Rattle.raster.proofs.Recolour.{agree}
use Rattle.raster.proofs.Rectangles.{drawable-is}
use Rattle.raster.proofs.Coordinates.{sub-pos}
use Rattle.raster.proofs.Rows.{whole}

pub dot-is : (p : Spot) (i j : ℕ) → dot (dot_of p) (pos i) (pos j) ≡ dot_b p i j
dot-is p i j = ap₂ (λ (a b : Bool). a && b) (sub-pos p.x i) (sub-pos p.y j)

module _ (f : Frame) (s : List ℕ) (h : Fitting f s) where
  -- a byte of the screen is in one of its rows
  in_rows : (k : ℕ) → k < length s → k / f.bounds.width < f.bounds.height
  in_rows k l = (div-lt_iff_lt-mul h.sane.bounds.width_from).1 (subst (λ (n : ℕ). k < n) h.bytes l)

  pub painted : (S : Shape) (R : ℕ → ℕ → Bool) (c : ℕ) → ((i j : ℕ) → S (pos i) (pos j) ≡ R i j)
      → pixels f.bounds.width (λ i j. in_rect (rect_of f) i j && R i j) c s ≡ paint f S c s
  unfolding paint
  painted S R c e =
      let w = f.bounds.width in
      agree (λ k. in_rect (rect_of f) (k % w) (k / w) && R (k % w) (k / w)) (hit f S) c s
      (λ k l.
      let on = drawable-is f h.sane (k % w) (k / w) (mod-lt k h.sane.bounds.width_from) (in_rows k l) in
      ap₂ (λ (a b : Bool). a && b) (sym on) (sym (e (k % w) (k / w))))

  -- all of the rectangle
  pub all-painted : (c : ℕ) → pixels f.bounds.width (in_rect (rect_of f)) c s ≡ paint f all c s
  all-painted c = sym (whole f.bounds.width (rect_of f) c s) ∙ painted all (λ i j. true) c (λ i j. refl)
