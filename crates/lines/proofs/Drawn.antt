-- What is drawn of a line, whatever the pattern: its course's dots within the drawable rectangle are the line's drawable dots.
use Rattle.std.proofs.Common.{◌≡◌, ℕ, ◌+◌, ◌<◌, ◌≤◌, ◌&&◌, List, sym, ◌∙◌, ap₂, arith}
use mathlib.Core.Path.{subst⁻¹}
use Rattle.raster.specs.declared.biased.Spot.{Spot}
use Rattle.raster.specs.declared.frame.Frame.{Frame}
use Rattle.raster.specs.declared.rect.Rect.{Rect}
use Rattle.raster.specs.Frame.{Fitting}
use Rattle.raster.specs.Biased.{bias, spot_of, dot_of, NearB}
use Rattle.raster.specs.Rects.{pixels, in_rect, rect_of, Room}
use Rattle.raster.specs.Paint.{paint}
use Rattle.raster.proofs.Coordinates.{spot_back}
use Rattle.raster.proofs.Rectangles.{room}
use Rattle.raster.proofs.Pixels.{seen}
use Rattle.raster.proofs.Drawings.{painted}
use Rattle.lines.specs.declared.course.Course.{Course}
use Rattle.lines.specs.Dashes.{dashed}
use Rattle.lines.specs.Courses.{line_of, course_of, line_spot, dashed_b}
use Rattle.lines.specs.Spans.{DotsWithin}
use Rattle.lines.specs.Walks.{AllSeen}
use Rattle.lines.proofs.Courses.{dashed-is}
use Rattle.lines.proofs.Spans.{line-within}
use Rattle.lines.proofs.Walks.{stretched, none_yet}

-- l is the course of the line from p to q, and r what is drawable of the screen s
pub record Framed (f : Frame) (s : List ℕ) (p q : Spot) (l : Course) (r : Rect) : Type 0 where
  pub fits : Fitting f s
  pub near : NearB p × NearB q
  pub is-course : l ≡ course_of p q
  pub is-rect : r ≡ rect_of f

pub framed : (f : Frame) (s : List ℕ) (p q : Spot) {l : Course} {r : Rect} → Fitting f s → NearB p × NearB q → l ≡ course_of p q → r ≡ rect_of f → Framed f s p q l r
framed f s p q a b c d = record { fits = a; near = b; is-course = c; is-rect = d }

module _ {f : Frame} {s : List ℕ} {p q : Spot} {l : Course} {r : Rect} (v : Framed f s p q l r) where
  course : l ≡ course_of (spot_of (dot_of p)) (spot_of (dot_of q))
  course = v.is-course ∙ sym (ap₂ course_of (spot_back p) (spot_back q))

  has_room : Room f.bounds.width r s
  has_room = subst⁻¹ (λ (r : Rect). Room f.bounds.width r s) v.is-rect (room f s v.fits)

  pub may-cut : (r.r < 131072) × (r.b < 131072)
  may-cut = (low f.bounds.width r.r has_room.narrow has_room.to_right, lower r.b has_room.to_bottom)
    where
      low : (w a : ℕ) → w ≤ 2048 → a < w + bias → a < 131072
      low w a h g = omega arith

      lower : (a : ℕ) → a < 2048 + bias → a < 131072
      lower a h = omega arith

  -- ---- the dots within r are those from dot a on, before dot b
  module _ {a b : ℕ} (cut : DotsWithin r l a b) where
    all-drawn : (o c : ℕ) → stretched f.bounds.width o l a b c s ≡ paint f (dashed o (line_of p q)) c s
    all-drawn o c =
        (λ u. pixels f.bounds.width (λ i j. line-within o r l a b cut i j u) c s)
        ∙ ap₂ (λ (r : Rect) (l : Course). pixels f.bounds.width (λ i j. in_rect r i j && dashed_b o l i j) c s) v.is-rect course
        ∙ painted f s v.fits (dashed o (line_of p q)) (dashed_b o (course_of (spot_of (dot_of p)) (spot_of (dot_of q)))) c
        (λ i j. dashed-is (line_of p q) v.near.0 v.near.1 i j o)

    -- none
    pub none-drawn : b ≤ a → (o c : ℕ) → s ≡ paint f (dashed o (line_of p q)) c s
    none-drawn h o c = none_yet f.bounds.width o l a c s b h ∙ all-drawn o c

    -- some
    pub all_seen : AllSeen f.bounds.width l a b s
    all_seen k g i = seen f.bounds.width r (line_spot l k) s has_room (cut.inside k g i)

    pub some-drawn : (o c : ℕ) → stretched f.bounds.width o l a b c s ≡ paint f (dashed o (line_of p q)) c s
    some-drawn o c = all-drawn o c
