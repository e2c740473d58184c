-- Rectangles of biased points, both ends inside: none where l is above r, or t above b.
use Rattle.std.specs.Prelude.{ℕ, ◌+◌, ◌-◌, ◌*◌, ◌/◌, ◌%◌, ◌<◌, ◌≤◌, min, max, Bool, cond, ◌&&◌, List, length, ◌==◌, nat_le}
use Rattle.raster.specs.declared.frame.Pane.{Pane}
use Rattle.raster.specs.declared.frame.Window.{Window}
use Rattle.raster.specs.declared.frame.Frame.{Frame}
use Rattle.raster.specs.declared.dots.Dot.{Dot}
use Rattle.raster.specs.declared.biased.Spot.{Spot}
use Rattle.raster.specs.declared.rect.Rect.{Rect}
use Rattle.raster.specs.Paint.{recolour}
use Rattle.raster.specs.Biased.{bias, biased, shifted_b}

-- the pixels of S, by column and row, get the colour c on a screen w wide
abbrev pub pixels : ℕ → (ℕ → ℕ → Bool) → ℕ → List ℕ → List ℕ
pixels w S c s = recolour (λ k. S (k % w) (k / w)) c s

abbrev pub inside_b : Rect → ℕ → ℕ → Bool
inside_b r x y = nat_le r.l x && nat_le x r.r && (nat_le r.t y && nat_le y r.b)

-- the pixel in column i of row j is within r
abbrev pub in_rect : Rect → ℕ → ℕ → Bool
in_rect r i j = inside_b r (i + bias) (j + bias)

-- the byte of the dot p on a screen w wide
abbrev pub byte_b : ℕ → Spot → ℕ
byte_b w p = (p.y - bias) * w + (p.x - bias)

abbrev pub pane_rect : Pane → Rect
pane_rect p = record { l = p.left + bias; t = p.top + bias; r = p.right + bias; b = p.bottom + bias }

abbrev pub window_rect : Window → Rect
window_rect w = record { l = biased w.x0; t = biased w.y0; r = biased w.x1; b = biased w.y1 }

-- from one corner to the other
abbrev pub rect_from : Spot → Spot → Rect
rect_from p q = record { l = p.x; t = p.y; r = q.x; b = q.y }

-- moved by o
abbrev pub shifted_rect : Rect → Dot → Rect
shifted_rect r o = rect_from (shifted_b (record { x = r.l; y = r.t }) o) (shifted_b (record { x = r.r; y = r.b }) o)

-- the clip window as it stands, or relative to the origin
abbrev pub clip_by : Bool → Frame → Rect
clip_by relative f = cond relative (shifted_rect (window_rect f.window) f.origin) (window_rect f.window)

-- where it lies: in mode 1 relative to the origin
abbrev pub clip_rect : Frame → Rect
clip_rect f = clip_by (f.mode == 1) f

abbrev pub overlap_of : Rect → Rect → Rect
overlap_of p q = record { l = max p.l q.l; t = max p.t q.t; r = min p.r q.r; b = min p.b q.b }

-- the pane alone, or the pane and the window
abbrev pub rect_by : Bool → Frame → Rect
rect_by alone f = cond alone (pane_rect f.bounds.pane) (overlap_of (pane_rect f.bounds.pane) (clip_rect f))

-- the drawable points: the pane's and, in modes 1 and 2, only the window's of them
abbrev pub rect_of : Frame → Rect
rect_of f = rect_by (f.mode == 0) f

-- the rectangle lies within a screen w wide whose bytes are s
pub record Room (w : ℕ) (r : Rect) (s : List ℕ) : Type 0 where
  pub narrow : w ≤ 2048
  pub from_left : bias ≤ r.l
  pub from_top : bias ≤ r.t
  pub to_right : r.r < w + bias
  pub to_bottom : r.b < 2048 + bias
  pub down : (r.b + 1 - bias) * w ≤ length s

-- the dot p has a byte on a screen w wide
pub record Placed (w : ℕ) (p : Spot) : Type 0 where
  pub x_from : bias ≤ p.x
  pub y_from : bias ≤ p.y
  pub x_to : p.x - bias < w
  pub narrow : w ≤ 2048
  pub rows : (p.y - bias) * w ≤ 2048 * 2048

-- the dot p lies within a screen w wide whose bytes are s
abbrev pub Seen : ℕ → Spot → List ℕ → Type 0
Seen w p s = Placed w p × (byte_b w p < length s)
