-- Drawable points (document 01, 'Which dots are painted', with request T-06's sentence on clip modes), and the frames that the drawing functions take.
use Rattle.std.specs.Prelude.{◌≡◌, ℕ, ◌*◌, ◌<◌, ◌≤◌, Bool, cond, ◌&&◌, ◌||◌, List, length, ℤ, pos, ◌==◌, int_le, int_lt}
use Rattle.std.specs.Int.Signed.{mag}
use Rattle.raster.specs.declared.frame.Bounds.{Bounds}
use Rattle.raster.specs.declared.frame.Window.{Window}
use Rattle.raster.specs.declared.frame.Frame.{Frame}
use Rattle.raster.specs.Shapes.{Shape, moved_by}

-- z lies between a and b, both ends inside
abbrev pub within : ℤ → ℤ → ℤ → Bool
within a b z = int_le a z && int_le z b

abbrev pub on_screen : Bounds → ℤ → ℤ → Bool
on_screen b x y = int_le (pos 0) x && int_lt x (pos b.width) && (int_le (pos 0) y && int_lt y (pos b.height))

abbrev pub in_pane : Bounds → ℤ → ℤ → Bool
in_pane b x y = within (pos b.pane.left) (pos b.pane.right) x && within (pos b.pane.top) (pos b.pane.bottom) y

-- no point, where x0 is above x1 or y0 above y1
abbrev pub in_window : Window → ℤ → ℤ → Bool
in_window w x y = within w.x0 w.x1 x && within w.y0 w.y1 y

-- the clip window where it lies: in mode 1 relative to the origin, in mode 2 absolute
abbrev pub in_clip : Frame → Shape
in_clip f = cond (f.mode == 1) (moved_by f.origin (in_window f.window)) (in_window f.window)

-- inside the screen, inside the pane and, in modes 1 and 2, inside the clip window
unfoldable pub drawable : Frame → ℤ → ℤ → Bool
drawable f x y = on_screen f.bounds x y && in_pane f.bounds x y && (f.mode == 0 || in_clip f x y)

-- z is a signed word
pub record Word (z : ℤ) : Type 0 where
  pub small : mag z < 32768

-- z is a coordinate: a signed word, or one moved by another
pub record Coord (z : ℤ) : Type 0 where
  pub small : mag z < 65536

-- a screen of 1 to 2,048 columns and rows, and a pane within it that is not empty
pub record Sound (b : Bounds) : Type 0 where
  pub width_from : 1 ≤ b.width
  pub width_to : b.width ≤ 2048
  pub height_from : 1 ≤ b.height
  pub height_to : b.height ≤ 2048
  pub left_right : b.pane.left ≤ b.pane.right
  pub right_inside : b.pane.right < b.width
  pub top_bottom : b.pane.top ≤ b.pane.bottom
  pub bottom_inside : b.pane.bottom < b.height

-- such bounds, and an origin and a window of signed words
pub record Sane (f : Frame) : Type 0 where
  pub bounds : Sound f.bounds
  pub origin : Word f.origin.x × Word f.origin.y
  pub window : Word f.window.x0 × Word f.window.y0 × Word f.window.x1 × Word f.window.y1

-- s is a screen of the frame's size
pub record Fitting (f : Frame) (s : List ℕ) : Type 0 where
  pub sane : Sane f
  pub bytes : length s ≡ f.bounds.height * f.bounds.width
