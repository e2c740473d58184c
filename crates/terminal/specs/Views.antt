-- The size of a picture in a window: the largest with the screen's proportions, one dot a column and two dots a row.
use Rattle.std.specs.Prelude.{ℕ, ◌+◌, ◌*◌, ◌/◌, ◌≤◌, min, max, cond, leb}
use Rattle.terminal.specs.declared.fit.View.{View}

-- of a screen, in dots
abbrev pub Side : ℕ → Type 0
Side n = (1 ≤ n) × (n ≤ 2048)

-- a window's columns or rows, 1 to 1,000
abbrev pub clamped : ℕ → ℕ
clamped n = max 1 (min 1000 n)

-- two lines for each row that n lines need
abbrev pub even : ℕ → ℕ
even n = 2 * max 1 ((n + 1) / 2)

abbrev pub view : ℕ → ℕ → ℕ → ℕ → View
view w h c l = record { width = w; height = h; columns = c; lines = l }

-- all columns of the window where the rows suffice, otherwise all rows
unfoldable pub view_of : ℕ → ℕ → ℕ → ℕ → View
view_of w h c r = cond (leb (c * h) (2 * r * w)) (view w h c (even (c * h / w))) (view w h (max 1 (2 * r * w / h)) (2 * r))

pub record Sound (v : View) : Type 0 where
  pub width : Side v.width
  pub height : Side v.height
  pub columns : (1 ≤ v.columns) × (v.columns ≤ 1000)
  pub lines : (1 ≤ v.lines) × (v.lines ≤ 2000)
