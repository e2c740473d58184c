-- A rectangle of a lent screen, and what is painted there.
use Rattle.std.specs.Prelude.{ℕ, Bool, ◌&&◌, ◌≤◌, List}
use Rattle.raster.specs.Rects.{pixels, in_rect, Room}
use Rattle.circles.specs.declared.sheet.Sheet.{Sheet}

-- the rectangle lies within the screen, and has a row
pub record Ready (s : Sheet) : Type 0 where
  pub room : Room s.w s.r s.screen.now
  pub rows : s.r.t ≤ s.r.b

-- the sheet with other bytes
abbrev pub showing : Sheet → List ℕ → Sheet
showing s t = record s { screen = record s.screen { now = t } }

-- the sheet with the pixels of S painted that are within the rectangle
abbrev pub painted : Sheet → (ℕ → ℕ → Bool) → Sheet
painted s S = showing s (pixels s.w (λ i j. in_rect s.r i j && S i j) s.c s.screen.now)
