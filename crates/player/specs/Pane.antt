-- The panes of one screen: their pixels, panes with none in common, and screens that are the same in a pane.
use Rattle.std.specs.Prelude.{ℕ, ◌<◌, ◌≡◌, Bool, ◌&&◌, List, ℤ, T, length, get_or}
use Rattle.raster.specs.declared.frame.Bounds.{Bounds}
use Rattle.raster.specs.Frame.{on_screen, in_pane}
use Rattle.raster.specs.Paint.{column_of, row_of}

-- (x, y) is a pixel of the pane
abbrev pub pixel : Bounds → ℤ → ℤ → Bool
pixel p x y = on_screen p x y && in_pane p x y

-- byte k of the screen shows one
abbrev pub of_pane : Bounds → ℕ → Bool
of_pane p k = pixel p (column_of p k) (row_of p k)

-- two panes of one screen, of which the width is enough, with no pixel in common
pub record Apart (p q : Bounds) : Type 0 where
  pub width : p.width ≡ q.width
  pub disjoint : (x y : ℤ) → T (pixel p x y) → T (pixel q x y) → ⊥

-- two screens of one length have the same bytes in the pane
pub record Alike (p : Bounds) (s t : List ℕ) : Type 0 where
  pub long : length s ≡ length t
  pub bytes : (k : ℕ) → k < length s → T (of_pane p k) → get_or s k 0 ≡ get_or t k 0
