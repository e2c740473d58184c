-- A line of a page: LIST LEFT TOP RIGHT BOTTOM.
use Rattle.std.specs.Prelude.{ℕ, ◌+◌, ◌-◌, ◌%◌, ◌^◌, Bool, true, not, ◌&&◌, List, [], ◌∷◌, length, ◌==◌, slice_index_or}
use Rattle.text.specs.Items.{items}
use Rattle.raster.specs.declared.frame.Pane.{Pane}
use Rattle.errand.specs.Numbers.{number_in}

-- an empty line, and one that begins with '#', 35
unfoldable pub has_no_list : List ℕ → Bool
has_no_list [] = true
has_no_list (b ∷ bs) = b == 35

abbrev pub item_at : List ℕ → ℕ → List ℕ
item_at line k = slice_index_or (items line) k []

-- an item 4 that is not empty, and no item 5 that is not
unfoldable pub has_five_items : List ℕ → Bool
has_five_items line = not (length (item_at line 4) == 0) && length (item_at line 5) == 0

abbrev pub pane_of : List ℕ → Pane
pane_of line =
    record { left = number_in (item_at line 1); top = number_in (item_at line 2); right = number_in (item_at line 3); bottom = number_in (item_at line 4) }

-- a pane as large as the screen; one less than a side of 0 is the largest number
abbrev pub whole : ℕ → ℕ → Pane
whole width height = record { left = 0; top = 0; right = (width + (2 ^ 32 - 1)) % 2 ^ 32; bottom = (height + (2 ^ 32 - 1)) % 2 ^ 32 }
