-- A page of lists.
use Rattle.std.specs.Prelude.{ℕ, Some, None, replicate, slice_set}
use Rattle.play.specs.declared.page.Page.{Page}
use Rattle.play.specs.declared.page.Playing.{Playing}

-- every place is vacant
abbrev pub no_lists : Page
no_lists = record { lists = replicate 8 None }

-- one list more, in a place of its own
abbrev pub with_playing : Playing → ℕ → Page → Page
with_playing l at p = record { lists = slice_set p.lists at (Some l) }
