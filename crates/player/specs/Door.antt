-- Document 01, 10 to 14 of 'Numbers that come back': the door of any player of lists of words. What lies under 12 is the player's own.
use Rattle.std.specs.Prelude.{ℕ, ◌*◌, Bool, true, false, ◌&&◌, List, length, ltb, leb, eqb}
use Rattle.raster.specs.declared.frame.Bounds.{Bounds}
use Rattle.player.specs.Hosted.{Request}

-- lo to hi, both inside
abbrev pub between : ℕ → ℕ → ℕ → Bool
between lo hi n = leb lo n && leb n hi

-- width and height, each 1 to 2,048
abbrev pub size_fits : Bounds → Bool
size_fits b = between 1 2048 b.width && between 1 2048 b.height

-- both ends inside, not empty, within the screen
abbrev pub pane_fits : Bounds → Bool
pane_fits b =
    leb b.pane.left b.pane.right && ltb b.pane.right b.width
    && (leb b.pane.top b.pane.bottom && ltb b.pane.bottom b.height)

abbrev pub unless : ℕ → Bool → ℕ → ℕ
unless n true other = other
unless n false other = n

-- the lowest of 10 to 14 that applies, or 0, of a list and a budget, the environment's bounds and whether every other field fits, and the bytes of the
-- screen counted
unfoldable pub door_of : Request (List ℕ) → Bounds → Bool → ℕ → ℕ
door_of q b fits bytes =
    unless 10 (size_fits b)
    (unless 11 (eqb bytes (b.width * b.height))
    (unless 12 fits
    (unless 13 (leb (length q.list) 65536)
    (unless 14 (leb q.budget 1000000)
    0))))
