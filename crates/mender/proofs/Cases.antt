-- The mender at its edges, as one table: each list and report with the answer and what is left of both.
use Prim.Native.Nat.{ℕ}
use mathlib.Core.Path.{◌≡◌, refl}
use mathlib.Core.List.{List, [], ◌∷◌, map}
use lib.ListN.{replicate}
use Rattle.rules.specs.Table.{form_of}
use Rattle.mender.specs.Walk.{passing, mended_from, mended}
use Rattle.mender.specs.Report.{changes_from, numbers}
use Rattle.mender.specs.Mended.{Left, left, mending}

pub record Case : Type 0 where
  pub list : List ℕ
  pub report : List ℕ
  pub want : Left

-- 0 and so many changes; a number and a count that leave both as they were; nothing to mend
abbrev pub mends : ℕ → List ℕ → List ℕ → List ℕ → List ℕ → Case
mends k w r w' r' = record { list = w; report = r; want = left 0 k w' r' }

abbrev pub refuses : ℕ → ℕ → List ℕ → List ℕ → Case
refuses n k w r = record { list = w; report = r; want = left n k w r }

-- room for two changes and a number more
abbrev pub room : List ℕ
room = 9 ∷ 9 ∷ 9 ∷ 9 ∷ 9 ∷ 9 ∷ 9 ∷ []

abbrev pub clean : List ℕ → Case
clean w = mends 0 w room w room

abbrev pub cases : List Case
cases =
    -- room for every change, or 32, which tells how many there are
    mends 1 (0xFFFF ∷ []) (9 ∷ 9 ∷ 9 ∷ []) (0x0000 ∷ []) (0 ∷ 0xFFFF ∷ 0 ∷ []) ∷
    refuses 32 1 (0xFFFF ∷ []) (9 ∷ 9 ∷ []) ∷
    refuses 32 1 (0xFFFF ∷ []) [] ∷
    refuses 32 3 (0xFFFF ∷ 0xFFFE ∷ 0xFFFD ∷ []) room ∷
    mends 0 (0x0001 ∷ []) [] (0x0001 ∷ []) [] ∷
    -- nothing to mend
    clean [] ∷
    clean (0x0001 ∷ []) ∷
    clean (0x0000 ∷ 0x0000 ∷ []) ∷
    clean (0x005D ∷ 0xFFFF ∷ 0x0001 ∷ []) ∷  -- an operand is never judged
    clean (0x010A ∷ 0xFFFF ∷ 0xFFFF ∷ 0xFFFF ∷ 0x00B9 ∷ 0x000E ∷ 0xFFFF ∷ 0xFFFF ∷ []) ∷  -- jumps, calls and RTRN are passed by their size
    clean (0x00B7 ∷ 0xFFFF ∷ 0x004F ∷ 0x0012 ∷ 0xFFFF ∷ 0xFFFF ∷ 0xFFFF ∷ 0xFFFF ∷ 0x0100 ∷ 0xFFFF ∷ 0xFFFF ∷ []) ∷  -- and so are the requests' opcodes: RPT, ERPT, CIR, XYORG
    -- unknown, and the walk goes on at the next word
    mends 1 (0xFFFF ∷ 0x0001 ∷ []) room (0x0000 ∷ 0x0001 ∷ []) (0 ∷ 0xFFFF ∷ 0 ∷ 9 ∷ 9 ∷ 9 ∷ 9 ∷ []) ∷
    mends 2 (0xFFFF ∷ 0x005D ∷ 0xFFFE ∷ 0xFFFD ∷ []) room (0x0000 ∷ 0x005D ∷ 0xFFFE ∷ 0x0000 ∷ []) (0 ∷ 0xFFFF ∷ 0 ∷ 3 ∷ 0xFFFD ∷ 0 ∷ 9 ∷ []) ∷
    mends 1 (0x0001 ∷ 0xFFFF ∷ []) room (0x0001 ∷ 0x0000 ∷ []) (1 ∷ 0xFFFF ∷ 0 ∷ 9 ∷ 9 ∷ 9 ∷ 9 ∷ []) ∷  -- EODL does not end it
    -- cut; a word that is 0000 already does not differ
    mends 2 (0x0066 ∷ 0x0005 ∷ []) room (0x0001 ∷ 0x0000 ∷ []) (0 ∷ 0x0066 ∷ 1 ∷ 1 ∷ 0x0005 ∷ 0 ∷ 9 ∷ []) ∷
    mends 1 (0x0066 ∷ 0x0000 ∷ 0x0000 ∷ []) room (0x0001 ∷ 0x0000 ∷ 0x0000 ∷ []) (0 ∷ 0x0066 ∷ 1 ∷ 9 ∷ 9 ∷ 9 ∷ 9 ∷ []) ∷
    mends 2 (0x0066 ∷ 0x0000 ∷ 0x0001 ∷ []) room (0x0001 ∷ 0x0000 ∷ 0x0000 ∷ []) (0 ∷ 0x0066 ∷ 1 ∷ 2 ∷ 0x0001 ∷ 0 ∷ 9 ∷ []) ∷
    mends 1 (0x0000 ∷ 0x00B7 ∷ []) room (0x0000 ∷ 0x0001 ∷ []) (1 ∷ 0x00B7 ∷ 1 ∷ 9 ∷ 9 ∷ 9 ∷ 9 ∷ []) ∷
    mends 2 (0x0012 ∷ 0x0000 ∷ 0x0000 ∷ 0x0003 ∷ []) room (0x0001 ∷ 0x0000 ∷ 0x0000 ∷ 0x0000 ∷ []) (0 ∷ 0x0012 ∷ 1 ∷ 3 ∷ 0x0003 ∷ 0 ∷ 9 ∷ []) ∷
    mends 2 (0x0100 ∷ 0x0100 ∷ []) room (0x0001 ∷ 0x0000 ∷ []) (0 ∷ 0x0100 ∷ 1 ∷ 1 ∷ 0x0100 ∷ 0 ∷ 9 ∷ []) ∷
    []

pub all : map (λ (c : Case). mending c.list c.report) cases ≡ map (λ (c : Case). c.want) cases
unfolding form_of passing mended_from mended changes_from numbers mending
all = refl

-- 13 comes first; by itself, as it computes 65,537 words
pub too_long : mending (replicate 65537 0xFFFF) [] ≡ left 13 0 (replicate 65537 0xFFFF) []
unfolding mending
too_long = refl
