-- The checker at its edges, as one table: each list with what is stated of it.
use Prim.Native.Nat.{ℕ}
use mathlib.Core.Path.{◌≡◌, refl}
use mathlib.Core.List.{List, [], ◌∷◌, ◌++◌, map}
use lib.ListN.{replicate}
use Rattle.numbers.specs.Number.{signed16, low32}
use Rattle.player.specs.Player.{fault, verdict}
use Rattle.rules.specs.Table.{form_of}
use Rattle.forms.specs.Layout.{layout_at}
use Rattle.checker.specs.declared.Checked.{Checked}
use Rattle.checker.specs.Reading.{sequence, block_at}
use Rattle.checker.specs.Checked.{refusal, accepted, checked}

pub record Case : Type 0 where
  pub words : List ℕ
  pub want : Checked

-- so many steps; a number at a place; a number that carries 0
abbrev pub accepts : ℕ → List ℕ → Case
accepts n w = record { words = w; want = accepted n }

abbrev pub refuses : ℕ → ℕ → List ℕ → Case
refuses n i w = record { words = w; want = refusal (fault n (record { 0 = i })) }

abbrev pub carries0 : ℕ → List ℕ → Case
carries0 n w = record { words = w; want = refusal (verdict n) }

-- eight RPT of one pass each, and the ERPT of eight
abbrev pub deep : List ℕ
deep =
    0x00B7 ∷ 0x0001 ∷ 0x00B7 ∷ 0x0001 ∷ 0x00B7 ∷ 0x0001 ∷ 0x00B7 ∷ 0x0001 ∷ 0x00B7 ∷ 0x0001 ∷ 0x00B7 ∷ 0x0001 ∷ 0x00B7 ∷ 0x0001 ∷ 0x00B7 ∷ 0x0001 ∷ []

abbrev pub back : List ℕ
back = 0x004F ∷ 0x004F ∷ 0x004F ∷ 0x004F ∷ 0x004F ∷ 0x004F ∷ 0x004F ∷ 0x004F ∷ []

-- 13 words of 999,999 steps: a thousand passes of 998 steps and the ERPT, and 998 more
abbrev pub long : List ℕ
long =
    0x00B7 ∷ 0x03E8 ∷ 0x00B7 ∷ 0x01F2 ∷ 0x0000 ∷ 0x004F ∷ 0x0000 ∷ 0x004F ∷ 0x00B7 ∷ 0x01F2 ∷ 0x0000 ∷ 0x004F ∷ 0x0000 ∷ []

abbrev pub cases : List Case
cases =
    refuses 20 0 [] ∷
    accepts 1 (0x0001 ∷ []) ∷
    accepts 1 (0x0001 ∷ 0xFFFF ∷ 0x004F ∷ []) ∷  -- words behind the EODL are not read
    accepts 6 (0x00B7 ∷ 0x0002 ∷ 0x005D ∷ 0x0000 ∷ 0x004F ∷ 0x0001 ∷ []) ∷
    accepts 20 (0x00B7 ∷ 0x0003 ∷ 0x00B7 ∷ 0x0002 ∷ 0x005D ∷ 0x0000 ∷ 0x004F ∷ 0x004F ∷ 0x0001 ∷ []) ∷
    accepts 3 (0x00B7 ∷ 0x0001 ∷ 0x004F ∷ 0x0001 ∷ []) ∷  -- an empty block
    accepts 2 (0x0003 ∷ 0x0040 ∷ 0x0000 ∷ 0x0001 ∷ []) ∷  -- 23 is a run's to tell
    refuses 20 1 (0x0000 ∷ []) ∷
    refuses 20 2 (0x00B7 ∷ 0x0001 ∷ []) ∷  -- the list runs out inside a block
    refuses 21 0 (0x0043 ∷ []) ∷
    refuses 21 1 (0x0000 ∷ 0x00B9 ∷ 0x0001 ∷ []) ∷
    refuses 21 0 (0x010A ∷ []) ∷  -- foreign and cut: the lower number
    refuses 21 2 (0x00B7 ∷ 0x0001 ∷ 0x00B8 ∷ 0x0001 ∷ []) ∷
    refuses 22 1 (0x0000 ∷ 0x0066 ∷ 0x0000 ∷ []) ∷
    refuses 22 0 (0x00B7 ∷ []) ∷
    refuses 24 1 (0x0000 ∷ 0x00B7 ∷ 0x0000 ∷ 0x004F ∷ 0x0001 ∷ []) ∷
    refuses 24 0 (0x00B7 ∷ 0x03E9 ∷ 0x004F ∷ 0x0001 ∷ []) ∷
    refuses 24 0 (0x00B7 ∷ 0xFFFF ∷ 0x004F ∷ 0x0001 ∷ []) ∷
    accepts 1002 (0x00B7 ∷ 0x03E8 ∷ 0x004F ∷ 0x0001 ∷ []) ∷
    refuses 29 0 (0x004F ∷ []) ∷
    refuses 29 3 (0x00B7 ∷ 0x0001 ∷ 0x004F ∷ 0x004F ∷ 0x0001 ∷ []) ∷
    refuses 30 3 (0x00B7 ∷ 0x0001 ∷ 0x0000 ∷ 0x0001 ∷ 0x004F ∷ 0x0001 ∷ []) ∷
    accepts 17 (deep ++ back ++ (0x0001 ∷ [])) ∷
    refuses 28 16 (deep ++ (0x00B7 ∷ 0x0001 ∷ [])) ∷
    refuses 24 16 (deep ++ (0x00B7 ∷ 0x0000 ∷ [])) ∷  -- 22, 24, 28: the lower number
    refuses 22 16 (deep ++ (0x00B7 ∷ [])) ∷
    refuses 21 0 (0x00B9 ∷ 0x004F ∷ []) ∷  -- the first fault in list order
    accepts 1000000 (long ++ (0x0001 ∷ [])) ∷
    carries0 31 (long ++ (0x0000 ∷ 0x0001 ∷ [])) ∷
    refuses 20 14 (long ++ (0x0000 ∷ [])) ∷  -- 31 only with all else sound
    refuses 29 14 (long ++ (0x0000 ∷ 0x004F ∷ 0x0001 ∷ [])) ∷
    carries0 13 (replicate 65537 0) ∷
    []

pub all : map (λ (c : Case). checked c.words) cases ≡ map (λ (c : Case). c.want) cases
unfolding signed16 low32 form_of layout_at sequence block_at checked
all = refl
