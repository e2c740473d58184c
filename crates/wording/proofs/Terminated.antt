-- Every number's words are a text to C: their first 0 is the one right behind them, within the 127 bytes.
use Prim.Native.Nat.{ℕ, ◌<◌}
use Prim.Native.String.{String}
use mathlib.Core.Path.{◌≡◌, refl, sym}
use mathlib.Core.Bool.{Bool, true, false, cond, ◌&&◌, true≢false}
use mathlib.Core.List.{List, [], ◌∷◌}
use borrow.Author.Tests.{ltb-true, eqb-true}
use lib.Dec.{ltb, eqb}
use lib.ListN.{length}
use Rattle.text.specs.Bytes.{bytes}
use Rattle.text.specs.Items.{place_of}
use Rattle.wording.specs.declared.Words.{Words}
use Rattle.wording.specs.Wording.{Line, table, others, said, text_of, words_of}

abbrev ends : Words → Bool
ends w = eqb (place_of 0 w.text) w.length && ltb w.length 127

abbrev good : String → Bool
good s = ends (words_of (bytes s))

abbrev all-good : List Line → Bool
all-good [] = good others
all-good (l ∷ ls) = good l.words && all-good ls

both : (a b : Bool) → (a && b) ≡ true → (a ≡ true) × (b ≡ true)
both true b h = (refl, h)
both false b h = absurd (true≢false (sym h))

each : (ls : List Line) → all-good ls ≡ true → (n : ℕ) → good (said ls n) ≡ true
each [] h n = h
each (l ∷ ls) h n = let b = both (good l.words) (all-good ls) h in go (eqb n l.number) b.0 (each ls b.1 n)
  where
    go : (t : Bool) → good l.words ≡ true → good (said ls n) ≡ true → good (cond t l.words (said ls n)) ≡ true
    go true here later = here
    go false here later = later

every-line : all-good table ≡ true
unfolding place_of words_of
every-line = refl

pub terminated : (n : ℕ) → let w = words_of (text_of n) in (place_of 0 w.text ≡ w.length) × (w.length < 127)
unfolding text_of
terminated n =
    let w = words_of (text_of n) in
    let h = both (eqb (place_of 0 w.text) w.length) (ltb w.length 127) (each table every-line n) in
    (eqb-true (place_of 0 w.text) w.length h.0, ltb-true w.length 127 h.1)

pub short : (n : ℕ) → length (text_of n) < 127
unfolding words_of
short n = (terminated n).1
