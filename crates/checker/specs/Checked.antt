-- Document 02, T-09: what the checker states of a list.
use Rattle.std.specs.Prelude.{ℕ, ◌+◌, ◌≡◌, cond, List, length, leb, Result, Ok, Err}
use Rattle.numbers.specs.declared.place.WordIndex.{WordIndex}
use Rattle.player.specs.declared.Verdict.{Verdict}
use Rattle.player.specs.Player.{fault, verdict}
use Rattle.rules.specs.Environment.{start}
use Rattle.checker.specs.declared.Checked.{Checked}
use Rattle.checker.specs.declared.reading.Closer.{Closer}
use Rattle.checker.specs.declared.reading.Closer.TheVariants.{Eodl, Erpt}
use Rattle.checker.specs.Reading.{Reading, sequence_at}

abbrev pub refusal : Verdict → Checked
refusal v = record { number = v.number; place = v.place; steps = 0 }

abbrev pub accepted : ℕ → Checked
accepted n = record { number = 0; place = start; steps = n }

-- the steps, or why not, as one struct
abbrev pub answered : Result ℕ Verdict → Checked
answered (Ok n) = accepted n
answered (Err v) = refusal v

-- outside all blocks: an ERPT is 29, the EODL counts as one, and only with all else sound more than 1,000,000 steps are 31
abbrev pub closes_list : Closer → WordIndex → ℕ → Checked
closes_list Erpt i n = refusal (fault 29 i)
closes_list Eodl i n = cond (leb (n + 1) 1000000) (accepted (n + 1)) (refusal (verdict 31))

abbrev pub told : Reading → Checked
told (Err v) = refusal v
told (Ok c) = closes_list c.by c.place c.steps

-- at most 65,536 words, and at most eight blocks in one another
unfoldable pub checked : List ℕ → Checked
checked w = cond (leb (length w) 65536) (told (sequence_at w 8 start)) (refusal (verdict 13))

-- what the checker promises: what it states is this and nothing else
abbrev pub Promise : List ℕ → Checked → Type 0
Promise w r = r ≡ checked w
