-- Document 02, T-09: the checker reads a sequence of opcodes, each of which may be a block holding a sequence again. The numbers are those of a run, and each
-- fault has its place; steps are counted as they are, however many.
use Rattle.std.specs.Prelude.{ℕ, zero, suc, ◌+◌, ◌*◌, cond, List, length, ltb, leb, Result, Ok, Err}
use Rattle.numbers.specs.declared.place.WordIndex.{WordIndex}
use Rattle.numbers.specs.Number.{signed16, low32}
use Rattle.numbers.specs.Place.{past}
use Rattle.player.specs.declared.Verdict.{Verdict}
use Rattle.player.specs.Player.{fault}
use Rattle.rules.specs.Operands.{at}
use Rattle.rules.specs.Opcodes.{countable}
use Rattle.forms.specs.declared.layout.Layout.{Layout}
use Rattle.forms.specs.declared.layout.Layout.TheVariants.{Strange, Plain, Flow, Ends, Opens, Closes}
use Rattle.forms.specs.Layout.{layout_at}
use Rattle.checker.specs.declared.reading.Closer.{Closer}
use Rattle.checker.specs.declared.reading.Closer.TheVariants.{Eodl, Erpt}
use Rattle.checker.specs.declared.reading.Closed.{Closed}
use Rattle.checker.specs.declared.reading.Behind.{Behind}

-- what a sequence comes to, and what a block comes to: or a fault
abbrev pub Reading : Type 0
Reading = Result Closed Verdict

abbrev pub Block : Type 0
Block = Result Behind Verdict

abbrev pub closed : Closer → WordIndex → ℕ → Closed
closed c i n = record { by = c; place = i; steps = n }

abbrev pub behind : WordIndex → ℕ → Behind
behind i n = record { next = i; steps = n }

-- ---- a sequence

-- k steps more before what closes it
abbrev pub longer : ℕ → Reading → Reading
longer k (Err v) = Err v
longer k (Ok c) = Ok (closed c.by c.place (k + c.steps))

-- a block, and the sequence behind it
abbrev pub joined : Block → (WordIndex → Reading) → Reading
joined (Err v) on = Err v
joined (Ok b) on = longer b.steps (on b.next)

-- an opcode at pc by its layout, `inner` reading a block and `on` what is behind: 21 where it is foreign to the profile, 22 where the list's end cuts it
abbrev pub opcode : List ℕ → (WordIndex → Block) → (WordIndex → Reading) → WordIndex → Layout → Reading
opcode w inner on pc Strange = Err (fault 21 pc)
opcode w inner on pc (Flow n) = Err (fault 21 pc)
opcode w inner on pc (Plain n) = cond (ltb (length w) (pc.0 + n)) (Err (fault 22 pc)) (longer 1 (on (past pc n)))
opcode w inner on pc Ends = Ok (closed Eodl pc 0)
opcode w inner on pc Closes = Ok (closed Erpt pc 0)
opcode w inner on pc Opens = joined (inner pc) on

-- the sequence at pc, of at most so many opcodes: 20 where the list runs out
unfoldable pub sequence : List ℕ → (WordIndex → Block) → ℕ → WordIndex → Reading
sequence w inner zero pc = Err (fault 20 pc)
sequence w inner (suc more) pc =
    cond (leb (length w) pc.0) (Err (fault 20 pc)) (opcode w inner (λ next. sequence w inner more next) pc (layout_at (at w pc.0)))

-- ---- a block

-- the word behind an RPT at pc, read as signed, as a run reads it
abbrev pub count : List ℕ → WordIndex → ℕ
count w pc = low32 (signed16 (at w (pc.0 + 1)))

-- c passes of a sequence that was closed so: RPT counts once, what is inside and the ERPT once a pass; an EODL inside is 30
abbrev pub closes_block : ℕ → Closer → WordIndex → ℕ → Block
closes_block c Eodl i n = Err (fault 30 i)
closes_block c Erpt i n = Ok (behind (past i 1) (1 + c * (n + 1)))

abbrev pub repeated : ℕ → Reading → Block
repeated c (Err v) = Err v
repeated c (Ok s) = closes_block c s.by s.place s.steps

-- an RPT at pc, `inside` being its block if it is sound: 22, then a count outside 1 to 1,000 is 24
abbrev pub opening : List ℕ → WordIndex → Block → Block
opening w pc inside =
    cond (ltb (length w) (pc.0 + 2)) (Err (fault 22 pc)) (cond (countable (count w pc)) inside (Err (fault 24 pc)))

-- the block whose RPT stands at pc, with room for so many blocks in one another: with none it is 28
unfoldable pub block_at : List ℕ → ℕ → WordIndex → Block
block_at w zero pc = opening w pc (Err (fault 28 pc))
block_at w (suc room) pc =
    opening w pc (repeated (count w pc) (sequence w (λ i. block_at w room i) (length w) (past pc 2)))

-- the sequence at pc: each opcode has a word, so a list has at most as many opcodes as words
abbrev pub sequence_at : List ℕ → ℕ → WordIndex → Reading
sequence_at w room pc = sequence w (λ i. block_at w room i) (length w) pc
