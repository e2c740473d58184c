-- Fetching, the first stage of a step: 22, 23, or the operands. proofs/Steps proves that it is the rules' own order.
use Rattle.std.specs.Prelude.{ℕ, ◌+◌, ◌<◌, ◌≤◌, cond, List, length, ltb, Result, Ok, Err}
use Rattle.numbers.specs.declared.place.VarNo.{VarNo}
use Rattle.numbers.specs.declared.place.WordIndex.{WordIndex}
use Rattle.numbers.specs.Place.{above}
use Rattle.rules.specs.Operands.{Source, size_of, highest, first_above, values, destination, gathered}
use Rattle.player.specs.declared.Verdict.{Verdict}
use Rattle.player.specs.Player.{fault}
use Rattle.rules.specs.declared.opcode.Operands.{Operands}
use Rattle.fetch.specs.declared.source.Fetched.{Fetched}

-- the list has a word k places past pc, and is no longer than the door lets in
abbrev pub Reaches : List ℕ → ℕ → ℕ → Type 0
Reaches w pc k = (pc + k < length w) × (length w ≤ 65536)

abbrev pub fetched : Operands → WordIndex → Fetched
fetched o next = record { operands = o; next = next }

-- what is fetched, or the refusal
abbrev pub Taken : Type 0
Taken = Result Fetched Verdict

-- the destination of what was taken is a variable
abbrev pub Destined : Taken → Type 0
Destined (Err v) = Unit {0}
Destined (Ok f) = f.operands.dest.0 < 64

-- a value and a destination, which word i names, unless that is above 63
unfoldable pub onto_of : WordIndex → ℕ → VarNo → WordIndex → Taken
onto_of i a d next = cond (above d 1) (Err (fault 23 i)) (Ok (fetched (record { a = a; b = 0; c = 0; d = 0; e = 0; dest = d }) next))

-- the operands of a source, unless the list ends inside them, or a variable named or implied is above 63: that at the first such word
unfoldable pub taken_of : Source → List ℕ → ℕ → List ℕ → Taken
taken_of s w pc vs =
    let next = pc + size_of s in
    cond (ltb (length w) next) (Err (fault 22 (record { 0 = pc })))
    (cond (ltb 63 (highest s w pc 1)) (Err (fault 23 (record { 0 = pc + first_above s w pc 1 })))
    (Ok (fetched (gathered (values s w pc 1 vs) (destination s w pc 1)) (record { 0 = next }))))
