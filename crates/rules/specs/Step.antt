-- Document 01, 20 to 29 of 'Numbers that come back', each with its place: one opcode, carried out or refused, and the player that takes such steps.
use Rattle.std.specs.Prelude.{ℕ, ◌+◌, Bool, true, false, List, length, ltb, leb}
use Rattle.numbers.specs.Place.{past}
use Rattle.player.specs.Painting.{placed}
use Rattle.player.specs.Player.{fault, Outcome, done, refused, Player}
use Rattle.rules.specs.Types.{WordIndex, Stopped}
use Rattle.rules.specs.Meaning.{Meaning, Unknown, Known, meaning}
use Rattle.rules.specs.Table.{form_of}
use Rattle.rules.specs.Operands.{at, size_of, highest, first_above, operands}
use Rattle.rules.specs.Environment.{Env, onward, stated, frame}
use Rattle.rules.specs.Opcodes.{Rule, leaves, rule}

-- refused with a number and a place where the test holds; else what comes after
abbrev pub check : ℕ → WordIndex → Bool → Outcome Env → Outcome Env
check n i true o = refused (fault n i)
check n i false o = o

abbrev pub unknown : Meaning → Bool
unknown Unknown = true
unknown (Known op s) = false

-- the list ends inside the opcode
abbrev pub cut : Meaning → List ℕ → ℕ → Bool
cut Unknown w pc = false
cut (Known op s) w pc = ltb (length w) (pc + size_of s)

-- a variable named or implied is above 63
abbrev pub misnamed : Meaning → List ℕ → ℕ → Bool
misnamed Unknown w pc = false
misnamed (Known op s) w pc = ltb 63 (highest s w pc 1)

-- the first operand word that names or implies one
abbrev pub misnaming : Meaning → List ℕ → WordIndex → WordIndex
misnaming Unknown w pc = pc
misnaming (Known op s) w pc = past pc (first_above s w pc.0 1)

abbrev pub ruled : Meaning → List ℕ → Env → Rule
ruled Unknown w e = leaves e
ruled (Known op s) w e = rule op (operands s w e.flow.counter.0 e.variables) (length w) (onward (size_of s) e)

-- the end of the order: the lowest of 24 to 29 that a rule breaks, where the opcode begins, or what it says; what is painted goes by the environment before
-- the opcode, and is moved to its origin
unfoldable pub carried : Rule → Env → Outcome Env
carried r e =
    let pc = e.flow.counter in
    check 24 pc (r.breaks 24)
    (check 25 pc (r.breaks 25)
    (check 26 pc (r.breaks 26)
    (check 27 pc (r.breaks 27)
    (check 28 pc (r.breaks 28)
    (check 29 pc (r.breaks 29)
    (done r.env (placed (frame e) r.shape r.colour)))))))

-- 20 to 29, lowest first: where the opcode begins or was due, 23 at an operand
abbrev pub judged : Meaning → Rule → List ℕ → Env → Outcome Env
judged m r w e =
    let pc = e.flow.counter in
    check 20 pc (leb (length w) pc.0)
    (check 21 pc (unknown m)
    (check 22 pc (cut m w pc.0)
    (check 23 (misnaming m w pc) (misnamed m w pc.0)
    (carried r e))))

abbrev pub step_at : Meaning → List ℕ → Env → Outcome Env
step_at m w e = judged m (ruled m w e) w e

-- the opcode at the counter
unfoldable pub step : List ℕ → Env → Outcome Env
step w e = step_at (meaning (form_of (at w e.flow.counter.0))) w e

-- a refused opcode leaves all but the state as it was
abbrev pub afgis : List ℕ → Player Env
afgis w = record { state = λ e. e.state; stop = λ v e. stated (Stopped v) e; step = step w }
