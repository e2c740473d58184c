-- Document 01, 'Opcodes of the base': what stands behind an opcode word. Refusals 22 and 23 rest on `size_of`, `highest` and `first_above`.
use Rattle.std.specs.Prelude.{ℕ, zero, suc, ◌+◌, ◌-◌, max, cond, List, [], ◌∷◌, ◌++◌, get_or, replicate, ltb}
use Rattle.numbers.specs.Number.{signed16, low32, long_of}
use Rattle.rules.specs.Types.{Operands}

-- one operand, as the paper writes it
pub data Piece : Type 0 where
  word : Piece  -- one word
  long : Piece  -- two words
  from : ℕ → Piece  -- Vs, V or Vi: a word that names the first of so many variables
  dest : Piece  -- Vd, or the variable of INCV and DCRV

-- where an opcode's operands come from: source stands left of destination; V forms take Vi, Vi+1 and so on
abbrev pub Source : Type 0
Source = List Piece

-- n words
abbrev pub plain : ℕ → Source
plain n = replicate n word

-- ---- how many words

abbrev pub width : Piece → ℕ
width word = 1
width long = 2
width (from n) = 1
width dest = 1

abbrev pub widths : Source → ℕ
widths [] = 0
widths (p ∷ ps) = width p + widths ps

-- the words of an opcode, itself among them
abbrev pub size_of : Source → ℕ
size_of s = 1 + widths s

-- ---- which variables

-- word i of the list; variable v
abbrev pub at : List ℕ → ℕ → ℕ
at w i = get_or w i 0

-- the last variable that a piece with first word v names or implies
abbrev pub last : Piece → ℕ → ℕ
last word v = 0
last long v = 0
last (from n) v = v + (n - 1)
last dest v = v

-- the highest variable that pieces name or imply, the first piece k words past the opcode at pc
abbrev pub highest : Source → List ℕ → ℕ → ℕ → ℕ
highest [] w pc k = 0
highest (p ∷ ps) w pc k = max (last p (at w (pc + k))) (highest ps w pc (k + width p))

-- where the first piece stands that names or implies a variable above 63, in words past the opcode at pc; where none does, past them all
abbrev pub first_above : Source → List ℕ → ℕ → ℕ → ℕ
first_above [] w pc k = k
first_above (p ∷ ps) w pc k = cond (ltb 63 (last p (at w (pc + k)))) k (first_above ps w pc (k + width p))

-- the variable that is named as destination
abbrev pub named : Piece → ℕ → ℕ → ℕ
named word v other = other
named long v other = other
named (from n) v other = other
named dest v other = v

abbrev pub destination : Source → List ℕ → ℕ → ℕ → ℕ
destination [] w pc k = 0
destination (p ∷ ps) w pc k = named p (at w (pc + k)) (destination ps w pc (k + width p))

-- ---- which values, each as 32 bits

-- n variables: v + k, v + k + 1 and so on
abbrev pub following : ℕ → ℕ → ℕ → List ℕ → List ℕ
following zero v k vs = []
following (suc n) v k vs = at vs (v + k) ∷ following n v (k + 1) vs

-- of a piece with first word v and second word h: a word is read as signed, a long has its low word first
abbrev pub value : Piece → ℕ → ℕ → List ℕ → List ℕ
value word v h vs = low32 (signed16 v) ∷ []
value long v h vs = long_of v h ∷ []
value (from n) v h vs = following n v 0 vs
value dest v h vs = []

abbrev pub values : Source → List ℕ → ℕ → ℕ → List ℕ → List ℕ
values [] w pc k vs = []
values (p ∷ ps) w pc k vs = value p (at w (pc + k)) (at w (pc + (k + 1))) vs ++ values ps w pc (k + width p) vs

-- at most five, and the destination
abbrev pub gathered : List ℕ → ℕ → Operands
gathered v d = record { a = at v 0; b = at v 1; c = at v 2; d = at v 3; e = at v 4; dest = record { 0 = d } }

-- what an opcode at pc reads, of the list's words and the variables
abbrev pub operands : Source → List ℕ → ℕ → List ℕ → Operands
operands s w pc vs = gathered (values s w pc 1 vs) (destination s w pc 1)
