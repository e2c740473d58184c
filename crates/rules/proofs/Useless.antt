-- Document 01, 'What the promises are held to': five useless boxes, each shut out by the promise at the case named.
use Prim.Native.Nat.{ℕ, ◌≤◌}
use mathlib.Core.Path.{◌≡◌, refl, sym, ap, ◌∙◌}
use mathlib.Core.List.{List, [], ◌∷◌}
use native.Mathlib.Omega.{arith}
use lib.ListN.{get_or}
use Rattle.numbers.specs.Number.{signed16, low32}
use Rattle.numbers.specs.Coordinate.{in_word}
use Rattle.player.specs.Run.{Answer, runs}
use Rattle.player.specs.Hosted.{answered}
use Rattle.player.specs.Door.{door_of}
use Rattle.rules.specs.Table.{form_of}
use Rattle.rules.specs.Environment.{Env}
use Rattle.rules.specs.Step.{carried, step}
use Rattle.rules.specs.Door.{door, whole}
use Rattle.rules.proofs.Cases.{e₀, blank, slope, seven_by_two, starred}

-- a box, seen from the host: of a list, a screen, an environment and a budget, an answer
abbrev pub Box : Type 0
Box = List ℕ → List ℕ → Env → ℕ → Answer Env

-- it keeps the promise at every call
abbrev pub Keeps : Box → Type 0
Keeps box = (w s : List ℕ) (e : Env) (budget : ℕ) → box w s e budget ≡ whole w s e budget

-- row k of the table of cases
abbrev row : ℕ → List (Answer Env) → Answer Env
row k answers = get_or answers k (whole [] [] e₀ 0)

-- case 5 cut short: the first opcode loads -7
first-opcode : get_or (whole (seven_by_two 0x0045) blank e₀ 1).env.variables 0 0 ≡ 4294967289
unfolding signed16 low32 in_word form_of carried step door_of door answered runs
first-opcode = refl

module _ (box : Box) (keeps : Keeps box) where
  -- one that refuses everything: case 2 is answered 0
  pub refusing : ((w s : List ℕ) (e : Env) (budget : ℕ) → 10 ≤ (box w s e budget).verdict.number) → ⊥
  refusing bad =
      let n : (box (0x0001 ∷ []) blank e₀ 100).verdict.number ≡ 0 = ap (λ (a : Answer Env). a.verdict.number) (keeps (0x0001 ∷ []) blank e₀ 100 ∙ ap (row 1) starred) in
      omega (arith, n, bad (0x0001 ∷ []) blank e₀ 100)

  -- one that always answers 0: case 1 is answered 20
  pub answering-0 : ((w s : List ℕ) (e : Env) (budget : ℕ) → (box w s e budget).verdict.number ≡ 0) → ⊥
  answering-0 bad =
      let n : (box [] blank e₀ 100).verdict.number ≡ 20 = ap (λ (a : Answer Env). a.verdict.number) (keeps [] blank e₀ 100 ∙ ap (row 0) starred) in
      omega (arith, n, bad [] blank e₀ 100)

  -- one that leaves the screen untouched: case 9 paints the top left dot
  pub leaving-the-screen : ((w s : List ℕ) (e : Env) (budget : ℕ) → (box w s e budget).screen ≡ s) → ⊥
  leaving-the-screen bad =
      let n : get_or (box slope blank e₀ 100).screen 0 0 ≡ 15 = ap (λ (a : Answer Env). get_or a.screen 0 0) (keeps slope blank e₀ 100 ∙ ap (row 11) starred) in
      let m : get_or (box slope blank e₀ 100).screen 0 0 ≡ 0 = ap (λ (s : List ℕ). get_or s 0 0) (bad slope blank e₀ 100) in
      omega (arith, n, m)

  -- one that carries out the first opcode and only counts the rest: case 5 divides V0, which the first opcode made -7
  pub only-counting : ((w s : List ℕ) (e : Env) (budget : ℕ) → (box w s e budget).env.variables ≡ (whole w s e 1).env.variables) → ⊥
  only-counting bad =
      let n : get_or (box (seven_by_two 0x0045) blank e₀ 100).env.variables 0 0 ≡ 4294967293 = ap (λ (a : Answer Env). get_or a.env.variables 0 0) (keeps (seven_by_two 0x0045) blank e₀ 100 ∙ ap (row 5) starred) in
      let m : get_or (box (seven_by_two 0x0045) blank e₀ 100).env.variables 0 0 ≡ 4294967289 = ap (λ (v : List ℕ). get_or v 0 0) (bad (seven_by_two 0x0045) blank e₀ 100) ∙ first-opcode in
      omega (arith, n, m)

  -- one that invents its step count: at case 11 none but 16 will do
  pub inventing : (k : ℕ) → (k ≡ 16 → ⊥) → (box (0x010E ∷ 0xFFFE ∷ []) blank e₀ 100).steps ≡ k → ⊥
  inventing k not bad =
      not (sym bad ∙ ap (λ (a : Answer Env). a.steps) (keeps (0x010E ∷ 0xFFFE ∷ []) blank e₀ 100 ∙ ap (row 13) starred))
