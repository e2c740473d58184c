-- Document 02, T-14: a list that a walk goes through without meeting anything unknown or cut, in the rules' own words: `unknown` is 21 and `cut` is 22 of a step.
use Rattle.std.specs.Prelude.{ℕ, ◌+◌, ◌≤◌, ◌≡◌, false, List, length}
use Rattle.rules.specs.Meaning.{Meaning, meaning}
use Rattle.rules.specs.Table.{form_of}
use Rattle.rules.specs.Operands.{at}
use Rattle.rules.specs.Step.{unknown, cut}
use Rattle.forms.specs.Layout.{size_in}

-- what stands at word pc
abbrev pub standing : List ℕ → ℕ → Meaning
standing w pc = meaning (form_of (at w pc))

-- from word pc on
pub data Walks (w : List ℕ) : ℕ → Type 0 where
  end : {pc : ℕ} → length w ≤ pc → Walks w pc
  opcode : {pc : ℕ} → unknown (standing w pc) ≡ false → cut (standing w pc) w pc ≡ false → Walks w (pc + size_in (standing w pc)) → Walks w pc
