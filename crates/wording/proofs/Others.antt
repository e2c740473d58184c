-- A number that no line has gets the words for all others.
use Prim.Native.Nat.{ℕ}
use mathlib.Core.Path.{◌≡◌, refl, sym, ap, ◌∙◌}
use mathlib.Core.Bool.{Bool, cond}
use mathlib.Core.List.{List, [], ◌∷◌, ◌++◌}
use borrow.Author.Tests.{ne_eqb}
use Rattle.wording.specs.Wording.{Line, said, text_of, Without, None}

module _ (n : ℕ) (behind : List Line) where
  passed : (ls : List Line) (known : Type 0) → Without known ls n → known × (said (ls ++ behind) n ≡ said behind n)
  passed [] known h = (h, refl)
  passed (l ∷ ls) known h =
      let r = passed ls (known × (n ≡ l.number → ⊥)) h in
      (r.0.0, ap (λ (t : Bool). cond t l.words (said (ls ++ behind) n)) (ne_eqb n l.number r.0.1) ∙ r.1)

  -- lines without the number can be passed over
  pub passed_over : (ls : List Line) → None ls n → said (ls ++ behind) n ≡ said behind n
  passed_over ls h = (passed ls (Unit {0}) h).1

-- a number that is a line's has its text
pub line : (n k : ℕ) → n ≡ k → text_of k ≡ text_of n
line n k e = ap text_of (sym e)
