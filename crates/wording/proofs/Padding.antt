-- Words are copied into zeros.
use Prim.Native.Nat.{ℕ}
use mathlib.Core.Path.{◌≡◌, ap, ap₂}
use mathlib.Core.List.{List, ◌++◌}
use lib.ListN.{length, drop, replicate}
use Rattle.std.proofs.lemmas.List.{drop-replicate}
use Rattle.wording.specs.declared.Words.{Words}
use Rattle.wording.specs.Wording.{words_of}

abbrev made : ℕ → List ℕ → Words
made n t = record { length = n; text = t }

-- zeros stand behind the words
pub copied : (words : List ℕ) {text : List ℕ} → text ≡ words → made (length words) (text ++ drop (length words) (replicate 127 0)) ≡ words_of words
unfolding words_of
copied words e = ap (made (length words)) (ap₂ (λ (a b : List ℕ). a ++ b) e (drop-replicate (length words) 127 0))
