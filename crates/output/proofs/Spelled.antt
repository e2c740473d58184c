-- What is written is read back as the same words.
use Prim.Native.Nat.{ℕ}
use mathlib.Core.Path.{◌≡◌, refl, ap₂}
use mathlib.Core.List.{List, [], ◌∷◌}
use native.Mathlib.Omega.{arith}
use Rattle.errand.specs.Words.{word, words_in}
use Rattle.output.specs.Bytes.{low_of, high_of, bytes_of}

both : (w : ℕ) → word (low_of w) (high_of w) ≡ w
both w = omega arith

pub spelled : (ws : List ℕ) → words_in (bytes_of ws) ≡ ws
unfolding words_in bytes_of
spelled [] = refl
spelled (w ∷ ws) = ap₂ (λ (x : ℕ) (l : List ℕ). x ∷ l) (both w) (spelled ws)
