-- Answers: no second one keeps the promise, and some by computation.
use mathlib.Core.Path.{◌≡◌, refl, sym, ap₂, ◌∙◌}
use mathlib.Core.Bool.{Bool, cond}
use Prim.Native.Nat.{ℕ, zero, suc, ◌+◌}
use native.Mathlib.Omega.{arith}
use Rattle.lines.specs.Dashes.{bit, solid}
use Rattle.lines.proofs.Patterns.{lit-solid}
use Rattle.lit.specs.declared.LitDots.{LitDots}
use Rattle.lit.specs.Lit.{count_below, lit_among, lit_of}

pub unique : (length pattern : ℕ) (a b : LitDots) → a ≡ lit_of length pattern → b ≡ lit_of length pattern → a ≡ b
unique length pattern a b e f = e ∙ sym f

-- no dot at all, the first of a run alone, the last of a run alone
pub no_length : (pattern : ℕ) → lit_of 0 pattern ≡ record { number = 0; count = 0 }
unfolding lit_of count_below
no_length pattern = refl

pub first-of-a-run : lit_of 33 0x00000001 ≡ record { number = 0; count = 2 }
unfolding lit_of count_below bit
first-of-a-run = refl

pub last-of-a-run : lit_of 63 0x80000000 ≡ record { number = 0; count = 1 }
unfolding lit_of count_below bit
last-of-a-run = refl

-- a pipe of 100 dots: three whole runs, and four lit dots of the leftover
pub pipe : lit_of 100 0x0F0F0F0F ≡ record { number = 0; count = 52 }
unfolding lit_of count_below bit
pipe = refl

-- with a pattern of all ones every dot lights up
pub all-lit : (length : ℕ) → lit_among length solid ≡ length
unfolding count_below
all-lit zero = refl
all-lit (suc k) = ap₂ (λ (a : ℕ) (t : Bool). a + cond t 1 0) (all-lit k) (lit-solid k) ∙ omega arith
