-- The limit of 65,536 dots: up to it the answer is 0 and what a walk counts, above it 25 and no count.
use mathlib.Core.Path.{◌≡◌}
use Prim.Native.Nat.{ℕ, ◌<◌, ◌≤◌}
use borrow.Author.Tests.{lt-ltb, le-ltb}
use Rattle.lit.specs.Lit.{lit_among, lit_of}

module _ (length pattern : ℕ) where
  pub within : length ≤ 65536 → lit_of length pattern ≡ record { number = 0; count = lit_among length pattern }
  unfolding lit_of
  within h = rw (le-ltb 65536 length h)

  pub above : 65536 < length → lit_of length pattern ≡ record { number = 25; count = 0 }
  unfolding lit_of
  above h = rw (lt-ltb 65536 length h)
