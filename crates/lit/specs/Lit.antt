-- How many dots of a dashed line light up (request T-04): a walk of every dot under request T-03's rule.
use Rattle.std.specs.Prelude.{Bool, cond, ℕ, zero, suc, ◌+◌, ltb}
use Rattle.lines.specs.Dashes.{lit}
use Rattle.lit.specs.declared.LitDots.{LitDots}

-- how many of p 0, p 1, .., p (k - 1) hold
unfoldable pub count_below : ℕ → (ℕ → Bool) → ℕ
count_below zero p = 0
count_below (suc k) p = count_below k p + cond (p k) 1 0

-- a walk of so many dots that counts those that the pattern paints
abbrev pub lit_among : ℕ → ℕ → ℕ
lit_among length pattern = count_below length (lit pattern)

-- a length above 65,536 is 25, count 0
unfoldable pub lit_of : ℕ → ℕ → LitDots
lit_of length pattern =
    cond (ltb 65536 length)
    (record { number = 25; count = 0 })
    (record { number = 0; count = lit_among length pattern })
