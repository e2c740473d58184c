-- `counted`: the ones of whole runs and of the leftover low bits are those that a walk counts.
use mathlib.Core.Path.{sym, ap, ◌∙◌}
use mathlib.Core.Bool.{Bool, cond}
use Prim.Native.Nat.{ℕ, ◌+◌, ◌*◌, ◌/◌, ◌%◌}
use native.Mathlib.Omega.{arith}
use native.Mathlib.Nat.{mod-lt}
use borrow.Author.Tests.{le-ltb}
use lib.Count.{ones}
use Rattle.std.specs.Prelude.{None, Some}
use Rattle.lit.specs.Lit.{lit_among}
use Rattle.lit.proofs.Runs.{reckoned, runs-and-leftover}
use Rattle.lit.proofs.Leftover.{masked}
use Rattle.lit.proofs.counted.Goals as goal

-- the bit of the first dot behind the whole runs is one of 32
pub returns : goal.returns
unfolding reckoned
returns c =
    let n = c.args.length in
    let p = c.args.pattern in
    ap Some (ap (λ (m : ℕ). n / 32 * ones p + m) (masked p (n % 32) (mod-lt n (omega arith))) ∙ sym (runs-and-leftover p c.ranges.pattern.fits n))
    ∙ sym (ap (λ (t : Bool). cond t None (Some (lit_among n p))) (le-ltb 65536 n c.if-length-gt-LONGEST.false))
