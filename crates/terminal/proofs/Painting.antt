-- A colour at either depth.
use Prim.Native.Nat.{ℕ, ◌≤◌}
use mathlib.Core.List.{◌++◌}
use native.Mathlib.Omega.{arith}
use lib.ListN.{length, length-append}
use Rattle.text.specs.Bytes.{bytes}
use Rattle.picture.specs.declared.palette.Colour.{Colour}
use Rattle.terminal.specs.declared.cell.Depth.{Depth}
use Rattle.terminal.specs.declared.cell.Depth.TheVariants.{Direct, Cube}
use Rattle.text.specs.Decimal.{decimal}
use Rattle.std.proofs.lemmas.Bool.Decides.{nat_tests}
use Rattle.terminal.specs.Cells.{level, cube, paint}
use Rattle.terminal.proofs.Putting.{three-digits}

-- a colour of three bytes
pub record Bytes (c : Colour) : Type 0 where
  pub red : c.red ≤ 255
  pub green : c.green ≤ 255
  pub blue : c.blue ≤ 255

six-levels : (v : ℕ) → v ≤ 255 → level v ≤ 5
unfolding level
six-levels v h = grind (arith, nat_tests)

pub small-cube : {c : Colour} → Bytes c → cube c ≤ 255
small-cube {c} b = omega (arith, six-levels c.red b.red, six-levels c.green b.green, six-levels c.blue b.blue)

pub thirteen-bytes : (d : Depth) (c : Colour) → Bytes c → length (paint d c) ≤ 13
unfolding paint
thirteen-bytes Direct c b =
    omega (
      arith,
      three-digits c.red (omega arith),
      three-digits c.green (omega arith),
      three-digits c.blue (omega arith),
      length-append (decimal c.red) (bytes ";" ++ (decimal c.green ++ (bytes ";" ++ decimal c.blue))),
      length-append (decimal c.green) (bytes ";" ++ decimal c.blue),
    )
thirteen-bytes Cube c b = let s = small-cube b in omega (arith, three-digits (cube c) (omega arith))
