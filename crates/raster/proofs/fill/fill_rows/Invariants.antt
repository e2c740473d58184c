-- `raster::fill::fill_rows` meets its contract: after each turn the rows above y are painted.
use Rattle.std.proofs.Common.{◌≡◌, true}
use Rattle.raster.proofs.Rows.{above}
use Rattle.raster.proofs.fill.fill_rows.Given as goal

abbrev pub invariant-loop-y : goal.invariant-loop-y
invariant-loop-y l = l.screen ≡ above l.w l.r (λ i j. true) l.y l.c l.initial.screen
