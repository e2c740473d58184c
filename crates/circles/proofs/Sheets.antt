-- A sheet stays ready, whatever is painted on it.
use mathlib.Core.Bool.{Bool, ◌&&◌}
use Prim.Native.Nat.{ℕ, ◌/◌, ◌%◌}
use native.Mathlib.Omega.{arith}
use Rattle.raster.specs.Rects.{in_rect}
use Rattle.raster.proofs.Recolour.{length-recolour}
use Rattle.circles.specs.declared.sheet.Sheet.{Sheet}
use Rattle.circles.specs.Sheets.{Ready, painted}

pub still-ready : (s : Sheet) (S : ℕ → ℕ → Bool) → Ready s → Ready (painted s S)
still-ready s S h =
    let e = length-recolour (λ k. in_rect s.r (k % s.w) (k / s.w) && S (k % s.w) (k / s.w)) s.c s.screen.now in
    record {
      room = record {
        narrow = h.room.narrow;
        from_left = h.room.from_left;
        from_top = h.room.from_top;
        to_right = h.room.to_right;
        to_bottom = h.room.to_bottom;
        down = omega (arith, h.room.down, e);
      };
      rows = h.rows;
    }
