-- A painting as stores into the screen's bytes, one after the other.
use Rattle.std.specs.Prelude.{ℕ, zero, suc, ◌+◌, ◌*◌, cond, List, slice_set, unsigned_abs}
use Rattle.raster.specs.declared.dots.Dot.{Dot}
use Rattle.raster.specs.declared.frame.Frame.{Frame}
use Rattle.raster.specs.Frame.{drawable}

-- the dot's byte, where the dot is drawable
abbrev pub store : Frame → ℕ → Dot → List ℕ → List ℕ
store f c d s = cond (drawable f d.x d.y) (slice_set s (unsigned_abs d.y * f.bounds.width + unsigned_abs d.x) c) s

-- the dots 0, 1, .., k - 1
abbrev pub store_first : Frame → ℕ → (ℕ → Dot) → ℕ → List ℕ → List ℕ
store_first f c D zero s = s
store_first f c D (suc k) s = store f c (D k) (store_first f c D k s)
