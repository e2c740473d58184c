-- Document 02, T-14: afterwards a walk meets nothing unknown or cut, a second mending changes nothing, and a list that walked cleanly is unchanged.
use Prim.Native.Nat.{ℕ}
use mathlib.Core.Path.{◌≡◌}
use mathlib.Core.List.{List}
use lib.ListN.{length}
use Rattle.std.specs.Prelude.{Some}
use Rattle.mender.specs.Walk.{mended}
use Rattle.mender.specs.Walks.{Walks}
use Rattle.mender.proofs.Walking.{same-long}
use Rattle.mender.proofs.Clean.{mended-clean}
use Rattle.mender.proofs.Clean as Clean
use Rattle.mender.proofs.CleanWalks.{clean-walks, walks-clean}

pub mended-walks : (w : List ℕ) → Walks (mended w) 0
mended-walks w = clean-walks (mended-clean w)

pub unchanged : {w : List ℕ} → Walks w 0 → mended w ≡ w
unchanged h = Clean.unchanged (walks-clean h)

pub again : (w : List ℕ) → mended (mended w) ≡ mended w
again w = unchanged (mended-walks w)

pub same_length : (w : List ℕ) → length (mended w) ≡ length w
unfolding mended
same_length w = same-long (Some 0) w
