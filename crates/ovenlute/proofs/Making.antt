-- What the making of a fresh environment answers, case by case.
use mathlib.Core.Path.{◌≡◌, sym}
use mathlib.Core.Bool.{true, false}
use Rattle.raster.specs.declared.frame.Bounds.{Bounds}
use Rattle.rules.specs.Door.{size_fits, pane_fits}
use Rattle.rules.specs.Fresh.{making, zeros, fresh, made}

module _ (b : Bounds) where
  pub bad-size : size_fits b ≡ false → making 10 zeros ≡ made b
  unfolding made
  bad-size s = sym (rw s)

  pub bad-pane : size_fits b ≡ true → pane_fits b ≡ false → making 12 zeros ≡ made b
  unfolding made
  bad-pane s p = sym (rw (s, p))

  pub good : size_fits b ≡ true → pane_fits b ≡ true → making 0 (fresh b) ≡ made b
  unfolding made
  good s p = sym (rw (s, p))
