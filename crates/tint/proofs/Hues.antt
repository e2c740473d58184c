-- In the ink of the tints an outcome is the rules', in the tint of its opcode.
use Prim.Native.Nat.{ℕ}
use mathlib.Core.Path.{◌≡◌, refl}
use Rattle.player.specs.Player.{Outcome, done, refused}
use Rattle.player.specs.Tinted.{outcome_in}
use Rattle.rules.specs.Environment.{Env}
use Rattle.run.specs.Inks.{outcome_by}

pub in_tint : (c : ℕ) (o : Outcome Env) → outcome_by (λ own. c) o ≡ outcome_in c o
in_tint c (done e' p) = refl
in_tint c (refused v) = refl
