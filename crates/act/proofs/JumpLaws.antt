-- What a condition's answer and a target tell of a jump's rule.
use Rattle.std.proofs.Common.{◌≡◌, ℕ, Bool, true, false, List, Option, Some, None, Ok, Err, refl}
use Rattle.numbers.specs.declared.place.WordIndex.{WordIndex}
use Rattle.numbers.specs.Number.{signed32}
use Rattle.raster.specs.declared.frame.Bounds.{Bounds}
use Rattle.rules.specs.declared.environment.Registers.{Registers}
use Rattle.rules.specs.Conditions.{allowed, met}
use Rattle.rules.specs.Environment.{Env, goto}
use Rattle.rules.specs.Opcodes.{Rule, jumps}
use Rattle.lent.specs.declared.Stack.{Stack}
use Rattle.lent.specs.Lent.{look}
use Rattle.lent.specs.Shown.{seen, does}
use Rattle.player.specs.Player.{fault}
use Rattle.lent.proofs.Acting.{halts, quiet}

-- T is where the target is, by the environment at the next opcode
module _ (b : Bounds) (r : Registers) (vs : List ℕ) (st : Stack) (next : WordIndex) (k : ℕ) (T : Env → Option WordIndex) where
  abbrev e : Env
  e = look b r vs st

  abbrev jump : Env → Rule
  jump e = jumps k (T e) e

  pub jump-24 : allowed k ≡ false → seen (Err (fault 24 r.counter)) e ≡ does jump next e
  jump-24 p = halts jump next e refl refl (rw p refl)

  module _ {t : Bool} (asked : (allowed k ≡ true) × (met k (signed32 r.first) (signed32 r.second) ≡ t)) where
    pub jump-27 : t ≡ true → T (goto next e) ≡ None → seen (Err (fault 27 r.counter)) e ≡ does jump next e
    jump-27 held m = halts jump next e refl refl (rw (asked.0, asked.1, held, m) refl)

    pub jump-at : t ≡ true → {i : WordIndex} → T (goto next e) ≡ Some i → seen (Ok None) (look b (record r { counter = i }) vs st) ≡ does jump next e
    jump-at held m = quiet jump next e (rw (asked.0, asked.1, held, m) refl) (rw (asked.1, held, m) refl) (rw (asked.1, held, m) refl) refl

    pub jump-no : t ≡ false → seen (Ok None) (look b (record r { counter = next }) vs st) ≡ does jump next e
    jump-no failed = quiet jump next e (rw (asked.0, asked.1, failed) refl) (rw (asked.1, failed) refl) (rw (asked.1, failed) refl) refl
