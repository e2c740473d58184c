-- What a divisor of zero tells of the rules of a division and of a remainder.
use Rattle.std.proofs.Common.{◌≡◌, ℕ, Option, None, Err, refl, sym, ◌∙◌}
use Rattle.numbers.specs.declared.place.WordIndex.{WordIndex}
use Rattle.numbers.specs.Number.{unless_zero}
use Rattle.numbers.proofs.Division.{told-by-zero}
use Rattle.player.specs.Player.{fault}
use Rattle.rules.specs.declared.opcode.Operands.{Operands}
use Rattle.rules.specs.Op as Op
use Rattle.rules.specs.Environment.{Env}
use Rattle.rules.specs.Opcodes.{rule}
use Rattle.lent.specs.Shown.{Shown, seen, does}
use Rattle.lent.proofs.Acting.{halts}

-- what a refusal with 26 shows is what both rules say, where the division answers none
pub by_zero : (o : Operands) (m : ℕ) (next : WordIndex) (e : Env) (n : ℕ) {x : Option ℕ} → x ≡ unless_zero o.a n → x ≡ None
    → let refused : Shown = seen (Err (fault 26 e.flow.counter)) e in
    (refused ≡ does (rule Op.Divide o m) next e) × (refused ≡ does (rule Op.Remainder o m) next e)
by_zero o m next e n is none =
    let zero = told-by-zero o.a n (sym is ∙ none) in
    (halts (rule Op.Divide o m) next e refl refl (rw zero refl), halts (rule Op.Remainder o m) next e refl refl (rw zero refl))
