-- What an op promises of what was taken is what its opcode must show, by what it means.
use Rattle.std.proofs.Common.{◌≡◌, ℕ, List, length, Ok, Err, sym, ap, ◌∙◌}
use Rattle.std.specs.Result.{IsErr, IsErrAnd}
use Rattle.player.specs.declared.Verdict.{Verdict}
use Rattle.rules.specs.Op.{Op}
use Rattle.rules.specs.Operands.{Source}
use Rattle.rules.specs.Meaning.{Meaning, Known}
use Rattle.rules.specs.Environment.{Env}
use Rattle.rules.specs.Opcodes.{rule}
use Rattle.fetch.specs.declared.source.Fetched.{Fetched}
use Rattle.fetch.specs.Stages.{Taken, taken_of}
use Rattle.lent.specs.Shown.{Shown, Upshot, seen, does, answers}
use Rattle.lent.specs.Leaves.{Showing}
use Rattle.lent.proofs.Acting.{passed-on, taken-is}
use Rattle.step.specs.Steps.{shows}

module _ {m : Meaning} {op : Op} {source : Source} (k : m ≡ Known op source) (w : List ℕ) (pc : ℕ) (vs : List ℕ) {t : Taken} (g : t ≡ taken_of source w pc vs) where
  as-shown : answers t (λ o. rule op o (length w)) ≡ shows m w pc vs
  unfolding shows
  as-shown = ap (λ (x : Taken). answers x (λ o. rule op o (length w))) g ∙ sym (ap (λ (x : Meaning). shows x w pc vs) k)

  -- the op answers what was taken, and its opcode shows so
  pub as-taken : {X : Shown} (e : Env) → X ≡ answers t (λ o. rule op o (length w)) e → X ≡ shows m w pc vs e
  as-taken e x = x ∙ ap (λ (f : Showing). f e) as-shown

  -- it was refused as it was fetched, and nothing is changed
  pub not-fetched : {v : Verdict} → t ≡ Err v → (u : Upshot) → IsErr u × IsErrAnd u (λ (x : Verdict). x ≡ v) → (e : Env) → seen u e ≡ shows m w pc vs e
  not-fetched is u h e = as-taken e (passed-on (λ o. rule op o (length w)) e is u h)

  -- the op was carried out on what was fetched
  pub carried-out : {f : Fetched} → t ≡ Ok f → {X : Shown} (e : Env) → X ≡ does (rule op f.operands (length w)) f.next e → X ≡ shows m w pc vs e
  carried-out is e x = as-taken e (taken-is (λ o. rule op o (length w)) e is x)
