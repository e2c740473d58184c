-- Demand 3 of the run that C calls: two sides call `ovenlute_run` over one screen, each with an environment of its own, and each promise is kept.
use Prim.Native.Nat.{ℕ}
use mathlib.Core.Path.{◌≡◌, ap}
use mathlib.Core.List.{List}
use Rattle.player.specs.Run.{reply}
use Rattle.player.specs.Pane.{Apart}
use Rattle.player.specs.Mixing.{ones, twos, Mixed}
use Rattle.player.specs.Undisturbed.{Undisturbed}
use Rattle.player.specs.Promised.{Promised, Happened}
use Rattle.player.specs.Hosted.{callable}
use Rattle.player.proofs.Promises
use Rattle.player.proofs.Hosts.{hosted-obeys}
use Rattle.rules.specs.declared.environment.Env as Held
use Rattle.rules.specs.Environment.{held}
use Rattle.rules.specs.Door.{machine, Promise}
use Rattle.rules.proofs.Alone.{keeps}
use Rattle.run.proofs.Sides.{Calls, answers}
use Rattle.ovenlute.specs.declared.Done as Done

-- what `ovenlute_run` promises: d comes back, and the environment that was lent as e is left as e'
abbrev pub Kept : List ℕ → List ℕ → Held.Env → ℕ → Done.Done → Held.Env → List ℕ → Type 0
Kept w s e budget d e' t = Promise w s e budget (record { number = d.number; place = d.place; env = e'; steps = d.steps }) t

-- a program for the rules' machine: what is handed on from call to call is the environment as it was left
abbrev pub lending : Promised (callable machine)
lending =
    record {
      Held = Held.Env;
      view = held;
      Promise = λ q e s r. Kept q.list s e q.budget (record { number = r.got.told.verdict.number; place = r.got.told.verdict.place; steps = r.got.told.steps }) r.got.env r.screen;
      true_to = λ q e s r p. ap reply p;
    }

-- x is what the calls m of two sides left, begun with the environments a and b and the screen s
abbrev pub Left : Calls → Held.Env → Held.Env → List ℕ → Mixed (callable machine) (callable machine) → Type 0
Left m a b s x = Happened (callable machine) (callable machine) lending lending m a b s x

module _ (a b : Held.Env) (apart : Apart a.bounds b.bounds) (s : List ℕ) where
  pub undisturbed : (m : Calls) (x : Mixed (callable machine) (callable machine)) → Left m a b s x
      → Undisturbed (callable machine) (callable machine) m (held a) (held b) s x
  undisturbed m x h =
      Promises.happened-undisturbed (callable machine) (callable machine) lending lending (hosted-obeys machine keeps) (hosted-obeys machine keeps) a b apart s m x h

  pub any_order : (m n : Calls) (x y : Mixed (callable machine) (callable machine)) → ones m ≡ ones n → twos m ≡ twos n
      → Left m a b s x → Left n a b s y → x ≡ y
  any_order m n x y p q g h =
      Promises.happened-any-order (callable machine) (callable machine) lending lending (hosted-obeys machine keeps) (hosted-obeys machine keeps) a b apart s m n x y p q g h

-- whatever the two sides ask, some x is left
pub some_left : (m : Calls) (a b : Held.Env) (s : List ℕ) → (x : Mixed (callable machine) (callable machine)) × Left m a b s x
some_left m a b s = Promises.some-happened (callable machine) (callable machine) lending lending answers answers m a b s
