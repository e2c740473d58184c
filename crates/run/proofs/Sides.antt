-- Demand 3 of the program itself: two sides call `run` over one screen, and each promise is kept. Something is left of every mixing.
use Prim.Native.Nat.{ℕ, zero, suc}
use mathlib.Core.Path.{◌≡◌, refl, sym, ap, subst}
use mathlib.Core.Bool.{true}
use mathlib.Core.List.{List}
use native.Mathlib.Omega.{arith}
use lib.ListN.{length}
use borrow.Author.Tests.{leb-true}
use Rattle.player.specs.declared.State.{State}
use Rattle.player.specs.declared.State.TheVariants.{Running, Ended, Stopped}
use Rattle.player.specs.Player.{verdict}
use Rattle.player.specs.Reply.{Reply}
use Rattle.player.specs.Run.{Answer, answer, Told, reply}
use Rattle.player.specs.Pane.{Apart}
use Rattle.player.specs.Mixing.{Mix, ones, twos, Mixed}
use Rattle.player.specs.Obeys.{Obeys}
use Rattle.player.specs.Undisturbed.{Undisturbed}
use Rattle.player.specs.Promised.{Promised, Answers, Happened}
use Rattle.player.specs.Hosted.{callable}
use Rattle.player.proofs.Promises
use Rattle.player.proofs.Doors.{refused-whole, run-whole}
use Rattle.player.proofs.Hosts.{hosted-obeys}
use Rattle.rules.specs.declared.environment.Env as Held
use Rattle.rules.specs.Environment.{start, over, Env, env, held, state_of, kept}
use Rattle.rules.specs.Door.{between, state_fits, door, machine, whole}
use Rattle.rules.specs.Door as Door
use Rattle.rules.proofs.Ranges.{one, Fits}
use Rattle.rules.proofs.Unique.{stopped-state}
use Rattle.rules.proofs.StackLaws.{all_of}
use Rattle.rules.proofs.DoorLaws.{opened, run-keeps}
use Rattle.rules.proofs.Alone.{keeps}

-- `run` is a program for the rules' machine: its contract leaves the rules' reply only
abbrev pub running : Promised (callable machine)
running =
    record {
      Held = Held.Env;
      view = held;
      Promise = λ q e s r. Door.Promise q.list s e q.budget (record { number = r.got.told.verdict.number; place = r.got.told.verdict.place; env = r.got.env; steps = r.got.told.steps }) r.screen;
      true_to = λ q e s r p. ap reply p;
    }

abbrev pub Calls : Type 0
Calls = Mix (callable machine) (callable machine)

-- x is what the calls m of two sides left, begun with the environments a and b and the screen s
abbrev pub Left : Calls → Held.Env → Held.Env → List ℕ → Mixed (callable machine) (callable machine) → Type 0
Left m a b s x = Happened (callable machine) (callable machine) running running m a b s x

obeys : Obeys (callable machine)
obeys = hosted-obeys machine keeps

-- ---- for every call some answer keeps the promise
kept_back : (q : State) → state_fits q ≡ true → state_of (kept q) ≡ q
unfolding state_of
kept_back Running h = refl
kept_back Ended h = refl
kept_back (Stopped v) h = stopped-state v (omega (arith, leb-true 20 v.number (one _ _ (one (between 20 29 v.number) _ h))))

-- an environment of the rules as the program holds it
abbrev holding : Env → Held.Env
holding e =
    record {
      bounds = e.bounds;
      registers = record {
        position = e.pen.position;
        origin = e.pen.origin;
        window = e.pen.window;
        mode = e.pen.mode;
        pattern = e.pen.pattern;
        first = e.flow.first;
        second = e.flow.second;
        counter = e.flow.counter;
        depth = length e.flow.stack;
        place = (kept e.state).place;
        colour = e.pen.colour;
        state = (kept e.state).number;
      };
      variables = e.variables;
      stack = e.flow.stack;
      nesting = length e.flow.repeats;
      repeats = e.flow.repeats;
    }

is_held : (e : Env) → state_fits e.state ≡ true → held (holding e) ≡ e
is_held e h =
    λ i. env e.bounds e.variables e.pen
    (record { counter = e.flow.counter; stack = all_of start e.flow.stack i; repeats = all_of over e.flow.repeats i; first = e.flow.first; second = e.flow.second })
    (kept_back e.state h i)

pub answers : Answers running
answers q e s = by-door (door q (held e) (length s)) refl
  where
    by-door : (d : ℕ) → d ≡ door q (held e) (length s) → (r : Reply Held.Env Told) × running.Promise q e s r
    by-door zero is =
        let x = whole q.list s (held e) q.budget in
        let o = opened q (held e) (length s) (sym is) in
        let fits = subst (λ (a : Answer Env). Fits (held e).bounds a.env) (run-whole machine q (held e) s 0 is refl) (run-keeps q.list o.few q.budget (held e) s 0 o.ranges) in (
          record { got = record { told = record { verdict = x.verdict; steps = x.steps }; env = holding x.env }; screen = x.screen },
          λ i. answer x.verdict (is_held x.env fits.3 i) x.screen x.steps,
        )
    by-door (suc d) is = (
      record { got = record { told = record { verdict = verdict (suc d); steps = 0 }; env = e }; screen = s },
      refused-whole machine q (held e) s (suc d) is (λ z. omega (arith, z)),
    )

module _ (a b : Held.Env) (apart : Apart a.bounds b.bounds) (s : List ℕ) where
  pub undisturbed : (m : Calls) (x : Mixed (callable machine) (callable machine)) → Left m a b s x
      → Undisturbed (callable machine) (callable machine) m (held a) (held b) s x
  undisturbed m x h = Promises.happened-undisturbed (callable machine) (callable machine) running running obeys obeys a b apart s m x h

  pub any_order : (m n : Calls) (x y : Mixed (callable machine) (callable machine)) → ones m ≡ ones n → twos m ≡ twos n
      → Left m a b s x → Left n a b s y → x ≡ y
  any_order m n x y p q g h = Promises.happened-any-order (callable machine) (callable machine) running running obeys obeys a b apart s m n x y p q g h

-- whatever the two sides ask, some x is left
pub some_left : (m : Calls) (a b : Held.Env) (s : List ℕ) → (x : Mixed (callable machine) (callable machine)) × Left m a b s x
some_left m a b s = Promises.some-happened (callable machine) (callable machine) running running answers answers m a b s
