-- No second answer meets the promise: number, place, every field of the environment, every byte of the screen, steps. Only what lies past the
-- last return stacked and past the last repeat open is free, which is no part of the environment.
use Prim.Native.Nat.{ℕ, ◌<◌}
use mathlib.Core.Path.{◌≡◌, refl, sym, ap, ◌∙◌}
use mathlib.Core.Bool.{Bool, true, false, cond}
use mathlib.Core.List.{List}
use lib.ListN.{length}
use lib.Dec.{eqb}
use borrow.Author.Tests.{eqb-true, ne_eqb}
use native.Mathlib.Omega.{arith}
use Rattle.player.specs.Player.{fault, verdict}
use Rattle.player.specs.Run.{Answer, answer}
use Rattle.player.specs.Hosted.{answered}
use Rattle.player.specs.Door.{door_of}
use Rattle.rules.specs.Types.{Bounds, Verdict, Running, Ended, Stopped}
use Rattle.rules.specs.declared.environment.Env as Held
use Rattle.rules.specs.declared.answer.Answer as Came
use Rattle.rules.specs.declared.answer.Made as Made
use Rattle.rules.specs.Environment.{Env, held, carries0, state_of, kept, start, over, firsts}
use Rattle.rules.specs.Door.{door, whole, said, Promise}
use Rattle.rules.specs.Fresh.{zeros}
use Rattle.rules.specs.Fresh as Fresh
use Rattle.rules.proofs.Ranges.{one, other}
use Rattle.rules.proofs.StackLaws.{length-firsts}

-- a state is kept in one way
carried : (v : Verdict) (n : ℕ) → carries0 v n ≡ true → verdict n ≡ v
carried v n h =
    let number = eqb-true v.number n (one _ _ h) in
    let place = eqb-true v.place.0 0 (other (eqb v.number n) _ h) in
    λ i. record { number = sym number i; place = record { 0 = sym place i } }

pub kept-state : (v : Verdict) → kept (state_of v) ≡ v
unfolding state_of
kept-state v = first (carries0 v 0) refl
  where
    second : (t : Bool) → carries0 v 1 ≡ t → kept (cond t Ended (Stopped v)) ≡ v
    second true h = carried v 1 h
    second false h = refl

    first : (t : Bool) → carries0 v 0 ≡ t → kept (cond t Running (cond (carries0 v 1) Ended (Stopped v))) ≡ v
    first true h = carried v 0 h
    first false h = second (carries0 v 1) refl

pub stopped-state : (v : Verdict) → 1 < v.number → state_of v ≡ Stopped v
unfolding state_of
stopped-state v h = rw (ne_eqb v.number 0 (λ z. omega (arith, z, h)), ne_eqb v.number 1 (λ z. omega (arith, z, h)))

-- all that the program's environment holds, but for what lies past the last return stacked and past the last repeat open
pub record Alike (a b : Held.Env) : Type 0 where
  pub bounds : a.bounds ≡ b.bounds
  pub registers : a.registers ≡ b.registers
  pub variables : a.variables ≡ b.variables
  pub stack : firsts start a.registers.depth a.stack ≡ firsts start b.registers.depth b.stack
  pub nesting : a.nesting ≡ b.nesting
  pub repeats : firsts over a.nesting a.repeats ≡ firsts over b.nesting b.repeats

-- environments that stand for the same are alike
pub alike : (a b : Held.Env) → held a ≡ held b → Alike a b
alike a b h =
    record {
      bounds = ap (λ (e : Env). e.bounds) h;
      registers = λ i. record {
        position = (h i).pen.position;
        origin = (h i).pen.origin;
        window = (h i).pen.window;
        mode = (h i).pen.mode;
        pattern = (h i).pen.pattern;
        first = (h i).flow.first;
        second = (h i).flow.second;
        counter = (h i).flow.counter;
        depth = depth i;
        place = (state i).place;
        colour = (h i).pen.colour;
        state = (state i).number;
      };
      variables = ap (λ (e : Env). e.variables) h;
      stack = ap (λ (e : Env). e.flow.stack) h;
      nesting =
          sym (length-firsts over a.nesting a.repeats)
          ∙ (ap (λ (e : Env). length e.flow.repeats) h ∙ length-firsts over b.nesting b.repeats);
      repeats = ap (λ (e : Env). e.flow.repeats) h;
    }
  where
    depth : a.registers.depth ≡ b.registers.depth
    depth =
        sym (length-firsts start a.registers.depth a.stack)
        ∙ (ap (λ (e : Env). length e.flow.stack) h ∙ length-firsts start b.registers.depth b.stack)

    state : fault a.registers.state a.registers.place ≡ fault b.registers.state b.registers.place
    state = sym (kept-state _) ∙ (ap (λ (e : Env). kept e.state) h ∙ kept-state _)

-- two answers, with the screens that they leave, are the same
pub record Agree (a b : Came.Answer) (s t : List ℕ) : Type 0 where
  pub number : a.number ≡ b.number
  pub place : a.place ≡ b.place
  pub env : Alike a.env b.env
  pub screen : s ≡ t
  pub steps : a.steps ≡ b.steps

-- where the rules say the same of them
pub agree : (a b : Came.Answer) (s t : List ℕ) → said a s ≡ said b t → Agree a b s t
agree a b s t r =
    record {
      number = ap (λ (x : Answer Env). x.verdict.number) r;
      place = ap (λ (x : Answer Env). x.verdict.place) r;
      env = alike a.env b.env (ap (λ (x : Answer Env). x.env) r);
      screen = ap (λ (x : Answer Env). x.screen) r;
      steps = ap (λ (x : Answer Env). x.steps) r;
    }

pub unique : (w s₀ : List ℕ) (e : Held.Env) (budget : ℕ) (a b : Came.Answer) (s t : List ℕ)
    → Promise w s₀ e budget a s → Promise w s₀ e budget b t → Agree a b s t
unique w s₀ e budget a b s t p q = agree a b s t (p ∙ sym q)

-- and so are two fresh environments made from one size and pane
pub unique-made : (b : Bounds) (m n : Made.Made) → Fresh.Promise b m → Fresh.Promise b n → (m.number ≡ n.number) × Alike m.env n.env
unique-made b m n p q =
    let r = p ∙ sym q in
    (ap (λ (x : Fresh.Made). x.number) r, alike m.env n.env (ap (λ (x : Fresh.Made). x.env) r))

-- the environment of zeros: every run refuses it with 10
pub zeros-10 : (w s : List ℕ) (budget : ℕ) → whole w s zeros budget ≡ answer (verdict 10) zeros s 0
unfolding answered door_of door
zeros-10 w s budget = refl
