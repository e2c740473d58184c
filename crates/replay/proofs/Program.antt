-- T-12 of the program itself: of any calls of `run`, `append` and `replay` that kept their promises, whoever made them.
use Prim.Native.Nat.{ℕ, suc}
use mathlib.Core.Path.{◌≡◌, refl, sym, ap, ◌∙◌, subst}
use mathlib.Core.List.{List, [], ◌∷◌}
use lib.ListN.{length, take}
use Rattle.player.specs.Run.{Answer}
use Rattle.raster.specs.declared.frame.Bounds.{Bounds}
use Rattle.rules.specs.declared.environment.Env as Held
use Rattle.rules.specs.declared.answer.Answer as Came
use Rattle.rules.specs.declared.answer.Made as Made
use Rattle.rules.specs.Environment.{Env, held}
use Rattle.rules.specs.Fresh as Fresh
use Rattle.rules.specs.Door as Door
use Rattle.rules.proofs.Unique.{Alike, alike}
use Rattle.record.specs.declared.Recorded.{Recorded}
use Rattle.record.specs.Append as Append
use Rattle.replay.specs.declared.Replayed.{Replayed}
use Rattle.replay.specs.Replay.{Replay, found, Promise}
use Rattle.replay.specs.Session.{Call, session, last_env, Long, Entered, none, one}
use Rattle.replay.proofs.Agreement.{recorded-agrees}

-- a call over the list w that answered a, on a screen of n bytes, and the appending to the record r that answered x and left r': both kept their
-- promises, and the block was not refused
pub record Recording (w : List ℕ) (n : ℕ) (e : Held.Env) (r : List ℕ) (u : ℕ) (a : Came.Answer) (x : Recorded) (r' : List ℕ) : Type 0 where
  pub budget : ℕ
  pub screen : List ℕ
  pub screen' : List ℕ
  pub long : length screen ≡ n
  pub kept : Door.Promise w screen e budget a screen'
  pub noted : Append.Promise r u budget a.number a.steps x r'
  pub entered : x.number ≡ 0

-- a session: so many such calls, each given the environment last got back, each block behind the one before. It begins with the environment e and u
-- bytes of the record r in use, and ends with e', r' and u'. Others may have drawn on the screen between the calls
pub data Session (w : List ℕ) (n : ℕ) : Held.Env → List ℕ → ℕ → ℕ → Held.Env → List ℕ → ℕ → Type 0 where
  over : {e : Held.Env} {r : List ℕ} {u : ℕ} → Session w n e r u 0 e r u
  call : {e e' : Held.Env} {r r' r'' : List ℕ} {u u' calls : ℕ} {a : Came.Answer} {x : Recorded}
      → Recording w n e r u a x r' → Session w n a.env r' x.used calls e' r'' u' → Session w n e r u (suc calls) e' r'' u'

-- ---- its calls, as the rules have them
record Calls (w : List ℕ) (n : ℕ) (e : Env) (r : List ℕ) (u calls : ℕ) (e' : Env) (r' : List ℕ) (u' : ℕ) : Type 0 where
  list : List Call
  count : length list ≡ calls
  long : Long n list
  last : last_env w e list ≡ e'
  entered : Entered (session w e list) r u r' u'

module _ (w : List ℕ) (n : ℕ) where
  one-call : (e : Held.Env) (e' : Env) (r r' r'' : List ℕ) (u u' calls : ℕ) (a : Came.Answer) (x : Recorded)
      → Recording w n e r u a x r' → Calls w n (held a.env) r' x.used calls e' r'' u' → Calls w n (held e) r u (suc calls) e' r'' u'
  unfolding session last_env
  one-call e e' r r' r'' u u' calls a x c later =
      let z : Answer Env = Door.whole w c.screen (held e) c.budget in
      let same : Door.said a c.screen' ≡ z = c.kept in
      let noted : Append.appending r u c.budget z.verdict.number z.steps ≡ Append.left 0 x.used r' =
      sym (ap (λ (k : ℕ). Append.left k x.used r') (sym c.entered) ∙ c.noted
      ∙ ap (λ (y : Answer Env). Append.appending r u c.budget y.verdict.number y.steps) same) in
      let rest = subst (λ (y : Answer Env). Calls w n y.env r' x.used calls e' r'' u') same later in
      record {
        list = record { budget = c.budget; screen = c.screen } ∷ rest.list;
        count = ap suc rest.count;
        long = (c.long, rest.long);
        last = rest.last;
        entered = one noted rest.entered;
      }

  calls-of : {e e' : Held.Env} {r r' : List ℕ} {u u' calls : ℕ} → Session w n e r u calls e' r' u' → Calls w n (held e) r u calls (held e') r' u'
  unfolding session last_env
  calls-of over = record { list = []; count = refl; long = tt; last = refl; entered = none }
  calls-of (call {e = e} {e' = e'} {r = r} {r' = r'} {r'' = r''} {u = u} {u' = u'} {calls = calls} {a = a} {x = x} c later) =
      one-call e (held e') r r' r'' u u' calls a x c (calls-of later)

-- ---- replayed from the same environment on a screen of the same length, whatever its bytes, it agrees always
pub record AllAgree (x : Replayed) (calls : ℕ) (e : Held.Env) : Type 0 where
  pub number : x.number ≡ 0
  pub block : x.block ≡ calls
  pub env : Alike x.env e

pub agrees : {w : List ℕ} {n : ℕ} {e e' : Held.Env} {r r' : List ℕ} {u calls : ℕ} → Session w n e r 0 calls e' r' u
    → (t t' : List ℕ) (x : Replayed) → length t ≡ n → Promise w (take u r') e t x t' → AllAgree x calls e'
agrees {w} {n} {e} {e'} {r} {r'} {u} {calls} h t t' x long kept =
    let c = calls-of w n h in
    let a = recorded-agrees w (held e) c.list r r' u t (subst (λ (k : ℕ). Long k c.list) (sym long) c.long) c.entered in
    record {
      number = ap (λ (y : Replay). y.number) kept ∙ a.number;
      block = ap (λ (y : Replay). y.block) kept ∙ (a.block ∙ c.count);
      env = alike x.env e' (ap (λ (y : Replay). y.env) kept ∙ (a.env ∙ c.last));
    }

-- T-12 as it stands: from a fresh environment, by a making that kept its promise
pub fresh-agrees : {w : List ℕ} {n : ℕ} (b : Bounds) (m : Made.Made) → Fresh.Promise b m → {e' : Held.Env} {r r' : List ℕ} {u calls : ℕ}
    → Session w n m.env r 0 calls e' r' u → (t t' : List ℕ) (x : Replayed) → length t ≡ n → Promise w (take u r') m.env t x t' → x.number ≡ 0
fresh-agrees b m made h t t' x long kept = (agrees h t t' x long kept).number

-- ---- the promise is kept by one answer alone
pub record Same (x y : Replayed) (s t : List ℕ) : Type 0 where
  pub number : x.number ≡ y.number
  pub block : x.block ≡ y.block
  pub recorded : x.recorded ≡ y.recorded
  pub came : x.came ≡ y.came
  pub env : Alike x.env y.env
  pub screen : s ≡ t

pub unique : (w t : List ℕ) (e : Held.Env) (s₀ : List ℕ) (x y : Replayed) (s s' : List ℕ) → Promise w t e s₀ x s → Promise w t e s₀ y s' → Same x y s s'
unique w t e s₀ x y s s' p q =
    let r : found x s ≡ found y s' = p ∙ sym q in
    record {
      number = ap (λ (z : Replay). z.number) r;
      block = ap (λ (z : Replay). z.block) r;
      recorded = ap (λ (z : Replay). z.recorded) r;
      came = ap (λ (z : Replay). z.came) r;
      env = alike x.env y.env (ap (λ (z : Replay). z.env) r);
      screen = ap (λ (z : Replay). z.screen) r;
    }
