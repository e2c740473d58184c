-- What every op shares: carrying out goes by the lowest of 24 to 29 that the rule breaks, whatever the rule.
use Rattle.std.proofs.Common.{◌≡◌, ℕ, Bool, true, false, ◌&&◌, Option, Some, None, Result, Ok, Err, refl, sym, ap, ◌∙◌}
use mathlib.Core.Bool.{cond, true≢false}
use Rattle.std.specs.Result.{IsErr, IsErrAnd}
use Rattle.std.specs.Option.{ok_or}
use Rattle.raster.specs.declared.frame.Frame.{Frame}
use Rattle.raster.specs.Shapes.{Shape}
use Rattle.raster.specs.Frame.{drawable}
use Rattle.player.specs.declared.Verdict.{Verdict}
use Rattle.player.specs.Painting.{Painting, placed, nothing}
use Rattle.player.specs.Player.{fault, Outcome, done, refused}
use Rattle.player.specs.Shown.{marks, unmarked, went}
use Rattle.numbers.specs.declared.place.WordIndex.{WordIndex}
use Rattle.rules.specs.declared.opcode.Operands.{Operands}
use Rattle.rules.specs.Environment.{Env, goto, frame}
use Rattle.rules.specs.Opcodes.{Rule, paints}
use Rattle.rules.specs.Step.{check, carried}
use Rattle.fetch.specs.declared.source.Fetched.{Fetched}
use Rattle.fetch.specs.Stages.{Taken}
use Rattle.lent.specs.Shown.{Shown, Upshot, seen, does, answers}

-- the lowest that a rule breaks
abbrev pub lowest : Rule → Option ℕ
lowest r =
    cond (r.breaks 24) (Some 24)
    (cond (r.breaks 25) (Some 25)
    (cond (r.breaks 26) (Some 26)
    (cond (r.breaks 27) (Some 27)
    (cond (r.breaks 28) (Some 28)
    (cond (r.breaks 29) (Some 29) None)))))

-- refused with a number where the opcode begins, where there is one
abbrev refused_by : WordIndex → Option ℕ → Outcome Env → Outcome Env
refused_by i (Some n) o = refused (fault n i)
refused_by i None o = o

abbrev painting : Rule → Env → Painting
painting r e = placed (frame e) r.shape r.colour

abbrev said : Rule → Env → Outcome Env
said r e = done r.env (painting r e)

carried-is : (r : Rule) (e : Env) → carried r e ≡ refused_by e.flow.counter (lowest r) (said r e)
unfolding carried
carried-is r e =
    go 24 (r.breaks 24) _ (go 25 (r.breaks 25) _ (go 26 (r.breaks 26) _ (go 27 (r.breaks 27) _ (go 28 (r.breaks 28) _ (go 29 (r.breaks 29) None refl)))))
  where
    go : (n : ℕ) (b : Bool) {o : Outcome Env} (m : Option ℕ) → o ≡ refused_by e.flow.counter m (said r e)
        → check n e.flow.counter b o ≡ refused_by e.flow.counter (cond b (Some n) m) (said r e)
    go n true m p = refl
    go n false m p = p

-- the empty shape has no drawable dot
no-dots : (f : Frame) → ◌≡◌ {A = Shape} (λ x y. drawable f x y && false) (λ x y. false)
no-dots f = λ i x y. go (drawable f x y) i
  where
    go : (t : Bool) → (t && false) ≡ false
    go true = refl
    go false = refl

-- ---- a rule, the next opcode at an index, from the environment e; e' is left
module _ (rule : Env → Rule) (next : WordIndex) (e : Env) where
  abbrev r : Rule
  r = rule (goto next e)

  -- a rule that breaks n, and none below it, is refused with n where the opcode begins, and nothing is changed
  pub halts : {n : ℕ} {u : Upshot} {v : Verdict} → u ≡ Err v → v ≡ fault n e.flow.counter → lowest r ≡ Some n → seen u e ≡ does rule next e
  unfolding does
  halts is told k = rw (carried-is r e, k, is, told) refl

  -- one that breaks none is carried out, and its shape painted
  goes : {X : Shown} → lowest r ≡ None → X ≡ went r.env (marks (painting r e)) → X ≡ does rule next e
  unfolding does
  goes k x = rw (carried-is r e, k) x

  -- and does what another rule does that says the same and checks nothing
  pub past : (f : Env → Rule) {X : Shown} → lowest r ≡ None → f (goto next e) ≡ paints r.shape r.colour r.env → X ≡ does f next e → X ≡ does rule next e
  unfolding does carried
  past f k same x = goes k (rw same at x)

  -- where the shape is empty, no dot is painted
  pub paints-nothing : {X : Shown} → lowest r ≡ None → painting r e ≡ nothing (frame e) → X ≡ went r.env (unmarked e.bounds) → X ≡ does rule next e
  paints-nothing k empty x =
      goes k
      (x ∙ ap (λ (d : Shape). went r.env (record { bounds = e.bounds; dots = d; colour = 0 })) (sym (no-dots (frame e)))
      ∙ ap (λ (y : Painting). went r.env (marks y)) (sym empty))

  -- one that breaks none, where e' is left: the shape S is painted in the colour c, the frame that of before
  module _ {e' : Env} (k : lowest r ≡ None) (env : e' ≡ r.env) where
    pub drawn : (S : Shape) (c : ℕ) → frame r.env ≡ frame e → S ≡ r.shape → c ≡ r.colour → went e' (marks (placed (frame e') S c)) ≡ does rule next e
    drawn S c framed shape colour =
        goes k (rw (env, shape, colour) (ap (λ (f : Frame). went r.env (marks (placed f r.shape r.colour))) framed))

    pub quiet : r.env.bounds ≡ e.bounds → painting r e ≡ nothing (frame e) → seen (Ok None) e' ≡ does rule next e
    quiet bounds empty = paints-nothing k empty (rw (env, bounds) refl)

-- what is handed back is a refusal, of which something is shown
pub told : (e : Env) {u : Upshot} {v w : Verdict} {X : Shown} → u ≡ Err v → v ≡ w → seen (Err w) e ≡ X → seen u e ≡ X
told e is same x = rw (is, same) x

-- what a `?` hands back of the refusal v
pub handed-back : {u : Upshot} {v : Verdict} → IsErr u × IsErrAnd u (λ (x : Verdict). x ≡ v) → u ≡ Err v
handed-back {u = Ok x} h = absurd (true≢false (sym h.0))
handed-back {u = Err x} h = ap Err h.1

-- ---- an op, by what was taken of its words, from the environment e
module _ {t : Taken} (rule : Operands → Env → Rule) (e : Env) where
  -- the refusal is handed back
  pub passed-on : {v : Verdict} → t ≡ Err v → (u : Upshot) → IsErr u × IsErrAnd u (λ (x : Verdict). x ≡ v) → seen u e ≡ answers t rule e
  unfolding answers
  passed-on is u h = rw (is, handed-back h) refl

  -- what was taken is carried out
  pub taken-is : {f : Fetched} {X : Shown} → t ≡ Ok f → X ≡ does (rule f.operands) f.next e → X ≡ answers t rule e
  unfolding answers
  taken-is is x = rw is x

-- and where there is none, of what it was asked for with the refusal w
pub lacking : {A : Type 0} {o : Option A} {v w : Verdict} {u : Upshot} → IsErr u × IsErrAnd u (λ (x : Verdict). x ≡ v) → Err v ≡ ok_or o w → o ≡ None → u ≡ Err w
lacking {A} {v = v} {w = w} h e n =
    let made : ◌≡◌ {A = Result A Verdict} (Err v) (Err w) = rw n at e in
    let same : v ≡ w = cc in
    handed-back h ∙ ap Err same
