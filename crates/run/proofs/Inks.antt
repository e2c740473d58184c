-- A player in the colours of an ink: it shows of an opcode what the rules show, in the ink's colour. The rules' own colours are the rules' player.
use Prim.Native.Nat.{ℕ}
use mathlib.Core.Path.{◌≡◌, refl, ap, ap₂, ◌∙◌}
use mathlib.Core.Bool.{false}
use mathlib.Core.List.{List}
use Rattle.std.specs.Prelude.{Option, Ok, Err, Some, None}
use Rattle.raster.specs.declared.frame.Frame.{Frame}
use Rattle.raster.specs.Shapes.{moved_by}
use Rattle.raster.specs.Paint.{paint}
use Rattle.raster.proofs.Recolour.{none}
use Rattle.brush.specs.declared.Brush.{Brush}
use Rattle.brush.specs.declared.Figure.{Figure}
use Rattle.brush.specs.Brush.{shape_of}
use Rattle.player.specs.declared.Verdict.{Verdict}
use Rattle.player.specs.Painting.{placed}
use Rattle.player.specs.Player.{Outcome, done, refused, Player}
use Rattle.player.specs.Hosted.{Request, Hosted, answered}
use Rattle.player.specs.Shown.{went, halted, marks}
use Rattle.player.proofs.Turning.{Turned, turned-painting}
use Rattle.rules.specs.Environment.{Env, frame}
use Rattle.rules.specs.Step.{step, afgis}
use Rattle.rules.specs.Door.{door}
use Rattle.lent.specs.Shown.{Shown, Upshot, seen, shown}
use Rattle.run.specs.Inks.{Hue, outcome_by, inked}

-- what is shown, in another colour
abbrev pub recoloured : (ℕ → ℕ) → Shown → Shown
recoloured f (went e m) = went e (record { bounds = m.bounds; dots = m.dots; colour = f m.colour })
recoloured f (halted v e) = halted v e

shown-recoloured : (f : ℕ → ℕ) (o : Outcome Env) (e : Env) → recoloured f (shown o e) ≡ shown (outcome_by f o) e
shown-recoloured f (done e' p) e = refl
shown-recoloured f (refused v) e = refl

-- ---- an opcode whose outcome the program shows: u, with e₁ left of e
module _ (h : Hue) (w : List ℕ) (e : Env) (u : Upshot) (e₁ : Env) (as-shown : seen u e₁ ≡ shown (step w e) e) where
  pub tells : recoloured (h e.flow.counter) (seen u e₁) ≡ shown ((inked h (afgis w)).step e) e
  tells = ap (recoloured (h e.flow.counter)) as-shown ∙ shown-recoloured (h e.flow.counter) (step w e) e

  -- nothing is painted
  pub quiet-in : {o : Option Brush} → u ≡ Ok o → o ≡ None → {s s₁ : List ℕ} → s₁ ≡ s → Turned (inked h (afgis w)) e s e₁ s₁
  quiet-in is nothing {s = s} x =
      record {
        dots = record { bounds = e₁.bounds; dots = λ x y. false; colour = h e.flow.counter 0 };
        screen = x ∙ none (λ k. false) (h e.flow.counter 0) s (λ k l t. t);
        shows = rw (is, nothing) at tells;
      }

  -- the brush is painted, dipped into the ink
  pub painted-in : {o : Option Brush} {p : Brush} (d : Brush) → u ≡ Ok o → o ≡ Some p → d.figure ≡ p.figure → d.colour ≡ h e.flow.counter p.colour
      → {s t s₁ : List ℕ} {f : Frame} → f ≡ frame e₁ → s₁ ≡ t → t ≡ paint f (moved_by f.origin (shape_of d.figure)) d.colour s
      → Turned (inked h (afgis w)) e s e₁ s₁
  painted-in d is some figure colour {s = s} same left x =
      turned-painting (inked h (afgis w)) frame e s {u = Ok (Some d)} e₁
      (ap₂ (λ (g : Figure) (c : ℕ). went e₁ (marks (placed (frame e₁) (shape_of g) c))) figure colour ∙ rw (is, some) at tells)
      refl same (left ∙ x)

  -- it is refused
  pub refused-in : {v : Verdict} → u ≡ Err v → halted v e₁ ≡ shown ((inked h (afgis w)).step e) e
  refused-in is = rw is at tells

-- ---- the same outcomes make the same answers
abbrev hosting : (List ℕ → Player Env) → Hosted
hosting p = record { Env = Env; Words = List ℕ; bounds = λ e. e.bounds; door = door; player = p }

pub same-answers : (h : Hue) (step_by : List ℕ → Env → Outcome Env)
    → ((w : List ℕ) (e : Env) → outcome_by (h e.flow.counter) (step w e) ≡ step_by w e) → (q : Request (List ℕ)) (e : Env) (s : List ℕ)
    → answered (hosting (λ w. inked h (afgis w))) q e s ≡ answered (hosting (λ w. record { state = (afgis w).state; stop = (afgis w).stop; step = step_by w })) q e s
same-answers h step_by same q e s =
    ap (λ (t : List ℕ → Env → Outcome Env). answered (hosting (λ w. record { state = (afgis w).state; stop = (afgis w).stop; step = t w })) q e s)
    (λ i w e. same w e i)

-- in their own colours the outcomes are the rules'
pub own-colour : (o : Outcome Env) → outcome_by (λ c. c) o ≡ o
own-colour (done e' p) = refl
own-colour (refused v) = refl
