-- A run of any player, turn by turn, as a loop holds it: R is the answer of the whole, k of its b opcodes are carried out.
use Prim.Native.Nat.{ℕ, zero, suc, ◌+◌, ◌-◌, ◌<◌, ◌≤◌}
use mathlib.Core.Path.{◌≡◌, refl, sym, ap, ap₂, ◌∙◌}
use mathlib.Core.Bool.{false}
use mathlib.Core.List.{List}
use native.Mathlib.Omega.{arith}
use native.Mathlib.Numerals.{add-one}
use lib.ListN.{length}
use Rattle.raster.specs.declared.frame.Bounds.{Bounds}
use Rattle.raster.specs.declared.frame.Frame.{Frame}
use Rattle.raster.specs.Shapes.{moved_by}
use Rattle.raster.specs.Paint.{paint}
use Rattle.std.specs.Prelude.{Ok, Err, Some, None}
use Rattle.brush.specs.declared.Brush.{Brush}
use Rattle.brush.specs.Brush.{shape_of}
use Rattle.raster.proofs.Recolour.{none, length-recolour}
use Rattle.player.specs.declared.Verdict.{Verdict}
use Rattle.player.specs.declared.State.{State}
use Rattle.player.specs.declared.State.TheVariants.{Running, Ended, Stopped}
use Rattle.player.specs.Painting.{Painting, painted}
use Rattle.player.specs.Player.{Outcome, done, refused, Player, Stops}
use Rattle.player.specs.Run.{Answer, answer, by_state, by_opcode, runs}
use Rattle.player.specs.Shown.{Marks, marks, unmarked, marked, went, halted, shown, brushed, Upshot, seen, verdict_of}

pub one_less : (b k : ℕ) → k < b → b - k ≡ suc (b - (k + 1))
one_less b k h = omega arith

pub none_left : (b k : ℕ) → b ≤ k → b - k ≡ 0
none_left b k h = omega arith

-- ---- the screen with the dots that were painted
pub marked-is : (p : Painting) (s : List ℕ) → marked (marks p) s ≡ painted p s
unfolding paint
marked-is p s = refl

unmarked-is : (b : Bounds) (s : List ℕ) → s ≡ marked (unmarked b) s
unmarked-is b s = none (λ k. false) 0 s (λ k l t. t)

module _ {E : Type 0} (P : Player E) where
  -- an opcode that was carried out in e, with the screen s: e₁ and s₁ are left
  pub record Turned (e : E) (s : List ℕ) (e₁ : E) (s₁ : List ℕ) : Type 0 where
    pub dots : Marks
    pub screen : s₁ ≡ marked dots s
    pub shows : went e₁ dots ≡ shown (P.step e) e

  pub turned-long : {e : E} {s : List ℕ} {e₁ : E} {s₁ : List ℕ} → Turned e s e₁ s₁ → length s₁ ≡ length s
  turned-long {s = s} t = ap length t.screen ∙ length-recolour _ _ s

  module _ (frame : E → Frame) (e : E) (s : List ℕ) {u : Upshot} (e₁ : E) (as-shown : seen frame u e₁ ≡ shown (P.step e) e) where
    -- what a brush holds is to be painted
    pub painting : {p : Brush} → u ≡ Ok (Some p) → went e₁ (marks (brushed (frame e₁) p)) ≡ shown (P.step e) e
    painting is = rw is at as-shown

    pub turned-painting : {p : Brush} → u ≡ Ok (Some p) → {s₁ : List ℕ} {f : Frame} → f ≡ frame e₁
        → s₁ ≡ paint f (moved_by f.origin (shape_of p.figure)) p.colour s → Turned e s e₁ s₁
    turned-painting {p} is same x =
        record {
          dots = marks (brushed (frame e₁) p);
          screen = x ∙ (ap (λ (g : Frame). paint g (moved_by g.origin (shape_of p.figure)) p.colour s) same ∙ sym (marked-is (brushed (frame e₁) p) s));
          shows = painting is;
        }

    -- nothing is
    pub quiet : u ≡ Ok None → went e₁ (unmarked (frame e₁).bounds) ≡ shown (P.step e) e
    quiet is = rw is at as-shown

    pub turned-quiet : u ≡ Ok None → {s₁ : List ℕ} → s₁ ≡ s → Turned e s e₁ s₁
    turned-quiet is x = let b = (frame e₁).bounds in record { dots = unmarked b; screen = x ∙ unmarked-is b s; shows = quiet is }

    -- it is refused
    pub not-carried-out : {v : Verdict} → u ≡ Err v → halted v e₁ ≡ shown (P.step e) e
    not-carried-out is = rw is at as-shown

module _ {E : Type 0} (P : Player E) (e : E) (s : List ℕ) (k : ℕ) where
  at_rest : (q : State) → P.state e ≡ q → (q ≡ Running → ⊥) → (on : Answer E) → answer (verdict_of (P.state e)) e s k ≡ by_state P (P.state e) e s k on
  at_rest Running h n on = absurd (n refl)
  at_rest Ended h n on = rw h
  at_rest (Stopped v) h n on = rw h

  -- a state that does not run answers its verdict, whatever is left of the budget
  rests : (left : ℕ) → (P.state e ≡ Running → ⊥) → answer (verdict_of (P.state e)) e s k ≡ runs P left e s k
  unfolding runs
  rests zero n = at_rest (P.state e) refl n _
  rests (suc left) n = at_rest (P.state e) refl n _

module _ {E : Type 0} (P : Player E) (left : ℕ) (e : E) (s : List ℕ) (k : ℕ) where
  abbrev turn : State → Outcome E → Answer E
  turn q o = by_state P q e s k (by_opcode P o e s k (λ e' s' j. runs P left e' s' j))

  -- an opcode that is carried out: the run goes on from what it shows
  goes : (e₁ : E) (m : Marks) → P.state e ≡ Running → (o : Outcome E) → P.step e ≡ o → went e₁ m ≡ shown o e
      → runs P (suc left) e s k ≡ runs P left e₁ (marked m s) (suc k)
  unfolding runs
  goes e₁ m h (done e' p) d q =
      let env : e' ≡ e₁ = cc in
      let dots : marks p ≡ m = cc in
      ap (λ (x : State). turn x (P.step e)) h
      ∙ (ap (turn Running) d
      ∙ ap₂ (λ (x : E) (t : List ℕ). runs P left x t (suc k)) env (sym (marked-is p s) ∙ ap (λ (x : Marks). marked x s) dots))
  goes e₁ m h (refused v) d q = cc

  -- one that is refused has changed nothing, and stops it: what it is left with says the refusal
  stops : Stops P → {w : Verdict} (e₁ : E) → P.state e ≡ Running → (o : Outcome E) → P.step e ≡ o → halted w e₁ ≡ shown o e
      → let stopped = P.stop w e₁ in runs P (suc left) e s k ≡ answer (verdict_of (P.state stopped)) stopped s k
  unfolding runs
  stops told e₁ h (done e' p) d q = cc
  stops told {w} e₁ h (refused v) d q =
      let same : v ≡ w = cc in
      let kept : e ≡ e₁ = cc in
      let env : P.stop v e ≡ P.stop w e₁ = ap₂ P.stop same kept in
      let says : P.state (P.stop w e₁) ≡ Stopped v = ap P.state (sym env) ∙ told v e in
      ap (λ (x : State). turn x (P.step e)) h
      ∙ (ap (turn Running) d ∙ ap₂ (λ (w : Verdict) (x : E). answer w x s k) (sym (ap verdict_of says)) env)

module _ {E : Type 0} (P : Player E) (b k : ℕ) (e : E) (s : List ℕ) (R : Answer E) (at : R ≡ runs P (b - k) e s k) where
  more : k < b → R ≡ runs P (suc (b - (k + 1))) e s k
  more h = at ∙ ap (λ (n : ℕ). runs P n e s k) (one_less b k h)

  pub rest : (P.state e ≡ Running → ⊥) → answer (verdict_of (P.state e)) e s k ≡ R
  rest n = rests P e s k (b - k) n ∙ sym at

  pub go_on : (e₁ : E) (s₁ : List ℕ) → Turned P e s e₁ s₁ → k < b → P.state e ≡ Running → R ≡ runs P (b - (k + 1)) e₁ s₁ (k + 1)
  go_on e₁ s₁ t h q =
      more h
      ∙ (goes P (b - (k + 1)) e s k e₁ t.dots q (P.step e) refl t.shows
      ∙ ap₂ (λ (x : List ℕ) (n : ℕ). runs P (b - (k + 1)) e₁ x n) (sym t.screen) (sym (add-one k)))

  pub stop : Stops P → {v : Verdict} (e₁ : E) → k < b → P.state e ≡ Running → halted v e₁ ≡ shown (P.step e) e
      → let stopped = P.stop v e₁ in answer (verdict_of (P.state stopped)) stopped s k ≡ R
  stop told e₁ h q d = sym (more h ∙ stops P (b - (k + 1)) e s k told e₁ q (P.step e) refl d)

  pub used_up : b ≤ k → P.state e ≡ Running → answer (verdict_of (P.state e)) e s k ≡ R
  unfolding runs
  used_up h q =
      let spent : answer (verdict_of (P.state e)) e s k ≡ runs P 0 e s k = rw q in
      spent ∙ sym (at ∙ ap (λ (n : ℕ). runs P n e s k) (none_left b k h))
