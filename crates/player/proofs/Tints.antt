-- A player whose opcodes paint in other colours: what a loop that paints so leaves; it is the same run, and its screen shows who wrote each dot.
use Prim.Native.Nat.{ℕ, zero, suc, ◌<◌}
use mathlib.Core.Path.{◌≡◌, refl, sym, ap, ap₂, ◌∙◌}
use mathlib.Core.Bool.{Bool, true, false, cond}
use mathlib.Core.List.{List, [], ◌∷◌, map}
use native.Mathlib.Omega.{arith}
use lib.ListN.{length, get_or}
use Rattle.raster.specs.declared.dots.Dot.{Dot}
use Rattle.raster.specs.declared.frame.Bounds.{Bounds}
use Rattle.raster.specs.declared.frame.Frame.{Frame}
use Rattle.raster.specs.Shapes.{moved_by}
use Rattle.raster.specs.Paint.{paint}
use Rattle.std.specs.Prelude.{Ok, Err, Some, None}
use Rattle.brush.specs.declared.Brush.{Brush}
use Rattle.brush.specs.Brush.{shape_of}
use Rattle.raster.proofs.Recolour.{none}
use Rattle.player.specs.declared.Verdict.{Verdict}
use Rattle.player.specs.declared.State.{State}
use Rattle.player.specs.declared.State.TheVariants.{Running, Ended, Stopped}
use Rattle.player.specs.Painting.{painted}
use Rattle.player.specs.Player.{verdict, Outcome, done, refused, Player}
use Rattle.player.specs.Run.{Answer, answer, got, Done, by_state, by_opcode, runs, traced, trace}
use Rattle.player.specs.Keeps.{Stays, Keeps}
use Rattle.player.specs.Shown.{Marks, marks, Shown, went, halted, shown, brushed, Upshot, seen}
use Rattle.player.specs.Writing.{writes, Writer, nobody, step, or_else, writer, told}
use Rattle.player.specs.Tinted.{in_colour, outcome_in, tinted}
use Rattle.player.proofs.Runs.{is-traced}
use Rattle.player.proofs.Hosts.{trace-inside}
use Rattle.player.proofs.Turning.{Turned, marked-is, painting, quiet, not-carried-out}
use Rattle.player.proofs.Writings.{shown_at, coloured}

-- ---- what is seen of an opcode: the same, its dots in another colour
abbrev shown_in : {E : Type 0} → ℕ → Shown E → Shown E
shown_in c (went e m) = went e (record { bounds = m.bounds; dots = m.dots; colour = c })
shown_in c (halted v e) = halted v e

module _ {E : Type 0} (c : ℕ) (e : E) where
  shown-in : (o : Outcome E) → shown_in c (shown o e) ≡ shown (outcome_in c o) e
  shown-in (done e' p) = refl
  shown-in (refused v) = refl

  -- what went on in another colour went on
  pub as-well : (o : Outcome E) (e₁ : E) (m : Marks) → went e₁ m ≡ shown (outcome_in c o) e → (n : Marks) × (went e₁ n ≡ shown o e)
  as-well (done e' p) e₁ m q = let env : e' ≡ e₁ = cc in (marks p, ap (λ (x : E). went x (marks p)) (sym env))
  as-well (refused v) e₁ m q = let z : ◌≡◌ {A = ℕ} 0 1 = cc in absurd (omega (arith, z))

module _ {E : Type 0} (tint : E → ℕ) (P : Player E) where
  abbrev Q : Player E
  Q = tinted tint P

  as_seen : (e : E) {x : Shown E} → x ≡ shown (P.step e) e → shown_in (tint e) x ≡ shown (Q.step e) e
  as_seen e h = ap (shown_in (tint e)) h ∙ shown-in (tint e) e (P.step e)

  -- ---- a loop: what a brush holds is painted in the tint
  module _ (frame : E → Frame) (e : E) (s : List ℕ) {u : Upshot} (e₁ : E) (as-shown : seen frame u e₁ ≡ shown (P.step e) e) where
    pub tinted-painting : {p : Brush} → u ≡ Ok (Some p) → {s₁ : List ℕ} {f : Frame} {c : ℕ} → f ≡ frame e₁ → c ≡ tint e
        → s₁ ≡ paint f (moved_by f.origin (shape_of p.figure)) c s → Turned Q e s e₁ s₁
    tinted-painting {p} is same hue x =
        let q = in_colour (tint e) (brushed (frame e₁) p) in
        record {
          dots = marks q;
          screen = x ∙ (ap₂ (λ (g : Frame) (c : ℕ). paint g (moved_by g.origin (shape_of p.figure)) c s) same hue ∙ sym (marked-is q s));
          shows = as_seen e (painting P frame e s e₁ as-shown is);
        }

    pub tinted-quiet : u ≡ Ok None → {s₁ : List ℕ} → s₁ ≡ s → Turned Q e s e₁ s₁
    tinted-quiet is x =
        record {
          dots = record { bounds = (frame e₁).bounds; dots = λ i j. false; colour = tint e };
          screen = x ∙ none (λ k. false) (tint e) s (λ k l t. t);
          shows = as_seen e (quiet P frame e s e₁ as-shown is);
        }

    pub tinted-refused : {v : Verdict} → u ≡ Err v → halted v e₁ ≡ shown (Q.step e) e
    tinted-refused is = as_seen e (not-carried-out P frame e s e₁ as-shown is)

  -- ---- the same run: its verdict, environment and steps
  alike : (q : State) (o : Outcome E) (e : E) (s t : List ℕ) (k : ℕ) (f g : E → List ℕ → ℕ → Answer E)
      → ((e' : E) (s' t' : List ℕ) (j : ℕ) → got (f e' s' j) ≡ got (g e' t' j))
      → got (by_state Q q e s k (by_opcode Q (outcome_in (tint e) o) e s k f)) ≡ got (by_state P q e t k (by_opcode P o e t k g))
  alike Ended o e s t k f g h = refl
  alike (Stopped v) o e s t k f g h = refl
  alike Running (refused v) e s t k f g h = refl
  alike Running (done e' p) e s t k f g h = h e' (painted (in_colour (tint e) p) s) (painted p t) (suc k)

  pub same-run : (b : ℕ) (e : E) (s t : List ℕ) (k : ℕ) → got (runs Q b e s k) ≡ got (runs P b e t k)
  unfolding runs
  same-run zero e s t k = spent (P.state e)
    where
      spent : (q : State) → got (by_state Q q e s k (answer (verdict 1) e s k)) ≡ got (by_state P q e t k (answer (verdict 1) e t k))
      spent Ended = refl
      spent (Stopped v) = refl
      spent Running = refl
  same-run (suc b) e s t k = alike (P.state e) (P.step e) e s t k (λ e' s' j. runs Q b e' s' j) (λ e' t' j. runs P b e' t' j) (same-run b)

  -- ---- the same opcodes, each in its tint
  abbrev in_tint : Done E → Done E
  in_tint o = record { from = o.from; painting = in_colour (tint o.from) o.painting }

  turn-tinted : (q : State) (o : Outcome E) (e : E) (f g : E → List (Done E)) → ((e' : E) → f e' ≡ map in_tint (g e'))
      → traced Q q (outcome_in (tint e) o) e f ≡ map in_tint (traced P q o e g)
  turn-tinted Ended o e f g h = refl
  turn-tinted (Stopped v) o e f g h = refl
  turn-tinted Running (refused v) e f g h = refl
  turn-tinted Running (done e' p) e f g h = ap (λ (r : List (Done E)). record { from = e; painting = in_colour (tint e) p } ∷ r) (h e')

  trace-tinted : (b : ℕ) (e : E) → trace Q b e ≡ map in_tint (trace P b e)
  unfolding trace
  trace-tinted zero e = refl
  trace-tinted (suc b) e = turn-tinted (P.state e) (P.step e) e (λ e'. trace Q b e') (λ e'. trace P b e') (trace-tinted b)

  -- ---- who wrote a dot wrote it in its tint
  abbrev writer_in : Writer E → Writer E
  writer_in nobody = nobody
  writer_in (step k o) = step k (in_tint o)

  later : (w : Writer E) (t : Bool) (k : ℕ) (o : Done E) → or_else (writer_in w) (cond t (step k (in_tint o)) nobody) ≡ writer_in (or_else w (cond t (step k o) nobody))
  later (step j p) t k o = refl
  later nobody true k o = refl
  later nobody false k o = refl

  writer-tinted : (k : ℕ) (os : List (Done E)) (d : Dot) → writer k (map in_tint os) d ≡ writer_in (writer k os d)
  unfolding writer
  writer-tinted k [] d = refl
  writer-tinted k (o ∷ os) d =
      ap (λ (w : Writer E). or_else w (cond (writes o.painting d) (step k (in_tint o)) nobody)) (writer-tinted (suc k) os d)
      ∙ later (writer (suc k) os d) (writes o.painting d) k o

  told-tinted : (a : ℕ) (w : Writer E) → told (λ j e c. c) a (writer_in w) ≡ told (λ j e c. tint e) a w
  told-tinted a nobody = refl
  told-tinted a (step k o) = refl

  -- ---- so each byte shows the tint of the opcode that wrote its dot last, or is what it was
  module _ (bounds : E → Bounds) (K : Keeps bounds P) where
    stays : (e : E) (c : ℕ) (o : Outcome E) → Stays bounds e o → Stays bounds e (outcome_in c o)
    stays e c (done e' p) h = h
    stays e c (refused v) h = h

    keeps : Keeps bounds Q
    keeps = record { steps = λ e. stays e (tint e) (P.step e) (K.steps e); stops = K.stops }

    pub shows : (b : ℕ) (e : E) (s : List ℕ) (k i : ℕ) → i < length s
        → get_or (runs Q b e s k).screen i 0 ≡ told (λ j from c. tint from) (get_or s i 0) (writer 1 (trace P b e) (shown_at (bounds e) i))
    shows b e s k i l =
        let d = shown_at (bounds e) i in
        ap (λ (t : List ℕ). get_or t i 0) (is-traced Q b e s k).screen
        ∙ (coloured (bounds e) i 1 (trace Q b e) (trace-inside bounds Q keeps b e) s l
        ∙ (ap (told (λ j from c. c) (get_or s i 0)) (ap (λ (os : List (Done E)). writer 1 os d) (trace-tinted b e) ∙ writer-tinted 1 (trace P b e) d)
        ∙ told-tinted (get_or s i 0) (writer 1 (trace P b e) d)))
