-- T-08 of any player: a loop that keeps the last writer of a dot ends with the run's; and what is named is the last step that wrote the dot, whose colour is on the screen.
use Prim.Native.Nat.{ℕ, zero, suc, ◌+◌, ◌-◌, ◌<◌, ◌≤◌}
use mathlib.Core.Path.{◌≡◌, refl, sym, ap, ap₂, ◌∙◌}
use mathlib.Core.Bool.{Bool, true, false, cond}
use mathlib.Core.List.{List, [], ◌∷◌, ◌++◌}
use native.Mathlib.Omega.{arith}
use native.Mathlib.Numerals.{add-one}
use lib.Dec.{T}
use lib.ListN.{length, get_or}
use Rattle.raster.specs.declared.dots.Dot.{Dot}
use Rattle.raster.specs.declared.frame.Bounds.{Bounds}
use Rattle.raster.specs.Paint.{column_of, row_of, hit}
use Rattle.raster.specs.Frame.{in_pane, drawable}
use Rattle.raster.proofs.Tests.{left, T_false}
use Rattle.raster.proofs.Paintings.{byte-paint, drawable-pixel}
use Rattle.player.specs.declared.Verdict.{Verdict}
use Rattle.player.specs.declared.State.{State}
use Rattle.player.specs.declared.State.TheVariants.{Running, Ended, Stopped}
use Rattle.player.specs.Painting.{Painting, painted, drawn}
use Rattle.player.specs.Player.{Outcome, done, refused, Player}
use Rattle.player.specs.Run.{Done, paintings, traced, trace}
use Rattle.player.specs.Drawing.{Inside}
use Rattle.player.specs.Shown.{Marks, marks, went, halted, shown}
use Rattle.player.specs.Writing.{writes, Writer, nobody, step, own, or_else, writer, told}
use Rattle.player.proofs.Drawings.{length-painted}
use Rattle.player.proofs.Turning.{one_less, none_left}

-- ---- a loop: what is told of the whole run is a, or what is told of a later step of its rest; k of its b opcodes are carried out
module _ {E A : Type 0} (tell : ℕ → E → ℕ → A) where
  told-else : (a : A) (w v : Writer E) → told tell a (or_else w v) ≡ told tell (told tell a v) w
  told-else a nobody v = refl
  told-else a (step k o) nobody = refl
  told-else a (step k o) (step j p) = refl

  told-own : (a : A) (t : Bool) (k : ℕ) (o : Done E) → told tell a (cond t (step k o) nobody) ≡ cond t (tell k o.from o.painting.colour) a
  told-own a true k o = refl
  told-own a false k o = refl

  module _ (P : Player E) (d : Dot) where
    -- what is told of the run that goes on from e with `left` opcodes more, of which the first is step k
    abbrev pub rest : A → ℕ → ℕ → E → A
    rest a k left e = told tell a (writer k (trace P left e) d)

    module _ (left : ℕ) (e : E) (a : A) (k : ℕ) where
      abbrev turn : State → Outcome E → A
      turn q o = told tell a (writer k (traced P q o e (λ e'. trace P left e')) d)

      goes : (e₁ : E) (m : Marks) → P.state e ≡ Running → (o : Outcome E) → P.step e ≡ o → went e₁ m ≡ shown o e
          → rest a k (suc left) e ≡ rest (cond (m.dots d.x d.y) (tell k e m.colour) a) (suc k) left e₁
      unfolding trace writer
      goes e₁ m h (done e' p) s q =
          let env : e' ≡ e₁ = cc in
          let dots : marks p ≡ m = cc in
          let o : Done E = record { from = e; painting = p } in
          ap (λ (x : State). turn x (P.step e)) h
          ∙ (ap (turn Running) s
          ∙ (told-else a (writer (suc k) (trace P left e') d) (own k o d)
          ∙ (ap (λ (x : A). rest x (suc k) left e') (told-own a (writes p d) k o)
          ∙ ap₂ (λ (x : Marks) (y : E). rest (cond (x.dots d.x d.y) (tell k e x.colour) a) (suc k) left y) dots env)))
      goes e₁ m h (refused v) s q = cc

      stops : {v : Verdict} (e₁ : E) → P.state e ≡ Running → (o : Outcome E) → P.step e ≡ o → halted v e₁ ≡ shown o e → rest a k (suc left) e ≡ a
      unfolding trace writer
      stops e₁ h (done e' p) s q = cc
      stops e₁ h (refused v) s q = ap (λ (x : State). turn x (P.step e)) h ∙ ap (turn Running) s

    at_rest : (left : ℕ) (e : E) (a : A) (k : ℕ) (q : State) → P.state e ≡ q → (q ≡ Running → ⊥) → rest a k left e ≡ a
    unfolding trace writer
    at_rest zero e a k q h n = refl
    at_rest (suc left) e a k Running h n = absurd (n refl)
    at_rest (suc left) e a k Ended h n = ap (λ (x : State). turn left e a k x (P.step e)) h
    at_rest (suc left) e a k (Stopped v) h n = ap (λ (x : State). turn left e a k x (P.step e)) h

    module _ (b k : ℕ) (e : E) (a R : A) (at : R ≡ rest a (suc k) (b - k) e) where
      more : k < b → R ≡ rest a (suc k) (suc (b - (k + 1))) e
      more h = at ∙ ap (λ (n : ℕ). rest a (suc k) n e) (one_less b k h)

      -- the state does not run: nothing more is carried out
      pub rested : (P.state e ≡ Running → ⊥) → a ≡ R
      rested n = sym (at ∙ at_rest (b - k) e a (suc k) (P.state e) refl n)

      -- the next opcode is carried out, and these are its dots
      pub went_on : (e₁ : E) (m : Marks) → went e₁ m ≡ shown (P.step e) e → k < b → P.state e ≡ Running
          → R ≡ rest (cond (m.dots d.x d.y) (tell (k + 1) e m.colour) a) (suc (k + 1)) (b - (k + 1)) e₁
      went_on e₁ m s h q =
          more h
          ∙ (goes (b - (k + 1)) e a (suc k) e₁ m q (P.step e) refl s
          ∙ ap (λ (n : ℕ). rest (cond (m.dots d.x d.y) (tell n e m.colour) a) (suc n) (b - (k + 1)) e₁) (sym (add-one k)))

      -- it is refused
      pub stopped : {v : Verdict} (e₁ : E) → k < b → P.state e ≡ Running → halted v e₁ ≡ shown (P.step e) e → a ≡ R
      stopped e₁ h q s = sym (more h ∙ stops (b - (k + 1)) e a (suc k) e₁ q (P.step e) refl s)

      -- the budget is used up
      pub used_up : b ≤ k → a ≡ R
      unfolding trace writer
      used_up h = sym (at ∙ ap (λ (n : ℕ). rest a (suc k) n e) (none_left b k h))

-- ---- what is named: the last step that wrote the dot
one_on : (j k l : ℕ) → j ≡ suc k + l → j ≡ k + suc l
one_on j k l h = omega (arith, h)

module _ {E : Type 0} (d : Dot) where
  -- no opcode writes it
  abbrev pub Unwritten : List (Done E) → Type 0
  Unwritten [] = Unit {0}
  Unwritten (o ∷ os) = (writes o.painting d ≡ false) × Unwritten os

  -- of opcodes, the first of them step k, the step of number j is o: its painted dots contain the dot, and no later one's do
  pub record LastWritten (k : ℕ) (os : List (Done E)) (j : ℕ) (o : Done E) : Type 0 where
    pub earlier : List (Done E)
    pub later : List (Done E)
    pub all : os ≡ earlier ++ (o ∷ later)
    pub number : j ≡ k + length earlier
    pub contains : writes o.painting d ≡ true
    pub last : Unwritten later

  -- what w names, among these opcodes
  abbrev pub Named : ℕ → List (Done E) → Writer E → Type 0
  Named k os nobody = Unwritten os
  Named k os (step j o) = LastWritten k os j o

  named-first : (k : ℕ) (o : Done E) (os : List (Done E)) (w : Writer E) (t : Bool) → writes o.painting d ≡ t → Named (suc k) os w
      → Named k (o ∷ os) (or_else w (cond t (step k o) nobody))
  named-first k o os (step j p) t e h =
      record {
        earlier = o ∷ h.earlier;
        later = h.later;
        all = ap (λ (r : List (Done E)). o ∷ r) h.all;
        number = one_on j k (length h.earlier) h.number;
        contains = h.contains;
        last = h.last;
      }
  named-first k o os nobody true e h = record { earlier = []; later = os; all = refl; number = omega arith; contains = e; last = h }
  named-first k o os nobody false e h = (e, h)

  pub named : (k : ℕ) (os : List (Done E)) → Named k os (writer k os d)
  unfolding writer
  named k [] = tt
  named k (o ∷ os) = named-first k o os (writer (suc k) os d) (writes o.painting d) refl (named (suc k) os)

  -- where no opcode writes it, nobody is named
  pub nobody-wrote : (k : ℕ) (os : List (Done E)) → Unwritten os → writer k os d ≡ nobody
  unfolding writer
  nobody-wrote k [] h = refl
  nobody-wrote k (o ∷ os) h = ap₂ or_else (nobody-wrote (suc k) os h.1) (ap (λ (t : Bool). cond t (step k o) nobody) h.0)

  -- none does outside the pane
  pub outside : (b : Bounds) → (T (in_pane b d.x d.y) → ⊥) → (os : List (Done E)) → Inside b (paintings os) → Unwritten os
  outside b n [] h = tt
  outside b n (o ∷ os) h =
      let p = o.painting in
      let x = d.x in
      let y = d.y in
      (T_false (writes p d) (λ t. n (rw h.0 at (drawable-pixel p.frame x y (left (drawable p.frame x y) (p.shape x y) t)).1)), outside b n os h.1)

-- ---- and the screen: byte i, which shows the dot
abbrev pub shown_at : Bounds → ℕ → Dot
shown_at b i = record { x = column_of b i; y = row_of b i }

module _ (b : Bounds) (i : ℕ) where
  -- a painting on a screen of this size writes the dot exactly where it hits the byte
  hits : (p : Painting) → p.frame.bounds ≡ b → hit p.frame p.shape i ≡ writes p (shown_at b i)
  hits p h = ap (λ (c : Bounds). writes p (shown_at c i)) h

  byte : (p : Painting) → p.frame.bounds ≡ b → (s : List ℕ) → i < length s → get_or (painted p s) i 0 ≡ cond (writes p (shown_at b i)) p.colour (get_or s i 0)
  byte p h s l = byte-paint p.frame p.shape p.colour s i l ∙ ap (λ (t : Bool). cond t p.colour (get_or s i 0)) (hits p h)

  -- it has the colour that was painted last, and else is what it was
  pub coloured : {E : Type 0} (k : ℕ) (os : List (Done E)) → Inside b (paintings os) → (s : List ℕ) → i < length s
      → get_or (drawn (paintings os) s) i 0 ≡ told (λ j e c. c) (get_or s i 0) (writer k os (shown_at b i))
  unfolding writer
  coloured k [] h s l = refl
  coloured k (o ∷ os) h s l =
      let p = o.painting in
      let w = writer (suc k) os (shown_at b i) in
      coloured (suc k) os h.1 (painted p s) (rw (length-painted p s) l)
      ∙ (ap (λ (v : ℕ). told (λ j e c. c) v w) (byte p h.0 s l ∙ sym (told-own (λ j e c. c) (get_or s i 0) (writes p (shown_at b i)) k o))
      ∙ sym (told-else (λ j e c. c) (get_or s i 0) w (own k o (shown_at b i))))
