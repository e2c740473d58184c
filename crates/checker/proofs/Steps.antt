-- One opcode of a run, by its layout: what a plain one leaves alone; EODL, RPT and ERPT.
use Prim.Native.Nat.{ℕ, suc, ◌+◌, ◌-◌, ◌<◌, ◌≤◌}
use mathlib.Core.Path.{◌≡◌, refl, sym, ap, ap₂, ◌∙◌, subst}
use mathlib.Core.Bool.{Bool, true, false, cond, not, true≢false}
use mathlib.Core.List.{List, [], ◌∷◌, ◌++◌}
use native.Mathlib.Omega.{arith}
use lib.Dec.{leb, ltb, eqb, lit≤}
use lib.ListN.{length, take, get_or, length-append}
use lib.Seq.{take_at, get_or_at}
use borrow.Author.Tests.{lt-leb, le-leb, le-ltb, lt-ltb, ne_eqb}
use Rattle.numbers.specs.declared.place.WordIndex.{WordIndex}
use Rattle.numbers.specs.Place.{past}
use Rattle.numbers.proofs.Answers.{clash}
use Rattle.player.specs.declared.State.TheVariants.{Running, Ended}
use Rattle.player.specs.Player.{fault, Outcome, refused}
use Rattle.rules.specs.declared.environment.Repeat.{Repeat}
use Rattle.rules.specs.declared.opcode.Operands.{Operands}
use Rattle.rules.specs.Op as Op
use Rattle.rules.specs.Meaning.{Meaning, Unknown, Known, meaning}
use Rattle.rules.specs.Table.{form_of}
use Rattle.rules.specs.Operands.{at, operands, size_of, highest}
use Rattle.rules.specs.Environment.{Env, repeat, over, goto, onward, opened, closed, innermost}
use Rattle.rules.specs.Opcodes.{Rule, rule, countable, passes}
use Rattle.rules.specs.Step.{check, misnaming, ruled, carried, step_at, step}
use Rattle.forms.specs.declared.layout.Layout.{Layout}
use Rattle.forms.specs.declared.layout.Layout.TheVariants.{Strange, Plain, Flow, Ends, Opens, Closes}
use Rattle.forms.specs.Layout.{laid, layout_of, layout_at}
use Rattle.checker.specs.Reading.{count}
use Rattle.checker.proofs.Reach.{Once}

-- ---- checks
module _ (Q : Env → Type 0) where
  clear : (n : ℕ) (i : WordIndex) (t : Bool) (x : Outcome Env) → t ≡ false → Once Q x → Once Q (check n i t x)
  clear n i true x h q = absurd (true≢false h)
  clear n i false x h q = q

  may : (n : ℕ) (i : WordIndex) (t : Bool) (x : Outcome Env) → 23 ≤ n → n ≤ 26 → Once Q x → Once Q (check n i t x)
  may n i true x l h q = (l, h)
  may n i false x l h q = q

-- ---- a plain opcode: counter, repeats and state stay, and 27 to 29 are not broken
abbrev Calm : Layout → ℕ → Rule → Env → Type 0
Calm Strange k r e = Unit {0}
Calm (Plain n) k r e =
    (n ≡ k) × (r.breaks 27 ≡ false) × (r.breaks 28 ≡ false) × (r.breaks 29 ≡ false)
    × (r.env.flow.counter ≡ e.flow.counter) × (r.env.flow.repeats ≡ e.flow.repeats) × (r.env.state ≡ e.state)
Calm (Flow n) k r e = Unit {0}
Calm Ends k r e = Unit {0}
Calm Opens k r e = Unit {0}
Calm Closes k r e = Unit {0}

calm : (op : Op.Op) (o : Operands) (n k : ℕ) (e : Env) → Calm (laid op k) k (rule op o n e) e
calm Op.Noop o n k e = (refl, refl, refl, refl, refl, refl, refl)
calm Op.End o n k e = tt
calm Op.Load o n k e = (refl, refl, refl, refl, refl, refl, refl)
calm Op.Add o n k e = (refl, refl, refl, refl, refl, refl, refl)
calm Op.And o n k e = (refl, refl, refl, refl, refl, refl, refl)
calm Op.Or o n k e = (refl, refl, refl, refl, refl, refl, refl)
calm Op.Multiply o n k e = (refl, refl, refl, refl, refl, refl, refl)
calm Op.Divide o n k e = (refl, refl, refl, refl, refl, refl, refl)
calm Op.Remainder o n k e = (refl, refl, refl, refl, refl, refl, refl)
calm Op.Increment o n k e = (refl, refl, refl, refl, refl, refl, refl)
calm Op.Decrement o n k e = (refl, refl, refl, refl, refl, refl, refl)
calm Op.Compare o n k e = (refl, refl, refl, refl, refl, refl, refl)
calm Op.Jump o n k e = tt
calm Op.JumpBy o n k e = tt
calm Op.Call o n k e = tt
calm Op.CallBy o n k e = tt
calm Op.Return o n k e = tt
calm Op.Repeat o n k e = tt
calm Op.EndRepeat o n k e = tt
calm Op.ClipMode o n k e = (refl, refl, refl, refl, refl, refl, refl)
calm Op.ClipWindow o n k e = (refl, refl, refl, refl, refl, refl, refl)
calm Op.Colour o n k e = (refl, refl, refl, refl, refl, refl, refl)
calm Op.Pattern o n k e = (refl, refl, refl, refl, refl, refl, refl)
calm Op.MoveTo o n k e = (refl, refl, refl, refl, refl, refl, refl)
calm Op.MoveBy o n k e = (refl, refl, refl, refl, refl, refl, refl)
calm Op.Origin o n k e = (refl, refl, refl, refl, refl, refl, refl)
calm Op.Pixel o n k e = (refl, refl, refl, refl, refl, refl, refl)
calm Op.PixelColour o n k e = (refl, refl, refl, refl, refl, refl, refl)
calm Op.Line o n k e = (refl, refl, refl, refl, refl, refl, refl)
calm Op.LineTo o n k e = (refl, refl, refl, refl, refl, refl, refl)
calm Op.LineBy o n k e = (refl, refl, refl, refl, refl, refl, refl)
calm Op.Disc o n k e = (refl, refl, refl, refl, refl, refl, refl)
calm Op.Outline o n k e = (refl, refl, refl, refl, refl, refl, refl)
calm Op.Clear o n k e = (refl, refl, refl, refl, refl, refl, refl)

-- a running environment, its counter and its open repeats
pub record Stands (i : WordIndex) (rs : List Repeat) (x : Env) : Type 0 where
  pub counter : x.flow.counter ≡ i
  pub repeats : x.flow.repeats ≡ rs
  pub state : x.state ≡ Running

-- ---- the innermost repeat
module _ (rs : List Repeat) (r : Repeat) where
  before_last : length (rs ++ (r ∷ [])) - 1 ≡ length rs
  before_last = omega (arith, length-append rs (r ∷ []))

  some-open : eqb (length (rs ++ (r ∷ []))) 0 ≡ false
  some-open = ne_eqb (length (rs ++ (r ∷ []))) 0 (λ h. omega (arith, h, length-append rs (r ∷ [])))

  last_one : get_or (rs ++ (r ∷ [])) (length (rs ++ (r ∷ [])) - 1) over ≡ r
  last_one = get_or_at rs r [] over _ (sym before_last)

  but_last : take (length (rs ++ (r ∷ [])) - 1) (rs ++ (r ∷ [])) ≡ rs
  but_last = take_at rs (r ∷ []) _ (sym before_last)

module _ (w : List ℕ) (e : Env) where
  abbrev pc : WordIndex
  pc = e.flow.counter

  -- what is known of a plain opcode, by what it means
  plain-is : (n : ℕ) (op : Op.Op) (s : _) → layout_of (Known op s) ≡ Plain n → Calm (Plain n) (size_of s) (ruled (Known op s) w e) (onward (size_of s) e)
  plain-is n op s h =
      subst (λ (l : Layout). Calm l (size_of s) (ruled (Known op s) w e) (onward (size_of s) e)) h
      (calm op (operands s w pc.0 e.variables) (length w) (size_of s) (onward (size_of s) e))

  module _ (inside : pc.0 < length w) (running : e.state ≡ Running) where
    pub plain-once : (n : ℕ) → layout_at (at w pc.0) ≡ Plain n → ltb (length w) (pc.0 + n) ≡ false
        → Once (Stands (past pc n) e.flow.repeats) (step w e)
    unfolding layout_at step carried
    plain-once n is whole = go (meaning (form_of (at w pc.0))) is
      where
        go : (m : Meaning) → layout_of m ≡ Plain n → Once (Stands (past pc n) e.flow.repeats) (step_at m w e)
        go Unknown h = absurd (clash (cc))
        go (Known op s) h =
            let Q = Stands (past pc n) e.flow.repeats in
            let r = ruled (Known op s) w e in
            let c = plain-is n op s h in
            let whole' : ltb (length w) (pc.0 + size_of s) ≡ false = subst (λ (k : ℕ). ltb (length w) (pc.0 + k) ≡ false) c.0 whole in
            clear Q 20 pc (leb (length w) pc.0) _ (lt-leb _ _ inside)
            (clear Q 22 pc (ltb (length w) (pc.0 + size_of s)) _ whole'
            (may Q 23 (misnaming (Known op s) w pc) (ltb 63 (highest s w pc.0 1)) _ (lit≤ tt) (lit≤ tt)
            (may Q 24 pc (r.breaks 24) _ (lit≤ tt) (lit≤ tt)
            (may Q 25 pc (r.breaks 25) _ (lit≤ tt) (lit≤ tt)
            (may Q 26 pc (r.breaks 26) _ (lit≤ tt) (lit≤ tt)
            (clear Q 27 pc (r.breaks 27) _ c.1
            (clear Q 28 pc (r.breaks 28) _ c.2
            (clear Q 29 pc (r.breaks 29) _ c.3
            (record { counter = c.4 ∙ ap (past pc) (sym c.0); repeats = c.5; state = c.6 ∙ running })))))))))

    -- ---- the three opcodes that are not plain
    pub eodl-once : at w pc.0 ≡ 0x0001 → Once (λ x. x.state ≡ Ended) (step w e)
    unfolding step form_of carried
    eodl-once is =
        let Q : Env → Type 0 = λ x. x.state ≡ Ended in
        subst (λ (n : ℕ). Once Q (step_at (meaning (form_of n)) w e)) (sym is)
        (clear Q 20 pc (leb (length w) pc.0) _ (lt-leb _ _ inside)
        (clear Q 22 pc (ltb (length w) (pc.0 + 1)) _ (le-ltb (length w) (pc.0 + 1) (omega (arith, inside))) refl))

    pub rpt-once : at w pc.0 ≡ 0x00B7 → ltb (length w) (pc.0 + 2) ≡ false → countable (count w pc) ≡ true → leb 8 (length e.flow.repeats) ≡ false
        → Once (Stands (past pc 2) (e.flow.repeats ++ (repeat (past pc 2) (count w pc) ∷ []))) (step w e)
    unfolding step form_of carried
    rpt-once is whole good room =
        let Q = Stands (past pc 2) (e.flow.repeats ++ (repeat (past pc 2) (count w pc) ∷ [])) in
        subst (λ (n : ℕ). Once Q (step_at (meaning (form_of n)) w e)) (sym is)
        (clear Q 20 pc (leb (length w) pc.0) _ (lt-leb _ _ inside)
        (clear Q 22 pc (ltb (length w) (pc.0 + 2)) _ whole
        (clear Q 24 pc (not (countable (count w pc))) _ (ap not good)
        (clear Q 28 pc (leb 8 (length e.flow.repeats)) _ room (record { counter = refl; repeats = refl; state = running })))))

    -- an ERPT, of what it makes of the innermost repeat
    erpt-once : (Q : Env → Type 0) → at w pc.0 ≡ 0x004F → eqb (length e.flow.repeats) 0 ≡ false
        → Q (passes (innermost e) (onward 1 e)) → Once Q (step w e)
    unfolding step form_of carried
    erpt-once Q is some q =
        subst (λ (n : ℕ). Once Q (step_at (meaning (form_of n)) w e)) (sym is)
        (clear Q 20 pc (leb (length w) pc.0) _ (lt-leb _ _ inside)
        (clear Q 22 pc (ltb (length w) (pc.0 + 1)) _ (le-ltb (length w) (pc.0 + 1) (omega (arith, inside)))
        (clear Q 29 pc (eqb (length e.flow.repeats) 0) _ some q)))

    module _ (is : at w pc.0 ≡ 0x004F) (rs : List Repeat) (start : WordIndex) where
      some : (r : Repeat) → e.flow.repeats ≡ rs ++ (r ∷ []) → eqb (length e.flow.repeats) 0 ≡ false
      some r h = ap (λ (xs : List Repeat). eqb (length xs) 0) h ∙ some-open rs r

      innermost-is : (r : Repeat) → e.flow.repeats ≡ rs ++ (r ∷ []) → innermost e ≡ r
      innermost-is r h = ap (λ (xs : List Repeat). get_or xs (length xs - 1) over) h ∙ last_one rs r

      outer : (r : Repeat) → e.flow.repeats ≡ rs ++ (r ∷ []) → take (length e.flow.repeats - 1) e.flow.repeats ≡ rs
      outer r h = ap (λ (xs : List Repeat). take (length xs - 1) xs) h ∙ but_last rs r

      -- the last pass
      pub erpt-last : e.flow.repeats ≡ rs ++ (repeat start 1 ∷ []) → Once (Stands (past pc 1) rs) (step w e)
      erpt-last h =
          let Q = Stands (past pc 1) rs in
          let r = repeat start 1 in
          erpt-once Q is (some r h)
          (subst (λ (x : Repeat). Q (passes x (onward 1 e))) (sym (innermost-is r h))
          (record { counter = refl; repeats = outer r h; state = running }))

      -- an earlier one
      pub erpt-again : (j : ℕ) → e.flow.repeats ≡ rs ++ (repeat start (suc (suc j)) ∷ []) → Once (Stands start (rs ++ (repeat start (suc j) ∷ []))) (step w e)
      erpt-again j h =
          let Q = Stands start (rs ++ (repeat start (suc j) ∷ [])) in
          let r = repeat start (suc (suc j)) in
          let x = onward 1 e in
          let more : ltb 1 (suc (suc j)) ≡ true = lt-ltb 1 (suc (suc j)) (omega arith) in
          let fewer : suc (suc j) - 1 ≡ suc j = omega arith in
          erpt-once Q is (some r h)
          (subst (λ (y : Repeat). Q (passes y x)) (sym (innermost-is r h))
          (subst (λ (t : Bool). Q (cond t (goto start (opened (repeat start (suc (suc j) - 1)) (closed x))) (closed x))) (sym more)
          (record { counter = refl; repeats = ap₂ (λ (xs : List Repeat) (k : ℕ). xs ++ (repeat start k ∷ [])) (outer r h) fewer; state = running })))

-- ---- the refusals that the checker tells, each at the counter
stops : (n : ℕ) (i : WordIndex) (t : Bool) (x : Outcome Env) → t ≡ true → check n i t x ≡ refused (fault n i)
stops n i true x h = refl
stops n i false x h = absurd (true≢false (sym h))

goes : (n : ℕ) (i : WordIndex) (t : Bool) (x : Outcome Env) → t ≡ false → check n i t x ≡ x
goes n i true x h = absurd (true≢false h)
goes n i false x h = refl

pub run-out-20 : (w : List ℕ) (e : Env) → length w ≤ e.flow.counter.0 → step w e ≡ refused (fault 20 e.flow.counter)
unfolding step
run-out-20 w e h = stops 20 e.flow.counter (leb (length w) e.flow.counter.0) _ (le-leb _ _ h)

module _ (w : List ℕ) (e : Env) (inside : (pc w e).0 < length w) where
  here : {x : Outcome Env} → check 20 (pc w e) (leb (length w) (pc w e).0) x ≡ x
  here {x} = goes 20 (pc w e) (leb (length w) (pc w e).0) x (lt-leb _ _ inside)

  pub plain-22 : (n : ℕ) → layout_at (at w (pc w e).0) ≡ Plain n → ltb (length w) ((pc w e).0 + n) ≡ true → step w e ≡ refused (fault 22 (pc w e))
  unfolding layout_at step
  plain-22 n is cut = go (meaning (form_of (at w (pc w e).0))) is
    where
      go : (m : Meaning) → layout_of m ≡ Plain n → step_at m w e ≡ refused (fault 22 (pc w e))
      go Unknown h = absurd (clash (cc))
      go (Known op s) h =
          let c = plain-is w e n op s h in
          here ∙ stops 22 (pc w e) (ltb (length w) ((pc w e).0 + size_of s)) _ (subst (λ (k : ℕ). ltb (length w) ((pc w e).0 + k) ≡ true) c.0 cut)

  module _ (is : at w (pc w e).0 ≡ 0x00B7) where
    pub rpt-22 : ltb (length w) ((pc w e).0 + 2) ≡ true → step w e ≡ refused (fault 22 (pc w e))
    unfolding step form_of
    rpt-22 cut =
        subst (λ (n : ℕ). step_at (meaning (form_of n)) w e ≡ refused (fault 22 (pc w e))) (sym is)
        (here ∙ stops 22 (pc w e) (ltb (length w) ((pc w e).0 + 2)) _ cut)

    module _ (whole : ltb (length w) ((pc w e).0 + 2) ≡ false) where
      pub rpt-24 : countable (count w (pc w e)) ≡ false → step w e ≡ refused (fault 24 (pc w e))
      unfolding step form_of carried
      rpt-24 bad =
          subst (λ (n : ℕ). step_at (meaning (form_of n)) w e ≡ refused (fault 24 (pc w e))) (sym is)
          (here ∙ (goes 22 (pc w e) (ltb (length w) ((pc w e).0 + 2)) _ whole ∙ stops 24 (pc w e) (not (countable (count w (pc w e)))) _ (ap not bad)))

      pub rpt-28 : countable (count w (pc w e)) ≡ true → leb 8 (length e.flow.repeats) ≡ true → step w e ≡ refused (fault 28 (pc w e))
      unfolding step form_of carried
      rpt-28 good full =
          subst (λ (n : ℕ). step_at (meaning (form_of n)) w e ≡ refused (fault 28 (pc w e))) (sym is)
          (here
          ∙ (goes 22 (pc w e) (ltb (length w) ((pc w e).0 + 2)) _ whole
          ∙ (goes 24 (pc w e) (not (countable (count w (pc w e)))) _ (ap not good) ∙ stops 28 (pc w e) (leb 8 (length e.flow.repeats)) _ full)))

  pub erpt-29 : at w (pc w e).0 ≡ 0x004F → e.flow.repeats ≡ [] → step w e ≡ refused (fault 29 (pc w e))
  unfolding step form_of carried
  erpt-29 is none =
      subst (λ (n : ℕ). step_at (meaning (form_of n)) w e ≡ refused (fault 29 (pc w e))) (sym is)
      (here
      ∙ (goes 22 (pc w e) (ltb (length w) ((pc w e).0 + 1)) _ (le-ltb (length w) ((pc w e).0 + 1) (omega (arith, inside)))
      ∙ stops 29 (pc w e) (eqb (length e.flow.repeats) 0) _ (ap (λ (rs : List Repeat). eqb (length rs) 0) none)))
