-- A reading, followed by a run: where the readers say that something closes a sequence after so many steps, a run gets there in as many, and where they say that a
-- run would be refused, it is.
use Prim.Native.Nat.{ℕ, zero, suc, ◌+◌, ◌*◌, ◌<◌, ◌≤◌}
use mathlib.Core.Path.{◌≡◌, refl, sym, ap, ◌∙◌, subst}
use mathlib.Core.Bool.{true, false, cond}
use mathlib.Core.List.{List, [], ◌∷◌, ◌++◌}
use native.Mathlib.Omega.{arith}
use native.Mathlib.Nat.{suc-mul, add_comm}
use lib.ListN.{length, length-append}
use lib.Dec.{ltb, leb}
use borrow.Author.Tests.{leb-true, leb-false, le-leb, lt-leb}
use Rattle.std.specs.Prelude.{Ok, Err}
use Rattle.numbers.specs.declared.place.WordIndex.{WordIndex}
use Rattle.numbers.specs.Place.{past}
use Rattle.numbers.proofs.Answers.{by-test}
use Rattle.player.specs.declared.State.TheVariants.{Running}
use Rattle.player.specs.declared.Verdict.{Verdict}
use Rattle.player.specs.Player.{fault, refused}
use Rattle.player.proofs.Doors.{one}
use Rattle.rules.specs.declared.environment.Repeat.{Repeat}
use Rattle.rules.specs.Operands.{at}
use Rattle.rules.specs.Environment.{Env, repeat}
use Rattle.rules.specs.Opcodes.{countable}
use Rattle.rules.specs.Step.{step}
use Rattle.forms.specs.declared.layout.Layout.{Layout}
use Rattle.forms.specs.declared.layout.Layout.TheVariants.{Strange, Plain, Flow, Ends, Opens, Closes}
use Rattle.forms.specs.Layout.{layout_at}
use Rattle.forms.proofs.Layouts.{opens-is, closes-is}
use Rattle.checker.specs.declared.reading.Closer.{Closer}
use Rattle.checker.specs.declared.reading.Closer.TheVariants.{Eodl, Erpt}
use Rattle.checker.specs.Reading.{Reading, Block, longer, joined, opcode, sequence, count, closes_block, repeated, opening, block_at, sequence_at}
use Rattle.checker.proofs.Reach.{Once, Reach, then, reach-map, Refuses}
use Rattle.checker.proofs.Steps.{Stands, plain-once, rpt-once, erpt-last, erpt-again, run-out-20, plain-22, rpt-22, rpt-24, rpt-28}
use Rattle.checker.proofs.Places.{layout_by, After, Onward, reading-after, block-onward, plain-words}

-- at pc, with room for so many repeats more
pub record Ready (room : ℕ) (pc : WordIndex) (e : Env) : Type 0 where
  pub counter : e.flow.counter ≡ pc
  pub state : e.state ≡ Running
  pub open-yet : length e.flow.repeats + room ≡ 8

-- ---- from wherever it is ready it gets to what closes the sequence, with the repeats as they were; and a fault that is a run's own, not the profile's, is what the
-- run meets, after so many steps from any such environment
abbrev pub Own : Verdict → Type 0
Own v = (v.number ≡ 21 → ⊥) × (v.number ≡ 30 → ⊥)

abbrev pub Gets : List ℕ → ℕ → WordIndex → ℕ → WordIndex → Type 0
Gets w room pc n i = (e : Env) → Ready room pc e → Reach w n (Stands i e.flow.repeats) e

abbrev pub Meets : List ℕ → ℕ → WordIndex → Verdict → Type 0
Meets w room pc v = Own v → (k : ℕ) × ((e : Env) → Ready room pc e → Reach w k (Refuses w v) e)

abbrev pub Runs : List ℕ → ℕ → WordIndex → Reading → Type 0
Runs w room pc (Err v) = Meets w room pc v
Runs w room pc (Ok c) = Gets w room pc c.steps c.place

abbrev RunsBlock : List ℕ → ℕ → WordIndex → Block → Type 0
RunsBlock w room pc (Err v) = Meets w room pc v
RunsBlock w room pc (Ok b) = Gets w room pc b.steps b.next

stood : {rs rs' : List Repeat} {i : WordIndex} (x : Env) → rs ≡ rs' → Stands i rs x → Stands i rs' x
stood x same h = record { counter = h.counter; repeats = h.repeats ∙ same; state = h.state }

-- one repeat more than e has, with c passes left
abbrev Within : Env → WordIndex → ℕ → Env → Type 0
Within e start c x = Stands start (e.flow.repeats ++ (repeat start c ∷ [])) x

module _ (w : List ℕ) where
  ready : (room : ℕ) (pc next : WordIndex) (e x : Env) → Ready room pc e → Stands next e.flow.repeats x → Ready room next x
  ready room pc next e x r s =
      record { counter = s.counter; state = s.state; open-yet = ap (λ (rs : List Repeat). length rs + room) s.repeats ∙ r.open-yet }

  ready-within : (room : ℕ) (start : WordIndex) (c : ℕ) (rs : List Repeat) (x : Env) → length rs + suc room ≡ 8 → Stands start (rs ++ (repeat start c ∷ [])) x
      → Ready room start x
  ready-within room start c rs x fits s =
      let l : length x.flow.repeats ≡ length (rs ++ (repeat start c ∷ [])) = ap length s.repeats in
      record { counter = s.counter; state = s.state; open-yet = omega (arith, l, length-append rs (repeat start c ∷ []), fits) }

  -- refused at once
  here : (room n : ℕ) (pc : WordIndex) → ((e : Env) → Ready room pc e → step w e ≡ refused (fault n pc)) → Meets w room pc (fault n pc)
  here room n pc f own = (0, λ e r. (r.state, f e r))

  then-gets : (room : ℕ) (pc next : WordIndex) (k n : ℕ) (i : WordIndex) → Gets w room pc k next → Gets w room next n i → Gets w room pc (k + n) i
  then-gets room pc next k n i go on e r =
      then w (Stands next e.flow.repeats) (Stands i e.flow.repeats) k n e (go e r)
      (λ y s. reach-map w (Stands i y.flow.repeats) (Stands i e.flow.repeats) n y (λ z t. stood z s.repeats t) (on y (ready room pc next e y r s)))

  longer-runs : (room : ℕ) (pc next : WordIndex) (k : ℕ) (x : Reading) → Gets w room pc k next → Runs w room next x → Runs w room pc (longer k x)
  longer-runs room pc next k (Err v) go on =
      λ own.
      let m = on own in
      (k + m.0, λ e r. then w (Stands next e.flow.repeats) (Refuses w v) k m.0 e (go e r) (λ y s. m.1 y (ready room pc next e y r s)))
  longer-runs room pc next k (Ok c) go on = then-gets room pc next k c.steps c.place go on

  -- ---- a sequence, where its blocks are followed
  abbrev Blocks : ℕ → (WordIndex → Block) → Type 0
  Blocks room inner = (pc : WordIndex) → pc.0 < length w → layout_at (at w pc.0) ≡ Opens → RunsBlock w room pc (inner pc)

  stays : (room : ℕ) (pc : WordIndex) → Gets w room pc 0 pc
  stays room pc e r = record { counter = r.counter; repeats = refl; state = r.state }

  plain_runs : (room : ℕ) (on : WordIndex → Reading) (pc : WordIndex) → pc.0 < length w → ((next : WordIndex) → pc.0 < next.0 → Runs w room next (on next))
      → (n : ℕ) → layout_at (at w pc.0) ≡ Plain n
      → Runs w room pc (cond (ltb (length w) (pc.0 + n)) (Err (fault 22 pc)) (longer 1 (on (past pc n))))
  plain_runs room on pc inside later n is =
      let some = plain-words (at w pc.0) n is in
      by-test (ltb (length w) (pc.0 + n)) (Err (fault 22 pc)) (longer 1 (on (past pc n))) (Runs w room pc)
      (λ cut. here room 22 pc (λ e r.
      subst (λ (i : WordIndex). i.0 < length w → layout_at (at w i.0) ≡ Plain n → ltb (length w) (i.0 + n) ≡ true → step w e ≡ refused (fault 22 i)) r.counter
      (λ p q t. plain-22 w e p n q t) inside is cut))
      (λ whole. longer-runs room pc (past pc n) 1 (on (past pc n))
      (λ e r. (
        r.state,
        subst (λ (i : WordIndex). i.0 < length w → layout_at (at w i.0) ≡ Plain n → ltb (length w) (i.0 + n) ≡ false → Once (Stands (past i n) e.flow.repeats) (step w e)) r.counter
            (λ p q t. plain-once w e p r.state n q t) inside is whole,
      ))
      (later (past pc n) (omega (arith, some))))

  opcode-runs : (room : ℕ) (inner : WordIndex → Block) → Blocks room inner → (on : WordIndex → Reading) (pc : WordIndex) → pc.0 < length w → Onward w pc (inner pc)
      → ((next : WordIndex) → pc.0 < next.0 → Runs w room next (on next))
      → (l : Layout) → layout_at (at w pc.0) ≡ l → Runs w room pc (opcode w inner on pc l)
  opcode-runs room inner blocks on pc inside onward later Strange is = λ own. absurd (own.0 refl)
  opcode-runs room inner blocks on pc inside onward later (Flow n) is = λ own. absurd (own.0 refl)
  opcode-runs room inner blocks on pc inside onward later (Plain n) is = plain_runs room on pc inside later n is
  opcode-runs room inner blocks on pc inside onward later Ends is = stays room pc
  opcode-runs room inner blocks on pc inside onward later Closes is = stays room pc
  opcode-runs room inner blocks on pc inside onward later Opens is = go (inner pc) (blocks pc inside is) onward
    where
      go : (c : Block) → RunsBlock w room pc c → Onward w pc c → Runs w room pc (joined c on)
      go (Err v) h o = h
      go (Ok b) h o = longer-runs room pc b.next b.steps (on b.next) h (later b.next o.0)

  out : (room : ℕ) (pc : WordIndex) → length w ≤ pc.0 → Meets w room pc (fault 20 pc)
  out room pc h =
      here room 20 pc (λ e r. subst (λ (i : WordIndex). length w ≤ i.0 → step w e ≡ refused (fault 20 i)) r.counter (run-out-20 w e) h)

  sequence-runs : (room : ℕ) (inner : WordIndex → Block) → Blocks room inner → ((pc : WordIndex) → Onward w pc (inner pc)) → (more : ℕ) (pc : WordIndex)
      → length w ≤ more + pc.0 → Runs w room pc (sequence w inner more pc)
  unfolding sequence
  sequence-runs room inner blocks onward zero pc enough = out room pc (omega (arith, enough))
  sequence-runs room inner blocks onward (suc more) pc enough =
      by-test (leb (length w) pc.0) (Err (fault 20 pc)) (opcode w inner (λ next. sequence w inner more next) pc (layout_at (at w pc.0))) (Runs w room pc)
      (λ past. out room pc (leb-true (length w) pc.0 past))
      (λ inn. opcode-runs room inner blocks (λ next. sequence w inner more next) pc (leb-false (length w) pc.0 inn) (onward pc)
      (λ next l. sequence-runs room inner blocks onward more next (omega (arith, l, enough))) (layout_at (at w pc.0)) refl)

  -- ---- the passes of a block: n steps inside, up to the ERPT at i, and the ERPT
  module _ (start i : WordIndex) (n room : ℕ) (rs : List Repeat) (inside : i.0 < length w) (erpt : at w i.0 ≡ 0x004F) (fits : length rs + suc room ≡ 8)
      (body : Gets w room start n i) where
    -- j passes are left
    abbrev Left : ℕ → List Repeat
    Left j = rs ++ (repeat start j ∷ [])

    last-erpt : (y : Env) → Stands i (Left 1) y → Reach w 1 (Stands (past i 1) rs) y
    last-erpt y s = (
      s.state,
      subst (λ (k : WordIndex). k.0 < length w → at w k.0 ≡ 0x004F → Once (Stands (past k 1) rs) (step w y)) s.counter
          (λ inn is. erpt-last w y inn s.state is rs start s.repeats) inside erpt,
    )

    next-erpt : (j : ℕ) (y : Env) → Stands i (Left (suc (suc j))) y → Reach w 1 (Stands start (Left (suc j))) y
    next-erpt j y s = (
      s.state,
      subst (λ (k : WordIndex). k.0 < length w → at w k.0 ≡ 0x004F → Once (Stands start (Left (suc j))) (step w y)) s.counter
          (λ inn is. erpt-again w y inn s.state is rs start j s.repeats) inside erpt,
    )

    -- one pass up to its ERPT
    pass : (j : ℕ) (x : Env) → Stands start (Left j) x → Reach w n (Stands i (Left j)) x
    pass j x s =
        reach-map w (Stands i x.flow.repeats) (Stands i (Left j)) n x (λ z t. stood z s.repeats t) (body x (ready-within room start j rs x fits s))

    rounds : (j : ℕ) (x : Env) → Stands start (Left (suc j)) x → Reach w (suc j * (n + 1)) (Stands (past i 1) rs) x
    rounds zero x s =
        let same : n + 1 ≡ 1 * (n + 1) = omega arith in
        subst (λ (k : ℕ). Reach w k (Stands (past i 1) rs) x) same
        (then w (Stands i (Left 1)) (Stands (past i 1) rs) n 1 x (pass 1 x s) last-erpt)
    rounds (suc j) x s =
        let Q = Stands start (Left (suc j)) in
        let same : (n + 1) + suc j * (n + 1) ≡ suc (suc j) * (n + 1) = add_comm (n + 1) (suc j * (n + 1)) ∙ sym (suc-mul (suc j) (n + 1)) in
        subst (λ (k : ℕ). Reach w k (Stands (past i 1) rs) x) same
        (then w Q (Stands (past i 1) rs) (n + 1) (suc j * (n + 1)) x
        (then w (Stands i (Left (suc (suc j)))) Q n 1 x (pass (suc (suc j)) x s) (next-erpt j))
        (λ y t. rounds j y t))

  -- ---- a block
  module _ (pc : WordIndex) (inside : pc.0 < length w) (opens : layout_at (at w pc.0) ≡ Opens) where
    rpt : at w pc.0 ≡ 0x00B7
    rpt = opens-is (at w pc.0) opens

    opening-runs : (room : ℕ) (c : Block) → (ltb (length w) (pc.0 + 2) ≡ false → countable (count w pc) ≡ true → RunsBlock w room pc c)
        → RunsBlock w room pc (opening w pc c)
    opening-runs room c go =
        by-test (ltb (length w) (pc.0 + 2)) (Err (fault 22 pc)) (cond (countable (count w pc)) c (Err (fault 24 pc))) (RunsBlock w room pc)
        (λ cut. here room 22 pc (λ e r.
        subst (λ (i : WordIndex). i.0 < length w → at w i.0 ≡ 0x00B7 → ltb (length w) (i.0 + 2) ≡ true → step w e ≡ refused (fault 22 i)) r.counter
        (λ p q t. rpt-22 w e p q t) inside rpt cut))
        (λ whole. by-test (countable (count w pc)) c (Err (fault 24 pc)) (RunsBlock w room pc) (go whole)
        (λ bad. here room 24 pc (λ e r.
        subst (λ (i : WordIndex). i.0 < length w → at w i.0 ≡ 0x00B7 → ltb (length w) (i.0 + 2) ≡ false → countable (count w i) ≡ false → step w e ≡ refused (fault 24 i)) r.counter
        (λ p q t u. rpt-24 w e p q t u) inside rpt whole bad)))

    module _ (whole : ltb (length w) (pc.0 + 2) ≡ false) (good : countable (count w pc) ≡ true) where
      full : Meets w 0 pc (fault 28 pc)
      full = here 0 28 pc (λ e r.
          let eight : leb 8 (length e.flow.repeats) ≡ true = le-leb 8 (length e.flow.repeats) (omega (arith, r.open-yet)) in
          subst (λ (i : WordIndex). i.0 < length w → at w i.0 ≡ 0x00B7 → ltb (length w) (i.0 + 2) ≡ false → countable (count w i) ≡ true → step w e ≡ refused (fault 28 i)) r.counter
          (λ p q t u. rpt-28 w e p q t u eight) inside rpt whole good)

      enter : (room : ℕ) (e : Env) → Ready (suc room) pc e → Reach w 1 (Within e (past pc 2) (count w pc)) e
      enter room e r =
          let few : leb 8 (length e.flow.repeats) ≡ false = lt-leb 8 (length e.flow.repeats) (omega (arith, r.open-yet)) in (
            r.state,
            subst (λ (k : WordIndex). k.0 < length w → at w k.0 ≡ 0x00B7 → ltb (length w) (k.0 + 2) ≡ false → countable (count w k) ≡ true
                → Once (Within e (past k 2) (count w k)) (step w e)) r.counter
                (λ p q t u. rpt-once w e p r.state q t u few) inside rpt whole good,
          )

      repeated-runs : (room : ℕ) (x : Reading) → After w (past pc 2) x → Runs w room (past pc 2) x → RunsBlock w (suc room) pc (repeated (count w pc) x)
      repeated-runs room (Err v) after body =
          λ own.
          let m = body own in (
            1 + m.0,
            λ e r. then w (Within e (past pc 2) (count w pc)) (Refuses w v) 1 m.0 e (enter room e r)
                (λ y s. m.1 y (ready-within room (past pc 2) (count w pc) e.flow.repeats y r.open-yet s)),
          )
      repeated-runs room (Ok s) after body = closes s.by after.2
        where
          i : WordIndex
          i = s.place

          n : ℕ
          n = s.steps

          go : layout_at (at w i.0) ≡ Closes → (c : ℕ) → count w pc ≡ c → Gets w (suc room) pc (1 + count w pc * (n + 1)) (past i 1)
          go erpt zero h e r = absurd (omega (arith, h, leb-true 1 (count w pc) (one (leb 1 (count w pc)) _ good)))
          go erpt (suc j) h e r =
              then w (Within e (past pc 2) (count w pc)) (Stands (past i 1) e.flow.repeats) 1 (count w pc * (n + 1)) e (enter room e r)
              (λ y s. subst (λ (c : ℕ). Within e (past pc 2) c y → Reach w (c * (n + 1)) (Stands (past i 1) e.flow.repeats) y) (sym h)
              (λ t. rounds (past pc 2) i n room e.flow.repeats after.1 (closes-is (at w i.0) erpt) r.open-yet body j y t) s)

          closes : (k : Closer) → layout_at (at w i.0) ≡ layout_by k → RunsBlock w (suc room) pc (closes_block (count w pc) k i n)
          closes Eodl is = λ own. absurd (own.1 refl)
          closes Erpt is = go is (count w pc) refl

  block_runs : (room : ℕ) → Blocks room (λ i. block_at w room i)
  unfolding block_at
  block_runs zero pc inside is = opening-runs pc inside is 0 (Err (fault 28 pc)) (λ whole good. full pc inside is whole good)
  block_runs (suc room) pc inside is =
      let x = sequence w (λ i. block_at w room i) (length w) (past pc 2) in
      opening-runs pc inside is (suc room) (repeated (count w pc) x)
      (λ whole good. repeated-runs pc inside is whole good room x (reading-after w room (past pc 2))
      (sequence-runs room (λ i. block_at w room i) (block_runs room) (block-onward w room) (length w) (past pc 2) (omega arith)))

  -- ---- any sequence
  pub reading-runs : (room : ℕ) (pc : WordIndex) → Runs w room pc (sequence_at w room pc)
  reading-runs room pc = sequence-runs room (λ i. block_at w room i) (block_runs room) (block-onward w room) (length w) pc (omega arith)
