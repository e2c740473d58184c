-- T-09 of the program itself: of any calls that kept the promises of the checker, of the making of a fresh environment and of a run, whoever made them.
use Prim.Native.Nat.{ℕ, zero, suc, ◌<◌, ◌≤◌}
use mathlib.Core.Path.{◌≡◌, refl, sym, ap, ◌∙◌, subst}
use mathlib.Core.Bool.{true, cond}
use mathlib.Core.List.{List}
use native.Mathlib.Omega.{arith}
use lib.ListN.{length}
use Rattle.numbers.proofs.Answers.{by-test}
use Rattle.raster.specs.declared.frame.Bounds.{Bounds}
use Rattle.player.specs.declared.State.{State}
use Rattle.player.specs.declared.State.TheVariants.{Ended, Stopped}
use Rattle.player.specs.declared.Verdict.{Verdict}
use Rattle.player.specs.Player.{fault}
use Rattle.player.specs.Run.{Answer}
use Rattle.player.specs.Hosted.{Request}
use Rattle.player.proofs.Doors.{at-most-14, at-least-10, refused-whole, run-whole}
use Rattle.rules.specs.declared.environment.Env as Held
use Rattle.rules.specs.declared.answer.Answer as Came
use Rattle.rules.specs.declared.answer.Made as Made
use Rattle.rules.specs.Environment.{Env, held, kept}
use Rattle.rules.specs.Door.{size_fits, pane_fits, fits, door, machine, whole, said, Promise}
use Rattle.rules.specs.Fresh.{making, fresh, zeros, made}
use Rattle.rules.specs.Fresh as Fresh
use Rattle.rules.proofs.Unique.{kept-state}
use Rattle.checker.specs.declared.Checked.{Checked}
use Rattle.checker.specs.Checked as Checker
use Rattle.checker.specs.Checked.{checked}
use Rattle.checker.proofs.Reach.{Finished, ends, stops, Halted, there, sooner}
use Rattle.checker.proofs.Finishes.{as-stated}
use Rattle.checker.proofs.Alike.{of_run}
use Rattle.checker.proofs.Alike as Alike

-- what was made and has number 0 is the fresh environment
abbrev Good : Bounds → Fresh.Made → Type 0
Good b x = x.number ≡ 0 → x.env ≡ fresh b

made-fresh : (b : Bounds) (m : Made.Made) → Fresh.Promise b m → m.number ≡ 0 → held m.env ≡ fresh b
unfolding made
made-fresh b m p ok =
    ap (λ (x : Fresh.Made). x.env) p
    ∙ by-test (size_fits b) (cond (pane_fits b) (making 0 (fresh b)) (making 12 zeros)) (making 10 zeros) (Good b)
    (λ size. by-test (pane_fits b) (making 0 (fresh b)) (making 12 zeros) (Good b) (λ pane z. refl) (λ pane z. absurd (omega (arith, z))))
    (λ size z. absurd (omega (arith, z)))
    (ap (λ (x : Fresh.Made). x.number) (sym p) ∙ ok)

-- the state that an environment holds, as its number and its place
holds : (e : Held.Env) (q : State) → (held e).state ≡ q → fault e.registers.state e.registers.place ≡ kept q
holds e q h = sym (kept-state (fault e.registers.state e.registers.place)) ∙ ap kept h

-- a run of w over what was made: it kept its promise, and was not refused at the door
pub record Run (w : List ℕ) (budget : ℕ) (a : Came.Answer) : Type 0 where
  pub bounds : Bounds
  pub made : Made.Made
  pub before : List ℕ
  pub after : List ℕ
  pub is_made : Fresh.Promise bounds made
  pub is-fresh : made.number ≡ 0
  pub ran : Promise w before made.env budget a after
  pub let-in : 10 ≤ a.number → a.number ≤ 14 → ⊥

module _ {w : List ℕ} {budget : ℕ} {a : Came.Answer} (r : Run w budget a) where
  abbrev q : Request (List ℕ)
  q = record { list = w; budget = budget }

  abbrev e : Env
  e = fresh r.bounds

  -- so it answers what the rules answer of the fresh environment
  says : said a r.after ≡ whole w r.before e budget
  says = r.ran ∙ ap (λ (x : Env). whole w r.before x budget) (made-fresh r.bounds r.made r.is_made r.is-fresh)

  entered : door q e (length r.before) ≡ 0
  unfolding door
  entered = by-door (door q e (length r.before)) refl
    where
      by-door : (d : ℕ) → d ≡ door q e (length r.before) → door q e (length r.before) ≡ 0
      by-door zero is = sym is
      by-door (suc d) is =
          let refusal = refused-whole machine q e r.before (suc d) is (λ z. omega (arith, z)) in
          let number : a.number ≡ suc d = ap (λ (x : Answer Env). x.verdict.number) (says ∙ sym refusal) in
          let low = at-least-10 q e.bounds (fits e) (length r.before) (λ z. omega (arith, is, z)) in
          let high = at-most-14 q e.bounds (fits e) (length r.before) in
          absurd (r.let-in (omega (arith, number, is, low)) (omega (arith, number, is, high)))

-- ---- what was accepted ends in exactly the steps that were stated, or is stopped earlier by one of 23 to 26
pub data Ran (n : ℕ) (a : Came.Answer) : Type 0 where
  ended : a.number ≡ 0 → a.env.registers.state ≡ 1 → a.steps ≡ n → Ran n a
  stopped : 23 ≤ a.number → a.number ≤ 26 → a.env.registers.state ≡ a.number → a.steps < n → Ran n a

ran-so : (n : ℕ) (a : Came.Answer) (t : List ℕ) → Finished n (said a t) → Ran n a
ran-so n a t (ends number state steps) = ended number (ap (λ (v : Verdict). v.number) (holds a.env Ended state)) steps
ran-so n a t (stops low high state steps) =
    stopped low high (ap (λ (v : Verdict). v.number) (holds a.env (Stopped (fault a.number a.place)) state)) steps

pub finishes : (w : List ℕ) (c : Checked) (a : Came.Answer) → Checker.Promise w c → c.number ≡ 0 → Run w c.steps a → Ran c.steps a
finishes w c a is ok r =
    ran-so c.steps a r.after
    (subst (Finished c.steps) (sym (says r)) (as-stated w r.before r.bounds c is ok (entered r)))

-- ---- and what was refused with 20, 22, 24, 28 or 29 is refused so after k steps, wherever the budget is larger, or stopped sooner by one of 23 to 26
pub data Refused (c : Checked) (k : ℕ) (a : Came.Answer) : Type 0 where
  alike : a.number ≡ c.number → a.place ≡ c.place → a.steps ≡ k → Refused c k a
  earlier : 23 ≤ a.number → a.number ≤ 26 → a.steps < k → Refused c k a

refused-so : (c : Checked) (k : ℕ) (a : Came.Answer) (t : List ℕ) → Halted (fault c.number c.place) k (said a t) → Refused c k a
refused-so c k a t (there v steps) = alike (ap (λ (u : Verdict). u.number) v) (ap (λ (u : Verdict). u.place) v) steps
refused-so c k a t (sooner low high steps) = earlier low high steps

pub refused-alike : (w : List ℕ) (c : Checked) → Checker.Promise w c → of_run c.number ≡ true
    → (k : ℕ) × ((budget : ℕ) (a : Came.Answer) → k < budget → Run w budget a → Refused c k a)
refused-alike w c is =
    subst (λ (x : Checked). of_run x.number ≡ true → (k : ℕ) × ((budget : ℕ) (a : Came.Answer) → k < budget → Run w budget a → Refused x k a)) (sym is)
    (λ h.
    let x = checked w in
    let m = Alike.refused-alike w h in (
      m.0,
      λ budget a more r.
          let run = sym (says r ∙ sym (run-whole machine (q r) (e r) r.before 0 (sym (entered r)) refl)) in
          refused-so x m.0 a r.after (subst (Halted (fault x.number x.place) m.0) run (m.1 r.bounds r.before budget more)),
    ))
