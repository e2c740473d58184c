-- T-14 of the program itself: of any calls that kept the promise, whoever made them.
use Prim.Native.Nat.{ℕ, ◌+◌, ◌*◌, ◌<◌, ◌≤◌}
use mathlib.Core.Path.{◌≡◌, refl, sym, ap, ◌∙◌, subst}
use mathlib.Core.Logic.{◌↔◌}
use mathlib.Core.List.{List, [], ◌++◌}
use native.Mathlib.Omega.{arith}
use lib.ListN.{length, take, drop}
use lib.Seq.{take_at, drop_at, sets, sets-eq, length-sets}
use Rattle.player.specs.declared.Verdict.{Verdict}
use Rattle.player.specs.Player.{refused}
use Rattle.rules.specs.Environment.{Env}
use Rattle.rules.specs.Step.{step}
use Rattle.mender.specs.declared.Mended.{Mended}
use Rattle.mender.specs.declared.report.Change.{Change}
use Rattle.mender.specs.Walk.{mended}
use Rattle.mender.specs.Walks.{Walks}
use Rattle.mender.specs.Report.{changes, numbers}
use Rattle.mender.specs.Mended.{Left, left, Promise}
use Rattle.mender.proofs.Reporting.{no_change}
use Rattle.mender.proofs.Mending.{wanted, count, three-a-change, all-mended, Came, at-13, at-32, at-0, came}
use Rattle.mender.proofs.Afterwards.{mended-walks, unchanged, same_length}
use Rattle.mender.proofs.Steps.{Place, from_place, stepped}
use Rattle.mender.proofs.Exactly.{Exactly, exactly}

-- a call over the list w and the report r, which answered a and left w' and r': it kept the promise
pub record Call (w r : List ℕ) (a : Mended) (w' r' : List ℕ) : Type 0 where
  pub kept : Promise w r a w' r'

abbrev pub outcome : Mended → List ℕ → List ℕ → Left
outcome a w' r' = record { answer = a; list = w'; report = r' }

-- ---- which number: 13, 32 or 0, each exactly where it is due; with 32 and 0 the count is told
pub record Numbered (w r : List ℕ) (a : Mended) : Type 0 where
  pub thirteen : (a.number ≡ 13) ↔ (65536 < length w)
  pub thirty_two : (a.number ≡ 32) ↔ ((length w ≤ 65536) × (length r < 3 * count w))
  pub zero : (a.number ≡ 0) ↔ ((length w ≤ 65536) × (3 * count w ≤ length r))
  pub counted : length w ≤ 65536 → a.changes ≡ count w
  pub none-counted : 65536 < length w → a.changes ≡ 0

-- ---- 0: the list walks, and the report has from its start the words that differ, and nothing else; what lies behind is as it was
pub record Mends (w r : List ℕ) (a : Mended) (w' r' : List ℕ) : Type 0 where
  pub list : w' ≡ mended w
  pub walks : Walks w' 0
  pub as_long : length w' ≡ length w
  pub counted : a.changes ≡ length (changes w w')
  pub exact : Exactly w w' (changes w w')
  pub reported : take (3 * a.changes) r' ≡ numbers (changes w w')
  pub behind : drop (3 * a.changes) r' ≡ drop (3 * a.changes) r
  pub report-long : length r' ≡ length r

mends : (w r : List ℕ) → 3 * count w ≤ length r → Mends w r (record { number = 0; changes = count w }) (mended w) (sets r 0 (numbers (wanted w)))
mends w r room =
    let ns = numbers (wanted w) in
    let long : length ns ≡ 3 * count w = three-a-change w in
    let place : 0 + length ns ≡ 3 * count w = omega arith in
    let parts : sets r 0 ns ≡ ns ++ drop (0 + length ns) r = sets-eq ns r 0 (omega arith) in
    record {
      list = refl;
      walks = mended-walks w;
      as_long = same_length w;
      counted = refl;
      exact = exactly w (mended w) (same_length w);
      reported = ap (take (3 * count w)) parts ∙ take_at ns (drop (0 + length ns) r) (3 * count w) long;
      behind = ap (drop (3 * count w)) parts ∙ (drop_at ns (drop (0 + length ns) r) (3 * count w) long ∙ ap (λ (j : ℕ). drop j r) place);
      report-long = length-sets r 0 ns;
    }

module _ {w r : List ℕ} {a : Mended} {w' r' : List ℕ} (c : Call w r a w' r') where
  went : Came w r (outcome a w' r')
  went = subst (Came w r) (sym c.kept) (came w r)

  pub numbered : Numbered w r a
  numbered = by went
    where
      by : Came w r (outcome a w' r') → Numbered w r a
      by (at-13 long is) =
          let n : a.number ≡ 13 = ap (λ (l : Left). l.answer.number) is in
          record {
            thirteen = (λ h. long, λ h. n);
            thirty_two = (λ h. absurd (omega arith), λ h. absurd (omega (arith, h.0)));
            zero = (λ h. absurd (omega arith), λ h. absurd (omega (arith, h.0)));
            counted = λ h. absurd (omega arith);
            none-counted = λ h. ap (λ (l : Left). l.answer.changes) is;
          }
      by (at-32 words short is) =
          let n : a.number ≡ 32 = ap (λ (l : Left). l.answer.number) is in
          record {
            thirteen = (λ h. absurd (omega arith), λ h. absurd (omega arith));
            thirty_two = (λ h. (words, short), λ h. n);
            zero = (λ h. absurd (omega arith), λ h. absurd (omega (arith, h.1)));
            counted = λ h. ap (λ (l : Left). l.answer.changes) is;
            none-counted = λ h. absurd (omega arith);
          }
      by (at-0 words room is) =
          let n : a.number ≡ 0 = ap (λ (l : Left). l.answer.number) is in
          record {
            thirteen = (λ h. absurd (omega arith), λ h. absurd (omega arith));
            thirty_two = (λ h. absurd (omega arith), λ h. absurd (omega (arith, h.1)));
            zero = (λ h. (words, room), λ h. n);
            counted = λ h. ap (λ (l : Left). l.answer.changes) is;
            none-counted = λ h. absurd (omega arith);
          }

  pub mends-it : a.number ≡ 0 → Mends w r a w' r'
  mends-it ok = by went
    where
      by : Came w r (outcome a w' r') → Mends w r a w' r'
      by (at-13 long is) = absurd (omega (arith, ok, ap (λ (l : Left). l.answer.number) is))
      by (at-32 words short is) = absurd (omega (arith, ok, ap (λ (l : Left). l.answer.number) is))
      by (at-0 words room is) = subst (λ (l : Left). Mends w r l.answer l.list l.report) (sym is) (mends w r room)

  -- and no step of a run at a place of the walk is refused with 20, 21 or 22
  pub steps : a.number ≡ 0 → {pc : ℕ} → Place w' pc → pc < length w' → (e : Env) → e.flow.counter.0 ≡ pc → (v : Verdict) → step w' e ≡ refused v → 23 ≤ v.number
  steps ok p = stepped w' (from_place (mends-it ok).walks p)

  -- ---- any other number leaves list and report untouched
  pub untouched : (a.number ≡ 0 → ⊥) → (w' ≡ w) × (r' ≡ r)
  untouched other = by went
    where
      by : Came w r (outcome a w' r') → (w' ≡ w) × (r' ≡ r)
      by (at-13 long is) = (ap (λ (l : Left). l.list) is, ap (λ (l : Left). l.report) is)
      by (at-32 words short is) = (ap (λ (l : Left). l.list) is, ap (λ (l : Left). l.report) is)
      by (at-0 words room is) = absurd (other (ap (λ (l : Left). l.answer.number) is))

  -- ---- a list that walked cleanly: 0 and no change, list and report as they were
  pub nothing-to-mend : Walks w 0 → length w ≤ 65536 → outcome a w' r' ≡ left 0 0 w r
  unfolding numbers
  nothing-to-mend clean words =
      let same = unchanged clean in
      let none : wanted w ≡ [] = ap (changes w) same ∙ no_change 0 w in
      let n : count w ≡ 0 = ap (λ (cs : List Change). length cs) none in
      c.kept ∙ sym (all-mended w r words (omega arith) (sym n) (sym same) (sym (ap (λ (cs : List Change). sets r 0 (numbers cs)) none)))

  -- ---- the promise is kept by one answer alone
  pub unique : {b : Mended} {v s : List ℕ} → Call w r b v s → (a ≡ b) × (w' ≡ v) × (r' ≡ s)
  unique other =
      let same = c.kept ∙ sym other.kept in
      (ap (λ (l : Left). l.answer) same, ap (λ (l : Left). l.list) same, ap (λ (l : Left). l.report) same)

-- ---- a second call, with any report, changes nothing
pub second_call : {w r w' r' s v s' : List ℕ} {a b : Mended} → Call w r a w' r' → a.number ≡ 0 → Call w' s b v s' → outcome b v s' ≡ left 0 0 w' s
second_call first ok second =
    let t = mends-it first ok in
    let few = ((numbered first).zero.0 ok).0 in
    nothing-to-mend second t.walks (omega (arith, t.as_long, few))
