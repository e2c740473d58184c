-- However a budget is cut into slices, the rules give what they give at once; and an answer other than 1 stays.
use Prim.Native.Nat.{ℕ, ◌+◌, ◌≤◌}
use mathlib.Core.Path.{◌≡◌, refl, ◌∙◌}
use mathlib.Core.Bool.{true}
use mathlib.Core.List.{List, ◌∷◌}
use native.Mathlib.Omega.{arith}
use lib.ListN.{length}
use lib.Dec.{leb}
use borrow.Author.Tests.{le-leb}
use Rattle.player.specs.declared.Verdict.{Verdict}
use Rattle.player.specs.Player.{verdict}
use Rattle.player.specs.Run.{runs}
use Rattle.player.specs.Mixing.{Mix, ones, twos, Mixed}
use Rattle.player.specs.Undisturbed.{Undisturbed}
use Rattle.player.specs.Hosted.{Request, callable}
use Rattle.player.specs.Slices.{Steady, sum, EachAllowed, after, sliced, Repeats}
use Rattle.player.specs.InTurns.{asks, AsOnce}
use Rattle.player.proofs.Doors as Doors
use Rattle.player.proofs.Steady.{door-steady}
use Rattle.player.proofs.Slices as Player
use Rattle.player.proofs.InTurns as InTurns
use Rattle.rules.specs.Types.{Ended, Stopped}
use Rattle.rules.specs.Environment.{Env}
use Rattle.rules.specs.Step.{afgis}
use Rattle.rules.specs.Door.{between, fits, door, machine, whole}
use Rattle.rules.proofs.Ranges.{both, joined}
use Rattle.rules.proofs.Alone.{keeps}
use Rattle.rules.proofs.DoorLaws.{run-keeps}

-- what slices ask of the door
pub steady : Steady machine
unfolding door
steady = door-steady (λ e. e.bounds) fits afgis keeps (λ w few b e s h. joined (runs (afgis w) b e s 0).env (run-keeps w few b e s 0 h))

module _ (w s : List ℕ) (e : Env) where
  -- any slices that are allowed together
  pub slices : (b : ℕ) (bs : List ℕ) → sum b bs ≤ 1000000 → sliced machine w b bs e s ≡ whole w s e (sum b bs)
  slices b bs h = Player.slices machine steady (λ w v e. refl) w b bs e s h

  -- two slices: the number, environment and screen of the second call, and the steps of both
  pub cut-in-two : (a b : ℕ) → a + b ≤ 1000000 → let x = whole w s e a in whole w s e (a + b) ≡ after x.steps (whole w x.screen x.env b)
  cut-in-two a b h = Player.cut-in-two machine steady (λ w v e. refl) w a b e s h

  -- two cuts of one sum, also of one above 1,000,000
  pub any-cut : (b : ℕ) (bs : List ℕ) (c : ℕ) (cs : List ℕ) → EachAllowed b bs → EachAllowed c cs → sum b bs ≡ sum c cs
      → sliced machine w b bs e s ≡ sliced machine w c cs e s
  any-cut b bs c cs h k same = Player.any-cut machine steady (λ w v e. refl) w b bs c cs e s h k same

  -- an answer other than 1
  pub stays : (a b : ℕ) → a ≤ b → b ≤ 1000000 → ((whole w s e a).verdict.number ≡ 1 → ⊥) → whole w s e b ≡ whole w s e a
  stays a b more h n = Player.stays machine steady (λ w v e. refl) w a b e s more h n

  -- ---- both calls, and the one at once, change nothing
  module _ (a b : ℕ) (allowed : a + b ≤ 1000000) where
    -- a call that the door refuses: under an allowed budget its number is never 14
    numbered : (n : ℕ) → (n ≡ 0 → ⊥) → n ≡ door (record { list = w; budget = a + b }) e (length s) → between 10 13 n ≡ true
    unfolding door
    numbered n other is =
        let q : Request (List ℕ) = record { list = w; budget = a + b } in
        let low = Doors.at-least-10 q e.bounds (fits e) (length s) (λ z. other (is ∙ z)) in
        let high = Doors.at-most-13 q e.bounds (fits e) (length s) allowed in
        both (leb 10 n) (leb n 13) (le-leb 10 n (omega (arith, is, low))) (le-leb n 13 (omega (arith, is, high)))

    pub refused-twice : (n : ℕ) → (n ≡ 0 → ⊥) → n ≡ door (record { list = w; budget = a + b }) e (length s)
        → (between 10 13 n ≡ true) × Repeats machine w a b e s (verdict n)
    refused-twice n other is = (numbered n other is, Player.refused-twice machine steady (λ w v e. refl) w a b e s allowed n other is)

    module _ (entered : door (record { list = w; budget = a + b }) e (length s) ≡ 0) where
      -- an environment that had ended
      pub ended-twice : e.state ≡ Ended → Repeats machine w a b e s (verdict 0)
      ended-twice q = Player.ended-twice machine steady (λ w v e. refl) w a b e s allowed entered q

      -- or was stopped
      pub stopped-twice : (v : Verdict) → e.state ≡ Stopped v → Repeats machine w a b e s v
      stopped-twice v q = Player.stopped-twice machine steady (λ w v e. refl) w a b e s allowed entered v q

-- ---- two lists that take turns, each in slices of one budget: each side has got, and its pane is, as its one call alone leaves it
pub in_turns : (v : List ℕ) (b : ℕ) (bs : List ℕ) (w : List ℕ) (c : ℕ) (cs : List ℕ) → sum b bs ≤ 1000000 → sum c cs ≤ 1000000
    → (m : Mix (callable machine) (callable machine)) → ones m ≡ asks v (b ∷ bs) → twos m ≡ asks w (c ∷ cs)
    → (d e : Env) (s : List ℕ) (x : Mixed (callable machine) (callable machine)) → Undisturbed (callable machine) (callable machine) m d e s x
    → AsOnce machine v (sum b bs) d s x.got₁ x.screen × AsOnce machine w (sum c cs) e s x.got₂ x.screen
in_turns = InTurns.in_turns machine machine steady steady (λ w v e. refl) (λ w v e. refl)
