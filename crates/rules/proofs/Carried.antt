-- The place of a whole answer: 0 to 65,536, and 0 with every number but 20 to 29; and a stopped environment repeats its own.
use Prim.Native.Nat.{ℕ, zero, suc}
use mathlib.Core.Path.{◌≡◌, refl, sym, ◌∙◌, subst}
use mathlib.Core.Bool.{true, false, true≢false}
use mathlib.Core.List.{List}
use native.Mathlib.Omega.{arith}
use lib.ListN.{length}
use lib.Dec.{leb}
use Rattle.player.specs.Run.{Answer, answer}
use Rattle.player.specs.Hosted.{Request}
use Rattle.player.specs.Shown.{verdict_of}
use Rattle.player.proofs.Doors
use Rattle.player.proofs.Runs
use Rattle.rules.specs.Types.{Verdict, State, Running, Ended, Stopped}
use Rattle.rules.specs.Environment.{Env, start}
use Rattle.rules.specs.Step.{afgis}
use Rattle.rules.specs.Door.{between, state_fits, door, machine, whole}
use Rattle.rules.proofs.Ranges.{one, other, Fits}
use Rattle.rules.proofs.DoorLaws.{opened, run-keeps}

-- 20 to 29 with a place 0 to 65,536, any other number with 0
abbrev pub Carries : Verdict → Type 0
Carries v = (leb v.place.0 65536 ≡ true) × (between 20 29 v.number ≡ false → v.place ≡ start)

of-state : (q : State) → state_fits q ≡ true → Carries (verdict_of q)
of-state Running h = (refl, λ n. refl)
of-state Ended h = (refl, λ n. refl)
of-state (Stopped v) h = (other (between 20 29 v.number) _ h, λ n. absurd (true≢false (sym (one (between 20 29 v.number) _ h) ∙ n)))

module _ (w s : List ℕ) (e : Env) (budget : ℕ) where
  abbrev q : Request (List ℕ)
  q = record { list = w; budget = budget }

  pub carries : Carries (whole w s e budget).verdict
  carries = by-door (door q e (length s)) refl
    where
      by-door : (d : ℕ) → d ≡ door q e (length s) → Carries (whole w s e budget).verdict
      by-door zero is =
          let o = opened q e (length s) (sym is) in
          let fits = subst (λ (a : Answer Env). Fits e.bounds a.env) (Doors.run-whole machine q e s 0 is refl) (run-keeps w o.few budget e s 0 o.ranges) in
          subst Carries (sym (Doors.says-state machine (λ w v e. refl) q e s (sym is))) (of-state (whole w s e budget).env.state fits.3)
      by-door (suc d) is = subst (λ (a : Answer Env). Carries a.verdict) (Doors.refused-whole machine q e s (suc d) is (λ z. omega (arith, z))) (refl, λ n. refl)

  -- number and place, with nothing done
  pub repeated : (v : Verdict) → e.state ≡ Stopped v → door q e (length s) ≡ 0 → whole w s e budget ≡ answer v e s 0
  repeated v h let-in = sym (Doors.run-whole machine q e s 0 (sym let-in) refl) ∙ Runs.stopped (afgis w) budget e s 0 v h
