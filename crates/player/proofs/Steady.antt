-- The door of 10 to 14 is steady, for every player whose runs keep size, pane and ranges.
use Prim.Native.Nat.{ℕ, ◌≤◌}
use mathlib.Core.Path.{◌≡◌, refl, sym, ◌∙◌, subst}
use mathlib.Core.Bool.{Bool, true}
use mathlib.Core.List.{List}
use lib.ListN.{length}
use Rattle.raster.specs.declared.frame.Bounds.{Bounds}
use Rattle.player.specs.Player.{Player}
use Rattle.player.specs.Run.{Answer, runs}
use Rattle.player.specs.Hosted.{Request, Hosted}
use Rattle.player.specs.Keeps.{Keeps}
use Rattle.player.specs.Door.{door_of}
use Rattle.player.specs.Slices.{call, says, Steady}
use Rattle.player.proofs.Hosts.{hosted-obeys}
use Rattle.player.proofs.Doors.{opened, opens, any-budget, run-whole}

module _ {E : Type 0} (bounds : E → Bounds) (fits : E → Bool) (player : List ℕ → Player E) where
  -- a player of lists of words behind that door
  abbrev pub at-door : Hosted
  at-door = record { Env = E; Words = List ℕ; bounds = bounds; door = λ q e bytes. door_of q (bounds e) (fits e) bytes; player = player }

  pub door-steady : ((w : List ℕ) → Keeps bounds (player w))
      → ((w : List ℕ) → length w ≤ 65536 → (b : ℕ) (e : E) (s : List ℕ) → fits e ≡ true → fits (runs (player w) b e s 0).env ≡ true) → Steady at-door
  door-steady keeps ranges = record { budgets = λ w a b e bytes h k. any-budget w a b (bounds e) (fits e) bytes h k; again = again }
    where
      again : (w : List ℕ) (b : ℕ) (e : E) (s : List ℕ) → says at-door w b e (length s) ≡ 0
          → let x = call at-door w b e s in says at-door w b x.env (length x.screen) ≡ 0
      again w b e s h =
          let q : Request (List ℕ) = record { list = w; budget = b } in
          let x = call at-door w b e s in
          let o = opened q (bounds e) (fits e) (length s) h in
          let same = (hosted-obeys at-door keeps).keeps q e s in
          opens q (bounds x.env) (fits x.env) (length x.screen) (rw same (record {
            size = o.size;
            area = (hosted-obeys at-door keeps).long q e s ∙ o.area;
            ranges = subst (λ (a : Answer E). fits a.env ≡ true) (run-whole at-door q e s 0 (sym h) refl) (ranges w o.few b e s o.ranges);
            few = o.few;
            short = o.short;
          }))
