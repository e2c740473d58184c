-- Demand 3 for the brush and the pen, and one mixing of their calls worked out; demand 1 for the pen, and one call that it refuses; the brush in slices.
use mathlib.Core.Path.{◌≡◌, refl}
use mathlib.Core.Bool.{Bool, true, false, cond}
use mathlib.Core.List.{List, [], ◌∷◌}
use Prim.Native.Nat.{ℕ, zero, suc, ◌*◌}
use native.Mathlib.Omega.{arith}
use lib.Dec.{leb, ltb, eqb}
use lib.ListN.{length, get_or, replicate}
use borrow.Author.Tests.{ltb-false, le-ltb}
use Rattle.raster.specs.declared.frame.Bounds.{Bounds}
use Rattle.raster.specs.Frame.{drawable}
use Rattle.raster.specs.Paint.{recolour_from, paint}
use Rattle.player.specs.declared.Verdict.{Verdict}
use Rattle.player.specs.Reply.{Got}
use Rattle.player.specs.Player.{fault, Outcome, refused, LeavesUnstopped, OnlyRefusalsStop}
use Rattle.player.specs.Run.{Answer, Told, runs}
use Rattle.player.specs.Pane.{Apart}
use Rattle.player.specs.Mixing.{Callable, one, two, Mix, ones, twos, Mixed, mixed}
use Rattle.player.specs.Undisturbed.{Undisturbed}
use Rattle.player.specs.Hosted.{Request, answered, callable}
use Rattle.player.specs.Keeps.{Stays, Keeps}
use Rattle.player.specs.Stands.{LetsInLess, EndsStopped, Stands}
use Rattle.player.specs.Slices.{call, Steady, sliced}
use Rattle.player.specs.Toy.{Env, west, east, brush, pen, toy, toys}
use Rattle.player.proofs.Panes.{beside}
use Rattle.player.proofs.Hosts
use Rattle.player.proofs.Stands.{stands}
use Rattle.player.proofs.Slices.{slices}

abbrev pub brushes : Callable
brushes = callable (toys brush)

abbrev pub pens : Callable
pens = callable (toys pen)

-- ---- both keep to their panes
abbrev bounds_of : Env → Bounds
bounds_of e = e.frame.bounds

toy-keeps : (word : ℕ → Env → Outcome Env) → ((n : ℕ) (e : Env) → Stays bounds_of e (word n e)) → (w : List ℕ) → Keeps bounds_of (toy word w)
toy-keeps word h w =
    record { steps = λ e. stays (leb (length w) e.at) e (word (get_or w e.at 0) e) (h (get_or w e.at 0) e); stops = λ v e. refl }
  where
    stays : (b : Bool) (e : Env) (o : Outcome Env) → Stays bounds_of e o → Stays bounds_of e (cond b (refused (fault 20 (record { 0 = e.at }))) o)
    stays true e o h = tt
    stays false e o h = h

brush-stays : (n : ℕ) (e : Env) → Stays bounds_of e (brush n e)
brush-stays zero e = (refl, refl)
brush-stays (suc zero) e = (refl, refl)
brush-stays (suc (suc n)) e = (refl, refl)

pen-stays : (n : ℕ) (e : Env) → Stays bounds_of e (pen n e)
pen-stays n e = (refl, refl)

-- ---- the one pane ends at column 1, the other begins at column 2
apart : Apart west.frame.bounds east.frame.bounds
apart = beside west.frame.bounds east.frame.bounds refl (omega arith)

pub undisturbed : (s : List ℕ) (m : Mix brushes pens) → Undisturbed brushes pens m west east s (mixed brushes pens m west east s)
undisturbed s m = Hosts.undisturbed (toys brush) (toys pen) (toy-keeps brush brush-stays) (toy-keeps pen pen-stays) west east apart s m

pub any_order : (s : List ℕ) (m n : Mix brushes pens) → ones m ≡ ones n → twos m ≡ twos n → mixed brushes pens m west east s ≡ mixed brushes pens n west east s
any_order s m n p q = Hosts.any_order (toys brush) (toys pen) (toy-keeps brush brush-stays) (toy-keeps pen pen-stays) west east apart s m n p q

-- ---- one mixing
abbrev pub ask : List ℕ → ℕ → Request (List ℕ)
ask w n = record { list = w; budget = n }

abbrev pub blank : List ℕ
blank = replicate 15 0

-- the brush fills with 7 and is out of budget; the pen sets three dots, of which one lies in its pane, and does not see the end of its list behind its
-- budget, then sees it, then is refused at the door, then answers as it was stopped; the brush goes on, and ends
abbrev calls : Mix brushes pens
calls =
    one (ask (7 ∷ 1 ∷ 8 ∷ 0 ∷ []) 1)
    ∷ two (ask (0 ∷ 1 ∷ 2 ∷ []) 3)
    ∷ two (ask (0 ∷ 1 ∷ 2 ∷ []) 9)
    ∷ two (ask [] 1000001)
    ∷ two (ask [] 1)
    ∷ one (ask (7 ∷ 1 ∷ 8 ∷ 0 ∷ []) 9)
    ∷ []

-- number and steps of each call
abbrev tolds : List (Got Env Told) → List (ℕ × ℕ)
tolds [] = []
tolds (g ∷ gs) = (g.told.verdict.number, g.told.steps) ∷ tolds gs

abbrev shown : Mixed brushes pens → List (ℕ × ℕ) × List (ℕ × ℕ) × List ℕ
shown x = (tolds x.got₁, tolds x.got₂, x.screen)

pub played : shown (mixed brushes pens calls west east blank)
    ≡ ((1, 1) ∷ (0, 3) ∷ [], (1, 3) ∷ (20, 0) ∷ (14, 0) ∷ (20, 0) ∷ [], 8 ∷ 8 ∷ 0 ∷ 0 ∷ 0 ∷ 8 ∷ 8 ∷ 0 ∷ 0 ∷ 0 ∷ 8 ∷ 8 ∷ 9 ∷ 0 ∷ 0 ∷ [])
unfolding mixed answered runs paint drawable recolour_from
played = refl

-- ---- demand 1: the pen refuses a word past its list's end
lets-in-less : LetsInLess (toys pen)
lets-in-less q e bytes k l h = less (eqb bytes (e.frame.bounds.height * e.frame.bounds.width)) h
  where
    allowed : (t : Bool) → ◌≡◌ {A = ℕ} (cond t 14 0) 0 → t ≡ false
    allowed true h = absurd (omega (arith, h))
    allowed false h = refl

    less : (t : Bool) → ◌≡◌ {A = ℕ} (cond t (cond (ltb 1000000 q.budget) 14 0) 11) 0 → ◌≡◌ {A = ℕ} (cond t (cond (ltb 1000000 k) 14 0) 11) 0
    less true h = let m = ltb-false 1000000 q.budget (allowed _ h) in rw (le-ltb 1000000 k (omega arith))
    less false h = h

only-refusals-stop : (w : List ℕ) → OnlyRefusalsStop (toy pen w)
only-refusals-stop w e h = by (leb (length w) e.at)
  where
    by : (t : Bool) → LeavesUnstopped (toy pen w) (cond t (refused (fault 20 (record { 0 = e.at }))) (pen (get_or w e.at 0) e))
    by true = tt
    by false = tt

-- three dots stand, and the end of the list is refused, where the fourth word was due
abbrev ended : Verdict
ended = fault 20 (record { 0 = 3 })

past_the_end : EndsStopped (toys pen) (ask (0 ∷ 1 ∷ 2 ∷ []) 9) east blank ended
unfolding answered runs
past_the_end = record { entered = refl; began = refl; stopped = refl }

pub dots-stand : Stands (toy pen (0 ∷ 1 ∷ 2 ∷ [])) ended (answered (toys pen) (ask (0 ∷ 1 ∷ 2 ∷ []) 9) east blank)
    (answered (toys pen) (ask (0 ∷ 1 ∷ 2 ∷ []) 3) east blank)
unfolding answered runs
dots-stand = stands (toys pen) lets-in-less (λ w v e. refl) only-refusals-stop (ask (0 ∷ 1 ∷ 2 ∷ []) 9) east blank ended past_the_end

-- ---- slices: the brush's door is steady, so it may be cut
brush-steady : Steady (toys brush)
brush-steady =
    let o = Hosts.hosted-obeys (toys brush) (toy-keeps brush brush-stays) in
    record {
      budgets = λ w a b e bytes h k. rw (le-ltb 1000000 a h, le-ltb 1000000 b k);
      again = λ w b e s h. rw (o.long (ask w b) e s, o.keeps (ask w b) e s) h;
    }

abbrev filling : List ℕ
filling = 7 ∷ 1 ∷ 8 ∷ 0 ∷ []

pub cut : sliced (toys brush) filling 1 (0 ∷ 2 ∷ 9 ∷ []) west blank ≡ call (toys brush) filling 12 west blank
cut = slices (toys brush) brush-steady (λ w v e. refl) filling 1 (0 ∷ 2 ∷ 9 ∷ []) west blank (omega arith)

-- number, steps and screen
abbrev told : Answer Env → ℕ × ℕ × List ℕ
told a = (a.verdict.number, a.steps, a.screen)

pub cut-played : told (sliced (toys brush) filling 1 (0 ∷ 2 ∷ 9 ∷ []) west blank) ≡ (0, 4, 8 ∷ 8 ∷ 0 ∷ 0 ∷ 0 ∷ 8 ∷ 8 ∷ 0 ∷ 0 ∷ 0 ∷ 8 ∷ 8 ∷ 0 ∷ 0 ∷ 0 ∷ [])
unfolding sliced answered runs paint drawable recolour_from
cut-played = refl
