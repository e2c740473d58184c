-- Every player that keeps to its pane obeys the laws, behind any door; so demand 3 holds for any two.
use mathlib.Core.Path.{◌≡◌, refl, ◌∙◌}
use mathlib.Core.List.{List, []}
use Prim.Native.Nat.{ℕ, zero, suc}
use lib.ListN.{length}
use Rattle.raster.specs.declared.frame.Bounds.{Bounds}
use Rattle.player.specs.declared.State.{State}
use Rattle.player.specs.declared.State.TheVariants.{Running, Ended, Stopped}
use Rattle.player.specs.Painting.{Painting}
use Rattle.player.specs.Player.{Outcome, done, refused, Player}
use Rattle.player.specs.Run.{Told, got, reply, Done, paintings, runs, traced, trace}
use Rattle.player.specs.Pane.{Apart}
use Rattle.player.specs.Mixing.{Mix, ones, twos, mixed}
use Rattle.player.specs.Obeys.{Obeys}
use Rattle.player.specs.Undisturbed.{Undisturbed}
use Rattle.player.specs.Drawing.{Drawing, carried_out, Inside}
use Rattle.player.specs.Hosted.{Hosted, behind, answered, callable}
use Rattle.player.specs.Keeps.{Stays, Keeps}
use Rattle.player.proofs.Runs.{is-traced, Leaves, invariant}
use Rattle.player.proofs.Unsteered.{blind}
use Rattle.player.proofs.Drawings.{obeys}
use Rattle.player.proofs.Mixes

-- ---- a call to which the door says n only draws
module _ {E : Type 0} (P : Player E) where
  abbrev call-paints : ℕ → ℕ → E → List Painting
  call-paints zero budget e = paintings (trace P budget e)
  call-paints (suc n) budget e = []

  -- what is got over any screen is what is got over none
  abbrev drawing : ℕ → ℕ → E → Drawing E Told
  drawing n budget e = record { got = got (behind n P budget e []); paintings = call-paints n budget e }

  is-drawing : (n budget : ℕ) (e : E) (s : List ℕ) → reply (behind n P budget e s) ≡ carried_out (drawing n budget e) s
  is-drawing zero budget e s = λ i. record { got = blind P budget e s [] 0 i; screen = (is-traced P budget e s 0).screen i }
  is-drawing (suc n) budget e s = refl

-- ---- it paints inside the pane, and keeps it
module _ {E : Type 0} (bounds : E → Bounds) (P : Player E) (K : Keeps bounds P) where
  inside-turn : (q : State) (o : Outcome E) (e : E) (more : E → List (Done E)) → Stays bounds e o
      → ((e' : E) → Inside (bounds e') (paintings (more e'))) → Inside (bounds e) (paintings (traced P q o e more))
  inside-turn Ended o e more h f = tt
  inside-turn (Stopped v) o e more h f = tt
  inside-turn Running (refused v) e more h f = tt
  inside-turn Running (done e' p) e more h f = (h.0, rw h.1 at (f e'))

  pub trace-inside : (left : ℕ) (e : E) → Inside (bounds e) (paintings (trace P left e))
  unfolding trace
  trace-inside zero e = tt
  trace-inside (suc left) e = inside-turn (P.state e) (P.step e) e (λ e'. trace P left e') (K.steps e) (λ e'. trace-inside left e')

  call-inside : (n budget : ℕ) (e : E) → Inside (bounds e) (call-paints P n budget e)
  call-inside zero budget e = trace-inside budget e
  call-inside (suc n) budget e = tt

  run-keeps : (left : ℕ) (e : E) (s : List ℕ) (k : ℕ) → bounds (runs P left e s k).env ≡ bounds e
  run-keeps left e s k = invariant P (λ x. bounds x ≡ bounds e) (λ x h. leaves x (P.step x) (K.steps x) h) left e s k refl
    where
      leaves : (x : E) (o : Outcome E) → Stays bounds x o → bounds x ≡ bounds e → Leaves P (λ y. bounds y ≡ bounds e) x o
      leaves x (done y p) h g = h.1 ∙ g
      leaves x (refused v) h g = K.stops v x ∙ g

  call-keeps : (n budget : ℕ) (e : E) → bounds (behind n P budget e []).env ≡ bounds e
  call-keeps zero budget e = run-keeps budget e [] 0
  call-keeps (suc n) budget e = refl

pub hosted-obeys : (H : Hosted) → ((w : H.Words) → Keeps H.bounds (H.player w)) → Obeys (callable H)
unfolding answered
hosted-obeys H K =
    obeys (callable H)
    (record {
      drawing = λ q e l. drawing (H.player q.list) (H.door q e l) q.budget e;
      is = λ q e s. is-drawing (H.player q.list) (H.door q e (length s)) q.budget e s;
      inside = λ q e l. call-inside H.bounds (H.player q.list) (K q.list) (H.door q e l) q.budget e;
      keeps = λ q e l. call-keeps H.bounds (H.player q.list) (K q.list) (H.door q e l) q.budget e;
    })

-- ---- demand 3
module _ (G H : Hosted) (KG : (w : G.Words) → Keeps G.bounds (G.player w)) (KH : (w : H.Words) → Keeps H.bounds (H.player w))
    (a : G.Env) (b : H.Env) (apart : Apart (G.bounds a) (H.bounds b)) (s : List ℕ) where
  pub undisturbed : (m : Mix (callable G) (callable H)) → Undisturbed (callable G) (callable H) m a b s (mixed (callable G) (callable H) m a b s)
  undisturbed m = Mixes.undisturbed (callable G) (callable H) (hosted-obeys G KG) (hosted-obeys H KH) a b apart s m

  pub any_order : (m n : Mix (callable G) (callable H)) → ones m ≡ ones n → twos m ≡ twos n
      → mixed (callable G) (callable H) m a b s ≡ mixed (callable G) (callable H) n a b s
  any_order m n p q = Mixes.any_order (callable G) (callable H) (hosted-obeys G KG) (hosted-obeys H KH) a b apart s m n p q
