-- Two lists that take turns on one screen, each in slices: neither the slices nor the other list are seen.
use Prim.Native.Nat.{ℕ, ◌+◌}
use mathlib.Core.Path.{◌≡◌, refl, sym, ap, ◌∙◌, subst}
use mathlib.Core.List.{List, [], ◌∷◌}
use Rattle.player.specs.Player.{Stops}
use Rattle.player.specs.Reply.{Got}
use Rattle.player.specs.Run.{Answer, Told, got}
use Rattle.player.specs.Pane.{Alike}
use Rattle.player.specs.Mixing.{alone, Mix, ones, twos, Mixed}
use Rattle.player.specs.Undisturbed.{Undisturbed}
use Rattle.player.specs.Hosted.{Request, Hosted, callable}
use Rattle.player.specs.Slices.{Allowed, call, Steady, sum, sliced}
use Rattle.player.specs.InTurns.{asks, Together, AsOnce}
use Rattle.player.proofs.Slices.{slices}

module _ (H : Hosted) (w : H.Words) where
  -- ---- the calls of a side alone are its slices
  alone-got : (b : ℕ) (bs : List ℕ) (e : H.Env) (s : List ℕ) → Together (alone (callable H) (asks w (b ∷ bs)) e s).got (got (sliced H w b bs e s))
  unfolding alone sliced
  alone-got b [] e s = refl
  alone-got b (c ∷ bs) e s =
      let x = call H w b e s in
      ap (λ (t : Got H.Env Told). record { told = record { verdict = t.told.verdict; steps = x.steps + t.told.steps }; env = t.env }) (alone-got c bs x.env x.screen)

  alone-screen : (b : ℕ) (bs : List ℕ) (e : H.Env) (s : List ℕ) → (alone (callable H) (asks w (b ∷ bs)) e s).screen ≡ (sliced H w b bs e s).screen
  unfolding alone sliced
  alone-screen b [] e s = refl
  alone-screen b (c ∷ bs) e s = let x = call H w b e s in alone-screen c bs x.env x.screen

  -- ---- so what is as they are, is as the one call
  as-once : Steady H → ((w : H.Words) → Stops (H.player w)) → (b : ℕ) (bs : List ℕ) (e : H.Env) (s : List ℕ) (qs : List (Request H.Words))
      (gs : List (Got H.Env Told)) (t : List ℕ) → Allowed (sum b bs) → qs ≡ asks w (b ∷ bs) → gs ≡ (alone (callable H) qs e s).got
      → Alike (H.bounds e) t (alone (callable H) qs e s).screen → AsOnce H w (sum b bs) e s gs t
  as-once steady stops b bs e s qs gs t allowed is got-is pane-is =
      let once : sliced H w b bs e s ≡ call H w (sum b bs) e s = slices H steady stops w b bs e s allowed in
      record {
        got = subst (λ (l : List (Got H.Env Told)). Together l (got (call H w (sum b bs) e s))) (sym (got-is ∙ ap (λ (l : List (Request H.Words)). (alone (callable H) l e s).got) is)) (subst (λ (y : Answer H.Env). Together (alone (callable H) (asks w (b ∷ bs)) e s).got (got y)) once (alone-got b bs e s));
        pane = subst (λ (u : List ℕ). Alike (H.bounds e) t u) (ap (λ (l : List (Request H.Words)). (alone (callable H) l e s).screen) is ∙ (alone-screen b bs e s ∙ ap (λ (y : Answer H.Env). y.screen) once)) pane-is;
      }

-- both sides of an undisturbed mixing
pub in_turns : (G H : Hosted) → Steady G → Steady H → ((v : G.Words) → Stops (G.player v)) → ((w : H.Words) → Stops (H.player w))
    → (v : G.Words) (b : ℕ) (bs : List ℕ) (w : H.Words) (c : ℕ) (cs : List ℕ) → Allowed (sum b bs) → Allowed (sum c cs)
    → (m : Mix (callable G) (callable H)) → ones m ≡ asks v (b ∷ bs) → twos m ≡ asks w (c ∷ cs)
    → (d : G.Env) (e : H.Env) (s : List ℕ) (x : Mixed (callable G) (callable H)) → Undisturbed (callable G) (callable H) m d e s x
    → AsOnce G v (sum b bs) d s x.got₁ x.screen × AsOnce H w (sum c cs) e s x.got₂ x.screen
in_turns G H steady-G steady-H stops-G stops-H v b bs w c cs allowed-b allowed-c m one-asks two-asks d e s x u = (
  as-once G v steady-G stops-G b bs d s (ones m) x.got₁ x.screen allowed-b one-asks u.got₁ u.pane₁,
  as-once H w steady-H stops-H c cs e s (twos m) x.got₂ x.screen allowed-c two-asks u.got₂ u.pane₂,
)
