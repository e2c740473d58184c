-- Two lists that take turns on one screen, each in slices of a budget: what each side got and its pane, beside one call alone.
use Rattle.std.specs.Prelude.{ℕ, ◌+◌, ◌≡◌, List, [], ◌∷◌}
use Rattle.player.specs.Reply.{Got}
use Rattle.player.specs.Run.{Told, got}
use Rattle.player.specs.Pane.{Alike}
use Rattle.player.specs.Hosted.{Request, Hosted}
use Rattle.player.specs.Slices.{call}

-- what a side asks for: one list, and a budget after the other
abbrev pub asks : {W : Type 0} → W → List ℕ → List (Request W)
asks w [] = []
asks w (b ∷ bs) = record { list = w; budget = b } ∷ asks w bs

-- what it got, taken together: the last number and environment, and the steps of all
abbrev pub together : {E : Type 0} → Got E Told → List (Got E Told) → Got E Told
together g [] = g
together g (h ∷ gs) =
    let t = together h gs in
    record { told = record { verdict = t.told.verdict; steps = g.told.steps + t.told.steps }; env = t.env }

abbrev pub Together : {E : Type 0} → List (Got E Told) → Got E Told → Type 0
Together [] y = ⊥
Together (g ∷ gs) y = together g gs ≡ y

-- gs, taken together, and the pane in t are as the one call with the budget b, alone on the screen s, leaves them
pub record AsOnce (H : Hosted) (w : H.Words) (b : ℕ) (e : H.Env) (s : List ℕ) (gs : List (Got H.Env Told)) (t : List ℕ) : Type 0 where
  pub got : Together gs (got (call H w b e s))
  pub pane : Alike (H.bounds e) t (call H w b e s).screen
