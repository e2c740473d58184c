-- The laws of a call that keeps to its pane.
use Rattle.std.specs.Prelude.{ℕ, ◌<◌, ◌≡◌, List, T, length, get_or}
use Rattle.raster.specs.declared.frame.Bounds.{Bounds}
use Rattle.player.specs.Pane.{of_pane, Alike}
use Rattle.player.specs.Reply.{Reply}
use Rattle.player.specs.Mixing.{Callable}

-- two replies that a side with the pane of p cannot tell apart
pub record Indistinct {E I : Type 0} (p : Bounds) (x y : Reply E I) : Type 0 where
  pub got : x.got ≡ y.got
  pub pane : Alike p x.screen y.screen

pub record Obeys (A : Callable) : Type 0 where
  -- no byte is added or lost
  pub long : (q : A.Request) (e : A.Env) (s : List ℕ) → length (A.call q e s).screen ≡ length s
  -- no byte outside the pane changes
  pub outside : (q : A.Request) (e : A.Env) (s : List ℕ) (k : ℕ) → k < length s → (T (of_pane (A.bounds e) k) → ⊥)
      → get_or (A.call q e s).screen k 0 ≡ get_or s k 0
  -- no byte outside the pane is looked at
  pub blind : (q : A.Request) (e : A.Env) (s t : List ℕ) → Alike (A.bounds e) s t → Indistinct (A.bounds e) (A.call q e s) (A.call q e t)
  -- the environment that comes back has the same size and pane
  pub keeps : (q : A.Request) (e : A.Env) (s : List ℕ) → A.bounds (A.call q e s).got.env ≡ A.bounds e
