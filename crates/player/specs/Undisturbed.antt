-- Demand 3: what a mixing leaves is, for each side, as if the other were not there.
use Rattle.std.specs.Prelude.{ℕ, ◌<◌, ◌≡◌, List, T, length, get_or}
use Rattle.player.specs.Pane.{of_pane, Alike}
use Rattle.player.specs.Mixing.{Callable, Alone, alone, Mix, ones, twos, Mixed}

-- x is left of calls that began with the environments a and b and the screen s, and y and z are what the two sides have alone
pub record AsAlone (A B : Callable) (a : A.Env) (b : B.Env) (s : List ℕ) (x : Mixed A B) (y : Alone A) (z : Alone B) : Type 0 where
  -- each side gets the answers, steps and environments that it would get alone
  pub got₁ : x.got₁ ≡ y.got
  pub got₂ : x.got₂ ≡ z.got
  -- each pane ends as its side's calls alone leave it
  pub pane₁ : Alike (A.bounds a) x.screen y.screen
  pub pane₂ : Alike (B.bounds b) x.screen z.screen
  -- no byte outside the panes changes, and none is added or lost
  pub others : (k : ℕ) → k < length s → (T (of_pane (A.bounds a) k) → ⊥) → (T (of_pane (B.bounds b) k) → ⊥) → get_or x.screen k 0 ≡ get_or s k 0
  pub long : length x.screen ≡ length s

-- x is left of the mixing m, and neither side was disturbed
abbrev pub Undisturbed : (A B : Callable) → Mix A B → A.Env → B.Env → List ℕ → Mixed A B → Type 0
Undisturbed A B m a b s x = AsAlone A B a b s x (alone A (ones m) a s) (alone B (twos m) b s)
