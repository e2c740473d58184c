-- A call that only draws: the bytes of the screen do not steer it, and it paints inside its pane.
use Rattle.std.specs.Prelude.{ℕ, ◌≡◌, List, [], ◌∷◌, length}
use Rattle.raster.specs.declared.frame.Bounds.{Bounds}
use Rattle.player.specs.Painting.{Painting, drawn}
use Rattle.player.specs.Reply.{Got, Reply}
use Rattle.player.specs.Mixing.{Callable}

-- what is got of such a call, and what it paints, in order
pub record Drawing (E I : Type 0) : Type 0 where
  pub got : Got E I
  pub paintings : List Painting

abbrev pub carried_out : {E I : Type 0} → Drawing E I → List ℕ → Reply E I
carried_out d s = record { got = d.got; screen = drawn d.paintings s }

-- each painting is by a frame of this size and pane
abbrev pub Inside : Bounds → List Painting → Type 0
Inside p [] = Unit {0}
Inside p (x ∷ xs) = (x.frame.bounds ≡ p) × Inside p xs

-- request, environment and length of the screen say what is drawn
pub record Draws (A : Callable) : Type 0 where
  pub drawing : A.Request → A.Env → ℕ → Drawing A.Env A.Told
  pub is : (q : A.Request) (e : A.Env) (s : List ℕ) → A.call q e s ≡ carried_out (drawing q e (length s)) s
  pub inside : (q : A.Request) (e : A.Env) (n : ℕ) → Inside (A.bounds e) (drawing q e n).paintings
  pub keeps : (q : A.Request) (e : A.Env) (n : ℕ) → A.bounds (drawing q e n).got.env ≡ A.bounds e
