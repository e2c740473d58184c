-- Two sides that call over one screen, each with an environment of its own: their calls mixed, and the calls of one side alone.
use Rattle.std.specs.Prelude.{ℕ, List, [], ◌∷◌}
use Rattle.raster.specs.declared.frame.Bounds.{Bounds}
use Rattle.player.specs.Reply.{Got, Reply}

-- what a side can call: the environment that it hands on from call to call, what it asks, what it is told, the bounds of an environment, and the call,
-- its door included
pub record Callable : Type 1 where
  pub Env : Type 0
  pub Request : Type 0
  pub Told : Type 0
  pub bounds : Env → Bounds
  pub call : Request → Env → List ℕ → Reply Env Told

-- what a side that calls alone has in the end: what it got of each call, and the screen
pub record Alone (A : Callable) : Type 0 where
  pub got : List (Got A.Env A.Told)
  pub screen : List ℕ

-- the calls of one side alone: each is given the environment and the screen that the one before left
unfoldable pub alone : (A : Callable) → List A.Request → A.Env → List ℕ → Alone A
alone A [] e s = record { got = []; screen = s }
alone A (q ∷ qs) e s =
    let r = A.call q e s in
    let x = alone A qs r.got.env r.screen in
    record { got = r.got ∷ x.got; screen = x.screen }

-- a call of the one side or of the other
pub data Call (Q R : Type 0) : Type 0 where
  one : Q → Call Q R
  two : R → Call Q R

-- however calls are mixed: any calls, one after the other
abbrev pub Mix : Callable → Callable → Type 0
Mix A B = List (Call A.Request B.Request)

-- the calls of each side, in their order
abbrev pub ones : {Q R : Type 0} → List (Call Q R) → List Q
ones [] = []
ones (one q ∷ m) = q ∷ ones m
ones (two r ∷ m) = ones m

abbrev pub twos : {Q R : Type 0} → List (Call Q R) → List R
twos [] = []
twos (one q ∷ m) = twos m
twos (two r ∷ m) = r ∷ twos m

-- what there is in the end: what each side got of each of its calls, and the one screen
pub record Mixed (A B : Callable) : Type 0 where
  pub got₁ : List (Got A.Env A.Told)
  pub got₂ : List (Got B.Env B.Told)
  pub screen : List ℕ

-- x, before which the one side or the other got g
abbrev pub one_got : (A B : Callable) → Got A.Env A.Told → Mixed A B → Mixed A B
one_got A B g x = record { got₁ = g ∷ x.got₁; got₂ = x.got₂; screen = x.screen }

abbrev pub two_got : (A B : Callable) → Got B.Env B.Told → Mixed A B → Mixed A B
two_got A B g x = record { got₁ = x.got₁; got₂ = g ∷ x.got₂; screen = x.screen }

-- the mixed calls: each is given the environment that its side last got back, and the screen as the last call of either side left it
unfoldable pub mixed : (A B : Callable) → Mix A B → A.Env → B.Env → List ℕ → Mixed A B
mixed A B [] a b s = record { got₁ = []; got₂ = []; screen = s }
mixed A B (one q ∷ m) a b s = let r = A.call q a s in one_got A B r.got (mixed A B m r.got.env b r.screen)
mixed A B (two q ∷ m) a b s = let r = B.call q b s in two_got A B r.got (mixed A B m a r.got.env r.screen)
