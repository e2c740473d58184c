-- Calls made by programs of which only their promises are known.
use Rattle.std.specs.Prelude.{ℕ, ◌≡◌, List, [], ◌∷◌}
use Rattle.player.specs.Reply.{Got, Reply}
use Rattle.player.specs.Mixing.{Callable, one, two, Mix, Mixed, one_got, two_got}

-- what is got of a program, in environments of the rules
abbrev pub viewed : {H E I : Type 0} → (H → E) → Got H I → Got E I
viewed view g = record { told = g.told; env = view g.env }

-- a program for a callable: what it holds for an environment, which environment that is, and a promise that only the callable's reply keeps
pub record Promised (A : Callable) : Type 1 where
  pub Held : Type 0
  pub view : Held → A.Env
  pub Promise : A.Request → Held → List ℕ → Reply Held A.Told → Type 0
  pub true_to : (q : A.Request) (h : Held) (s : List ℕ) (r : Reply Held A.Told) → Promise q h s r
      → record { got = viewed view r.got; screen = r.screen } ≡ A.call q (view h) s

-- whatever it is asked, the program has some reply that keeps its promise
abbrev pub Answers : {A : Callable} → Promised A → Type 0
Answers {A} F = (q : A.Request) (h : F.Held) (s : List ℕ) → (r : Reply F.Held A.Told) × F.Promise q h s r

-- x is left of a mixing of calls of two programs that kept their promises, whatever else they did
abbrev pub Happened : (A B : Callable) (F : Promised A) (G : Promised B) → Mix A B → F.Held → G.Held → List ℕ → Mixed A B → Type 0
Happened A B F G [] a b s x = x ≡ record { got₁ = []; got₂ = []; screen = s }
Happened A B F G (one q ∷ m) a b s x =
    (r : Reply F.Held A.Told) × (F.Promise q a s r) × (y : Mixed A B) × (Happened A B F G m r.got.env b r.screen y)
    × (x ≡ one_got A B (viewed F.view r.got) y)
Happened A B F G (two q ∷ m) a b s x =
    (r : Reply G.Held B.Told) × (G.Promise q b s r) × (y : Mixed A B) × (Happened A B F G m a r.got.env r.screen y)
    × (x ≡ two_got A B (viewed G.view r.got) y)
