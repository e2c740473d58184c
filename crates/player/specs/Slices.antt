-- A budget cut into slices, of any player behind a door: the law that its door must keep, and what the slices come to.
use Rattle.std.specs.Prelude.{ℕ, ◌+◌, ◌≤◌, ◌≡◌, List, [], ◌∷◌, length}
use Rattle.player.specs.declared.Verdict.{Verdict}
use Rattle.player.specs.Run.{Answer, answer, reply}
use Rattle.player.specs.Promised.{Promised}
use Rattle.player.specs.Hosted.{Hosted, answered, callable}

-- a budget that a call may have
abbrev pub Allowed : ℕ → Type 0
Allowed b = b ≤ 1000000

-- a call with the list w and the budget b
abbrev pub call : (H : Hosted) → H.Words → ℕ → H.Env → List ℕ → Answer H.Env
call H w b e s = answered H (record { list = w; budget = b }) e s

-- what the door says to it; of the screen it is told the length
abbrev pub says : (H : Hosted) → H.Words → ℕ → H.Env → ℕ → ℕ
says H w b e bytes = H.door (record { list = w; budget = b }) e bytes

-- ---- the law of a door behind which slices are not seen
pub record Steady (H : Hosted) : Type 0 where
  -- it says the same number under every allowed budget
  pub budgets : (w : H.Words) (a b : ℕ) (e : H.Env) (bytes : ℕ) → Allowed a → Allowed b → says H w a e bytes ≡ says H w b e bytes
  -- what a call that it let in leaves, it lets in again
  pub again : (w : H.Words) (b : ℕ) (e : H.Env) (s : List ℕ) → says H w b e (length s) ≡ 0
      → let x = call H w b e s in says H w b x.env (length x.screen) ≡ 0

-- ---- slices: the budget b, and then each of bs
-- what they are together
abbrev pub sum : ℕ → List ℕ → ℕ
sum b [] = b
sum b (c ∷ bs) = b + sum c bs

abbrev pub EachAllowed : ℕ → List ℕ → Type 0
EachAllowed b [] = Allowed b
EachAllowed b (c ∷ bs) = Allowed b × EachAllowed c bs

-- an answer that comes after k steps of earlier ones
abbrev pub after : {E : Type 0} → ℕ → Answer E → Answer E
after k a = answer a.verdict a.env a.screen (k + a.steps)

-- a call for each slice, with the same list, given the environment and the screen that the one before left: the last number, environment and screen, and the
-- steps of all
unfoldable pub sliced : (H : Hosted) → H.Words → ℕ → List ℕ → H.Env → List ℕ → Answer H.Env
sliced H w b [] e s = call H w b e s
sliced H w b (c ∷ bs) e s = let x = call H w b e s in after x.steps (sliced H w c bs x.env x.screen)

-- the same of a program, of which it is known only that it kept its promise in each call: x is what the slices came to
abbrev pub Sliced : (H : Hosted) (F : Promised (callable H)) → H.Words → ℕ → List ℕ → F.Held → List ℕ → Answer F.Held → Type 0
Sliced H F w b [] h s x = F.Promise (record { list = w; budget = b }) h s (reply x)
Sliced H F w b (c ∷ bs) h s x =
    (y : Answer F.Held) × (F.Promise (record { list = w; budget = b }) h s (reply y))
    × (z : Answer F.Held) × (Sliced H F w c bs y.env y.screen z) × (x ≡ after y.steps z)

-- ---- two slices of which each answers v, changes nothing and takes no step, and so does the budget at once
pub record Repeats (H : Hosted) (w : H.Words) (a b : ℕ) (e : H.Env) (s : List ℕ) (v : Verdict) : Type 0 where
  pub first : call H w a e s ≡ answer v e s 0
  pub second : let x = call H w a e s in call H w b x.env x.screen ≡ answer v e s 0
  pub at_once : call H w (a + b) e s ≡ answer v e s 0
