-- Slices of the program itself: of any calls that kept `rules.Door.Promise`, whoever made them.
use Prim.Native.Nat.{ℕ, ◌+◌, ◌≤◌}
use mathlib.Core.Path.{◌≡◌, sym, ap, ◌∙◌}
use mathlib.Core.List.{List, ◌∷◌}
use Rattle.player.specs.Player.{fault}
use Rattle.player.specs.Run.{Answer, answer}
use Rattle.player.specs.Pane.{Apart}
use Rattle.player.specs.Mixing.{ones, twos, Mixed}
use Rattle.player.specs.Hosted.{callable}
use Rattle.player.specs.Slices.{sum, EachAllowed, after, Sliced}
use Rattle.player.specs.InTurns.{asks, AsOnce}
use Rattle.player.proofs.Slices as Player
use Rattle.rules.specs.declared.environment.Env as Held
use Rattle.rules.specs.declared.answer.Answer as Came
use Rattle.rules.specs.Environment.{Env, held}
use Rattle.rules.specs.Door.{machine, whole, Promise}
use Rattle.rules.proofs.Slices as Rules
use Rattle.rules.proofs.Unique.{Agree, agree, unique}
use Rattle.run.proofs.Sides.{running, Calls, Left, answers, undisturbed}

-- x, with the screen t, is what calls with the budget b and then each of bs came to: the last answer, with the steps of all
abbrev pub InSlices : List ℕ → List ℕ → Held.Env → ℕ → List ℕ → Came.Answer → List ℕ → Type 0
InSlices w s e b bs x t = Sliced machine running w b bs e s (answer (fault x.number x.place) x.env t x.steps)

module _ (w s : List ℕ) (e : Held.Env) where
  -- two calls: the second's answer with the steps of both keeps the promise of the one at once
  pub cut-in-two : (a b : ℕ) (x y : Came.Answer) (t u : List ℕ) → a + b ≤ 1000000 → Promise w s e a x t → Promise w t x.env b y u
      → Promise w s e (a + b) (record { number = y.number; place = y.place; env = y.env; steps = x.steps + y.steps }) u
  cut-in-two a b x y t u allowed p q =
      ap (after x.steps) q
      ∙ (ap (λ (z : Answer Env). after z.steps (whole w z.screen z.env b)) p ∙ sym (Rules.cut-in-two w s (held e) a b allowed))

  -- an answer other than 1 keeps the promise under any larger budget that is allowed
  pub stays : (a b : ℕ) (x : Came.Answer) (t : List ℕ) → a ≤ b → b ≤ 1000000 → (x.number ≡ 1 → ⊥) → Promise w s e a x t → Promise w s e b x t
  stays a b x t more allowed n p =
      p ∙ sym (Rules.stays w s (held e) a b more allowed (λ z. n (ap (λ (y : Answer Env). y.verdict.number) p ∙ z)))

  -- what any slices came to keeps the promise of their sum at once
  pub slices : (b : ℕ) (bs : List ℕ) (x : Came.Answer) (t : List ℕ) → sum b bs ≤ 1000000 → InSlices w s e b bs x t → Promise w s e (sum b bs) x t
  slices b bs x t allowed h = Player.kept machine running w b bs e s _ h ∙ Rules.slices w s (held e) b bs allowed

  -- so it agrees with the one call in number, place, environment, screen and steps
  pub at_once : (b : ℕ) (bs : List ℕ) (x y : Came.Answer) (t u : List ℕ) → sum b bs ≤ 1000000 → InSlices w s e b bs x t → Promise w s e (sum b bs) y u
      → Agree x y t u
  at_once b bs x y t u allowed h p = unique w s e (sum b bs) x y t u (slices b bs x t allowed h) p

  -- and what two cuts of one sum came to agrees, also where the sum is above 1,000,000
  pub any-cut : (b : ℕ) (bs : List ℕ) (c : ℕ) (cs : List ℕ) (x y : Came.Answer) (t u : List ℕ) → EachAllowed b bs → EachAllowed c cs → sum b bs ≡ sum c cs
      → InSlices w s e b bs x t → InSlices w s e c cs y u → Agree x y t u
  any-cut b bs c cs x y t u h k same p q =
      agree x y t u
      (Player.kept machine running w b bs e s _ p ∙ (Rules.any-cut w s (held e) b bs c cs h k same ∙ sym (Player.kept machine running w c cs e s _ q)))

  -- whatever slices are asked for, something comes of them
  pub some-slices : (b : ℕ) (bs : List ℕ) → (x : Answer Held.Env) × InSlices w s e b bs (record { number = x.verdict.number; place = x.verdict.place; env = x.env; steps = x.steps }) x.screen
  some-slices b bs = Player.some-sliced machine running w answers b bs e s

-- ---- two lists that take turns, each in slices of one budget, by calls that kept the promise
pub in_turns : (d e : Held.Env) → Apart d.bounds e.bounds → (s v : List ℕ) (b : ℕ) (bs w : List ℕ) (c : ℕ) (cs : List ℕ)
    → sum b bs ≤ 1000000 → sum c cs ≤ 1000000 → (m : Calls) → ones m ≡ asks v (b ∷ bs) → twos m ≡ asks w (c ∷ cs)
    → (x : Mixed (callable machine) (callable machine)) → Left m d e s x
    → AsOnce machine v (sum b bs) (held d) s x.got₁ x.screen × AsOnce machine w (sum c cs) (held e) s x.got₂ x.screen
in_turns d e apart s v b bs w c cs h k m p q x l = Rules.in_turns v b bs w c cs h k m p q (held d) (held e) s x (undisturbed d e apart s m x l)
