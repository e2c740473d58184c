-- However a budget is cut into slices, what comes of it is what comes of it at once; and an answer other than 1 stays. For any player behind a steady door,
-- and for a program of which only its promise is known.
use Prim.Native.Nat.{ℕ, zero, suc, ◌+◌, ◌≤◌}
use mathlib.Core.Path.{◌≡◌, refl, sym, ap, ◌∙◌}
use mathlib.Core.List.{List, [], ◌∷◌}
use native.Mathlib.Omega.{arith}
use lib.ListN.{length}
use Rattle.player.specs.declared.Verdict.{Verdict}
use Rattle.player.specs.declared.State.TheVariants.{Ended, Stopped}
use Rattle.player.specs.Player.{verdict, Player, Stops}
use Rattle.player.specs.Reply.{Reply}
use Rattle.player.specs.Run.{Answer, answer, Told, runs}
use Rattle.player.specs.Promised.{Promised, Answers}
use Rattle.player.specs.Hosted.{Hosted, behind, answered, callable}
use Rattle.player.specs.Slices.{Allowed, call, says, Steady, sum, EachAllowed, after, sliced, Sliced, Repeats}
use Rattle.player.proofs.Runs
use Rattle.player.proofs.Budgets.{split, larger}
use Rattle.player.proofs.Doors.{refused-whole, run-whole}

-- ---- where the sum is allowed, each slice is
each : (b : ℕ) (bs : List ℕ) → Allowed (sum b bs) → EachAllowed b bs
each b [] h = h
each b (c ∷ bs) h = (omega (arith, h), each c bs (omega (arith, h)))

first-allowed : (b : ℕ) (bs : List ℕ) → EachAllowed b bs → Allowed b
first-allowed b [] h = h
first-allowed b (c ∷ bs) h = h.0

module _ (H : Hosted) (steady : Steady H) (stops : (w : H.Words) → Stops (H.player w)) (w : H.Words) where
  abbrev P : Player H.Env
  P = H.player w

  -- ---- behind a door that says d to all of them
  cut-behind : (d a n : ℕ) (e : H.Env) (s : List ℕ)
      → let x = behind d P a e s in behind d P (a + n) e s ≡ after x.steps (behind d P n x.env x.screen)
  cut-behind zero a n e s = split P (stops w) a n e s 0
  cut-behind (suc d) a n e s = refl

  larger-behind : (d a b : ℕ) (e : H.Env) (s : List ℕ) → a ≤ b → ((behind d P a e s).verdict.number ≡ 1 → ⊥) → behind d P b e s ≡ behind d P a e s
  larger-behind zero a b e s l n = larger P (stops w) a b e s 0 l n
  larger-behind (suc d) a b e s l n = refl

  -- and it does say the same to the second slice as to the first
  same-door : (a b : ℕ) (e : H.Env) (s : List ℕ) → Allowed a → Allowed b
      → let x = call H w a e s in says H w b x.env (length x.screen) ≡ says H w a e (length s)
  same-door a b e s h k = by (says H w a e (length s)) refl
    where
      by : (d : ℕ) → d ≡ says H w a e (length s) → let x = call H w a e s in says H w b x.env (length x.screen) ≡ says H w a e (length s)
      by zero is = let x = call H w a e s in steady.budgets w b a x.env (length x.screen) k h ∙ (steady.again w a e s (sym is) ∙ is)
      by (suc d) is =
          ap (λ (x : Answer H.Env). says H w b x.env (length x.screen)) (sym (refused-whole H (record { list = w; budget = a }) e s (suc d) is (λ z. omega (arith, z))))
          ∙ steady.budgets w b a e (length s) k h

  -- ---- any slices, also where their sum is above what one call may have
  in-slices : (b : ℕ) (bs : List ℕ) (e : H.Env) (s : List ℕ) → EachAllowed b bs → sliced H w b bs e s ≡ behind (says H w b e (length s)) P (sum b bs) e s
  unfolding sliced answered
  in-slices b [] e s h = refl
  in-slices b (c ∷ bs) e s h =
      let x = call H w b e s in
      ap (after x.steps)
      (in-slices c bs x.env x.screen h.1
      ∙ ap (λ (d : ℕ). behind d P (sum c bs) x.env x.screen) (same-door b c e s h.0 (first-allowed c bs h.1)))
      ∙ sym (cut-behind (says H w b e (length s)) b (sum c bs) e s)

  -- the door is asked with whichever budget is allowed
  with-any : (c b : ℕ) (bs : List ℕ) (e : H.Env) (s : List ℕ) → Allowed c → EachAllowed b bs
      → sliced H w b bs e s ≡ behind (says H w c e (length s)) P (sum b bs) e s
  with-any c b bs e s k h =
      in-slices b bs e s h ∙ ap (λ (d : ℕ). behind d P (sum b bs) e s) (steady.budgets w b c e (length s) (first-allowed b bs h) k)

  -- two cuts of one sum come to the same
  pub any-cut : (b : ℕ) (bs : List ℕ) (c : ℕ) (cs : List ℕ) (e : H.Env) (s : List ℕ) → EachAllowed b bs → EachAllowed c cs → sum b bs ≡ sum c cs
      → sliced H w b bs e s ≡ sliced H w c cs e s
  any-cut b bs c cs e s h k same =
      with-any c b bs e s (first-allowed c cs k) h
      ∙ (ap (λ (n : ℕ). behind (says H w c e (length s)) P n e s) same ∙ sym (in-slices c cs e s k))

  -- slices that have come to another number than 1 have come to what any come to that are more together
  pub stays-sliced : (b : ℕ) (bs : List ℕ) (c : ℕ) (cs : List ℕ) (e : H.Env) (s : List ℕ) → EachAllowed b bs → EachAllowed c cs → sum b bs ≤ sum c cs
      → ((sliced H w b bs e s).verdict.number ≡ 1 → ⊥) → sliced H w c cs e s ≡ sliced H w b bs e s
  stays-sliced b bs c cs e s h k more n =
      let is = with-any c b bs e s (first-allowed c cs k) h in
      in-slices c cs e s k
      ∙ (larger-behind (says H w c e (length s)) (sum b bs) (sum c cs) e s more (λ z. n (ap (λ (x : Answer H.Env). x.verdict.number) is ∙ z)) ∙ sym is)

  -- ---- beside one call
  -- a budget that is allowed, cut into any slices, comes to what it comes to at once
  pub slices : (b : ℕ) (bs : List ℕ) (e : H.Env) (s : List ℕ) → Allowed (sum b bs) → sliced H w b bs e s ≡ call H w (sum b bs) e s
  unfolding sliced
  slices b bs e s h = any-cut b bs (sum b bs) [] e s (each b bs h) h refl

  -- cut in two: the number, environment and screen of the second call, and the steps of both
  pub cut-in-two : (a b : ℕ) (e : H.Env) (s : List ℕ) → Allowed (a + b)
      → let x = call H w a e s in call H w (a + b) e s ≡ after x.steps (call H w b x.env x.screen)
  unfolding sliced
  cut-in-two a b e s h = sym (slices a (b ∷ []) e s h)

  -- an answer other than 1 stays the same, whole, under any larger budget that is allowed
  pub stays : (a b : ℕ) (e : H.Env) (s : List ℕ) → a ≤ b → Allowed b → ((call H w a e s).verdict.number ≡ 1 → ⊥) → call H w b e s ≡ call H w a e s
  unfolding sliced
  stays a b e s more h n = stays-sliced a [] b [] e s (omega (arith, more, h)) h more n

  -- ---- calls that change nothing: refused at the door, or of an environment that had ended or was stopped
  module _ (a b : ℕ) (e : H.Env) (s : List ℕ) (allowed : Allowed (a + b)) where
    a-allowed : Allowed a
    a-allowed = omega (arith, allowed)

    b-allowed : Allowed b
    b-allowed = omega (arith, allowed)

    repeats : (v : Verdict) → ((c : ℕ) → Allowed c → call H w c e s ≡ answer v e s 0) → Repeats H w a b e s v
    repeats v f =
        record {
          first = f a a-allowed;
          second = ap (λ (x : Answer H.Env). call H w b x.env x.screen) (f a a-allowed) ∙ f b b-allowed;
          at_once = f (a + b) allowed;
        }

    pub refused-twice : (n : ℕ) → (n ≡ 0 → ⊥) → n ≡ says H w (a + b) e (length s) → Repeats H w a b e s (verdict n)
    refused-twice n other is =
        repeats (verdict n)
        (λ c h. sym (refused-whole H (record { list = w; budget = c }) e s n (is ∙ steady.budgets w (a + b) c e (length s) allowed h) other))

    module _ (entered : says H w (a + b) e (length s) ≡ 0) where
      runs-each : (c : ℕ) → Allowed c → call H w c e s ≡ runs P c e s 0
      runs-each c h =
          sym (run-whole H (record { list = w; budget = c }) e s 0 (sym (steady.budgets w c (a + b) e (length s) h allowed ∙ entered)) refl)

      pub ended-twice : P.state e ≡ Ended → Repeats H w a b e s (verdict 0)
      ended-twice q = repeats (verdict 0) (λ c h. runs-each c h ∙ Runs.ended P c e s 0 q)

      pub stopped-twice : (v : Verdict) → P.state e ≡ Stopped v → Repeats H w a b e s v
      stopped-twice v q = repeats v (λ c h. runs-each c h ∙ Runs.stopped P c e s 0 v q)

-- ---- of a program: what its slices came to is what slices of the rules come to
-- the answer that a reply tells
abbrev told : {E : Type 0} → Reply E Told → Answer E
told r = answer r.got.told.verdict r.got.env r.screen r.got.told.steps

module _ (H : Hosted) (F : Promised (callable H)) (w : H.Words) where
  -- an answer of the program, in environments of the rules
  abbrev pub viewed : Answer F.Held → Answer H.Env
  viewed x = answer x.verdict (F.view x.env) x.screen x.steps

  true_to : (b : ℕ) (h : F.Held) (s : List ℕ) (x : Answer F.Held) → Sliced H F w b [] h s x → viewed x ≡ call H w b (F.view h) s
  true_to b h s x p = ap told (F.true_to _ h s _ p)

  pub kept : (b : ℕ) (bs : List ℕ) (h : F.Held) (s : List ℕ) (x : Answer F.Held) → Sliced H F w b bs h s x → viewed x ≡ sliced H w b bs (F.view h) s
  unfolding sliced
  kept b [] h s x p = true_to b h s x p
  kept b (c ∷ bs) h s x (y, p, z, q, is) =
      ap viewed is
      ∙ (ap (after y.steps) (kept c bs y.env y.screen z q)
      ∙ ap (λ (a : Answer H.Env). after a.steps (sliced H w c bs a.env a.screen)) (true_to b h s y p))

  -- and a program that answers comes to something
  some-call : Answers F → (b : ℕ) (h : F.Held) (s : List ℕ) → (x : Answer F.Held) × Sliced H F w b [] h s x
  some-call f b h s = let (r, p) = f (record { list = w; budget = b }) h s in (told r, p)

  pub some-sliced : Answers F → (b : ℕ) (bs : List ℕ) (h : F.Held) (s : List ℕ) → (x : Answer F.Held) × Sliced H F w b bs h s x
  some-sliced f b [] h s = some-call f b h s
  some-sliced f b (c ∷ bs) h s =
      let (y, p) = some-call f b h s in
      let (z, q) = some-sliced f c bs y.env y.screen in
      (after y.steps z, (y, p, z, q, refl))
