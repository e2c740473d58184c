-- What programs that keep their promises do is the mixing of the rules, so demand 3 is true of it; and where they answer, they do something.
use mathlib.Core.Path.{◌≡◌, refl, sym, ap, ◌∙◌, subst}
use mathlib.Core.List.{List, [], ◌∷◌}
use Prim.Native.Nat.{ℕ}
use Rattle.player.specs.Pane.{Apart}
use Rattle.player.specs.Reply.{Reply}
use Rattle.player.specs.Mixing.{Callable, one, two, Mix, ones, twos, Mixed, mixed, one_got, two_got}
use Rattle.player.specs.Obeys.{Obeys}
use Rattle.player.specs.Undisturbed.{Undisturbed}
use Rattle.player.specs.Promised.{viewed, Promised, Answers, Happened}
use Rattle.player.proofs.Mixes.{undisturbed, same-calls}

module _ (A B : Callable) (F : Promised A) (G : Promised B) where
  pub happened : (m : Mix A B) (a : F.Held) (b : G.Held) (s : List ℕ) (x : Mixed A B) → Happened A B F G m a b s x
      → x ≡ mixed A B m (F.view a) (G.view b) s
  unfolding mixed
  happened [] a b s x h = h
  happened (one q ∷ m) a b s x h =
      let r = h.0 in
      h.4
      ∙ ap (one_got A B (viewed F.view r.got)) (happened m r.got.env b r.screen h.2 h.3)
      ∙ ap (λ (c : Reply A.Env A.Told). one_got A B c.got (mixed A B m c.got.env (G.view b) c.screen)) (F.true_to q a s r h.1)
  happened (two q ∷ m) a b s x h =
      let r = h.0 in
      h.4
      ∙ ap (two_got A B (viewed G.view r.got)) (happened m a r.got.env r.screen h.2 h.3)
      ∙ ap (λ (c : Reply B.Env B.Told). two_got A B c.got (mixed A B m (F.view a) c.got.env c.screen)) (G.true_to q b s r h.1)

  -- two programs that answer leave something of every mixing
  pub some-happened : Answers F → Answers G → (m : Mix A B) (a : F.Held) (b : G.Held) (s : List ℕ) → (x : Mixed A B) × Happened A B F G m a b s x
  some-happened f g [] a b s = (record { got₁ = []; got₂ = []; screen = s }, refl)
  some-happened f g (one q ∷ m) a b s =
      let (r, kept) = f q a s in
      let (y, h) = some-happened f g m r.got.env b r.screen in
      (one_got A B (viewed F.view r.got) y, (r, kept, y, h, refl))
  some-happened f g (two q ∷ m) a b s =
      let (r, kept) = g q b s in
      let (y, h) = some-happened f g m a r.got.env r.screen in
      (two_got A B (viewed G.view r.got) y, (r, kept, y, h, refl))

  module _ (OA : Obeys A) (OB : Obeys B) (a : F.Held) (b : G.Held) (apart : Apart (A.bounds (F.view a)) (B.bounds (G.view b))) (s : List ℕ) where
    pub happened-undisturbed : (m : Mix A B) (x : Mixed A B) → Happened A B F G m a b s x → Undisturbed A B m (F.view a) (G.view b) s x
    happened-undisturbed m x h =
        subst (λ (y : Mixed A B). Undisturbed A B m (F.view a) (G.view b) s y) (sym (happened m a b s x h))
        (undisturbed A B OA OB (F.view a) (G.view b) apart s m)

    pub happened-any-order : (m n : Mix A B) (x y : Mixed A B) → ones m ≡ ones n → twos m ≡ twos n → Happened A B F G m a b s x → Happened A B F G n a b s y
        → x ≡ y
    happened-any-order m n x y p q h k =
        same-calls A B (F.view a) (G.view b) s m n x y p q (happened-undisturbed m x h) (happened-undisturbed n y k)
