-- Demand 3 for any two callables that obey the laws.
use mathlib.Core.Path.{◌≡◌, refl, sym, ◌∙◌, subst, subst₂}
use mathlib.Core.Bool.{Bool, true, false}
use mathlib.Core.List.{List, [], ◌∷◌}
use Prim.Native.Nat.{ℕ, ◌<◌}
use lib.Dec.{T}
use lib.ListN.{length, get_or}
use lib.Seq.{ext_get_or}
use Rattle.raster.specs.declared.frame.Bounds.{Bounds}
use Rattle.player.specs.Pane.{of_pane, Apart, Alike}
use Rattle.player.specs.Reply.{Got}
use Rattle.player.specs.Mixing.{Callable, Alone, alone, one, two, Mix, ones, twos, Mixed, mixed}
use Rattle.player.specs.Obeys.{Obeys}
use Rattle.player.specs.Undisturbed.{AsAlone, Undisturbed}
use Rattle.player.proofs.Panes.{no_byte, alike_refl}

-- no byte is in both panes
abbrev Disjoint : Bounds → Bounds → Type 0
Disjoint p q = (k : ℕ) → T (of_pane p k) → T (of_pane q k) → ⊥

-- a call of one side leaves the other's pane as it was
untouched : (A : Callable) → Obeys A → (q : A.Request) (e : A.Env) (s t : List ℕ) (p : Bounds) → Disjoint (A.bounds e) p → Alike p s t
    → Alike p (A.call q e s).screen t
untouched A O q e s t p d h =
    record {
      long = O.long q e s ∙ h.long;
      bytes = λ k l u.
          let l' : k < length s = rw (O.long q e s) at l in
          O.outside q e s k l' (λ v. d k v u) ∙ h.bytes k l' u;
    }

-- ---- both sides, followed through the mixing: t and u are the screens that they have alone by now, a' and b' the environments
module _ (A B : Callable) (OA : Obeys A) (OB : Obeys B) where
  abbrev Follows : Mix A B → A.Env → B.Env → List ℕ → A.Env → List ℕ → B.Env → List ℕ → Type 0
  Follows m a b s a' t b' u = AsAlone A B a b s (mixed A B m a b s) (alone A (ones m) a' t) (alone B (twos m) b' u)

  follows : (m : Mix A B) (a : A.Env) (b : B.Env) (s t u : List ℕ) → Disjoint (A.bounds a) (B.bounds b) → Alike (A.bounds a) s t → Alike (B.bounds b) s u
      → Follows m a b s a t b u
  unfolding mixed alone
  follows [] a b s t u d h g = record { got₁ = refl; got₂ = refl; pane₁ = h; pane₂ = g; long = refl; others = λ k l v w. refl }
  follows (one q ∷ m) a b s t u d h g =
      let x = A.call q a s in
      let y = A.call q a t in
      let same = OA.blind q a s t h in
      let keep = OA.keeps q a s in
      let n = subst (λ (z : Got A.Env A.Told). Follows m x.got.env b x.screen z.env y.screen b u) same.got
      (follows m x.got.env b x.screen y.screen u (rw keep d) (rw keep same.pane) (untouched A OA q a s u (B.bounds b) d g)) in
      record {
        got₁ = λ i. same.got i ∷ n.got₁ i;
        got₂ = n.got₂;
        pane₁ = rw keep at n.pane₁;
        pane₂ = n.pane₂;
        long = n.long ∙ OA.long q a s;
        others = λ k l v w. n.others k (rw (OA.long q a s) l) (rw keep v) w ∙ OA.outside q a s k l v;
      }
  follows (two q ∷ m) a b s t u d h g =
      let x = B.call q b s in
      let y = B.call q b u in
      let same = OB.blind q b s u g in
      let keep = OB.keeps q b s in
      let n = subst (λ (z : Got B.Env B.Told). Follows m a x.got.env x.screen a t z.env y.screen) same.got
      (follows m a x.got.env x.screen t y.screen (rw keep d) (untouched B OB q b s t (A.bounds a) (λ k v w. d k w v) h) (rw keep same.pane)) in
      record {
        got₁ = n.got₁;
        got₂ = λ i. same.got i ∷ n.got₂ i;
        pane₁ = n.pane₁;
        pane₂ = rw keep at n.pane₂;
        long = n.long ∙ OB.long q b s;
        others = λ k l v w. n.others k (rw (OB.long q b s) l) v (rw keep w) ∙ OB.outside q b s k l w;
      }

-- ---- there is one thing only that is as what the sides have alone
module _ (A B : Callable) (a : A.Env) (b : B.Env) (s : List ℕ) (x x' : Mixed A B) (y : Alone A) (z : Alone B)
    (h : AsAlone A B a b s x y z) (h' : AsAlone A B a b s x' y z) where
  same_byte : (k : ℕ) → k < length s → (p q : Bool) → of_pane (A.bounds a) k ≡ p → of_pane (B.bounds b) k ≡ q → get_or x.screen k 0 ≡ get_or x'.screen k 0
  same_byte k l true q e f = h.pane₁.bytes k (rw h.long l) (rw e tt) ∙ sym (h'.pane₁.bytes k (rw h'.long l) (rw e tt))
  same_byte k l false true e f = h.pane₂.bytes k (rw h.long l) (rw f tt) ∙ sym (h'.pane₂.bytes k (rw h'.long l) (rw f tt))
  same_byte k l false false e f = h.others k l (λ t. subst T e t) (λ t. subst T f t) ∙ sym (h'.others k l (λ t. subst T e t) (λ t. subst T f t))

  same-screen : x.screen ≡ x'.screen
  same-screen =
      ext_get_or 0 x.screen x'.screen (h.long ∙ sym h'.long)
      (λ k l. same_byte k (rw h.long at l) (of_pane (A.bounds a) k) (of_pane (B.bounds b) k) refl refl)

  only : x ≡ x'
  only = λ i. record { got₁ = (h.got₁ ∙ sym h'.got₁) i; got₂ = (h.got₂ ∙ sym h'.got₂) i; screen = same-screen i }

-- so undisturbed mixings of the same calls leave the same
pub same-calls : (A B : Callable) (a : A.Env) (b : B.Env) (s : List ℕ) (m n : Mix A B) (x x' : Mixed A B) → ones m ≡ ones n → twos m ≡ twos n
    → Undisturbed A B m a b s x → Undisturbed A B n a b s x' → x ≡ x'
same-calls A B a b s m n x x' p q h h' =
    only A B a b s x x' (alone A (ones m) a s) (alone B (twos m) b s) h
    (subst₂ (λ (f : List A.Request) (g : List B.Request). AsAlone A B a b s x' (alone A f a s) (alone B g b s)) (sym p) (sym q) h')

-- ---- demand 3
module _ (A B : Callable) (OA : Obeys A) (OB : Obeys B) (a : A.Env) (b : B.Env) (apart : Apart (A.bounds a) (B.bounds b)) (s : List ℕ) where
  pub undisturbed : (m : Mix A B) → Undisturbed A B m a b s (mixed A B m a b s)
  undisturbed m =
      follows A B OA OB m a b s s s (no_byte (A.bounds a) (B.bounds b) apart) (alike_refl (A.bounds a) s) (alike_refl (B.bounds b) s)

  -- so the order of the calls does not show, neither in what a side gets nor in any byte
  pub any_order : (m n : Mix A B) → ones m ≡ ones n → twos m ≡ twos n → mixed A B m a b s ≡ mixed A B n a b s
  any_order m n p q = same-calls A B a b s m n (mixed A B m a b s) (mixed A B n a b s) p q (undisturbed m) (undisturbed n)
