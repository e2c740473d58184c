-- A shape has one number of points: two lists that hold each of them once are equally long.
use mathlib.Core.Path.{◌≡◌, refl, sym, ap, ◌∙◌, subst}
use mathlib.Core.Bool.{Bool, true, false, cond, not, ◌&&◌, ◌||◌}
use mathlib.Core.List.{List, [], ◌∷◌}
use Prim.Native.Nat.{ℕ, suc}
use lib.IntN.{ℤ}
use lib.Dec.{T}
use lib.ListN.{length}
use Rattle.raster.specs.declared.dots.Dot.{Dot}
use Rattle.raster.specs.Shapes.{Shape, dot}
use Rattle.raster.proofs.Tests.{yes-or, and-true}
use Rattle.raster.proofs.Points.{dot-self, dot-same}
use Rattle.lit.specs.Numbering.{among, Once, Has}

holds : (t : Bool) → t ≡ true → T t
holds t e = subst T (sym e) tt

-- ---- a list without one of its dots
-- that dot is where the test says so
the-dot : (d e : Dot) → dot d e.x e.y ≡ true → d ≡ e
the-dot d e p = dot-same d e.x e.y (holds (dot d e.x e.y) p)

abbrev without : Dot → List Dot → List Dot
without d [] = []
without d (e ∷ es) = cond (dot d e.x e.y) es (e ∷ without d es)

-- where d is not in es, es has the points of d and es but for d's
rest : (d : Dot) (es : List Dot) (x y : ℤ) → among es d.x d.y ≡ false → among es x y ≡ ((dot d x y || among es x y) && not (dot d x y))
rest d es x y o = by (dot d x y) refl
  where
    by : (t : Bool) → dot d x y ≡ t → among es x y ≡ ((t || among es x y) && not t)
    by true e = sym (ap (λ (p : Dot). among es p.x p.y) (dot-same d x y (holds (dot d x y) e))) ∙ o
    by false e = sym (and-true (among es x y))

-- a dot e that is not d stays
stays : (d e : Dot) (b : Bool) (x y : ℤ) → dot d e.x e.y ≡ false → (dot e x y || (b && not (dot d x y))) ≡ ((dot e x y || b) && not (dot d x y))
stays d e b x y n = by (dot e x y) refl (dot d x y) refl
  where
    by : (t : Bool) → dot e x y ≡ t → (u : Bool) → dot d x y ≡ u → (t || (b && not u)) ≡ ((t || b) && not u)
    by true p true q = absurd (subst T (ap (λ (a : Dot). dot d a.x a.y) (sym (dot-same e x y (holds (dot e x y) p))) ∙ n) (holds (dot d x y) q))
    by true p false q = refl
    by false p u q = refl

left : (d : Dot) (es : List Dot) → Once es → (x y : ℤ) → among (without d es) x y ≡ (among es x y && not (dot d x y))
left d [] o x y = refl
left d (e ∷ es) o x y = by (dot d e.x e.y) refl (left d es o.1 x y)
  where
    by : (t : Bool) → dot d e.x e.y ≡ t → among (without d es) x y ≡ (among es x y && not (dot d x y))
        → among (cond t es (e ∷ without d es)) x y ≡ ((dot e x y || among es x y) && not (dot d x y))
    by true p f = rest e es x y o.0 ∙ ap (λ (a : Dot). (dot e x y || among es x y) && not (dot a x y)) (sym (the-dot d e p))
    by false p f = ap (λ (b : Bool). dot e x y || b) f ∙ stays d e (among es x y) x y p

still-once : (d : Dot) (es : List Dot) → Once es → Once (without d es)
still-once d [] o = tt
still-once d (e ∷ es) o = by (dot d e.x e.y) (still-once d es o.1)
  where
    by : (t : Bool) → Once (without d es) → Once (cond t es (e ∷ without d es))
    by true f = o.1
    by false f = (left d es o.1 e.x e.y ∙ ap (λ (b : Bool). b && not (dot d e.x e.y)) o.0, f)

one_less : (d : Dot) (es : List Dot) → T (among es d.x d.y) → length es ≡ suc (length (without d es))
one_less d [] t = absurd t
one_less d (e ∷ es) t = by (dot d e.x e.y) refl (λ u. one_less d es u)
  where
    behind : dot d e.x e.y ≡ false → (v : Bool) → dot e d.x d.y ≡ v → T (v || among es d.x d.y) → T (among es d.x d.y)
    behind p true q u = absurd (subst T (sym (dot-self d) ∙ ap (λ (a : Dot). dot d a.x a.y) (sym (the-dot e d q)) ∙ p) tt)
    behind p false q u = u

    by : (u : Bool) → dot d e.x e.y ≡ u → (T (among es d.x d.y) → length es ≡ suc (length (without d es)))
        → suc (length es) ≡ suc (length (cond u es (e ∷ without d es)))
    by true p f = refl
    by false p f = ap suc (f (behind p (dot e d.x d.y) refl t))

-- ---- one number
begins : (d : Dot) (ds : List Dot) → T (among (d ∷ ds) d.x d.y)
begins d ds = yes-or (dot d d.x d.y) (among ds d.x d.y) (holds (dot d d.x d.y) (dot-self d))

same_length : (ds es : List Dot) → Once ds → Once es → ((x y : ℤ) → among ds x y ≡ among es x y) → length ds ≡ length es
same_length [] [] o q e = refl
same_length [] (d ∷ es) o q e = absurd (subst T (sym (e d.x d.y)) (begins d es))
same_length (d ∷ ds) es o q e =
    ap suc (same_length ds (without d es) o.1 (still-once d es q) (λ x y. rest d ds x y o.0 ∙ ap (λ (b : Bool). b && not (dot d x y)) (e x y) ∙ sym (left d es q x y)))
    ∙ sym (one_less d es (subst T (e d.x d.y) (begins d ds)))

-- no second number fits
pub one_number : {S : Shape} {a b : ℕ} → Has S a → Has S b → a ≡ b
one_number h k = sym h.many ∙ same_length h.points k.points h.once k.once (λ x y. sym (h.each x y) ∙ k.each x y) ∙ k.many
