-- Which columns of a row are the circle's: all up to where it reaches, or, of the outline, those from where the row one further out ends.
use mathlib.Core.Path.{◌≡◌, refl, sym, ap, ◌∙◌, subst}
use mathlib.Core.Bool.{Bool, true, false, not, ◌&&◌, ◌||◌}
use Prim.Native.Nat.{ℕ, ◌+◌, ◌-◌, ◌*◌, ◌<◌, ◌≤◌, min}
use native.Mathlib.Omega.{arith}
use native.Mathlib.Decide.{dec_lt}
use borrow.Author.Tests.{ltb-false, le-ltb}
use lib.Dec.{T, leb, ltb, eqb, leb→le, le→leb, ltb→lt, lt→ltb, eqb→eq}
use Rattle.raster.specs.declared.biased.Spot.{Spot}
use Rattle.raster.specs.Biased.{bias, gap_b}
use Rattle.raster.proofs.Tests.{same, both, left, right, yes-or, or_yes, or_elim, and-or, and_same}
use Rattle.circles.specs.Reaches.{reach, circle_at, circle_b, Reaching, pair_b}
use Rattle.circles.proofs.Squares.{le-square}

-- a const parameter's test, of the number that it is in a proof
abbrev pub flag : ℕ → Bool
flag n = not (eqb n 0)

-- ---- columns z by their distance from column x, which is not 0
module _ (x z : ℕ) where
  -- fewer than e
  up_to : (e : ℕ) → 1 ≤ e → ltb (gap_b x z) e ≡ (leb (x - (e - 1)) z && leb z (x + (e - 1)))
  up_to e n =
      same (ltb (gap_b x z) e) (leb (x - (e - 1)) z && leb z (x + (e - 1)))
      (λ t.
      let p = ltb→lt (gap_b x z) e t in
      both (leb (x - (e - 1)) z) (leb z (x + (e - 1))) (le→leb (x - (e - 1)) z (omega arith)) (le→leb z (x + (e - 1)) (omega arith)))
      (λ t.
      let p = leb→le (x - (e - 1)) z (left (leb (x - (e - 1)) z) (leb z (x + (e - 1))) t) in
      let p' = leb→le z (x + (e - 1)) (right (leb (x - (e - 1)) z) (leb z (x + (e - 1))) t) in
      lt→ltb (gap_b x z) e (omega arith))

  -- k to h, to either side
  beside : (k h : ℕ) → 0 < z → (leb k (gap_b x z) && leb (gap_b x z) h) ≡ (leb (x - h) z && leb z (x - k) || (leb (x + k) z && leb z (x + h)))
  beside k h n = same (leb k (gap_b x z) && leb (gap_b x z) h) (lower || upper) to back
    where
      lower : Bool
      lower = leb (x - h) z && leb z (x - k)

      upper : Bool
      upper = leb (x + k) z && leb z (x + h)

      by : k ≤ gap_b x z → gap_b x z ≤ h → Dec (x < z) → T (lower || upper)
      by a b (yes m) = or_yes lower upper (both (leb (x + k) z) (leb z (x + h)) (le→leb (x + k) z (omega arith)) (le→leb z (x + h) (omega arith)))
      by a b (no m) = yes-or lower upper (both (leb (x - h) z) (leb z (x - k)) (le→leb (x - h) z (omega arith)) (le→leb z (x - k) (omega arith)))

      to : T (leb k (gap_b x z) && leb (gap_b x z) h) → T (lower || upper)
      to t = by (leb→le k (gap_b x z) (left (leb k (gap_b x z)) (leb (gap_b x z) h) t)) (leb→le (gap_b x z) h (right (leb k (gap_b x z)) (leb (gap_b x z) h) t)) (dec_lt x z)

      within : k ≤ gap_b x z → gap_b x z ≤ h → T (leb k (gap_b x z) && leb (gap_b x z) h)
      within a b = both (leb k (gap_b x z)) (leb (gap_b x z) h) (le→leb k (gap_b x z) a) (le→leb (gap_b x z) h b)

      back : T (lower || upper) → T (leb k (gap_b x z) && leb (gap_b x z) h)
      back t =
          or_elim lower upper t
          (λ u.
          let a = leb→le (x - h) z (left (leb (x - h) z) (leb z (x - k)) u) in
          let b = leb→le z (x - k) (right (leb (x - h) z) (leb z (x - k)) u) in
          within (omega arith) (omega arith))
          (λ u.
          let a = leb→le (x + k) z (left (leb (x + k) z) (leb z (x + h)) u) in
          let b = leb→le z (x + h) (right (leb (x + k) z) (leb z (x + h)) u) in
          within (omega arith) (omega arith))

-- ---- the outline's distances, where a row reaches as far as e and the one further out as far as g
edge-distances : (a e g : ℕ) → 1 ≤ e → (ltb a e && (not (ltb (a + 1) e) || not (ltb a g))) ≡ (leb (min (e - 1) g) a && leb a (e - 1))
edge-distances a e g n = same (ltb a e && edged) (leb (min (e - 1) g) a && leb a (e - 1)) to back
  where
    edged : Bool
    edged = not (ltb (a + 1) e) || not (ltb a g)

    -- a test that fails
    not-below : (u v : ℕ) → T (not (ltb u v)) → v ≤ u
    not-below u v t = by (ltb u v) refl
      where
        by : (b : Bool) → ltb u v ≡ b → v ≤ u
        by true e = absurd (subst (λ (b : Bool). T (not b)) e t)
        by false e = ltb-false u v e

    below-not : (u v : ℕ) → v ≤ u → T (not (ltb u v))
    below-not u v h = subst (λ (b : Bool). T (not b)) (sym (le-ltb u v h)) tt

    from : T edged → min (e - 1) g ≤ a
    from t = or_elim (not (ltb (a + 1) e)) (not (ltb a g)) t (λ u. let p = not-below (a + 1) e u in omega arith) (λ u. let p = not-below a g u in omega arith)

    to : T (ltb a e && edged) → T (leb (min (e - 1) g) a && leb a (e - 1))
    to t =
        let p = ltb→lt a e (left (ltb a e) edged t) in
        both (leb (min (e - 1) g) a) (leb a (e - 1)) (le→leb (min (e - 1) g) a (from (right (ltb a e) edged t))) (le→leb a (e - 1) (omega arith))

    by : a ≤ e - 1 → min (e - 1) g ≤ a → Dec (a < e - 1) → T edged
    by p q (yes m) = or_yes (not (ltb (a + 1) e)) (not (ltb a g)) (below-not a g (omega arith))
    by p q (no m) = yes-or (not (ltb (a + 1) e)) (not (ltb a g)) (below-not (a + 1) e (omega arith))

    back : T (leb (min (e - 1) g) a && leb a (e - 1)) → T (ltb a e && edged)
    back t =
        let p = leb→le (min (e - 1) g) a (left (leb (min (e - 1) g) a) (leb a (e - 1)) t) in
        let q = leb→le a (e - 1) (right (leb (min (e - 1) g) a) (leb a (e - 1)) t) in
        both (ltb a e) edged (lt→ltb a e (omega arith)) (by q p (dec_lt a (e - 1)))

-- ---- the two rows d from the centre p
module _ (p : Spot) (q d e : ℕ) (n : 1 ≤ e) (r : Reaching q d e) (i j : ℕ) where
  abbrev x : ℕ
  x = i + bias

  abbrev here : Bool
  here = eqb (gap_b p.y (j + bias)) d

  -- a test of the row's own distance is one of d
  at_row : (filled : Bool) (C : Bool) → C ≡ circle_at filled q (gap_b p.x x) d → (here && C) ≡ (here && circle_b filled p q i j)
  at_row filled C h =
      and_same here C (circle_b filled p q i j)
      (λ t. h ∙ sym (ap (λ (b : ℕ). circle_at filled q (gap_b p.x x) b) (eqb→eq (gap_b p.y (j + bias)) d t)))

  pub filled-columns : pair_b p.y d (p.x - (e - 1)) (p.x + (e - 1)) i j ≡ (here && circle_b true p q i j)
  filled-columns = at_row true (leb (p.x - (e - 1)) x && leb x (p.x + (e - 1))) (sym (r.columns (gap_b p.x x) ∙ up_to p.x x e n))

  pub outline-columns : (g : ℕ) → Reaching q (d + 1) g → let k = min (e - 1) g in
      (pair_b p.y d (p.x - (e - 1)) (p.x - k) i j || pair_b p.y d (p.x + k) (p.x + (e - 1)) i j) ≡ (here && circle_b false p q i j)
  outline-columns g r' =
      let k = min (e - 1) g in
      let a = gap_b p.x x in
      sym (and-or here (leb (p.x - (e - 1)) x && leb x (p.x - k)) (leb (p.x + k) x && leb x (p.x + (e - 1))))
      ∙ at_row false (leb (p.x - (e - 1)) x && leb x (p.x - k) || (leb (p.x + k) x && leb x (p.x + (e - 1))))
      (sym ((λ i. r.columns a i && (not (r.columns (a + 1) i) || not (r'.columns a i))) ∙ edge-distances a e g n ∙ beside p.x x k (e - 1) (omega arith)))

-- ---- a circle has no dot in a row further from its centre than the radius
pub within-radius : (filled : Bool) (p : Spot) (q i j : ℕ) → T (circle_b filled p q i j) → gap_b p.y (j + bias) ≤ q
within-radius filled p q i j t = near (reached filled t)
  where
    a : ℕ
    a = gap_b p.x (i + bias)

    b : ℕ
    b = gap_b p.y (j + bias)

    reached : (filled : Bool) → T (circle_at filled q a b) → T (reach q a b)
    reached true t = t
    reached false t = left (reach q a b) (not (reach q (a + 1) b) || not (reach q a (b + 1))) t

    part : (u v m : ℕ) → u + v ≤ m → v ≤ m
    part u v m h = omega arith

    near : T (reach q a b) → b ≤ q
    near t = le-square b q (part (a * a) (b * b) (q * q) (leb→le (a * a + b * b) (q * q) t))
