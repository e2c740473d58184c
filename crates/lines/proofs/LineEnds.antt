-- A line's first dot is its start and its last dot its end; a line of one dot is that dot.
use Rattle.std.proofs.Common.{◌≡◌, ℕ, suc, ◌≤◌, max, Bool, true, false, cond, T, leb, ℤ, pos, ◌+ℤ◌, ◌-ℤ◌, sym, refl, ap, ◌∙◌, subst, ap₂, arith, leb-false, leb-true}
use lib.IntN.{+ℤ_idr, +ℤ_comm, -ℤ-+ℤ_cancel}
use lib.Signed.{le_z, pos-nat_abs}
use Rattle.raster.specs.declared.dots.Dot.{Dot}
use Rattle.raster.specs.Shapes.{gap, dot, some_below}
use Rattle.raster.proofs.Coordinates.{rises}
use Rattle.lines.specs.declared.line.Line.{Line}
use Rattle.lines.specs.Line.{long, flat, rising, start, finish, side, dot_from, line_dot, line}
use Rattle.lines.proofs.Sides.{side-first, side-last}
use Rattle.lines.proofs.Directions.{gap-none, swapped, rising_by, turned, flat-swap, long-swap}

-- ---- the first dot and the last
still : (a : ℤ) (t : Bool) (n : ℕ) (d : ℤ) → (a +ℤ cond t (pos 0) (side n d 0) ≡ a) × (a +ℤ cond t (side n d 0) (pos 0) ≡ a)
still a true n d = (+ℤ_idr a, ap (λ (z : ℤ). a +ℤ z) (side-first n d) ∙ +ℤ_idr a)
still a false n d = (ap (λ (z : ℤ). a +ℤ z) (side-first n d) ∙ +ℤ_idr a, +ℤ_idr a)

pub first-dot : (l : Line) → line_dot l 0 ≡ start l
first-dot l =
    let n = long l in
    let p = start l in
    let q = finish l in
    (λ i. record { x = (still p.x (flat l) n (q.x -ℤ p.x)).0 i; y = (still p.y (flat l) n (q.y -ℤ p.y)).1 i })

-- the whole way
whole : (a b : ℤ) → a +ℤ (b -ℤ a) ≡ b
whole a b = +ℤ_comm a (b -ℤ a) ∙ -ℤ-+ℤ_cancel b a

whole-up : (a b : ℤ) → le_z a b ≡ true → a +ℤ pos (gap a b) ≡ b
whole-up a b e = ap (λ (z : ℤ). a +ℤ z) (pos-nat_abs (b -ℤ a) (subst T (sym (sym (rises a b) ∙ e)) tt)) ∙ whole a b

all-way : (t : Bool) (n : ℕ) (p q : Dot) → (cond t (gap p.x q.x) (gap p.y q.y) ≡ n) × (cond t (gap p.y q.y) (gap p.x q.x) ≤ n)
    → rising_by t (record { from = p; to = q }) ≡ true → dot_from t n p q n ≡ q
all-way true n p q g r =
    (λ i. record {
      x = (ap (λ (k : ℕ). p.x +ℤ pos k) (sym g.0) ∙ whole-up p.x q.x r) i;
      y = (ap (λ (z : ℤ). p.y +ℤ z) (side-last n (q.y -ℤ p.y) g.1) ∙ whole p.y q.y) i;
    })
all-way false n p q g r =
    (λ i. record {
      x = (ap (λ (z : ℤ). p.x +ℤ z) (side-last n (q.x -ℤ p.x) g.1) ∙ whole p.x q.x) i;
      y = (ap (λ (k : ℕ). p.y +ℤ pos k) (sym g.0) ∙ whole-up p.y q.y r) i;
    })

-- the larger difference is the long axis's
longest : (gx gy : ℕ) (t : Bool) → leb gy gx ≡ t → (cond t gx gy ≡ max gx gy) × (cond t gy gx ≤ max gx gy)
longest gx gy true e = let h = leb-true gy gx e in (omega arith, omega arith)
longest gx gy false e = let h = leb-false gy gx e in (omega arith, omega arith)

to_end : (l : Line) (t r : Bool) → flat l ≡ t → rising_by t l ≡ r
    → dot_from t (long l) (cond r l.from l.to) (cond r l.to l.from) (long l) ≡ cond r l.to l.from
to_end l t true e h = all-way t (long l) l.from l.to (longest (gap l.from.x l.to.x) (gap l.from.y l.to.y) t e) h
to_end l t false e h =
    subst (λ (n : ℕ). dot_from t n l.to l.from n ≡ l.from) (long-swap l)
    (all-way t (long (swapped l)) l.to l.from (longest (gap l.to.x l.from.x) (gap l.to.y l.from.y) t (flat-swap l ∙ e)) (turned t l h))

pub last-dot : (l : Line) → line_dot l (long l) ≡ finish l
last-dot l = to_end l (flat l) (rising l) refl refl

-- ---- from a point to itself
pub single : (d : Dot) (x y : ℤ) → line (record { from = d; to = d }) x y ≡ dot d x y
unfolding line some_below
single d x y =
    let l : Line = record { from = d; to = d } in
    ap₂ (λ (a b : ℕ). some_below (suc (max a b)) (λ k. dot (line_dot l k) x y)) (gap-none d.x) (gap-none d.y)
    ∙ ap (λ (e : Dot). dot e x y) (first-dot l ∙ either (rising l))
  where
    either : (r : Bool) → cond r d d ≡ d
    either true = refl
    either false = refl
