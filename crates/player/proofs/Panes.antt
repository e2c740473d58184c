-- Panes with no pixel in common, and screens that are the same in a pane.
use mathlib.Core.Path.{◌≡◌, refl, sym, subst}
use mathlib.Core.List.{List}
use Prim.Native.Nat.{ℕ, ◌<◌, ◌/◌, ◌%◌}
use native.Mathlib.Omega.{arith}
use lib.IntN.{ℤ, pos, negsuc}
use lib.Dec.{T, leb, leb→le}
use Rattle.raster.specs.declared.frame.Bounds.{Bounds}
use Rattle.raster.specs.Frame.{on_screen, in_pane, within}
use Rattle.raster.specs.Paint.{column_of, row_of}
use Rattle.raster.proofs.Tests.{left, right}
use Rattle.player.specs.Pane.{pixel, of_pane, Apart, Alike}

-- no byte is in both panes
pub no_byte : (p q : Bounds) → Apart p q → (k : ℕ) → T (of_pane p k) → T (of_pane q k) → ⊥
no_byte p q h k t u =
    h.disjoint (column_of p k) (row_of p k) t (subst (λ (w : ℕ). T (pixel q (pos (k % w)) (pos (k / w)))) (sym h.width) u)

not-both : (a b c d : ℕ) → b < c → (z : ℤ) → T (within (pos a) (pos b) z) → T (within (pos c) (pos d) z) → ⊥
not-both a b c d h (pos n) t u =
    let below = leb→le n b (right (leb a n) (leb n b) t) in
    let above = leb→le c n (left (leb c n) (leb n d) u) in
    omega arith
not-both a b c d h (negsuc n) t u = t

columns : (p : Bounds) (x y : ℤ) → T (pixel p x y) → T (within (pos p.pane.left) (pos p.pane.right) x)
columns p x y t =
    left (within (pos p.pane.left) (pos p.pane.right) x) (within (pos p.pane.top) (pos p.pane.bottom) y)
    (right (on_screen p x y) (in_pane p x y) t)

-- one pane ends left of the column where the other begins
pub beside : (p q : Bounds) → p.width ≡ q.width → p.pane.right < q.pane.left → Apart p q
beside p q w l =
    record {
      width = w;
      disjoint = λ x y t u. not-both p.pane.left p.pane.right q.pane.left q.pane.right l x (columns p x y t) (columns q x y u);
    }

pub alike_refl : (p : Bounds) (s : List ℕ) → Alike p s s
alike_refl p s = record { long = refl; bytes = λ k l t. refl }
