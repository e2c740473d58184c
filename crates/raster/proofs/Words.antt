-- Signed words, and one moved by another: the sum is a coordinate.
use Rattle.std.proofs.Common.{◌≡◌, ℕ, suc, ◌+◌, ◌-◌, ◌<◌, ◌≤◌, ℤ, pos, negsuc, ◌+ℤ◌, sym, ap, ◌∙◌, arith}
use mathlib.Core.Path.{subst⁻¹}
use native.Mathlib.Decide.{dec_lt}
use lib.IntN.{sub_ℕ}
use Rattle.raster.specs.declared.dots.Dot.{Dot}
use Rattle.raster.specs.declared.biased.Spot.{Spot}
use Rattle.raster.specs.Shapes.{shifted}
use Rattle.raster.specs.Frame.{Word, Coord}
use Rattle.raster.specs.Biased.{bias, biased, spot_of, dot_of, WordB, shifted_b}
use Rattle.raster.proofs.Coordinates.{sub-ge, sub-lt, biased-down, dot-back, plus, minus}

pub word-coord : (z : ℤ) → Word z → Coord z
word-coord z h = record { small = omega (arith, h.small) }

-- biased, it is 32,768 to 98,303
word-biased : (z : ℤ) → Word z → (32768 ≤ biased z) × (biased z < 98304)
word-biased (pos n) h = let l = h.small in (omega arith, omega arith)
word-biased (negsuc n) h = let l = h.small in (omega arith, omega arith)

-- a dot of signed words, biased and down again
pub word_back : (d : Dot) → Word d.x × Word d.y → dot_of (spot_of d) ≡ d
word_back d h = dot-back d (word-coord d.x h.0, word-coord d.y h.1)

pub words-biased : (d : Dot) → Word d.x × Word d.y → WordB (spot_of d)
words-biased d h = subst⁻¹ (λ (e : Dot). Word e.x × Word e.y) (word_back d h) h

-- ---- the sum of two
down-coord : (m : ℕ) → m < 131072 → Coord (sub_ℕ m bias)
down-coord m l = by (dec_lt m bias)
  where
    by : Dec (m < bias) → Coord (sub_ℕ m bias)
    by (yes h) = subst⁻¹ Coord (sub-lt m bias h) (record { small = omega arith })
    by (no h) = subst⁻¹ Coord (sub-ge m bias (omega arith)) (record { small = omega arith })

sum-down : (a o : ℤ) → Word a → Word o → a +ℤ o ≡ sub_ℕ (biased a + biased o - bias) bias
sum-down a (pos n) h k =
    let same : biased a + n ≡ biased a + biased (pos n) - bias = omega arith in
    plus a n (omega (arith, h.small)) ∙ ap (λ (m : ℕ). sub_ℕ m bias) same
sum-down a (negsuc n) h k =
    let from = (word-biased a h).0 in
    let l = k.small in
    let same : biased a - suc n ≡ biased a + biased (negsuc n) - bias = omega arith in
    minus a (suc n) (omega (arith, h.small)) (omega arith) ∙ ap (λ (m : ℕ). sub_ℕ m bias) same

pub sum-coord : (a o : ℤ) → Word a → Word o → Coord (a +ℤ o)
sum-coord a o h k =
    let x = word-biased a h in
    let y = word-biased o k in
    subst⁻¹ Coord (sum-down a o h k) (down-coord (biased a + biased o - bias) (omega arith))

pub biased-sum : (a o : ℤ) → Word a → Word o → biased (a +ℤ o) ≡ biased a + biased o - bias
biased-sum a o h k = ap biased (sum-down a o h k) ∙ biased-down (biased a + biased o - bias)

-- a dot that is given biased
module _ (p : Spot) (o : Dot) (h : WordB p) (k : Word o.x × Word o.y) where
  axis : (n : ℕ) (z : ℤ) → Word (sub_ℕ n bias) → Word z → sub_ℕ (n + biased z - bias) bias ≡ sub_ℕ n bias +ℤ z
  axis n z u v = sym (sum-down (sub_ℕ n bias) z u v ∙ ap (λ (m : ℕ). sub_ℕ (m + biased z - bias) bias) (biased-down n))

  pub shifted_back : dot_of (shifted_b p o) ≡ shifted (dot_of p) o
  shifted_back = λ i. record { x = axis p.x o.x h.0 k.0 i; y = axis p.y o.y h.1 k.1 i }
