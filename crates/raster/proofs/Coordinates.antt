-- Whole numbers and the same numbers, biased: order, equality, sum and difference.
use Rattle.std.proofs.Common.{◌≡◌, ℕ, zero, suc, ◌+◌, ◌-◌, ◌<◌, ◌≤◌, Bool, cond, eqb, leb, ℤ, pos, negsuc, ◌+ℤ◌, ◌-ℤ◌, nat_abs, sym, refl, ap, ◌∙◌, arith, le→leb, eqb→eq, leb→le, to_z-of_z, w32, to_z, of_z, le-ltb, lt-ltb, ne_eqb, le-leb}
use native.Mathlib.Decide.{dec_lt}
use lib.IntN.{sub_ℕ}
use lib.Signed.{mag, le_z, non_neg}
use lib.Dec.{leb-suc-suc}
use borrow.Author.Tests.{lt-leb}
use Rattle.raster.specs.declared.dots.Dot.{Dot}
use Rattle.raster.specs.declared.biased.Spot.{Spot}
use Rattle.raster.specs.Shapes.{eq_z, gap}
use Rattle.raster.specs.Frame.{Coord}
use Rattle.raster.specs.Biased.{bias, biased, spot_of, dot_of, gap_b}
use Rattle.raster.proofs.Tests.{same, eq→T}

pub biased-lt : (z : ℤ) → mag z < 65536 → biased z < 131072
biased-lt (pos n) h = omega arith
biased-lt (negsuc n) h = omega arith

-- a coordinate comes back whole from a call
pub back : (z : ℤ) → Coord z → to_z w32 (of_z w32 z) ≡ z
back z h = to_z-of_z {w = w32} (record { sfits = omega (arith, h.small) })

-- ---- differences of natural numbers
pub sub-ge : (a b : ℕ) → b ≤ a → sub_ℕ a b ≡ pos (a - b)
sub-ge a b h = ap (λ (t : Bool). cond t (negsuc (b - suc a)) (pos (a - b))) (le-ltb a b h)

pub sub-lt : (a b : ℕ) → a < b → sub_ℕ a b ≡ negsuc (b - suc a)
sub-lt a b h = ap (λ (t : Bool). cond t (negsuc (b - suc a)) (pos (a - b))) (lt-ltb a b h)

-- two differences with one value
sub_same : (x y u v : ℕ) → x + v ≡ u + y → sub_ℕ x y ≡ sub_ℕ u v
sub_same x y u v e = by (dec_lt x y)
  where
    by : Dec (x < y) → sub_ℕ x y ≡ sub_ℕ u v
    by (yes h) = sub-lt x y h ∙ ap negsuc (omega arith) ∙ sym (sub-lt u v (omega arith))
    by (no h) = sub-ge x y (omega arith) ∙ ap pos (omega arith) ∙ sym (sub-ge u v (omega arith))

pos-minus : (n k : ℕ) → pos n -ℤ pos k ≡ sub_ℕ n k
pos-minus n zero = ap pos (omega arith) ∙ sym (sub-ge n 0 (omega arith))
pos-minus n (suc k) = refl

neg-minus : (n k : ℕ) → negsuc n -ℤ pos k ≡ sub_ℕ 0 (suc n + k)
neg-minus n zero = sub_same 0 (suc n) 0 (suc n + 0) (omega arith)
neg-minus n (suc k) = sym (sub-lt 0 (suc n + suc k) (omega arith) ∙ ap negsuc (omega arith))

-- ---- order, by the sign of the difference
sign : (x y : ℕ) → non_neg (sub_ℕ x y) ≡ leb y x
sign x y = by (dec_lt x y)
  where
    by : Dec (x < y) → non_neg (sub_ℕ x y) ≡ leb y x
    by (yes h) = ap non_neg (sub-lt x y h) ∙ sym (lt-leb y x h)
    by (no h) = ap non_neg (sub-ge x y (omega arith)) ∙ sym (le-leb y x (omega arith))

pub rises : (a b : ℤ) → le_z a b ≡ non_neg (b -ℤ a)
rises (pos a) (pos b) = sym (ap non_neg (pos-minus b a) ∙ sign b a)
rises (pos a) (negsuc b) = sym (ap non_neg (neg-minus b a ∙ sub-lt 0 (suc b + a) (omega arith)))
rises (negsuc a) (pos b) = refl
rises (negsuc a) (negsuc b) = sym (sign (suc a) (suc b) ∙ leb-suc-suc b a)

-- ---- up and down again, and down and up
down-biased : (z : ℤ) → Coord z → sub_ℕ (biased z) bias ≡ z
down-biased (pos n) h = sub-ge (n + bias) bias (omega arith) ∙ ap pos (omega arith)
down-biased (negsuc n) h = let l = h.small in sub-lt (bias - suc n) bias (omega arith) ∙ ap negsuc (omega arith)

pub biased-down : (n : ℕ) → biased (sub_ℕ n bias) ≡ n
biased-down n = by (dec_lt n bias)
  where
    by : Dec (n < bias) → biased (sub_ℕ n bias) ≡ n
    by (yes h) = ap biased (sub-lt n bias h) ∙ (omega arith)
    by (no h) = ap biased (sub-ge n bias (omega arith)) ∙ (omega arith)

pub dot-back : (d : Dot) → Coord d.x × Coord d.y → dot_of (spot_of d) ≡ d
dot-back d h = λ i. record { x = down-biased d.x h.0 i; y = down-biased d.y h.1 i }

pub spot_back : (p : Spot) → spot_of (dot_of p) ≡ p
spot_back p = λ i. record { x = biased-down p.x i; y = biased-down p.y i }

-- ---- order and equality
leb-iff : (a b c d : ℕ) → (a ≤ b → c ≤ d) → (c ≤ d → a ≤ b) → leb a b ≡ leb c d
leb-iff a b c d f g = same (leb a b) (leb c d) (λ t. le→leb c d (f (leb→le a b t))) (λ t. le→leb a b (g (leb→le c d t)))

eqb-iff : (a b c d : ℕ) → (a ≡ b → c ≡ d) → (c ≡ d → a ≡ b) → eqb a b ≡ eqb c d
eqb-iff a b c d f g = same (eqb a b) (eqb c d) (λ t. eq→T c d (f (eqb→eq a b t))) (λ t. eq→T a b (g (eqb→eq c d t)))

pub le-pos : (z : ℤ) (i : ℕ) → mag z < 65536 → le_z z (pos i) ≡ leb (biased z) (i + bias)
le-pos (pos n) i h = leb-iff n i (n + bias) (i + bias) (λ l. omega arith) (λ l. omega arith)
le-pos (negsuc n) i h = sym (le-leb (bias - suc n) (i + bias) (omega arith))

pub pos-le : (z : ℤ) (i : ℕ) → mag z < 65536 → le_z (pos i) z ≡ leb (i + bias) (biased z)
pos-le (pos n) i h = leb-iff i n (i + bias) (n + bias) (λ l. omega arith) (λ l. omega arith)
pos-le (negsuc n) i h = sym (lt-leb (i + bias) (bias - suc n) (omega arith))

pub le_is : (a b : ℤ) → mag a < 65536 → mag b < 65536 → le_z a b ≡ leb (biased a) (biased b)
le_is a (pos b) h k = le-pos a b h
le_is (pos a) (negsuc b) h k = pos-le (negsuc b) a k
le_is (negsuc a) (negsuc b) h k = leb-iff b a (bias - suc a) (bias - suc b) (λ l. omega arith) (λ l. omega arith)

-- a number that is given biased
pub sub-pos : (x i : ℕ) → eq_z (sub_ℕ x bias) (pos i) ≡ eqb x (i + bias)
sub-pos x i = by (dec_lt x bias)
  where
    by : Dec (x < bias) → eq_z (sub_ℕ x bias) (pos i) ≡ eqb x (i + bias)
    by (yes h) = ap (λ (z : ℤ). eq_z z (pos i)) (sub-lt x bias h) ∙ sym (ne_eqb x (i + bias) (omega arith))
    by (no h) =
        ap (λ (z : ℤ). eq_z z (pos i)) (sub-ge x bias (omega arith))
        ∙ eqb-iff (x - bias) i x (i + bias) (λ e. omega arith) (λ e. omega arith)

-- ---- sums and differences
pub up : (z : ℤ) → mag z < 65536 → z +ℤ pos bias ≡ pos (biased z)
up (pos n) h = refl
up (negsuc n) h = sub-ge bias (suc n) (omega arith) ∙ ap pos (omega arith)

pub plus : (z : ℤ) (k : ℕ) → mag z < 65536 → z +ℤ pos k ≡ sub_ℕ (biased z + k) bias
plus (pos n) k h = sym (sub-ge (n + bias + k) bias (omega arith) ∙ ap pos (omega arith))
plus (negsuc n) k h = sub_same k (suc n) (bias - suc n + k) bias (omega arith)

pub minus : (z : ℤ) (k : ℕ) → mag z < 65536 → k ≤ biased z → z -ℤ pos k ≡ sub_ℕ (biased z - k) bias
minus (pos n) k h l = pos-minus n k ∙ sub_same n k (n + bias - k) bias (omega arith)
minus (negsuc n) k h l = neg-minus n k ∙ sub_same 0 (suc n + k) (bias - suc n - k) bias (omega arith)

pub apart : (a b : ℤ) → mag a < 65536 → mag b < 65536 → b -ℤ a ≡ sub_ℕ (biased b) (biased a)
apart (pos a) (pos b) h k = pos-minus b a ∙ sub_same b a (b + bias) (a + bias) (omega arith)
apart (negsuc a) (pos b) h k =
    sym (sub-ge (b + suc a) 0 (omega arith) ∙ ap pos (omega arith)) ∙ sub_same (b + suc a) 0 (b + bias) (bias - suc a) (omega arith)
apart (pos a) (negsuc b) h k = neg-minus b a ∙ sub_same 0 (suc b + a) (bias - suc b) (a + bias) (omega arith)
apart (negsuc a) (negsuc b) h k = sub_same (suc a) (suc b) (bias - suc b) (bias - suc a) (omega arith)

-- a point of the screen from a coordinate that is given biased
pos-apart : (x i : ℕ) → pos i -ℤ sub_ℕ x bias ≡ sub_ℕ (i + bias) x
pos-apart x i = by (dec_lt x bias)
  where
    by : Dec (x < bias) → pos i -ℤ sub_ℕ x bias ≡ sub_ℕ (i + bias) x
    by (yes h) =
        ap (λ (z : ℤ). pos i -ℤ z) (sub-lt x bias h)
        ∙ sym (sub-ge (i + suc (bias - suc x)) 0 (omega arith) ∙ ap pos (omega arith))
        ∙ sub_same (i + suc (bias - suc x)) 0 (i + bias) x (omega arith)
    by (no h) = ap (λ (z : ℤ). pos i -ℤ z) (sub-ge x bias (omega arith)) ∙ pos-minus i (x - bias) ∙ sub_same i (x - bias) (i + bias) x (omega arith)

abs-sub : (x y : ℕ) → nat_abs (sub_ℕ x y) ≡ (x - y) + (y - x)
abs-sub x y = by (dec_lt x y)
  where
    by : Dec (x < y) → nat_abs (sub_ℕ x y) ≡ (x - y) + (y - x)
    by (yes h) = ap nat_abs (sub-lt x y h) ∙ (omega arith)
    by (no h) = ap nat_abs (sub-ge x y (omega arith)) ∙ (omega arith)

pub gap_is : (a b : ℤ) → Coord a → Coord b → gap a b ≡ gap_b (biased a) (biased b)
gap_is a b h k = ap nat_abs (apart a b h.small k.small) ∙ abs-sub (biased b) (biased a)

pub gap-pos : (x i : ℕ) → gap (sub_ℕ x bias) (pos i) ≡ gap_b x (i + bias)
gap-pos x i = ap nat_abs (pos-apart x i) ∙ abs-sub (i + bias) x
