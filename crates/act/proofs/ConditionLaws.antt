-- The seven conditions, as the program tests them, and none of them.
use Prim.Native.Nat.{ℕ, ◌^◌, ◌<◌}
use mathlib.Core.Path.{◌≡◌, refl, sym, ap, ◌∙◌}
use mathlib.Core.Bool.{Bool, true, false, not}
use Rattle.std.specs.Prelude.{Option}
use borrow.Author.Tests.{ltb-true, ltb-false, eqb-true, eqb-false, lt-leb, le-leb, ne_eqb}
use lib.Dec.{ltb, leb, eqb}
use lib.IntN.{ℤ, pos, negsuc}
use lib.Signed.{le_z, lt_z}
use Rattle.raster.specs.Shapes.{eq_z}
use Rattle.raster.proofs.Points.{eq_z-refl, eq_z-apart}
use Rattle.numbers.specs.Number.{signed32, low32}
use Rattle.numbers.proofs.Bits.{low_signed}
use Rattle.rules.specs.Conditions.{allowed, met}
use Rattle.std.specs.Prelude.{Some, None}
use Rattle.act.specs.Conditions.{is_met}

-- ---- the order
not-ltb : (a b : ℕ) → not (ltb a b) ≡ leb b a
not-ltb a b = go (ltb a b) refl
  where
    go : (t : Bool) → ltb a b ≡ t → not t ≡ leb b a
    go true p = sym (lt-leb b a (ltb-true a b p))
    go false p = sym (le-leb b a (ltb-false a b p))

not_lt_z : (x y : ℤ) → not (lt_z x y) ≡ le_z y x
not_lt_z (pos a) (pos b) = not-ltb a b
not_lt_z (pos a) (negsuc b) = refl
not_lt_z (negsuc a) (pos b) = refl
not_lt_z (negsuc a) (negsuc b) = not-ltb b a

-- ---- equal values have equal bits
eq_z-bits : (a b : ℕ) → a < 2 ^ 32 → b < 2 ^ 32 → eqb a b ≡ eq_z (signed32 a) (signed32 b)
eq_z-bits a b ha hb = go (eqb a b) refl
  where
    go : (t : Bool) → eqb a b ≡ t → t ≡ eq_z (signed32 a) (signed32 b)
    go true p = rw (eqb-true a b p) (sym (eq_z-refl (signed32 b)))
    go false p = sym (eq_z-apart (signed32 a) (signed32 b) (λ e. eqb-false a b p (sym (low_signed a ha) ∙ ap low32 e ∙ low_signed b hb)))

-- ---- condition k of the bits a and b; t is the program's test
module _ {k : ℕ} (a b : ℕ) where
  pub always : k ≡ 0x0 → Some true ≡ is_met k a b
  unfolding is_met allowed met
  always e = rw e

  module _ {t : Bool} where
    pub less : t ≡ lt_z (signed32 a) (signed32 b) → k ≡ 0x4 → Some t ≡ is_met k a b
    unfolding is_met allowed met
    less p e = rw (e, p)

    pub not-less : t ≡ lt_z (signed32 a) (signed32 b) → k ≡ 0x5 → Some (not t) ≡ is_met k a b
    unfolding is_met allowed met
    not-less p e = rw (e, p, not_lt_z (signed32 a) (signed32 b))

    pub not-greater : t ≡ lt_z (signed32 b) (signed32 a) → k ≡ 0x6 → Some (not t) ≡ is_met k a b
    unfolding is_met allowed met
    not-greater p e = rw (e, p, not_lt_z (signed32 b) (signed32 a))

    pub greater : t ≡ lt_z (signed32 b) (signed32 a) → k ≡ 0x7 → Some t ≡ is_met k a b
    unfolding is_met allowed met
    greater p e = rw (e, p)

    module _ (p : t ≡ eqb a b) (ha : a < 2 ^ 32) (hb : b < 2 ^ 32) where
      pub equal : k ≡ 0xA → Some t ≡ is_met k a b
      unfolding is_met allowed met
      equal e = rw (e, p, eq_z-bits a b ha hb)

      pub not_equal : k ≡ 0xB → Some (not t) ≡ is_met k a b
      unfolding is_met allowed met
      not_equal e = rw (e, p, eq_z-bits a b ha hb)

-- k is none of the seven, as a `match` leaves it for its last arm
abbrev Other : ℕ → Type 0
Other k = ((((((Unit {0} × (k ≡ 0x0 → ⊥)) × (k ≡ 0x4 → ⊥)) × (k ≡ 0x5 → ⊥)) × (k ≡ 0x6 → ⊥)) × (k ≡ 0x7 → ⊥)) × (k ≡ 0xA → ⊥)) × (k ≡ 0xB → ⊥)

pub not-allowed : (k a b : ℕ) → Other k → None ≡ is_met k a b
unfolding is_met allowed
not-allowed k a b h =
    rw (
      ne_eqb k 0x0 h.0.0.0.0.0.0.1,
      ne_eqb k 0xA h.0.1,
      ne_eqb k 0xB h.1,
      ne_eqb k 0x4 h.0.0.0.0.0.1,
      ne_eqb k 0x6 h.0.0.0.1,
      ne_eqb k 0x7 h.0.0.1,
      ne_eqb k 0x5 h.0.0.0.0.1,
    )

-- what an answer of condition k on x and y says of the rule's two tests
pub none-allowed : (k x y : ℕ) → is_met k x y ≡ None → allowed k ≡ false
unfolding is_met
none-allowed k x y p = go (allowed k) refl
  where
    go : (a : Bool) → allowed k ≡ a → allowed k ≡ false
    go true e = let clash : ◌≡◌ {A = Option Bool} (Some (met k (signed32 x) (signed32 y))) None = rw e at p in absurd (cc)
    go false e = e

pub some-met : (k x y : ℕ) {t : Bool} → is_met k x y ≡ Some t → (allowed k ≡ true) × (met k (signed32 x) (signed32 y) ≡ t)
unfolding is_met
some-met k x y {t} p = go (allowed k) refl
  where
    go : (a : Bool) → allowed k ≡ a → (allowed k ≡ true) × (met k (signed32 x) (signed32 y) ≡ t)
    go true e = let same : ◌≡◌ {A = Option Bool} (Some (met k (signed32 x) (signed32 y))) (Some t) = rw e at p in (e, cc)
    go false e = let clash : ◌≡◌ {A = Option Bool} None (Some t) = rw e at p in absurd (cc)
