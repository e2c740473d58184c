-- What the block reader does: one law for each way out.
use Prim.Native.Nat.{ℕ, zero, suc, ◌+◌, ◌-◌, ◌*◌, ◌<◌, ◌≤◌}
use mathlib.Core.Path.{◌≡◌, refl, sym, ap, ap₂, ◌∙◌, subst}
use mathlib.Core.Bool.{Bool, true, false, ◌&&◌}
use mathlib.Core.Logic.{◌⊎◌, inl, inr}
use mathlib.Core.List.{List}
use native.Mathlib.Omega.{arith}
use native.Mathlib.Nat.{mul-le-mul}
use lib.ListN.{length}
use lib.Dec.{leb}
use borrow.Author.Tests.{lt-ltb, le-ltb, le-leb, lt-leb}
use Rattle.std.specs.Prelude.{Ok, Err}
use Rattle.numbers.specs.declared.place.WordIndex.{WordIndex}
use Rattle.numbers.specs.Place.{past}
use Rattle.player.specs.Player.{fault}
use Rattle.rules.specs.Opcodes.{countable}
use Rattle.checker.specs.declared.reading.Closer.{Closer}
use Rattle.checker.specs.declared.reading.Closed.{Closed}
use Rattle.checker.specs.Reading.{Reading, Block, behind, count, closes_block, repeated, opening, block_at, sequence_at}
use Rattle.checker.specs.Sums.{capped, capped_block}
use Rattle.checker.proofs.Caps.{repeated-kept, Few, few}
use Rattle.checker.proofs.Places.{After, reading-after}

module _ (w : List ℕ) (pc : WordIndex) where
  -- the block, if its RPT is sound
  inside : ℕ → Block
  inside zero = Err (fault 28 pc)
  inside (suc room) = repeated (count w pc) (sequence_at w room (past pc 2))

  opens_as : (room : ℕ) → block_at w room pc ≡ opening w pc (inside room)
  unfolding block_at inside
  opens_as zero = refl
  opens_as (suc room) = refl

  pub cut : (room : ℕ) → length w < pc.0 + 2 → Err (fault 22 pc) ≡ capped_block (block_at w room pc)
  cut room h =
      let x : opening w pc (inside room) ≡ Err (fault 22 pc) = rw (lt-ltb (length w) (pc.0 + 2) h) in
      sym (ap capped_block (opens_as room ∙ x))

  bad-count : (room : ℕ) → pc.0 + 2 ≤ length w → countable (count w pc) ≡ false → Err (fault 24 pc) ≡ capped_block (block_at w room pc)
  bad-count room whole h =
      let x : opening w pc (inside room) ≡ Err (fault 24 pc) = rw (le-ltb (length w) (pc.0 + 2) whole, h) in
      sym (ap capped_block (opens_as room ∙ x))

-- an RPT stands at pc with its count,
pub record Counts (w : List ℕ) (pc : WordIndex) (c : ℕ) : Type 0 where
  pub whole : pc.0 + 2 ≤ length w
  pub is : c ≡ count w pc

-- which is allowed
pub record Counted (w : List ℕ) (pc : WordIndex) (c : ℕ) : Type 0 where
  pub counts : Counts w pc c
  pub some : 1 ≤ c
  pub few : c ≤ 1000

module _ {w : List ℕ} {pc : WordIndex} {c : ℕ} where
  -- no pass, or more than 1,000
  pub bad-passes : (room : ℕ) → Counts w pc c → (c ≡ 0) ⊎ ((c ≡ 0 → ⊥) × (1000 < c)) → Err (fault 24 pc) ≡ capped_block (block_at w room pc)
  bad-passes room m (inl h) = bad-count w pc room m.whole (ap countable (sym m.is ∙ h))
  bad-passes room m (inr h) =
      bad-count w pc room m.whole (go (leb 1 (count w pc)) (leb (count w pc) 1000) (lt-leb (count w pc) 1000 (omega (arith, m.is, h.1))))
    where
      go : (a b : Bool) → b ≡ false → (a && b) ≡ false
      go true b p = p
      go false b p = refl

  module _ (m : Counted w pc c) where
    is-inside : (room : ℕ) → block_at w room pc ≡ inside w pc room
    is-inside room =
        let some : 1 ≤ count w pc = omega (arith, m.some, m.counts.is) in
        let few : count w pc ≤ 1000 = omega (arith, m.few, m.counts.is) in
        let good : countable (count w pc) ≡ true = rw (le-leb 1 (count w pc) some, le-leb (count w pc) 1000 few) in
        opens_as w pc room ∙ rw (le-ltb (length w) (pc.0 + 2) m.counts.whole, good)

    pub full : (room : ℕ) → room ≡ 0 → Err (fault 28 pc) ≡ capped_block (block_at w room pc)
    unfolding inside
    full room h = sym (ap capped_block (is-inside room ∙ ap (inside w pc) h))

    nested : (room : ℕ) → (room ≡ 0 → ⊥) → block_at w room pc ≡ repeated c (sequence_at w (room - 1) (past pc 2))
    unfolding inside
    nested zero h = absurd (h refl)
    nested (suc r) h =
        let z : r ≡ suc r - 1 = omega arith in
        is-inside (suc r) ∙ ap₂ (λ (x k : ℕ). repeated x (sequence_at w k (past pc 2))) (sym m.counts.is) z

    -- by what its sequence came to, from i, which is behind the RPT
    pub closes : {room : ℕ} {i : WordIndex} {x : Reading} → (room ≡ 0 → ⊥) → i.0 ≡ pc.0 + 2 → x ≡ capped (sequence_at w (room - 1) i)
        → capped_block (repeated c x) ≡ capped_block (block_at w room pc)
    closes {room} {i} {x} some-room behind is =
        let there : i ≡ past pc 2 = λ k. record { 0 = behind k } in
        ap (λ (y : Reading). capped_block (repeated c y)) (is ∙ ap (λ (j : WordIndex). capped (sequence_at w (room - 1) j)) there)
        ∙ (sym (repeated-kept c m.some (sequence_at w (room - 1) (past pc 2))) ∙ sym (ap capped_block (nested room some-room)))

    -- and by what closed it
    pub closes_by : {room : ℕ} {i : WordIndex} {s : Closed} {k : Closer} → (room ≡ 0 → ⊥) → i.0 ≡ pc.0 + 2 → Ok s ≡ capped (sequence_at w (room - 1) i)
        → s.by ≡ k → capped_block (closes_block c k s.place s.steps) ≡ capped_block (block_at w room pc)
    closes_by {room} {i} {s} some-room there is h =
        ap (λ (k : Closer). capped_block (closes_block c k s.place s.steps)) (sym h) ∙ closes some-room there is

-- behind an ERPT at i
pub after_erpt : (i : WordIndex) {j : WordIndex} {n k : ℕ} → j.0 ≡ i.0 + 1 → n ≡ k → behind j n ≡ behind (past i 1) k
after_erpt i p q = λ t. behind (record { 0 = p t }) (q t)

-- what closes a sequence that was read: its steps are few, and it stands in the list
pub record Closing (w : List ℕ) (i k : ℕ) : Type 0 where
  pub small : k ≤ 1000001
  pub inside : i < length w

after_kept : (w : List ℕ) (pc : WordIndex) (x : Reading) → After w pc x → After w pc (capped x)
after_kept w pc (Err v) h = h
after_kept w pc (Ok c) h = h

pub closing : {w : List ℕ} {c : Closed} (room : ℕ) (pc : WordIndex) → Ok c ≡ capped (sequence_at w room pc) → Closing w c.place.0 c.steps
closing {w} {c} room pc is =
    let x = sequence_at w room pc in
    let f : Few (Ok c) = subst Few (sym is) (few x) in
    let a : After w pc (Ok c) = subst (After w pc) (sym is) (after_kept w pc x (reading-after w room pc)) in
    record { small = f; inside = a.1 }

-- at most 1,000 passes of them
pub times : {w : List ℕ} {pc : WordIndex} {c i k : ℕ} → Counted w pc c → Closing w i k → c * (k + 1) ≤ 1000 * 1000002
times {w} {pc} {c} {i} {k} m e = let t : k + 1 ≤ 1000002 = omega (arith, e.small) in mul-le-mul m.few t
