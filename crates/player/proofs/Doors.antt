-- The door of any player: what it lets in, both ways; its number, by the first test that fails; and the whole call, by that number.
use Prim.Native.Nat.{ℕ, zero, suc, ◌*◌, ◌<◌, ◌≤◌}
use mathlib.Core.Path.{◌≡◌, refl, sym, ◌∙◌, subst}
use mathlib.Core.Bool.{Bool, true, false, ◌&&◌}
use mathlib.Core.List.{List}
use native.Mathlib.Nat.{mul-le-mul}
use native.Mathlib.Omega.{arith}
use lib.ListN.{length}
use lib.Dec.{leb, eqb, lit≤}
use borrow.Author.Tests.{leb-true, le-leb, lt-leb, eqb-true, eq-eqb, ne_eqb}
use Rattle.raster.specs.declared.frame.Bounds.{Bounds}
use Rattle.player.specs.Player.{verdict, Stops}
use Rattle.player.specs.Run.{Answer, answer, runs}
use Rattle.player.specs.Shown.{verdict_of}
use Rattle.player.specs.Hosted.{Request, Hosted, answered}
use Rattle.player.specs.Door.{between, size_fits, unless, door_of}
use Rattle.player.specs.Stands.{budgeted}
use Rattle.player.proofs.Runs

-- ---- what the door lets in
pub record Open (q : Request (List ℕ)) (b : Bounds) (fits : Bool) (bytes : ℕ) : Type 0 where
  pub size : size_fits b ≡ true
  pub area : bytes ≡ b.width * b.height
  pub ranges : fits ≡ true
  pub few : length q.list ≤ 65536
  pub short : q.budget ≤ 1000000

came : (n : ℕ) (b : Bool) (x : ℕ) → unless (suc n) b x ≡ 0 → (b ≡ true) × (x ≡ 0)
came n true x h = (refl, h)
came n false x h = absurd (omega (arith, h))

module _ (q : Request (List ℕ)) (b : Bounds) (fits : Bool) (bytes : ℕ) where
  pub opened : door_of q b fits bytes ≡ 0 → Open q b fits bytes
  unfolding door_of
  opened h =
      let s = came 9 (size_fits b) _ h in
      let a = came 10 (eqb bytes (b.width * b.height)) _ s.1 in
      let r = came 11 fits _ a.1 in
      let f = came 12 (leb (length q.list) 65536) _ r.1 in
      let t = came 13 (leb q.budget 1000000) _ f.1 in
      record { size = s.0; area = eqb-true _ _ a.0; ranges = r.0; few = leb-true _ _ f.0; short = leb-true _ _ t.0 }

  pub opens : Open q b fits bytes → door_of q b fits bytes ≡ 0
  unfolding door_of
  opens o = simp (o.size, eq-eqb _ _ o.area, o.ranges, le-leb _ _ o.few, le-leb _ _ o.short)

  -- ---- the first test that fails
  pub is-10 : size_fits b ≡ false → 10 ≡ door_of q b fits bytes
  unfolding door_of
  is-10 s = sym (rw s)

  module _ (s : size_fits b ≡ true) where
    pub is-11 : (bytes ≡ b.width * b.height → ⊥) → 11 ≡ door_of q b fits bytes
    unfolding door_of
    is-11 n = sym (rw (s, ne_eqb _ _ n))

    module _ (same : bytes ≡ b.width * b.height) where
      pub is-12 : fits ≡ false → 12 ≡ door_of q b fits bytes
      unfolding door_of
      is-12 f = sym (rw (s, eq-eqb _ _ same, f))

      module _ (f : fits ≡ true) where
        pub is-13 : 65536 < length q.list → 13 ≡ door_of q b fits bytes
        unfolding door_of
        is-13 l = sym (rw (s, eq-eqb _ _ same, f, lt-leb _ _ l))

        pub is-14 : length q.list ≤ 65536 → 1000000 < q.budget → 14 ≡ door_of q b fits bytes
        unfolding door_of
        is-14 l k = sym (rw (s, eq-eqb _ _ same, f, le-leb _ _ l, lt-leb _ _ k))

        pub is-0 : length q.list ≤ 65536 → q.budget ≤ 1000000 → 0 ≡ door_of q b fits bytes
        unfolding door_of
        is-0 l k = sym (rw (s, eq-eqb _ _ same, f, le-leb _ _ l, le-leb _ _ k))

-- ---- which numbers the door has: 0, and 10 to 14; under an allowed budget none above 13
or-less : (m n : ℕ) (t : Bool) {x : ℕ} → n ≤ m → x ≤ m → unless n t x ≤ m
or-less m n true h k = k
or-less m n false h k = h

or-more : (n : ℕ) (t : Bool) {x : ℕ} → 10 ≤ n → ((x ≡ 0 → ⊥) → 10 ≤ x) → (unless n t x ≡ 0 → ⊥) → 10 ≤ unless n t x
or-more n true h k z = k z
or-more n false h k z = h

module _ (q : Request (List ℕ)) (b : Bounds) (fits : Bool) (bytes : ℕ) where
  pub at-most-14 : door_of q b fits bytes ≤ 14
  unfolding door_of
  at-most-14 =
      or-less 14 10 (size_fits b) (lit≤ tt)
      (or-less 14 11 (eqb bytes (b.width * b.height)) (lit≤ tt)
      (or-less 14 12 fits (lit≤ tt)
      (or-less 14 13 (leb (length q.list) 65536) (lit≤ tt)
      (or-less 14 14 (leb q.budget 1000000) (lit≤ tt) (lit≤ tt)))))

  pub at-most-13 : q.budget ≤ 1000000 → door_of q b fits bytes ≤ 13
  unfolding door_of
  at-most-13 h =
      or-less 13 10 (size_fits b) (lit≤ tt)
      (or-less 13 11 (eqb bytes (b.width * b.height)) (lit≤ tt)
      (or-less 13 12 fits (lit≤ tt)
      (or-less 13 13 (leb (length q.list) 65536) (lit≤ tt) (rw (le-leb _ _ h) (lit≤ tt)))))

  pub at-least-10 : (door_of q b fits bytes ≡ 0 → ⊥) → 10 ≤ door_of q b fits bytes
  unfolding door_of
  at-least-10 =
      or-more 10 (size_fits b) (lit≤ tt)
      (or-more 11 (eqb bytes (b.width * b.height)) (lit≤ tt)
      (or-more 12 fits (lit≤ tt)
      (or-more 13 (leb (length q.list) 65536) (lit≤ tt)
      (or-more 14 (leb q.budget 1000000) (lit≤ tt) (λ z. absurd (z refl))))))

-- ---- the budget: every allowed one is told the same
pub any-budget : (w : List ℕ) (a c : ℕ) (b : Bounds) (fits : Bool) (bytes : ℕ) → a ≤ 1000000 → c ≤ 1000000
    → door_of (record { list = w; budget = a }) b fits bytes ≡ door_of (record { list = w; budget = c }) b fits bytes
unfolding door_of
any-budget w a c b fits bytes h k = rw (le-leb _ _ h, le-leb _ _ k)

-- what is let in, is let in with any smaller budget
pub lets-in-less : (q : Request (List ℕ)) (b : Bounds) (fits : Bool) (bytes k : ℕ) → k ≤ q.budget → door_of q b fits bytes ≡ 0
    → door_of (budgeted k q) b fits bytes ≡ 0
lets-in-less q b fits bytes k l h =
    let o = opened q b fits bytes h in
    opens (budgeted k q) b fits bytes (record { size = o.size; area = o.area; ranges = o.ranges; few = o.few; short = omega (arith, o.short) })

-- ---- two tests that both hold
pub one : (a b : Bool) → (a && b) ≡ true → a ≡ true
one true b p = refl
one false b p = p

pub other : (a b : Bool) → (a && b) ≡ true → b ≡ true
other true b p = p
other false b p = cc

-- a screen's area fits 32 bits
pub area_small : (b : Bounds) → size_fits b ≡ true → b.width * b.height < 4294967296
area_small b h =
    let w = leb-true b.width 2048 (other (leb 1 b.width) _ (one (between 1 2048 b.width) _ h)) in
    let t = leb-true b.height 2048 (other (leb 1 b.height) _ (other (between 1 2048 b.width) _ h)) in
    let m : b.width * b.height ≤ 2048 * 2048 = mul-le-mul w t in
    omega (arith, m)

-- ---- the whole call, by the number d that the door said
module _ (H : Hosted) (q : Request H.Words) (e : H.Env) (s : List ℕ) (d : ℕ) (is : d ≡ H.door q e (length s)) where
  pub refused-whole : (d ≡ 0 → ⊥) → answer (verdict d) e s 0 ≡ answered H q e s
  unfolding answered
  refused-whole n = by d refl
    where
      by : (m : ℕ) → d ≡ m → answer (verdict d) e s 0 ≡ answered H q e s
      by zero h = absurd (n h)
      by (suc m) h = let k : H.door q e (length s) ≡ suc m = sym is ∙ h in rw (h, k)

  pub run-whole : d ≡ 0 → runs (H.player q.list) q.budget e s 0 ≡ answered H q e s
  unfolding answered
  run-whole h = let k : H.door q e (length s) ≡ 0 = sym is ∙ h in rw k

-- a call that was let in answers the verdict of the state that it leaves
pub says-state : (H : Hosted) → ((w : H.Words) → Stops (H.player w)) → (q : Request H.Words) (e : H.Env) (s : List ℕ) → H.door q e (length s) ≡ 0
    → let a = answered H q e s in a.verdict ≡ verdict_of ((H.player q.list).state a.env)
says-state H stops q e s h =
    subst (λ (a : Answer H.Env). a.verdict ≡ verdict_of ((H.player q.list).state a.env)) (run-whole H q e s 0 (sym h) refl)
    (Runs.says-state (H.player q.list) (stops q.list) q.budget e s 0)
