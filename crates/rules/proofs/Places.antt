-- Where a refused opcode is at fault: for 23 the first operand word that names a variable above 63 or implies one, which stands inside the opcode; for the
-- others where it begins or was due.
use Prim.Native.Nat.{ℕ, ◌+◌, ◌<◌, ◌≤◌}
use mathlib.Core.Path.{◌≡◌, refl, ap}
use mathlib.Core.Bool.{Bool, true, false, cond}
use mathlib.Core.List.{List, [], ◌∷◌, ◌++◌}
use native.Mathlib.Omega.{arith}
use lib.Dec.{ltb, leb, eqb}
use lib.ListN.{length}
use borrow.Author.Tests.{ltb-true, ltb-false}
use Rattle.player.specs.Player.{Outcome, done, refused}
use Rattle.rules.specs.Types.{WordIndex}
use Rattle.rules.specs.Meaning.{Meaning, meaning}
use Rattle.rules.specs.Table.{form_of}
use Rattle.rules.specs.Operands.{Piece, Source, width, widths, at, last, highest, first_above}
use Rattle.rules.specs.Environment.{Env}
use Rattle.rules.specs.Opcodes.{Rule}
use Rattle.rules.specs.Step.{check, unknown, cut, misnamed, misnaming, ruled, carried, judged, step}

module _ (w : List ℕ) (pc : ℕ) where
  -- it stands at most behind the last piece
  pub within : (ps : Source) (k : ℕ) → first_above ps w pc k ≤ k + widths ps
  within [] k = omega arith
  within (p ∷ ps) k = by (ltb 63 (last p (at w (pc + k)))) (within ps (k + width p))
    where
      by : (t : Bool) → first_above ps w pc (k + width p) ≤ k + width p + widths ps
          → cond t k (first_above ps w pc (k + width p)) ≤ k + (width p + widths ps)
      by true h = omega arith
      by false h = omega (arith, h)

  -- a source, the first piece k words past the opcode, whose first misnamed piece stands i words past it: none before it is misnamed
  pub record First (ps : Source) (k i : ℕ) : Type 0 where
    pub before : Source
    pub piece : Piece
    pub behind : Source
    pub parts : ps ≡ before ++ (piece ∷ behind)
    pub stands : i ≡ k + widths before
    pub named : 63 < last piece (at w (pc + i))
    pub below : highest before w pc k ≤ 63

  pub first : (ps : Source) (k : ℕ) → 63 < highest ps w pc k → First ps k (first_above ps w pc k)
  first [] k h = absurd (omega (arith, h))
  first (p ∷ ps) k h = by (ltb 63 (last p (at w (pc + k)))) refl (first ps (k + width p))
    where
      by : (t : Bool) → ltb 63 (last p (at w (pc + k))) ≡ t
          → (63 < highest ps w pc (k + width p) → First ps (k + width p) (first_above ps w pc (k + width p)))
          → First (p ∷ ps) k (cond t k (first_above ps w pc (k + width p)))
      by true q on =
          record { before = []; piece = p; behind = ps; parts = refl; stands = omega arith; named = ltb-true _ _ q; below = omega arith }
      by false q on =
          let low = ltb-false 63 (last p (at w (pc + k))) q in
          let f = on (omega (arith, h, low)) in
          record {
            before = p ∷ f.before;
            piece = f.piece;
            behind = f.behind;
            parts = ap (λ (qs : Source). p ∷ qs) f.parts;
            stands = omega (arith, f.stands);
            named = f.named;
            below = omega (arith, low, f.below);
          }

-- ---- a refused opcode: with 23 the place is that operand word, with any other number the index where the opcode begins or was due
module _ (at pc : WordIndex) where
  abbrev pub Placed : Outcome Env → Type 0
  Placed (done e p) = Unit {0}
  Placed (refused v) = v.place ≡ cond (eqb v.number 23) at pc

  checked : (n : ℕ) (i : WordIndex) → i ≡ cond (eqb n 23) at pc → (t : Bool) (x : Outcome Env) → Placed x → Placed (check n i t x)
  checked n i h true x k = h
  checked n i h false x k = k

module _ (w : List ℕ) (e : Env) where
  abbrev pc : WordIndex
  pc = e.flow.counter

  by-meaning : (m : Meaning) (r : Rule) → Placed (misnaming m w pc) pc (judged m r w e)
  unfolding carried
  by-meaning m r =
      let i = misnaming m w pc in
      checked i pc 20 pc refl (leb (length w) pc.0) _
      (checked i pc 21 pc refl (unknown m) _
      (checked i pc 22 pc refl (cut m w pc.0) _
      (checked i pc 23 i refl (misnamed m w pc.0) _
      (checked i pc 24 pc refl (r.breaks 24) _
      (checked i pc 25 pc refl (r.breaks 25) _
      (checked i pc 26 pc refl (r.breaks 26) _
      (checked i pc 27 pc refl (r.breaks 27) _
      (checked i pc 28 pc refl (r.breaks 28) _
      (checked i pc 29 pc refl (r.breaks 29) _ tt)))))))))

  pub placed : Placed (misnaming (meaning (form_of (at w pc.0))) w pc) pc (step w e)
  unfolding step
  placed = by-meaning (meaning (form_of (at w pc.0))) (ruled (meaning (form_of (at w pc.0))) w e)
