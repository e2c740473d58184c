-- What the sequence reader does: one law for each way on and out.
use Prim.Native.Nat.{ℕ, ◌+◌, ◌<◌, ◌≤◌}
use mathlib.Core.Path.{◌≡◌, sym, ap, ◌∙◌, subst}
use mathlib.Core.Logic.{◌⊎◌, inl, inr}
use mathlib.Core.List.{List}
use native.Mathlib.Omega.{arith}
use lib.ListN.{length}
use borrow.Author.Tests.{lt-ltb, le-ltb}
use Rattle.std.specs.Prelude.{Ok, Err}
use Rattle.numbers.specs.declared.place.WordIndex.{WordIndex}
use Rattle.numbers.specs.Place.{past}
use Rattle.player.specs.declared.Verdict.{Verdict}
use Rattle.player.specs.Player.{fault}
use Rattle.rules.specs.Operands.{at}
use Rattle.forms.specs.declared.layout.Layout.{Layout}
use Rattle.forms.specs.declared.layout.Layout.TheVariants.{Strange, Plain, Flow, Ends, Opens, Closes}
use Rattle.forms.specs.Layout.{layout_at}
use Rattle.checker.specs.declared.reading.Closer.TheVariants.{Eodl, Erpt}
use Rattle.checker.specs.declared.reading.Behind.{Behind}
use Rattle.checker.specs.Reading.{Reading, Block, closed, longer, joined, opcode, block_at, sequence_at}
use Rattle.checker.specs.Sums.{cap, capped, capped_block}
use Rattle.checker.proofs.Caps.{below, kept, none_more, some_more, joined-kept, FewInside, few-inside}
use Rattle.checker.proofs.Places.{Onward, block-onward, run_out, goes_on}

-- the sequence from `from` is read up to pc, in so many steps
pub record Read (w : List ℕ) (room : ℕ) (from pc : WordIndex) (steps : ℕ) : Type 0 where
  pub same : capped (sequence_at w room from) ≡ capped (longer steps (sequence_at w room pc))
  pub within : pc.0 ≤ length w
  pub small : steps ≤ 1000001

pub begun : (w : List ℕ) (room : ℕ) (from : WordIndex) → from.0 ≤ length w → Read w room from from 0
begun w room from h = record { same = none_more (sequence_at w room from); within = h; small = omega arith }

-- the list runs out
pub out : {w : List ℕ} {room : ℕ} {from pc : WordIndex} {steps : ℕ} → Read w room from pc steps → length w ≤ pc.0
    → Err (fault 20 pc) ≡ capped (sequence_at w room from)
out {w} {room} {from} {pc} {steps} r h = sym (r.same ∙ ap (λ (x : Reading). capped (longer steps x)) (run_out w room pc h))

-- and an opcode of this layout stands there
pub record Met (w : List ℕ) (room : ℕ) (from pc : WordIndex) (steps : ℕ) (l : Layout) : Type 0 where
  pub read : Read w room from pc steps
  pub inside : pc.0 < length w
  pub is : l ≡ layout_at (at w pc.0)

-- read up to i, behind a block of k steps
pub record Passed (w : List ℕ) (room : ℕ) (from pc : WordIndex) (steps : ℕ) (i : WordIndex) (k : ℕ) : Type 0 where
  pub read : Read w room from i (cap (steps + k))
  pub later : pc.0 < i.0
  pub few : k ≤ 1000001

onward-kept : (w : List ℕ) (pc : WordIndex) (c : Block) → Onward w pc c → Onward w pc (capped_block c)
onward-kept w pc (Err v) h = h
onward-kept w pc (Ok b) h = h

module _ {w : List ℕ} {room : ℕ} {from pc : WordIndex} {steps : ℕ} where
  read : {l : Layout} → Met w room from pc steps l
      → capped (sequence_at w room from) ≡ capped (longer steps (opcode w (λ i. block_at w room i) (λ next. sequence_at w room next) pc l))
  read m =
      m.read.same
      ∙ ap (λ (x : Reading). capped (longer steps x)) (goes_on w room pc m.inside ∙ ap (opcode w (λ i. block_at w room i) (λ next. sequence_at w room next) pc) (sym m.is))

  -- foreign to the profile
  pub foreign : {l : Layout} → Met w room from pc steps l → (l ≡ Strange) ⊎ ((n : ℕ) × (l ≡ Flow n)) → Err (fault 21 pc) ≡ capped (sequence_at w room from)
  foreign m (inl h) = sym (read m ∙ ap (λ (l : Layout). capped (longer steps (opcode w (λ i. block_at w room i) (λ next. sequence_at w room next) pc l))) h)
  foreign m (inr h) = sym (read m ∙ ap (λ (l : Layout). capped (longer steps (opcode w (λ i. block_at w room i) (λ next. sequence_at w room next) pc l))) h.1)

  module _ {n : ℕ} (m : Met w room from pc steps (Plain n)) where
    pub cut : length w < pc.0 + n → Err (fault 22 pc) ≡ capped (sequence_at w room from)
    cut c = sym (read m ∙ rw (lt-ltb (length w) (pc.0 + n) c))

    pub plain : pc.0 + n ≤ length w → Read w room from (past pc n) (cap (steps + 1))
    plain c =
        record {
          same = read m ∙ rw (le-ltb (length w) (pc.0 + n) c) (some_more steps 1 (sequence_at w room (past pc n)));
          within = c;
          small = below (steps + 1);
        }

  nothing-more : {l : Layout} → Met w room from pc steps l → cap (steps + 0) ≡ steps
  nothing-more m = let z : steps + 0 ≡ steps = omega arith in ap cap z ∙ kept steps m.read.small

  pub eodl : Met w room from pc steps Ends → Ok (closed Eodl pc steps) ≡ capped (sequence_at w room from)
  eodl m = sym (read m ∙ ap (λ (k : ℕ). Ok (closed Eodl pc k)) (nothing-more m))

  pub erpt : Met w room from pc steps Closes → Ok (closed Erpt pc steps) ≡ capped (sequence_at w room from)
  erpt m = sym (read m ∙ ap (λ (k : ℕ). Ok (closed Erpt pc k)) (nothing-more m))

  -- a block, by what its reader made of it
  module _ (m : Met w room from pc steps Opens) where
    by-block : {c : Block} → c ≡ capped_block (block_at w room pc)
        → capped (sequence_at w room from) ≡ capped (longer steps (joined c (λ next. sequence_at w room next)))
    by-block b =
        read m
        ∙ (joined-kept steps (λ next. sequence_at w room next) (block_at w room pc)
        ∙ ap (λ (c : Block). capped (longer steps (joined c (λ next. sequence_at w room next)))) (sym b))

    pub fails : {v : Verdict} → Err v ≡ capped_block (block_at w room pc) → Err v ≡ capped (sequence_at w room from)
    fails b = sym (by-block b)

    pub passed : {x : Behind} → Ok x ≡ capped_block (block_at w room pc) → Passed w room from pc steps x.next x.steps
    passed {x} b =
        let o : Onward w pc (Ok x) = subst (Onward w pc) (sym b) (onward-kept w pc (block_at w room pc) (block-onward w room pc)) in
        let f : FewInside (Ok x) = subst FewInside (sym b) (few-inside (block_at w room pc)) in
        record {
          read = record { same = by-block b ∙ some_more steps x.steps (sequence_at w room x.next); within = o.1; small = below (steps + x.steps) };
          later = o.0;
          few = f;
        }
