-- What was recorded is read back, block by block.
use Prim.Native.Nat.{ℕ, ◌≤◌}
use mathlib.Core.Path.{◌≡◌, refl, sym, ap, ◌∙◌}
use mathlib.Core.List.{List, [], ◌∷◌, ◌++◌, append_assoc, append-nil}
use lib.ListN.{take, drop}
use lib.Seq.{drop-append_seam}
use Rattle.text.specs.Number.{limit}
use Rattle.std.specs.Prelude.{Option, Result}
use Rattle.record.specs.declared.Block.{Block}
use Rattle.record.specs.declared.Malformed.{Malformed}
use Rattle.record.specs.Append.{left, appending}
use Rattle.record.proofs.Blocks.{block_back}
use Rattle.record.proofs.Program.{Appends, appended}
use Rattle.replay.specs.Entries.{Entry, whole, onto, entries_in, entries}
use Rattle.replay.specs.Session.{Noted, text_of, record_text, Entered, none, one}
use Rattle.replay.proofs.Going.{opened}

-- every number can be written
pub record Small (x : Noted) : Type 0 where
  pub budget : x.budget ≤ limit
  pub answer : x.answer ≤ limit
  pub steps : x.steps ≤ limit

abbrev pub AllSmall : List Noted → Type 0
AllSmall [] = Unit {0}
AllSmall (x ∷ xs) = Small x × AllSmall xs

abbrev pub wholes : List Noted → List Entry
wholes [] = []
wholes (x ∷ xs) = whole x.budget x.answer x.steps ∷ wholes xs

-- ---- a record's text is read as its blocks
pub read_back : (xs : List Noted) → AllSmall xs → entries (record_text xs) ≡ wholes xs
unfolding record_text entries entries_in
read_back [] small = refl
read_back (x ∷ xs) small =
    let t = text_of x ++ record_text xs in
    opened t
    ∙ ap (λ (b : Result (Option Block) Malformed). onto b (λ size. entries (drop size t)))
    (block_back x.budget x.answer x.steps (record_text xs) small.0.budget small.0.answer small.0.steps)
    ∙ ap (λ (ys : List Entry). whole x.budget x.answer x.steps ∷ ys)
    (ap entries (drop-append_seam (text_of x) (record_text xs)) ∙ read_back xs small.1)

-- ---- what an appending that answers 0 has done
done : (r : List ℕ) (u : ℕ) (x : Noted) (u' : ℕ) (r' : List ℕ) → appending r u x.budget x.answer x.steps ≡ left 0 u' r'
    → Appends r u x.budget x.answer x.steps (record { number = 0; used = u' }) r'
done r u x u' r' h = appended (record { kept = sym h }) refl

-- ---- the bytes in use are the record's text
pub all_small : {xs : List Noted} {r r' : List ℕ} {u u' : ℕ} → Entered xs r u r' u' → AllSmall xs
all_small none = tt
all_small (one {x = x} {r = r} {r' = r'} {u = u} {u' = u'} h g) =
    let f = (done r u x u' r' h).fits in
    (record { budget = f.budget; answer = f.answer; steps = f.steps }, all_small g)

in_use : {xs : List Noted} {r r' : List ℕ} {u u' : ℕ} → Entered xs r u r' u' → take u' r' ≡ take u r ++ record_text xs
unfolding record_text
in_use (none {r = r} {u = u}) = sym (append-nil (take u r))
in_use (one {x = x} {xs = xs} {r = r} {r' = r'} {u = u} {u' = u'} h g) =
    in_use g ∙ ap (λ (l : List ℕ). l ++ record_text xs) (done r u x u' r' h).in_use ∙ append_assoc (take u r) (text_of x) (record_text xs)

pub record-text : {xs : List Noted} {r r' : List ℕ} {u : ℕ} → Entered xs r 0 r' u → take u r' ≡ record_text xs
record-text g = in_use g
