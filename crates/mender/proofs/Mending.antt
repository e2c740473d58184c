-- What a mending answers and leaves, by its two tests.
use Prim.Native.Nat.{ℕ, ◌*◌, ◌<◌, ◌≤◌}
use mathlib.Core.Path.{◌≡◌, refl, sym, ap₂, ◌∙◌}
use mathlib.Core.Bool.{Bool, true, false, cond}
use mathlib.Core.List.{List}
use borrow.Author.Tests.{lt-ltb, le-ltb, ltb-true, ltb-false}
use lib.Dec.{ltb}
use lib.ListN.{length}
use lib.Seq.{sets}
use Rattle.mender.specs.declared.report.Change.{Change}
use Rattle.mender.specs.Walk.{mended}
use Rattle.mender.specs.Report.{changes, numbers}
use Rattle.mender.specs.Mended.{Left, left, mending}
use Rattle.mender.proofs.Reporting.{few, three-each}

-- the changes that a list wants, and how many they are
abbrev pub wanted : List ℕ → List Change
wanted w = changes w (mended w)

abbrev pub count : List ℕ → ℕ
count w = length (wanted w)

pub few-changes : (w : List ℕ) → count w ≤ length w
few-changes w = few 0 w (mended w)

pub three-a-change : (w : List ℕ) → length (numbers (wanted w)) ≡ 3 * count w
three-a-change w = three-each (wanted w)

module _ (w r : List ℕ) where
  abbrev by : Bool → Bool → Left
  by long short = cond long (left 13 0 w r) (cond short (left 32 (count w) w r) (left 0 (count w) (mended w) (sets r 0 (numbers (wanted w)))))

  by_tests : (long short : Bool) → ltb 65536 (length w) ≡ long → ltb (length r) (3 * count w) ≡ short → by long short ≡ mending w r
  unfolding mending
  by_tests long short f g = sym (ap₂ by f g)

  -- ---- each way out
  pub too_long : 65536 < length w → left 13 0 w r ≡ mending w r
  too_long h = by_tests true (ltb (length r) (3 * count w)) (lt-ltb _ _ h) refl

  module _ (words : length w ≤ 65536) where
    pub no_room : length r < 3 * count w → {n : ℕ} → n ≡ count w → left 32 n w r ≡ mending w r
    no_room h is = (λ t. left 32 (is t) w r) ∙ by_tests false true (le-ltb _ _ words) (lt-ltb _ _ h)

    pub all-mended : 3 * count w ≤ length r → {n : ℕ} {w' r' : List ℕ} → n ≡ count w → w' ≡ mended w → r' ≡ sets r 0 (numbers (wanted w)) → left 0 n w' r' ≡ mending w r
    all-mended h is list report = (λ t. left 0 (is t) (list t) (report t)) ∙ by_tests false false (le-ltb _ _ words) (le-ltb _ _ h)

-- ---- and back: which way a mending went
pub data Came (w r : List ℕ) (l : Left) : Type 0 where
  at-13 : 65536 < length w → l ≡ left 13 0 w r → Came w r l
  at-32 : length w ≤ 65536 → length r < 3 * count w → l ≡ left 32 (count w) w r → Came w r l
  at-0 : length w ≤ 65536 → 3 * count w ≤ length r → l ≡ left 0 (count w) (mended w) (sets r 0 (numbers (wanted w))) → Came w r l

pub came : (w r : List ℕ) → Came w r (mending w r)
came w r = go (ltb 65536 (length w)) (ltb (length r) (3 * count w)) refl refl
  where
    go : (long short : Bool) → ltb 65536 (length w) ≡ long → ltb (length r) (3 * count w) ≡ short → Came w r (mending w r)
    go true short f g = at-13 (ltb-true _ _ f) (sym (by_tests w r true short f g))
    go false true f g = at-32 (ltb-false _ _ f) (ltb-true _ _ g) (sym (by_tests w r false true f g))
    go false false f g = at-0 (ltb-false _ _ f) (ltb-false _ _ g) (sym (by_tests w r false false f g))
