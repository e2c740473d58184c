-- What stands at a place of a table, and past its end.
use Rattle.std.proofs.Common.{◌≡◌, ℕ, suc, ◌≤◌, List, length, get_or, sym, ap, ◌∙◌, arith}
use lib.ListN.{get_or-eq_default}

module _ {A : Type 0} (table : List A) (other : A) where
  pub at_place : (k : ℕ) {n m : ℕ} → n ≡ m → n ≡ k → get_or table k other ≡ get_or table m other
  at_place k e h = ap (λ (j : ℕ). get_or table j other) (sym h ∙ e)

  pub past : {n m : ℕ} → n ≡ m → length table ≤ n → other ≡ get_or table m other
  past {n} e h = sym (sym (ap (λ (j : ℕ). get_or table j other) e) ∙ get_or-eq_default table other h)

-- one number less to be
pub more : (k : ℕ) {n : ℕ} → k ≤ n → (n ≡ k → ⊥) → suc k ≤ n
more k h e = omega (arith, e)
