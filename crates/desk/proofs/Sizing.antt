-- Six numbers are read one by one.
use Rattle.std.proofs.Common.{◌≡◌, ℕ, suc, ◌+◌, ◌-◌, ◌<◌, ◌≤◌, List, [], get_or, set, sym, ap, ◌∙◌, add-one, arith}
use Rattle.std.specs.Prelude.{Result, Ok, Err}
use Rattle.text.specs.Number.{decimal_of}
use Rattle.text.specs.declared.number.Flaw.{Flaw}
use Rattle.desk.specs.Faults.{fault_of, and_then}
use Rattle.desk.specs.Sizes.{numbers_from}

module _ (k : ℕ) (is : List (List ℕ)) (ns : List ℕ) where
  pub all_read : 6 ≤ k → Ok ns ≡ numbers_from (6 - k) k is ns
  unfolding numbers_from
  all_read h = let none : 0 ≡ 6 - k = omega arith in ap (λ (left : ℕ). numbers_from left k is ns) none

  module _ (h : k < 6) {item : List ℕ} (i : item ≡ get_or is (k + 1) []) {read : Result ℕ Flaw} (r : read ≡ decimal_of item) where
    opened : numbers_from (6 - k) k is ns ≡ and_then read (λ n. numbers_from (6 - (k + 1)) (k + 1) is (set ns k n))
    unfolding numbers_from
    opened =
        let one : 6 - k ≡ suc (6 - (k + 1)) = omega arith in
        ap (λ (left : ℕ). numbers_from left k is ns) one
        ∙ sym
        (ap (λ (x : Result ℕ Flaw). and_then x (λ n. numbers_from (6 - (k + 1)) (k + 1) is (set ns k n))) (r ∙ ap decimal_of i)
        ∙ ap (λ (j : ℕ). and_then (decimal_of (get_or is j [])) (λ n. numbers_from (6 - (k + 1)) j is (set ns k n))) (add-one k))

    pub read-on : {n : ℕ} → read ≡ Ok n → numbers_from (6 - (k + 1)) (k + 1) is (set ns k n) ≡ numbers_from (6 - k) k is ns
    read-on e = sym (opened ∙ ap (λ (x : Result ℕ Flaw). and_then x (λ n. numbers_from (6 - (k + 1)) (k + 1) is (set ns k n))) e)

    pub read-wrong : {f : Flaw} → read ≡ Err f → Err (fault_of f) ≡ numbers_from (6 - k) k is ns
    read-wrong e = sym (opened ∙ ap (λ (x : Result ℕ Flaw). and_then x (λ n. numbers_from (6 - (k + 1)) (k + 1) is (set ns k n))) e)
