-- A hexadecimal digit is a character of one byte, so four of them are written as they are.
use Rattle.std.proofs.Common.{◌≡◌, ℕ, ◌+◌, ◌/◌, ◌%◌, ◌<◌, Bool, true, false, cond, List, [], ◌∷◌, ◌++◌, get_or, ap, ◌∙◌, ap₂, arith, nat_lt}
use Rattle.std.proofs.Math.Utf8.{encode}
use Rattle.std.proofs.lemmas.Str.{encode_ascii}
use Rattle.text.specs.Hexadecimal.{last_digit, hex_digits}

below : (t : Bool) (m : ℕ) → m < 16 → cond t (m + 48) (m + 55) < 128
below true m h = omega arith
below false m h = omega arith

small : (n : ℕ) → last_digit n < 128
unfolding last_digit
small n = below (nat_lt (n % 16) 10) (n % 16) (omega arith)

one : (n : ℕ) {c : ℕ} → c ≡ last_digit n → encode c ≡ last_digit n ∷ []
one n e = ap encode e ∙ encode_ascii (last_digit n) (small n)

module _ (w : ℕ) {l : List ℕ} (e : l ≡ hex_digits w) where
  digit : (k : ℕ) {c : ℕ} → c ≡ get_or l k 0 → c ≡ get_or (hex_digits w) k 0
  digit k h = h ∙ ap (λ (s : List ℕ). get_or s k 0) e

  pub as_they_are : {a b c d : ℕ} → a ≡ get_or l 0 0 → b ≡ get_or l 1 0 → c ≡ get_or l 2 0 → d ≡ get_or l 3 0
      → encode a ++ (encode b ++ (encode c ++ encode d)) ≡ hex_digits w
  as_they_are a b c d =
      let put = λ (x y : List ℕ). x ++ y in
      ap₂ put (one (w / 4096) (digit 0 a)) (ap₂ put (one (w / 256) (digit 1 b)) (ap₂ put (one (w / 16) (digit 2 c)) (one w (digit 3 d))))
