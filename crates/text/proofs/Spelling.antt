-- Four digits spell a word, and with any other byte among them nothing is spelt.
use Rattle.std.proofs.Common.{◌≡◌, ℕ, Option, Some, None, ◌+◌, ◌-◌, ◌*◌, ◌<◌, ◌≤◌, Bool, true, false, cond, ◌&&◌, ◌||◌, leb, List, length, get_or, sym, refl, ap, ap₂, ◌∙◌, arith, le-ltb, lt-ltb, leb-true}
use Rattle.text.specs.Number.{digit}
use Rattle.text.specs.Hexadecimal.{hex_digit, worth, spelt, hex_of}
use Rattle.text.proofs.Reading.{bounds}

-- what a byte is worth, where it is a digit
abbrev pub valued : ℕ → Option ℕ
valued b = cond (hex_digit b) (Some (worth b)) None

-- 0 to 15
pub small : (b : ℕ) {v : ℕ} → Some v ≡ valued b → v ≤ 15
unfolding hex_digit
small b {v} h = go (digit b) (leb 65 b) (leb b 70) refl refl refl h
  where
    go : (d x y : Bool) → digit b ≡ d → leb 65 b ≡ x → leb b 70 ≡ y → Some v ≡ cond (d || (x && y)) (Some (cond d (b - 48) (b - 55))) None → v ≤ 15
    go true x y p q r h = let e : v ≡ b - 48 = cc in omega (arith, bounds b p, e)
    go false true true p q r h = let e : v ≡ b - 55 = cc in omega (arith, leb-true b 70 r, e)
    go false true false p q r h = absurd (cc)
    go false false y p q r h = absurd (cc)

-- ---- four bytes
abbrev pub four : Option ℕ → Option ℕ → Option ℕ → Option ℕ → Option ℕ
four None b c d = None
four (Some a) None c d = None
four (Some a) (Some b) None d = None
four (Some a) (Some b) (Some c) None = None
four (Some a) (Some b) (Some c) (Some d) = Some (a * 4096 + b * 256 + c * 16 + d)

four-spelt : (a b c d : ℕ) → four (valued a) (valued b) (valued c) (valued d) ≡ spelt a b c d
unfolding spelt
four-spelt a b c d = go (hex_digit a) (hex_digit b) (hex_digit c) (hex_digit d)
  where
    go : (p q r t : Bool)
        → four (cond p (Some (worth a)) None) (cond q (Some (worth b)) None) (cond r (Some (worth c)) None) (cond t (Some (worth d)) None)
        ≡ cond (p && (q && (r && t))) (Some (worth a * 4096 + worth b * 256 + worth c * 16 + worth d)) None
    go false q r t = refl
    go true false r t = refl
    go true true false t = refl
    go true true true false = refl
    go true true true true = refl

-- ---- an item
pub short : (s : List ℕ) → length s < 4 → None ≡ hex_of s
unfolding hex_of
short s h = sym (ap (λ (t : Bool). cond t None (spelt (get_or s 0 0) (get_or s 1 0) (get_or s 2 0) (get_or s 3 0))) (lt-ltb (length s) 4 h))

-- what is made of its first four bytes
pub long : (s : List ℕ) {a b c d : Option ℕ} → 4 ≤ length s
    → a ≡ valued (get_or s 0 0) → b ≡ valued (get_or s 1 0) → c ≡ valued (get_or s 2 0) → d ≡ valued (get_or s 3 0) → four a b c d ≡ hex_of s
unfolding hex_of
long s {a} {b} {c} {d} h p q r t =
    ap₂ (λ (a b : Option ℕ). four a b c d) p q
    ∙ ap₂ (λ (c d : Option ℕ). four (valued (get_or s 0 0)) (valued (get_or s 1 0)) c d) r t
    ∙ four-spelt (get_or s 0 0) (get_or s 1 0) (get_or s 2 0) (get_or s 3 0)
    ∙ sym (ap (λ (t : Bool). cond t None (spelt (get_or s 0 0) (get_or s 1 0) (get_or s 2 0) (get_or s 3 0))) (le-ltb (length s) 4 h))
