-- A word that was written is read back.
use Rattle.std.proofs.Common.{◌≡◌, ℕ, Option, Some, None, ◌+◌, ◌-◌, ◌*◌, ◌/◌, ◌%◌, ◌<◌, ◌≤◌, Bool, true, false, cond, ◌&&◌, ◌||◌, leb, ltb, sym, refl, ap, ◌∙◌, ap₂, arith, ltb-false, ltb-true, le-leb}
use native.Mathlib.Nat.{div-div-eq-div-mul}
use borrow.Author.Tests.{lt-leb}
use Rattle.text.specs.Number.{digit}
use Rattle.text.specs.Hexadecimal.{hex_digit, hex_of, last_digit, hex_digits}
use Rattle.text.proofs.Spelling.{valued, long}

-- ---- what is read of a digit
abbrev told : ℕ → Bool → Bool → Option ℕ
told b d l = cond (d || l) (Some (cond d (b - 48) (b - 55))) None

decimal : (d : ℕ) → d < 10 → valued (d + 48) ≡ Some d
unfolding digit hex_digit
decimal d h =
    let is : digit (d + 48) ≡ true = ap₂ (λ (x y : Bool). x && y) (le-leb 48 (d + 48) (omega arith)) (le-leb (d + 48) 57 (omega arith)) in
    let e : d + 48 - 48 ≡ d = omega arith in
    ap (λ (t : Bool). told (d + 48) t (leb 65 (d + 48) && leb (d + 48) 70)) is ∙ ap Some e

letter : (d : ℕ) → 10 ≤ d → d < 16 → valued (d + 55) ≡ Some d
unfolding digit hex_digit
letter d l h =
    let not-one : digit (d + 55) ≡ false = ap₂ (λ (x y : Bool). x && y) (le-leb 48 (d + 55) (omega arith)) (lt-leb (d + 55) 57 (omega arith)) in
    let is : (leb 65 (d + 55) && leb (d + 55) 70) ≡ true = ap₂ (λ (x y : Bool). x && y) (le-leb 65 (d + 55) (omega arith)) (le-leb (d + 55) 70 (omega arith)) in
    let e : d + 55 - 55 ≡ d = omega arith in
    ap₂ (told (d + 55)) not-one is ∙ ap Some e

read : (n : ℕ) → Some (n % 16) ≡ valued (last_digit n)
unfolding last_digit
read n = go (ltb (n % 16) 10) refl
  where
    go : (t : Bool) → ltb (n % 16) 10 ≡ t → Some (n % 16) ≡ valued (cond t (n % 16 + 48) (n % 16 + 55))
    go true e = sym (decimal (n % 16) (ltb-true (n % 16) 10 e))
    go false e = sym (letter (n % 16) (ltb-false (n % 16) 10 e) (omega arith))

pub read_back : (w : ℕ) → w < 65536 → hex_of (hex_digits w) ≡ Some w
read_back w h =
    let two : w / 16 / 16 ≡ w / 256 = div-div-eq-div-mul w 16 16 in
    let three : w / 256 / 16 ≡ w / 4096 = div-div-eq-div-mul w 256 16 in
    let none_left : w / 4096 / 16 ≡ 0 = omega arith in
    let sum : w / 4096 % 16 * 4096 + w / 256 % 16 * 256 + w / 16 % 16 * 16 + w % 16 ≡ w = omega arith in
    sym (long (hex_digits w) (omega arith) (read (w / 4096)) (read (w / 256)) (read (w / 16)) (read w)) ∙ ap Some sum
