-- The definitions on short texts.
use Rattle.std.proofs.Common.{◌≡◌, Some, None, Ok, Err, [], ◌∷◌, refl}
use Rattle.text.specs.Bytes.{bytes}
use Rattle.text.specs.Items.{onto, items, same, place_in}
use Rattle.text.specs.Number.{digit, reading, decimal_of, at_most, negated, signed_of}
use Rattle.text.specs.declared.number.Flaw.TheVariants.{Foreign, Large}
use Rattle.text.specs.Hexadecimal.{hex_digit, spelt, hex_of, last_digit, hex_digits}

-- 'a  bc': the second item is empty
three-items : items (bytes "a  bc") ≡ (bytes "a") ∷ ([] ∷ ((bytes "bc") ∷ []))
unfolding items onto
three-items = refl

-- 'b' among 'a b'
second-name : (place_in (bytes "b") (items (bytes "a b")) ≡ 1) × (place_in [] (items (bytes "a b")) ≡ 2)
unfolding items onto same place_in
second-name = (refl, refl)

-- '007'
zeros-lead : decimal_of (bytes "007") ≡ Ok 7
unfolding digit reading decimal_of
zeros-lead = refl

-- '4294967295' and one more; '7x' and '99999999999x'
largest : (decimal_of (bytes "4294967295") ≡ Ok 4294967295) × (decimal_of (bytes "4294967296") ≡ Err Large)
unfolding digit reading decimal_of
largest = (refl, refl)

decided-from-the-left : (decimal_of (bytes "7x") ≡ Err Foreign) × (decimal_of (bytes "99999999999x") ≡ Err Large)
unfolding digit reading decimal_of
decided-from-the-left = (refl, refl)

-- '-1', '-0', '-2147483648' and '2147483648'
signs : (signed_of (bytes "-1") ≡ Ok 0xffff_ffff) × (signed_of (bytes "-0") ≡ Ok 0)
unfolding digit reading decimal_of at_most negated signed_of
signs = (refl, refl)

least : (signed_of (bytes "-2147483648") ≡ Ok 0x8000_0000) × (signed_of (bytes "2147483648") ≡ Err Large)
unfolding digit reading decimal_of at_most negated signed_of
least = (refl, refl)

-- '01AF*3' and '01aF'
words : (hex_of (bytes "01AF*3") ≡ Some 0x01af) × (hex_of (bytes "01aF") ≡ None)
unfolding digit hex_digit spelt hex_of
words = (refl, refl)

written : hex_digits 0x01af ≡ bytes "01AF"
unfolding last_digit
written = refl
