-- A byte in two hexadecimal digits.
use Rattle.std.proofs.Common.{◌≡◌, ℕ, ◌-◌, ◌/◌, ◌%◌, ◌^◌, ◌<◌, ◌≤◌, Bool, true, false, List, [], ◌∷◌, ◌++◌, refl, sym, ap, ◌∙◌, arith}
use Rattle.std.specs.Prelude.{nat_le}
use Rattle.std.specs.Fmt.{char_count, digit_glyph, digits, padded_integral, format_spec}
use Rattle.std.proofs.lemmas.Bool.{leb-true, leb-false}
use Rattle.std.proofs.lemmas.Fmt.{hex_one_digit, hex_two_digits}
use Rattle.command_texts.specs.Texts.{byte_text}

abbrev padded : List ℕ → List ℕ
padded numeral = padded_integral (format_spec 32 0 4 2 (2 ^ 64 - 1)) false [] numeral

-- the digits of both halves
pub byte_digits : (n : ℕ) → n < 256 → byte_text n ≡ digits 16 false (n / 16) ++ digits 16 false (n % 16)
unfolding padded_integral char_count digits
byte_digits n small = by_size (nat_le n 15) refl
  where
    by_size : (few : Bool) → nat_le n 15 ≡ few → byte_text n ≡ digits 16 false (n / 16) ++ digits 16 false (n % 16)
    by_size true is =
        let low : n ≤ 15 = leb-true n 15 is in
        let none : n / 16 ≡ 0 = omega (arith, low) in
        let same : n % 16 ≡ n = omega (arith, low) in
        ap padded (hex_one_digit false n (omega (arith, low)))
        ∙ ap (λ list. 48 ∷ list) (sym (hex_one_digit false n (omega (arith, low))))
        ∙ sym (ap (λ high. digits 16 false high ++ digits 16 false (n % 16)) none ∙ ap (λ m. 48 ∷ digits 16 false m) same)
    by_size false is =
        let high = leb-false n 15 is in
        ap padded (hex_two_digits false n (omega (arith, high)) small)
        ∙ sym (ap (λ list. list ++ digits 16 false (n % 16)) (hex_one_digit false (n / 16) (omega (arith, small)))
        ∙ ap (λ list. digit_glyph false (n / 16) ∷ list) (hex_one_digit false (n % 16) (omega arith)))
