-- Eight hexadecimal digits.
use Rattle.std.proofs.Common.{◌≡◌, ℕ, zero, suc, ◌+◌, ◌-◌, ◌*◌, ◌/◌, ◌%◌, ◌^◌, ◌<◌, ◌≤◌, Bool, true, false, List, [], ◌∷◌, ◌++◌, length}
use Rattle.std.proofs.Common.{map, replicate, refl, sym, ap, ◌∙◌, arith, subst}
use Rattle.std.specs.Prelude.{◌==◌, if◌then◌else◌, codes, slice_index_or}
use Rattle.std.specs.Fmt.{digit_glyph, digits, digits_onto, padded_integral, format_spec, char_count}
use Rattle.std.proofs.lemmas.List.{append-nil}
use Rattle.std.proofs.lemmas.Bool.{eqb-true, eq-eqb, agree_below_at}
use Rattle.std.proofs.lemmas.Fmt.{hex_one_digit, hex_two_digits}
use Rattle.std.proofs.lemmas.Str.{IsUtf8-from_ascii}
use Rattle.std.proofs.lemmas.Str.Ascii.{IsAscii-nil, IsAscii-cons, IsAscii-push}
use Rattle.std.proofs.lemmas.Bool.Decides.{nat_tests}
use Rattle.std.specs.Str.{IsAscii, IsUtf8}
use Rattle.risc_listing.specs.Lines.{address_text, at_text}

abbrev glyph : ℕ → ℕ
glyph n = digit_glyph false (n % 16)

-- exactly so many digits, the last of n, before other digits
abbrev hexes : ℕ → ℕ → List ℕ → List ℕ
hexes zero n rest = rest
hexes (suc k) n rest = hexes k (n / 16) (glyph n ∷ rest)

-- a number of so many digits at most
abbrev IsShort : ℕ → ℕ → Type 0
IsShort zero n = n ≡ 0
IsShort (suc k) n = IsShort k (n / 16)

abbrev filled : List ℕ → List ℕ
filled numeral = replicate (8 - length numeral) 48 ++ numeral

zeros_first : (k : ℕ) (rest : List ℕ) → replicate k 48 ++ 48 ∷ rest ≡ 48 ∷ replicate k 48 ++ rest
zeros_first zero rest = refl
zeros_first (suc k) rest = ap (λ (list : List ℕ). 48 ∷ list) (zeros_first k rest)

hexes-zero : (k : ℕ) (rest : List ℕ) → hexes k 0 rest ≡ replicate k 48 ++ rest
hexes-zero zero rest = refl
hexes-zero (suc k) rest = hexes-zero k (48 ∷ rest) ∙ zeros_first k rest

filled_short : (k : ℕ) (numeral : List ℕ) → length numeral + k ≡ 8 → filled numeral ≡ replicate k 48 ++ numeral
filled_short k numeral h = let e : 8 - length numeral ≡ k = omega arith in ap (λ (n : ℕ). replicate n 48 ++ numeral) e

-- a digit more, by whether it is the first
filled_step : (k fuel n : ℕ) (rest : List ℕ) (last : Bool) → (n / 16 == 0) ≡ last → length rest + suc (suc k) ≡ 8 →
    filled (digits_onto (suc fuel) 16 false (n / 16) (glyph n ∷ rest)) ≡ hexes (suc k) (n / 16) (glyph n ∷ rest) →
    filled (if last then glyph n ∷ rest else digits_onto (suc fuel) 16 false (n / 16) (glyph n ∷ rest)) ≡ hexes (suc (suc k)) n rest
filled_step k fuel n rest true is fits more =
    filled_short (suc k) (glyph n ∷ rest) (omega arith)
    ∙ sym (hexes-zero (suc k) (glyph n ∷ rest))
    ∙ ap (λ (m : ℕ). hexes (suc k) m (glyph n ∷ rest)) (sym (eqb-true (n / 16) 0 is))
filled_step k fuel n rest false is fits more = more

filled_digits : (k fuel n : ℕ) (rest : List ℕ) → k ≤ fuel → IsShort (suc k) n → length rest + suc k ≡ 8 →
    filled (digits_onto (suc fuel) 16 false n rest) ≡ hexes (suc k) n rest
filled_digits zero fuel n rest enough short fits =
    let is : (n / 16 == 0) ≡ true = eq-eqb (n / 16) 0 short in
    ap (λ (last : Bool). filled (if last then glyph n ∷ rest else digits_onto fuel 16 false (n / 16) (glyph n ∷ rest))) is
    ∙ filled_short zero (glyph n ∷ rest) (omega arith)
filled_digits (suc k) zero n rest enough short fits = absurd (omega arith)
filled_digits (suc k) (suc fuel) n rest enough short fits =
    filled_step k fuel n rest (n / 16 == 0) refl fits (filled_digits k fuel (n / 16) (glyph n ∷ rest) (omega arith) short (omega arith))

padded_filled : (numeral : List ℕ) → padded_integral (format_spec 32 0 4 8 (2 ^ 64 - 1)) false [] numeral ≡ filled numeral
unfolding padded_integral char_count
padded_filled numeral =
    let same : 8 - length numeral - 0 - 0 ≡ 8 - length numeral = omega arith in
    ap (λ (list : List ℕ). replicate (8 - length numeral - 0 - 0) 48 ++ list) (append-nil numeral)
    ∙ ap (λ (k : ℕ). replicate k 48 ++ numeral) same

-- an address is its eight digits
pub address_digits : (n : ℕ) → n < 2 ^ 32 → address_text n
    ≡ glyph (n / 2 ^ 28) ∷ glyph (n / 2 ^ 24) ∷ glyph (n / 2 ^ 20) ∷ glyph (n / 2 ^ 16) ∷ glyph (n / 2 ^ 12) ∷ glyph (n / 2 ^ 8)
    ∷ glyph (n / 2 ^ 4) ∷ glyph n ∷ []
unfolding digits
address_digits n small =
    let two : n / 16 / 16 ≡ n / 2 ^ 8 = omega arith in
    let three : n / 2 ^ 8 / 16 ≡ n / 2 ^ 12 = omega arith in
    let four : n / 2 ^ 12 / 16 ≡ n / 2 ^ 16 = omega arith in
    let five : n / 2 ^ 16 / 16 ≡ n / 2 ^ 20 = omega arith in
    let six : n / 2 ^ 20 / 16 ≡ n / 2 ^ 24 = omega arith in
    let seven : n / 2 ^ 24 / 16 ≡ n / 2 ^ 28 = omega arith in
    let short : IsShort 8 n = rw (two, three, four, five, six, seven) (omega arith) in
    padded_filled (digits 16 false n)
    ∙ filled_digits 7 63 n [] (omega arith) short refl
    ∙ rw (two, three, four, five, six, seven)

-- the same where each byte gives two digits
address_pairs : (n : ℕ) → n < 2 ^ 32 → address_text n
    ≡ glyph (n / 2 ^ 24 / 16) ∷ glyph (n / 2 ^ 24) ∷ glyph (n / 2 ^ 16 / 16) ∷ glyph (n / 2 ^ 16) ∷ glyph (n / 2 ^ 8 / 16)
    ∷ glyph (n / 2 ^ 8) ∷ glyph (n / 16) ∷ glyph n ∷ []
address_pairs n small =
    let seven : n / 2 ^ 24 / 16 ≡ n / 2 ^ 28 = omega arith in
    let five : n / 2 ^ 16 / 16 ≡ n / 2 ^ 20 = omega arith in
    let three : n / 2 ^ 8 / 16 ≡ n / 2 ^ 12 = omega arith in
    rw (seven, five, three) (address_digits n small)

pub pairs_and_space : (n : ℕ) → n < 2 ^ 32 → address_text n ++ 32 ∷ []
    ≡ glyph (n / 2 ^ 24 / 16) ∷ glyph (n / 2 ^ 24) ∷ glyph (n / 2 ^ 16 / 16) ∷ glyph (n / 2 ^ 16) ∷ glyph (n / 2 ^ 8 / 16)
    ∷ glyph (n / 2 ^ 8) ∷ glyph (n / 16) ∷ glyph n ∷ 32 ∷ []
pairs_and_space n small = ap (λ (list : List ℕ). list ++ 32 ∷ []) (address_pairs n small)

pub space_and_pairs : (n : ℕ) → n < 2 ^ 32 → at_text n
    ≡ 32 ∷ glyph (n / 2 ^ 24 / 16) ∷ glyph (n / 2 ^ 24) ∷ glyph (n / 2 ^ 16 / 16) ∷ glyph (n / 2 ^ 16) ∷ glyph (n / 2 ^ 8 / 16)
    ∷ glyph (n / 2 ^ 8) ∷ glyph (n / 16) ∷ glyph n ∷ []
space_and_pairs n small = ap (λ (list : List ℕ). 32 ∷ list) (address_pairs n small)

-- a number of one digit, and of two
pub one_digit : (n : ℕ) → n < 16 → digits 16 false n ≡ glyph n ∷ []
one_digit n small = hex_one_digit false n small ∙ ap (λ (m : ℕ). digit_glyph false m ∷ []) (let e : n ≡ n % 16 = omega arith in e)

pub two_digits : (n : ℕ) → 16 ≤ n → n < 256 → digits 16 false n ≡ glyph (n / 16) ∷ glyph n ∷ []
two_digits n low high =
    hex_two_digits false n low high ∙ ap (λ (m : ℕ). digit_glyph false m ∷ glyph n ∷ []) (let e : n / 16 ≡ n / 16 % 16 = omega arith in e)

-- the table of pairs of digits
abbrev pairs : List ℕ
pairs =
    codes
    "000102030405060708090a0b0c0d0e0f101112131415161718191a1b1c1d1e1f202122232425262728292a2b2c2d2e2f303132333435363738393a3b3c3d3e3f404142434445464748494a4b4c4d4e4f505152535455565758595a5b5c5d5e5f606162636465666768696a6b6c6d6e6f707172737475767778797a7b7c7d7e7f808182838485868788898a8b8c8d8e8f909192939495969798999a9b9c9d9e9fa0a1a2a3a4a5a6a7a8a9aaabacadaeafb0b1b2b3b4b5b6b7b8b9babbbcbdbebfc0c1c2c3c4c5c6c7c8c9cacbcccdcecfd0d1d2d3d4d5d6d7d8d9dadbdcdddedfe0e1e2e3e4e5e6e7e8e9eaebecedeeeff0f1f2f3f4f5f6f7f8f9fafbfcfdfeff"

pub first_in_table : (n place : ℕ) → place ≡ 2 * (n % 256) → slice_index_or pairs place 0 ≡ digit_glyph false (n / 16 % 16)
first_in_table n place is =
    let digit : n % 256 / 16 ≡ n / 16 % 16 = omega arith in
    let small : n % 256 < 256 = omega arith in
    let found =
    eqb-true _ _
    (agree_below_at (λ k. slice_index_or pairs (2 * k) 0 == digit_glyph false (k / 16)) (λ _. true) 256 (n % 256) refl small) in
    ap (λ (at : ℕ). slice_index_or pairs at 0) is ∙ found ∙ ap (digit_glyph false) digit

pub last_in_table : (n place : ℕ) → place ≡ 2 * (n % 256) + 1 → slice_index_or pairs place 0 ≡ digit_glyph false (n % 16)
last_in_table n place is =
    let digit : n % 256 % 16 ≡ n % 16 = omega arith in
    let small : n % 256 < 256 = omega arith in
    let found =
    eqb-true _ _
    (agree_below_at (λ k. slice_index_or pairs (2 * k + 1) 0 == digit_glyph false (k % 16)) (λ _. true) 256 (n % 256) refl small) in
    ap (λ (at : ℕ). slice_index_or pairs at 0) is ∙ found ∙ ap (digit_glyph false) digit

-- digits are text
glyph-ascii : (n : ℕ) → digit_glyph false (n % 16) < 128
glyph-ascii n = digit-ascii (n % 16) (omega arith)
  where
    digit-ascii : (digit : ℕ) → digit < 16 → digit_glyph false digit < 128
    digit-ascii digit small = grind (arith, nat_tests)

glyphs-ascii : (ns : List ℕ) → IsAscii (map glyph ns)
glyphs-ascii [] = IsAscii-nil
glyphs-ascii (n ∷ ns) = IsAscii-cons (glyph n) (map glyph ns) (glyph-ascii n) (glyphs-ascii ns)

places : ℕ → List ℕ
places n = n / 2 ^ 28 ∷ n / 2 ^ 24 ∷ n / 2 ^ 20 ∷ n / 2 ^ 16 ∷ n / 2 ^ 12 ∷ n / 2 ^ 8 ∷ n / 2 ^ 4 ∷ n ∷ []

address_text-IsAscii : (n : ℕ) → n < 2 ^ 32 → IsAscii (address_text n)
unfolding places
address_text-IsAscii n small = subst IsAscii (sym (address_digits n small)) (glyphs-ascii (places n))

pub one_digit-IsUtf8 : (n : ℕ) → n < 16 → IsUtf8 (digits 16 false n)
one_digit-IsUtf8 n small =
    subst IsUtf8 (sym (one_digit n small)) (IsUtf8-from_ascii (glyph n ∷ []) (glyphs-ascii (n ∷ [])))

pub two_digits-IsUtf8 : (n : ℕ) → 16 ≤ n → n < 256 → IsUtf8 (digits 16 false n)
two_digits-IsUtf8 n low high =
    subst IsUtf8 (sym (two_digits n low high)) (IsUtf8-from_ascii (glyph (n / 16) ∷ glyph n ∷ []) (glyphs-ascii (n / 16 ∷ n ∷ [])))

pub address_and_space-IsUtf8 : (n : ℕ) → n < 2 ^ 32 → IsUtf8 (address_text n ++ codes " ")
address_and_space-IsUtf8 n small =
    IsUtf8-from_ascii (address_text n ++ codes " ") (IsAscii-push (address_text n) 32 (address_text-IsAscii n small) (omega arith))

pub space_and_address-IsUtf8 : (n : ℕ) → n < 2 ^ 32 → IsUtf8 (at_text n)
space_and_address-IsUtf8 n small =
    IsUtf8-from_ascii (at_text n) (IsAscii-cons 32 (address_text n) (omega arith) (address_text-IsAscii n small))
