-- The digits of a number of few decimal places.
use Rattle.std.proofs.Common.{append_assoc, length, ◌≡◌, ℕ, ◌+◌, ◌*◌, ◌/◌, ◌%◌, ◌^◌, ◌<◌, ◌≤◌, true, List, [], ◌∷◌, ◌++◌, refl}
use Rattle.std.proofs.Common.{sym, ap, ◌∙◌, arith}
use Rattle.std.specs.Prelude.{◌==◌, codes, slice_index_or}
use Rattle.std.specs.Fmt.{decimal}
use Rattle.std.specs.Str.{IsUtf8}
use Rattle.std.proofs.lemmas.Bool.{agree_below_at, eqb-true}
use Rattle.std.proofs.lemmas.Fmt.{length-decimal-le, decimal_digit, decimal_step, IsAscii-decimal}
use Rattle.std.proofs.lemmas.Str.{IsUtf8-from_ascii}
use Rattle.std.proofs.lemmas.Str.Ascii.{IsAscii-cons, IsAscii-nil}
use Rattle.risc_listing.specs.Lines.{count_text, last_four}

-- the table of pairs of digits
abbrev pairs : List ℕ
pairs =
    codes
    "00010203040506070809101112131415161718192021222324252627282930313233343536373839404142434445464748495051525354555657585960616263646566676869707172737475767778798081828384858687888990919293949596979899"

pub ten_in_table : (n place : ℕ) → n < 100 → place ≡ 2 * n → slice_index_or pairs place 0 ≡ 48 + n / 10
ten_in_table n place small is =
    ap (λ (at : ℕ). slice_index_or pairs at 0) is
    ∙ eqb-true _ _ (agree_below_at (λ k. slice_index_or pairs (2 * k) 0 == 48 + k / 10) (λ _. true) 100 n refl small)

pub unit_in_table : (n place : ℕ) → n < 100 → place ≡ 2 * n + 1 → slice_index_or pairs place 0 ≡ 48 + n % 10
unit_in_table n place small is =
    ap (λ (at : ℕ). slice_index_or pairs at 0) is
    ∙ eqb-true _ _ (agree_below_at (λ k. slice_index_or pairs (2 * k + 1) 0 == 48 + k % 10) (λ _. true) 100 n refl small)

pub two_digits : (n : ℕ) → 10 ≤ n → n < 100 → decimal n ≡ (48 + n / 10) ∷ (48 + n % 10) ∷ []
two_digits n low high =
    decimal_step n low (omega arith) ∙ ap (λ (list : List ℕ). list ++ (48 + n % 10) ∷ []) (decimal_digit (n / 10) (omega arith))

pub three_digits : (n : ℕ) → 100 ≤ n → n < 1000 → decimal n ≡ (48 + n / 100) ∷ (48 + n / 10 % 10) ∷ (48 + n % 10) ∷ []
three_digits n low high =
    let first : n / 10 / 10 ≡ n / 100 = omega arith in
    decimal_step n (omega arith) (omega arith)
    ∙ ap (λ (list : List ℕ). list ++ (48 + n % 10) ∷ []) (two_digits (n / 10) (omega arith) (omega arith))
    ∙ ap (λ (m : ℕ). (48 + m) ∷ (48 + n / 10 % 10) ∷ (48 + n % 10) ∷ []) first

pub four_digits : (n : ℕ) → 1000 ≤ n → n < 10000 →
    decimal n ≡ (48 + n / 1000) ∷ (48 + n / 100 % 10) ∷ (48 + n / 10 % 10) ∷ (48 + n % 10) ∷ []
four_digits n low high =
    let first : n / 10 / 100 ≡ n / 1000 = omega arith in
    let second : n / 10 / 10 ≡ n / 100 = omega arith in
    decimal_step n (omega arith) (omega arith)
    ∙ ap (λ (list : List ℕ). list ++ (48 + n % 10) ∷ []) (three_digits (n / 10) (omega arith) (omega arith))
    ∙ ap (λ (m : ℕ). (48 + m) ∷ (48 + n / 10 / 10 % 10) ∷ (48 + n / 10 % 10) ∷ (48 + n % 10) ∷ []) first
    ∙ ap (λ (m : ℕ). (48 + n / 1000) ∷ (48 + m % 10) ∷ (48 + n / 10 % 10) ∷ (48 + n % 10) ∷ []) second

-- a number of more than four digits, and its last four
pub four_last : (n : ℕ) → 10000 ≤ n → n < 2 ^ 64 → decimal n ≡ decimal (n / 10000) ++ last_four (n % 10000)
four_last n low high =
    let ten : n / 10 / 10 ≡ n / 100 = omega arith in
    let hundred : n / 100 / 10 ≡ n / 1000 = omega arith in
    let thousand : n / 1000 / 10 ≡ n / 10000 = omega arith in
    let one : decimal n ≡ decimal (n / 10) ++ (48 + n % 10) ∷ [] = decimal_step n (omega arith) high in
    let two : decimal (n / 10) ≡ decimal (n / 100) ++ (48 + n / 10 % 10) ∷ [] =
    decimal_step (n / 10) (omega arith) (omega arith) ∙ ap (λ m. decimal m ++ (48 + n / 10 % 10) ∷ []) ten in
    let three : decimal (n / 100) ≡ decimal (n / 1000) ++ (48 + n / 100 % 10) ∷ [] =
    decimal_step (n / 100) (omega arith) (omega arith) ∙ ap (λ m. decimal m ++ (48 + n / 100 % 10) ∷ []) hundred in
    let four : decimal (n / 1000) ≡ decimal (n / 10000) ++ (48 + n / 1000 % 10) ∷ [] =
    decimal_step (n / 1000) (omega arith) (omega arith) ∙ ap (λ m. decimal m ++ (48 + n / 1000 % 10) ∷ []) thousand in
    let first : n / 1000 % 10 ≡ n % 10000 / 1000 % 10 = omega arith in
    let second : n / 100 % 10 ≡ n % 10000 / 100 % 10 = omega arith in
    let third : n / 10 % 10 ≡ n % 10000 / 10 % 10 = omega arith in
    let fourth : n % 10 ≡ n % 10000 % 10 = omega arith in
    grind (arith, one, two, three, four, first, second, third, fourth, append_assoc)

-- the digits of a number in front of which there may be zeros
abbrev pub all_eight : ℕ → List ℕ
all_eight n = last_four (n / 10000) ++ last_four (n % 10000)

eight_last : (n : ℕ) → 10000000 ≤ n → n < 100000000 → decimal n ≡ all_eight n
eight_last n low high =
    let front : ℕ = n / 10000 in
    let first : front / 1000 ≡ front / 1000 % 10 = omega arith in
    four_last n (omega arith) (omega arith)
    ∙ ap (λ (list : List ℕ). list ++ last_four (n % 10000)) (four_digits front (omega arith) (omega arith))
    ∙ ap (λ (m : ℕ). (48 + m) ∷ (48 + front / 100 % 10) ∷ (48 + front / 10 % 10) ∷ (48 + front % 10) ∷ last_four (n % 10000)) first

-- the last seven of them, six and five
abbrev last_seven : ℕ → List ℕ
last_seven n = (48 + n / 10000 / 100 % 10) ∷ (48 + n / 10000 / 10 % 10) ∷ (48 + n / 10000 % 10) ∷ last_four (n % 10000)

seven_last : (n : ℕ) → 1000000 ≤ n → n < 10000000 → decimal n ≡ last_seven n
seven_last n low high =
    let front : ℕ = n / 10000 in
    let first : front / 100 ≡ front / 100 % 10 = omega arith in
    four_last n (omega arith) (omega arith)
    ∙ ap (λ (list : List ℕ). list ++ last_four (n % 10000)) (three_digits front (omega arith) (omega arith))
    ∙ ap (λ (m : ℕ). (48 + m) ∷ (48 + front / 10 % 10) ∷ (48 + front % 10) ∷ last_four (n % 10000)) first

abbrev last_six : ℕ → List ℕ
last_six n = (48 + n / 10000 / 10 % 10) ∷ (48 + n / 10000 % 10) ∷ last_four (n % 10000)

six_last : (n : ℕ) → 100000 ≤ n → n < 1000000 → decimal n ≡ last_six n
six_last n low high =
    let front : ℕ = n / 10000 in
    let first : front / 10 ≡ front / 10 % 10 = omega arith in
    four_last n (omega arith) (omega arith)
    ∙ ap (λ (list : List ℕ). list ++ last_four (n % 10000)) (two_digits front (omega arith) (omega arith))
    ∙ ap (λ (m : ℕ). (48 + m) ∷ (48 + front % 10) ∷ last_four (n % 10000)) first

abbrev last_five : ℕ → List ℕ
last_five n = (48 + n / 10000 % 10) ∷ last_four (n % 10000)

five_last : (n : ℕ) → 10000 ≤ n → n < 100000 → decimal n ≡ last_five n
five_last n low high =
    let front : ℕ = n / 10000 in
    let first : front ≡ front % 10 = omega arith in
    four_last n (omega arith) (omega arith)
    ∙ ap (λ (list : List ℕ). list ++ last_four (n % 10000)) (decimal_digit front (omega arith))
    ∙ ap (λ (m : ℕ). (48 + m) ∷ last_four (n % 10000)) first

-- five digits of eight one by one
abbrev pub from_fourth : List ℕ → List ℕ
from_fourth d =
    slice_index_or d 3 0 ∷ slice_index_or d 4 0 ∷ slice_index_or d 5 0 ∷ slice_index_or d 6 0 ∷ slice_index_or d 7 0 ∷ []

-- a number behind a space, by its eight digits
module _ (n : ℕ) (d : List ℕ) (is : d ≡ all_eight n) where
  pub five_spelled : 10000 ≤ n → n < 100000 → 32 ∷ from_fourth d ≡ count_text n
  five_spelled low high =
      ap (λ (x : List ℕ). 32 ∷ from_fourth x) is ∙ ap (λ (list : List ℕ). 32 ∷ list) (sym (five_last n low high))

  pub six_spelled : 100000 ≤ n → n < 1000000 → 32 ∷ slice_index_or d 2 0 ∷ from_fourth d ≡ count_text n
  six_spelled low high =
      ap (λ (x : List ℕ). 32 ∷ slice_index_or x 2 0 ∷ from_fourth x) is
      ∙ ap (λ (list : List ℕ). 32 ∷ list) (sym (six_last n low high))

  pub seven_spelled : 1000000 ≤ n → n < 10000000 →
      32 ∷ slice_index_or d 1 0 ∷ slice_index_or d 2 0 ∷ from_fourth d ≡ count_text n
  seven_spelled low high =
      ap (λ (x : List ℕ). 32 ∷ slice_index_or x 1 0 ∷ slice_index_or x 2 0 ∷ from_fourth x) is
      ∙ ap (λ (list : List ℕ). 32 ∷ list) (sym (seven_last n low high))

  pub eight_spelled : 10000000 ≤ n → n < 100000000 →
      32 ∷ slice_index_or d 0 0 ∷ slice_index_or d 1 0 ∷ slice_index_or d 2 0 ∷ from_fourth d ≡ count_text n
  eight_spelled low high =
      ap (λ (x : List ℕ). 32 ∷ slice_index_or x 0 0 ∷ slice_index_or x 1 0 ∷ slice_index_or x 2 0 ∷ from_fourth x) is
      ∙ ap (λ (list : List ℕ). 32 ∷ list) (sym (eight_last n low high))

pub last_four-IsUtf8 : (n : ℕ) → IsUtf8 (last_four n)
last_four-IsUtf8 n =
    let thousands : ℕ = 48 + n / 1000 % 10 in
    let hundreds : ℕ = 48 + n / 100 % 10 in
    let tens : ℕ = 48 + n / 10 % 10 in
    let units : ℕ = 48 + n % 10 in
    IsUtf8-from_ascii (last_four n)
    (IsAscii-cons thousands (hundreds ∷ tens ∷ units ∷ []) (omega arith)
    (IsAscii-cons hundreds (tens ∷ units ∷ []) (omega arith)
    (IsAscii-cons tens (units ∷ []) (omega arith) (IsAscii-cons units [] (omega arith) IsAscii-nil))))

pub length-count_text : (k n : ℕ) → 0 < k → n < 10 ^ k → n < 2 ^ 64 → length (count_text n) ≤ k + 1
length-count_text k n some small fits = let long : length (decimal n) ≤ k = length-decimal-le k n some small fits in omega (arith, long)

pub count_text-IsUtf8 : (n : ℕ) → n < 2 ^ 64 → IsUtf8 (count_text n)
count_text-IsUtf8 n small = IsUtf8-from_ascii (32 ∷ decimal n) (IsAscii-cons 32 (decimal n) (omega arith) (IsAscii-decimal n small))
