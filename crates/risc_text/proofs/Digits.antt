-- Digits are read back.
use Rattle.std.proofs.Common.{◌≡◌, ℕ, zero, suc, ◌+◌, ◌-◌, ◌*◌, ◌/◌, ◌%◌, ◌^◌, ◌<◌, ◌≤◌, true, false, List, [], ◌∷◌, ◌++◌, length}
use Rattle.std.proofs.Common.{length-append, Some, refl, ap, ◌∙◌, arith, append_assoc}
use Rattle.std.specs.Fmt.{decimal, digit_glyph, digits}
use Rattle.std.proofs.lemmas.Bool.Decides.{nat_tests}
use Rattle.std.proofs.lemmas.Fmt.{decimal_by_steps, hex_one_digit, hex_byte, length-decimal-le}
use Rattle.risc_listing.specs.Lines.{address_text, hex}
use Rattle.risc_listing.proofs.Hexadecimal.{address_digits}
use Rattle.risc_text.specs.Readers.{digit, hex_digits, decimal_digits, is_decimal}

pub digit-glyph : (d : ℕ) → d < 16 → digit (digit_glyph false d) ≡ d
digit-glyph d small = grind (arith, nat_tests)

pub glyph-small : (d : ℕ) → d < 16 → digit_glyph false d < 103
glyph-small d small = grind (arith, nat_tests)

pub glyph-large : (d : ℕ) → d < 16 → 48 ≤ digit_glyph false d
glyph-large d small = grind (arith, nat_tests)

pub hex_step : (k n d m : ℕ) (rest : List ℕ) → d < 16 → n * 16 + d ≡ m →
    hex_digits (suc k) n (digit_glyph false d ∷ rest) ≡ hex_digits k m rest
unfolding hex_digits
hex_step k n d m rest small is =
    ap (λ (e : ℕ). hex_digits k (n * 16 + e) rest) (digit-glyph d small) ∙ ap (λ value. hex_digits k value rest) is

pub hex_end : (n : ℕ) (rest : List ℕ) → hex_digits 0 n rest ≡ Some (n, rest)
unfolding hex_digits
hex_end n rest = refl

-- eight digits
pub address_back : (n : ℕ) (rest : List ℕ) → n < 2 ^ 32 → hex_digits 8 0 (address_text n ++ rest) ≡ Some (n, rest)
address_back n rest small =
    rw (address_digits n small) (
    hex_step 7 0 (n / 2 ^ 28 % 16) (n / 2 ^ 28)
    (digit_glyph false (n / 2 ^ 24 % 16) ∷ digit_glyph false (n / 2 ^ 20 % 16) ∷ digit_glyph false (n / 2 ^ 16 % 16) ∷ digit_glyph false
    (n / 2 ^ 12 % 16) ∷ digit_glyph false (n / 2 ^ 8 % 16) ∷ digit_glyph false (n / 2 ^ 4 % 16) ∷ digit_glyph false (n % 16) ∷ rest)
    (omega arith) (omega arith)
    ∙ hex_step 6 (n / 2 ^ 28) (n / 2 ^ 24 % 16) (n / 2 ^ 24)
    (digit_glyph false (n / 2 ^ 20 % 16) ∷ digit_glyph false (n / 2 ^ 16 % 16) ∷ digit_glyph false (n / 2 ^ 12 % 16) ∷
    digit_glyph false (n / 2 ^ 8 % 16) ∷ digit_glyph false (n / 2 ^ 4 % 16) ∷ digit_glyph false (n % 16) ∷ rest) (omega arith) (omega arith)
    ∙ hex_step 5 (n / 2 ^ 24) (n / 2 ^ 20 % 16) (n / 2 ^ 20)
    (digit_glyph false (n / 2 ^ 16 % 16) ∷ digit_glyph false (n / 2 ^ 12 % 16) ∷ digit_glyph false (n / 2 ^ 8 % 16) ∷
    digit_glyph false (n / 2 ^ 4 % 16) ∷ digit_glyph false (n % 16) ∷ rest) (omega arith) (omega arith)
    ∙ hex_step 4 (n / 2 ^ 20) (n / 2 ^ 16 % 16) (n / 2 ^ 16) (digit_glyph false (n / 2 ^ 12 % 16) ∷ digit_glyph false (n / 2 ^ 8 % 16)
    ∷ digit_glyph false (n / 2 ^ 4 % 16) ∷ digit_glyph false (n % 16) ∷ rest) (omega arith) (omega arith)
    ∙ hex_step 3 (n / 2 ^ 16) (n / 2 ^ 12 % 16)
    (n / 2 ^ 12) (digit_glyph false (n / 2 ^ 8 % 16) ∷ digit_glyph false (n / 2 ^ 4 % 16) ∷ digit_glyph false (n % 16) ∷ rest) (omega arith)
    (omega arith)
    ∙ hex_step 2 (n / 2 ^ 12) (n / 2 ^ 8 % 16) (n / 2 ^ 8) (digit_glyph false (n / 2 ^ 4 % 16) ∷ digit_glyph false (n % 16) ∷ rest)
    (omega arith) (omega arith)
    ∙ hex_step 1 (n / 2 ^ 8) (n / 2 ^ 4 % 16) (n / 2 ^ 4) (digit_glyph false (n % 16) ∷ rest) (omega arith) (omega arith)
    ∙ hex_step 0 (n / 2 ^ 4) (n % 16) n (rest) (omega arith) (omega arith)
    ∙ hex_end n rest)

-- one digit, and two
pub nibble_back : (n : ℕ) (rest : List ℕ) → n < 16 → hex_digits 1 0 (digits 16 false n ++ rest) ≡ Some (n, rest)
nibble_back n rest small =
    rw (hex_one_digit false n small) (hex_step 0 0 n n rest small (omega arith) ∙ hex_end n rest)

pub byte_back : (n : ℕ) (rest : List ℕ) → n < 256 → hex_digits 2 0 (hex 2 n ++ rest) ≡ Some (n, rest)
byte_back n rest small =
    rw (hex_byte false n small) (
    hex_step 1 0 (n / 16) (n / 16) (digit_glyph false (n % 16) ∷ rest) (omega arith) (omega arith)
    ∙ hex_step 0 (n / 16) (n % 16) n rest (omega arith) (omega arith) ∙ hex_end n rest)

-- a decimal number
decimal_step : (k n d : ℕ) (rest : List ℕ) → d < 10 → decimal_digits (suc k) n ((48 + d) ∷ rest) ≡ decimal_digits k (n * 10 + d) rest
unfolding decimal_digits
decimal_step k n d rest small =
    let is : is_decimal (48 + d) ≡ true = grind (arith, nat_tests) in
    let same : 48 + d - 48 ≡ d = omega arith in
    rw (is, same) refl

IsReadBack : ℕ → List ℕ → Type 0
IsReadBack n text = (k : ℕ) (rest : List ℕ) → decimal_digits (k + length text) 0 (text ++ rest) ≡ decimal_digits k n rest

decimal_read : (n : ℕ) → n < 2 ^ 64 → IsReadBack n (decimal n)
unfolding IsReadBack
decimal_read = decimal_by_steps IsReadBack
    (λ n small k rest. ap (λ m. decimal_digits m 0 ((48 + n) ∷ rest)) (let e : k + 1 ≡ suc k = omega arith in e)
    ∙ decimal_step k 0 n rest small
    ∙ ap (λ m. decimal_digits k m rest) (let e : 0 * 10 + n ≡ n = omega arith in e))
    (λ n ds low before k rest.
    let longer : k + length (ds ++ (48 + n % 10) ∷ []) ≡ suc k + length ds = rw length-append (omega arith) in
    let whole : n / 10 * 10 + n % 10 ≡ n = omega arith in
    ap (λ m. decimal_digits m 0 ((ds ++ (48 + n % 10) ∷ []) ++ rest)) longer
    ∙ ap (λ text. decimal_digits (suc k + length ds) 0 text) (append_assoc ds ((48 + n % 10) ∷ []) rest)
    ∙ before (suc k) ((48 + n % 10) ∷ rest)
    ∙ decimal_step k (n / 10) (n % 10) rest (omega arith)
    ∙ ap (λ m. decimal_digits k m rest) whole)

stops : (k n byte : ℕ) (rest : List ℕ) → is_decimal byte ≡ false → decimal_digits k n (byte ∷ rest) ≡ (n, byte ∷ rest)
unfolding decimal_digits
stops zero n byte rest is = refl
stops (suc k) n byte rest is = rw is (stops k n byte rest is)

pub number_back : (most n byte : ℕ) (rest : List ℕ) → 0 < most → n < 10 ^ most → n < 2 ^ 64 → is_decimal byte ≡ false →
    decimal_digits most 0 (decimal n ++ byte ∷ rest) ≡ (n, byte ∷ rest)
unfolding IsReadBack
number_back most n byte rest some small short is =
    let long = length-decimal-le most n some small short in
    let room : most ≡ (most - length (decimal n)) + length (decimal n) = omega arith in
    ap (λ m. decimal_digits m 0 (decimal n ++ byte ∷ rest)) room
    ∙ decimal_read n short (most - length (decimal n)) (byte ∷ rest)
    ∙ stops (most - length (decimal n)) n byte rest is

-- a decimal number begins with a decimal digit
pub record StartsDecimal (text : List ℕ) : Type 0 where
  pub first : ℕ
  pub rest : List ℕ
  pub is : text ≡ first ∷ rest
  pub low : 48 ≤ first
  pub high : first < 58

pub starts_decimal : (n : ℕ) → n < 2 ^ 64 → StartsDecimal (decimal n)
starts_decimal = decimal_by_steps (λ n text. StartsDecimal text)
    (λ n small. record { first = 48 + n; rest = []; is = refl; low = omega arith; high = omega arith })
    (λ n ds low before. record {
      first = before.first;
      rest = before.rest ++ (48 + n % 10) ∷ [];
      is = ap (λ (text : List ℕ). text ++ (48 + n % 10) ∷ []) before.is;
      low = before.low;
      high = before.high;
    })
