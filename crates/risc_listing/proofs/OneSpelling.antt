-- Words are the canonical encoding of the instruction that is read of them exactly where each bit that no
-- field names is 0.
use Rattle.std.proofs.Common.{ℕ, zero, suc, ◌+◌, ◌*◌, ◌^◌, ◌≡◌, ◌<◌, Bool, true, false, List, [], ◌∷◌, Option, Some, None, Ok, refl, sym}
use Rattle.std.proofs.Common.{ap, ◌∙◌, arith}
use Rattle.std.specs.Prelude.{IfOk, IfSome, ◌==◌, ◌&&◌, if◌then◌else◌, slice_index}
use Rattle.std.specs.List.{starts_with}
use Rattle.std.proofs.lemmas.Bool.{cond_both, eq-eqb, eqb-true, ne_eqb}
use Rattle.std.proofs.lemmas.Result.{MatchResult-at_ok}
use Rattle.std.proofs.Math.Bool.{and-true}
use Rattle.bit_field.specs.Bits.{bits}
use Rattle.risc_word.specs.declared.Code.{Code}
use Rattle.risc_word.specs.declared.Instr.{Instr}
use Rattle.risc_word.specs.Words.{Reading, by_opcode, code_number, code_numbered, control_bits, counts_word, data_word, encoded}
use Rattle.risc_word.specs.Words.{first_count, first_instr, flag, head_word, instr_at, jump_at}
use Rattle.risc_word.specs.Words.{lanes_off, line_ends, skip_123_at, skip_at, sync_at, sync_for, sync_word, write_123_at, write_1_s_23_at}
use Rattle.risc_word.specs.Words.{write_at, write_c_at}
use Rattle.risc_listing.specs.Listings.{if_spelled, spelled}
use Rattle.risc_listing.specs.Unnamed.{TellsPlain, are_unnamed_zero, are_unnamed_zero_in_counts, are_unnamed_zero_in_data}
use Rattle.risc_listing.specs.Unnamed.{are_unnamed_zero_in_jump, are_unnamed_zero_in_skip, are_unnamed_zero_in_sync}

not_zero : (n : ℕ) → (suc n == 0) ≡ false
not_zero n = ne_eqb (suc n) 0 (λ same. omega arith)

-- a word is the sum of its fields where the other bits are 0
same_word : (word fields other : ℕ) → word ≡ fields + other → (fields == word) ≡ (other == 0)
same_word word fields zero is = eq-eqb fields word (omega arith)
same_word word fields (suc n) is = ne_eqb fields word (λ same. omega arith) ∙ sym (not_zero n)

scaled : (n j : ℕ) → 0 < j → (n * j == 0) ≡ (n == 0)
scaled zero j some = eq-eqb (0 * j) 0 (omega arith)
scaled (suc n) j some = ne_eqb (suc n * j) 0 (λ same. omega arith) ∙ sym (not_zero n)

sum_zero : (one other j k : ℕ) → 0 < j → 0 < k → (one * j + other * k == 0) ≡ ((one == 0) && (other == 0))
sum_zero zero zero j k j_some k_some = eq-eqb (0 * j + 0 * k) 0 (omega arith)
sum_zero zero (suc n) j k j_some k_some = ne_eqb (0 * j + suc n * k) 0 (λ same. omega arith) ∙ sym (not_zero n)
sum_zero (suc n) other j k j_some k_some =
    ne_eqb (suc n * j + other * k) 0 (λ same. omega arith) ∙ sym (ap (λ (b : Bool). b && (other == 0)) (not_zero n))

flag_of : (place b : ℕ) → b < 2 → flag place (b == 1) ≡ b * 2 ^ place
flag_of place zero small = omega arith
flag_of place (suc zero) small = omega arith
flag_of place (suc (suc n)) small = absurd (omega arith)

-- a word of 32 bits by its fields
abbrev by_fields : ℕ → ℕ
by_fields word =
    bits 28 4 word * 2 ^ 28 + bits 27 1 word * 2 ^ 27 + bits 26 1 word * 2 ^ 26 + bits 25 1 word * 2 ^ 25 + bits 24 1 word * 2 ^ 24
    + bits 20 4 word * 2 ^ 20 + bits 16 4 word * 2 ^ 16 + bits 12 4 word * 2 ^ 12 + bits 0 12 word

fields_are : (word : ℕ) → word < 2 ^ 32 → word ≡ by_fields word
fields_are word small = omega arith

zero_test : (n : ℕ) → (0 == n) ≡ (n == 0)
zero_test zero = refl
zero_test (suc n) = ne_eqb 0 (suc n) (λ same. omega arith) ∙ sym (ne_eqb (suc n) 0 (λ same. omega arith))

same : (n : ℕ) → (n == n) ≡ true
same n = eq-eqb n n refl

-- the sums of a first word's fields, where the flags are those of single bits
data_of : (word opcode b28 b27 b26 b25 b24 b20 b16 b12 b0 f27 f26 f24 : ℕ) → b28 ≡ opcode → f27 ≡ b27 * 2 ^ 27 → f26 ≡ b26 * 2 ^ 26 →
    f24 ≡ b24 * 2 ^ 24 →
    word ≡ b28 * 2 ^ 28 + b27 * 2 ^ 27 + b26 * 2 ^ 26 + b25 * 2 ^ 25 + b24 * 2 ^ 24 + b20 * 2 ^ 20 + b16 * 2 ^ 16 + b12 * 2 ^ 12 + b0 →
    word ≡ opcode * 2 ^ 28 + f24 + b20 * 2 ^ 20 + b16 * 2 ^ 16 + f27 + f26 + b12 * 2 ^ 12 + b0 + b25 * 2 ^ 25
data_of word opcode b28 b27 b26 b25 b24 b20 b16 b12 b0 f27 f26 f24 is h27 h26 h24 sum = omega arith

bit_small : (place word : ℕ) → bits place 1 word < 2
bit_small place word = omega arith

module _ (word : ℕ) (small : word < 2 ^ 32) where
  data_sum : (opcode : ℕ) → bits 28 4 word ≡ opcode →
      word ≡ data_word opcode (control_bits word) (line_ends word) (lanes_off word) (first_count word) + bits 25 1 word * 2 ^ 25
  data_sum opcode is =
      data_of word opcode (bits 28 4 word) (bits 27 1 word) (bits 26 1 word) (bits 25 1 word) (bits 24 1 word) (bits 20 4 word)
      (bits 16 4 word) (bits 12 4 word) (bits 0 12 word) _ _ _ is
      (flag_of 27 (bits 27 1 word) (bit_small 27 word)) (flag_of 26 (bits 26 1 word) (bit_small 26 word))
      (flag_of 24 (bits 24 1 word) (bit_small 24 word)) (fields_are word small)

  data_same : (opcode : ℕ) → bits 28 4 word ≡ opcode →
      (data_word opcode (control_bits word) (line_ends word) (lanes_off word) (first_count word) == word) ≡ are_unnamed_zero_in_data word
  data_same opcode is = same_word word _ (bits 25 1 word * 2 ^ 25) (data_sum opcode is) ∙ scaled (bits 25 1 word) (2 ^ 25) (omega arith)

  skip_sum : (opcode : ℕ) → bits 28 4 word ≡ opcode → word
      ≡ data_word opcode (control_bits word) (line_ends word) 0 (first_count word) + (bits 25 1 word * 2 ^ 25 + bits 12 4 word * 2 ^ 12)
  skip_sum opcode is =
      without_lanes word (opcode * 2 ^ 28 + flag 24 (bits 24 1 word == 1) + bits 20 4 word * 2 ^ 20 + bits 16 4 word * 2 ^ 16
      + flag 27 (bits 27 1 word == 1) + flag 26 (bits 26 1 word == 1)) (bits 12 4 word) (bits 0 12 word) (bits 25 1 word)
      (data_sum opcode is)
    where
      without_lanes : (word head lanes count spare : ℕ) → word ≡ head + lanes * 2 ^ 12 + count + spare * 2 ^ 25 →
          word ≡ head + 0 * 2 ^ 12 + count + (spare * 2 ^ 25 + lanes * 2 ^ 12)
      without_lanes word head lanes count spare is = omega arith

  skip_same : (opcode : ℕ) → bits 28 4 word ≡ opcode →
      (data_word opcode (control_bits word) (line_ends word) 0 (first_count word) == word) ≡ are_unnamed_zero_in_skip word
  skip_same opcode is =
      same_word word _ _ (skip_sum opcode is) ∙ sum_zero (bits 25 1 word) (bits 12 4 word) (2 ^ 25) (2 ^ 12) (omega arith) (omega arith)

  head_fields : word ≡ bits 28 4 word * 2 ^ 28 + bits 25 3 word * 2 ^ 25 + bits 24 1 word * 2 ^ 24 + bits 20 4 word * 2 ^ 20
      + bits 16 4 word * 2 ^ 16 + bits 0 16 word
  head_fields = omega arith

  head_of : (opcode b28 b25 b24 b20 b16 b0 f24 : ℕ) → b28 ≡ opcode → f24 ≡ b24 * 2 ^ 24 →
      word ≡ b28 * 2 ^ 28 + b25 * 2 ^ 25 + b24 * 2 ^ 24 + b20 * 2 ^ 20 + b16 * 2 ^ 16 + b0 →
      word ≡ opcode * 2 ^ 28 + f24 + b20 * 2 ^ 20 + b16 * 2 ^ 16 + (b25 * 2 ^ 25 + b0 * 1)
  head_of opcode b28 b25 b24 b20 b16 b0 f24 is h24 sum = omega arith

  head_sum : (opcode : ℕ) → bits 28 4 word ≡ opcode →
      word ≡ head_word opcode (control_bits word) + (bits 25 3 word * 2 ^ 25 + bits 0 16 word * 1)
  head_sum opcode is =
      head_of opcode (bits 28 4 word) (bits 25 3 word) (bits 24 1 word) (bits 20 4 word) (bits 16 4 word) (bits 0 16 word) _ is
      (flag_of 24 (bits 24 1 word) (bit_small 24 word)) head_fields

  jump_same : bits 28 4 word ≡ 7 → (head_word 7 (control_bits word) == word) ≡ are_unnamed_zero_in_jump word
  jump_same is = same_word word _ _ (head_sum 7 is) ∙ sum_zero (bits 25 3 word) (bits 0 16 word) (2 ^ 25) 1 (omega arith) (omega arith)

  lower_half : bits 0 16 word ≡ bits 15 1 word * 2 ^ 15 + bits 4 11 word * 2 ^ 4 + bits 0 4 word
  lower_half = omega arith

  sync_of : (head half b25 b15 b4 b0 f15 number : ℕ) → f15 ≡ b15 * 2 ^ 15 → number ≡ b0 → half ≡ b15 * 2 ^ 15 + b4 * 2 ^ 4 + b0 →
      word ≡ head + (b25 * 2 ^ 25 + half * 1) → word ≡ head + f15 + number + (b25 * 2 ^ 25 + b4 * 2 ^ 4)
  sync_of head half b25 b15 b4 b0 f15 number h15 h0 split sum = omega arith

  sync_same : (code : Code) → bits 28 4 word ≡ 8 → code_number code ≡ bits 0 4 word →
      (sync_word (control_bits word) (bits 15 1 word == 1) code == word) ≡ are_unnamed_zero_in_sync word
  sync_same code is number =
      let sum =
      sync_of (head_word 8 (control_bits word)) (bits 0 16 word) (bits 25 3 word) (bits 15 1 word) (bits 4 11 word) (bits 0 4 word) _
      (code_number code)
      (flag_of 15 (bits 15 1 word) (bit_small 15 word)) number lower_half (head_sum 8 is) in
      same_word word _ _ sum ∙ sum_zero (bits 25 3 word) (bits 4 11 word) (2 ^ 25) (2 ^ 4) (omega arith) (omega arith)

  counts_sum : word ≡ counts_word (bits 0 12 word) (bits 16 12 word) + (bits 12 4 word * 2 ^ 12 + bits 28 4 word * 2 ^ 28)
  counts_sum = omega arith

  counts_same : (counts_word (bits 0 12 word) (bits 16 12 word) == word) ≡ are_unnamed_zero_in_counts word
  counts_same = same_word word _ _ counts_sum ∙ sum_zero (bits 12 4 word) (bits 28 4 word) (2 ^ 12) (2 ^ 28) (omega arith) (omega arith)

abbrev IsNumbered : ℕ → Option Code → Type 0
IsNumbered n found = IfSome found (λ code. code_number code ≡ n)

number_back : (n : ℕ) → IsNumbered n (code_numbered n)
number_back n =
    cond_both (n == 4) _ _ (IsNumbered n) (λ is. sym (eqb-true n 4 is)) (λ _.
    cond_both (n == 6) _ _ (IsNumbered n) (λ is. sym (eqb-true n 6 is)) (λ _.
    cond_both (n == 12) _ _ (IsNumbered n) (λ is. sym (eqb-true n 12 is)) (λ _.
    cond_both (n == 14) _ _ (IsNumbered n) (λ is. sym (eqb-true n 14 is)) (λ _. tt))))

-- words are the canonical encoding of what is read of them exactly where they are plain
abbrev IsExact : ℕ → List ℕ → Reading → Type 0
IsExact word rest reading =
    IfOk reading
    (λ read. starts_with (λ one other. one == other) (word ∷ rest) (encoded read.0) ≡ are_unnamed_zero read.0 word (slice_index rest 0))

module _ (word : ℕ) (small : word < 2 ^ 32) where
  write_exact : bits 28 4 word ≡ 1 → (rest : List ℕ) → IsExact word rest (write_at word rest)
  write_exact is [] = tt
  write_exact is (address ∷ rest) = rw (data_same word small 1 is, same address) (and-true (are_unnamed_zero_in_data word))

  skip_exact : bits 28 4 word ≡ 2 → (rest : List ℕ) → IsExact word rest (skip_at word)
  skip_exact is rest = rw (skip_same word small 2 is) (and-true (are_unnamed_zero_in_skip word))

  write_c_exact : bits 28 4 word ≡ 5 → (rest : List ℕ) → IsExact word rest (write_c_at word)
  write_c_exact is rest = rw (data_same word small 5 is) (and-true (are_unnamed_zero_in_data word))

  jump_exact : bits 28 4 word ≡ 7 → (rest : List ℕ) → IsExact word rest (jump_at word rest)
  jump_exact is [] = tt
  jump_exact is (target ∷ rest) = rw (jump_same word small is, same target) (and-true (are_unnamed_zero_in_jump word))

  sync_for_exact : bits 28 4 word ≡ 8 → (second : ℕ) (rest : List ℕ) (found : Option Code) → IsNumbered (bits 0 4 word) found →
      IsExact word (second ∷ rest) (sync_for word found)
  sync_for_exact is second rest None number = tt
  sync_for_exact is second rest (Some code) number =
      rw (sync_same word small code is number, zero_test second)
      (ap (λ (b : Bool). are_unnamed_zero_in_sync word && b) (and-true (second == 0)))

  sync_exact : bits 28 4 word ≡ 8 → (rest : List ℕ) → IsExact word rest (sync_at word rest)
  sync_exact is [] = tt
  sync_exact is (second ∷ rest) = sync_for_exact is second rest (code_numbered (bits 0 4 word)) (number_back (bits 0 4 word))

  write_123_exact : bits 28 4 word ≡ 9 → (rest : List ℕ) → slice_index rest 0 < 2 ^ 32 → IsExact word rest (write_123_at word rest)
  write_123_exact is [] rest_small = tt
  write_123_exact is (counts ∷ []) rest_small = tt
  write_123_exact is (counts ∷ first ∷ []) rest_small = tt
  write_123_exact is (counts ∷ first ∷ second ∷ []) rest_small = tt
  write_123_exact is (counts ∷ first ∷ second ∷ third ∷ rest) rest_small =
      rw (data_same word small 9 is, counts_same counts rest_small, same first, same second, same third)
      (ap (λ (b : Bool). are_unnamed_zero_in_data word && b) (and-true (are_unnamed_zero_in_counts counts)))

  skip_123_exact : bits 28 4 word ≡ 10 → (rest : List ℕ) → slice_index rest 0 < 2 ^ 32 → IsExact word rest (skip_123_at word rest)
  skip_123_exact is [] rest_small = tt
  skip_123_exact is (counts ∷ rest) rest_small =
      rw (skip_same word small 10 is, counts_same counts rest_small)
      (ap (λ (b : Bool). are_unnamed_zero_in_skip word && b) (and-true (are_unnamed_zero_in_counts counts)))

  write_1_s_23_exact : bits 28 4 word ≡ 11 → (rest : List ℕ) → slice_index rest 0 < 2 ^ 32 → IsExact word rest (write_1_s_23_at word rest)
  write_1_s_23_exact is [] rest_small = tt
  write_1_s_23_exact is (counts ∷ []) rest_small = tt
  write_1_s_23_exact is (counts ∷ address ∷ rest) rest_small =
      rw (data_same word small 11 is, counts_same counts rest_small, same address)
      (ap (λ (b : Bool). are_unnamed_zero_in_data word && b) (and-true (are_unnamed_zero_in_counts counts)))

  chosen : (opcode this : ℕ) (rest : List ℕ) (one other : Reading) → (opcode ≡ this → IsExact word rest one) → IsExact word rest other →
      IsExact word rest (if opcode == this then one else other)
  chosen opcode this rest one other one_exact other_exact =
      cond_both (opcode == this) one other (IsExact word rest) (λ is. one_exact (eqb-true opcode this is)) (λ _. other_exact)

  exact_by_opcode : (rest : List ℕ) → slice_index rest 0 < 2 ^ 32 → IsExact word rest (by_opcode (bits 28 4 word) word rest)
  exact_by_opcode rest rest_small =
      chosen (bits 28 4 word) 1 rest _ _ (λ is. write_exact is rest)
      (chosen (bits 28 4 word) 2 rest _ _ (λ is. skip_exact is rest)
      (chosen (bits 28 4 word) 5 rest _ _ (λ is. write_c_exact is rest)
      (chosen (bits 28 4 word) 7 rest _ _ (λ is. jump_exact is rest)
      (chosen (bits 28 4 word) 8 rest _ _ (λ is. sync_exact is rest)
      (chosen (bits 28 4 word) 9 rest _ _ (λ is. write_123_exact is rest rest_small)
      (chosen (bits 28 4 word) 10 rest _ _ (λ is. skip_123_exact is rest rest_small)
      (chosen (bits 28 4 word) 11 rest _ _ (λ is. write_1_s_23_exact is rest rest_small) tt)))))))

exact : (words : List ℕ) → ((k : ℕ) → slice_index words k < 2 ^ 32) →
    IfOk (first_instr words) (λ read. starts_with (λ one other. one == other) words (encoded read.0)
    ≡ are_unnamed_zero read.0 (slice_index words 0) (slice_index words 1))
exact [] small = tt
exact (word ∷ rest) small = exact_by_opcode word (small 0) rest (small 1)

-- words are the canonical encoding of what was read, by the test of the bits
pub spelled_where : (test other : Bool) (words : List ℕ) → ((k : ℕ) → slice_index words k < 2 ^ 32) → (instr : Instr) (number : ℕ) →
    Ok (instr, number) ≡ instr_at words 0 →
    TellsPlain test words → test ≡ other → spelled words ≡ (if other then Some (instr, number) else None)
spelled_where test other words small instr number is told same =
    let plain =
    MatchResult-at_ok (λ read. starts_with (λ one other. one == other) words (encoded read.0)
    ≡ are_unnamed_zero read.0 (slice_index words 0) (slice_index words 1)) (λ _. Unit {0}) (instr, number) (sym is) (exact words small) in
    let tested = MatchResult-at_ok (λ read. are_unnamed_zero read.0 (slice_index words 0) (slice_index words 1) ≡ test) (λ _. Unit {0}) (
      instr,
      number,
    ) (sym is) told in
    ap (if_spelled words) (sym is) ∙ ap (λ (b : Bool). if b then Some (instr, number) else None) (plain ∙ tested ∙ same)
