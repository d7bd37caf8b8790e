-- Words of several spans and their numbers, one to one.
use Rattle.std.proofs.Common.{◌≡◌, ℕ, ◌+◌, ◌-◌, ◌/◌, ◌%◌, ◌<◌, ◌≤◌, inl, inr, true, false, List, [], ◌∷◌, length, Some, ap, arith}
use Rattle.std.proofs.Common.{if◌then◌else◌, ◌==◌, nat_lt, nat_le, eqb-true, ltb-true, leb-true}
use Rattle.std.proofs.lemmas.Bool.{cases_Bool}
use Rattle.std.proofs.lemmas.List.{length-append}
use Rattle.machine_model.specs.Paths.{RiscProgram, Span, all_words, stands_in, words_of}
use Rattle.machine_model.proofs.BeforeTurns.{three_parts}
use Rattle.risc_verify.specs.Programs.{number_from, word_of}

record Stands (s : Span) (address : ℕ) : Type 0 where
  from : s.at ≤ address
  whole : (address - s.at) % 4 ≡ 0
  below : (address - s.at) / 4 < length s.words

parts : (s : Span) (address : ℕ) → stands_in s address ≡ true → Stands s address
parts s address here =
    let three = three_parts (nat_le s.at address) ((address - s.at) % 4 == 0) (nat_lt ((address - s.at) / 4) (length s.words)) here in
    record {
      from = leb-true s.at address three.0;
      whole = eqb-true ((address - s.at) % 4) 0 three.1;
      below = ltb-true ((address - s.at) / 4) (length s.words) three.2;
    }

module _ (before : ℕ) (s : Span) (rest : List Span) (address number : ℕ) (is : number_from before (s ∷ rest) address ≡ Some number) where
  here : stands_in s address ≡ true → before + (address - s.at) / 4 ≡ number
  here stands =
      let first =
      ap (λ test. if test then Some (before + (address - s.at) / 4) else number_from (before + length s.words) rest address) stands in cc

  later : stands_in s address ≡ false → number_from (before + length s.words) rest address ≡ Some number
  later stands =
      let first =
      ap (λ test. if test then Some (before + (address - s.at) / 4) else number_from (before + length s.words) rest address) stands in cc

-- a number is that of a word
record Within (before : ℕ) (spans : List Span) (number : ℕ) : Type 0 where
  from : before ≤ number
  below : number < before + length (words_of spans)

number-within : (before : ℕ) (spans : List Span) (address number : ℕ) → number_from before spans address ≡ Some number →
    Within before spans number
number-within before [] address number is = absurd (cc)
number-within before (s ∷ rest) address number is =
    let long = length-append s.words (words_of rest) in
    elim (cases_Bool (stands_in s address)) [
      | inl stands ↦
          let first = here before s rest address number is stands in
          let below = (parts s address stands).below in
          record { from = omega arith; below = omega arith }
      | inr stands ↦
          let behind = number-within (before + length s.words) rest address number (later before s rest address number is stands) in
          let from = behind.from in
          let below = behind.below in
          record { from = omega arith; below = omega arith }
    ]

-- two addresses with one number are the same
same-number : (before : ℕ) (spans : List Span) (a b number : ℕ) → number_from before spans a ≡ Some number →
    number_from before spans b ≡ Some number → a ≡ b
same-number before [] a b number is_a is_b = absurd (cc)
same-number before (s ∷ rest) a b number is_a is_b =
    elim (cases_Bool (stands_in s a)) [
      | inl a_here ↦
          let pa = parts s a a_here in
          let na = here before s rest a number is_a a_here in
          let a_from = pa.from in
          let a_whole = pa.whole in
          let a_below = pa.below in
          elim (cases_Bool (stands_in s b)) [
            | inl b_here ↦
                let pb = parts s b b_here in
                let nb = here before s rest b number is_b b_here in
                let b_from = pb.from in
                let b_whole = pb.whole in
                omega arith
            | inr b_later ↦
                let from = (number-within (before + length s.words) rest b number (later before s rest b number is_b b_later)).from in
                absurd (omega arith)
          ]
      | inr a_later ↦
          let na = later before s rest a number is_a a_later in
          elim (cases_Bool (stands_in s b)) [
            | inl b_here ↦
                let nb = here before s rest b number is_b b_here in
                let b_below = (parts s b b_here).below in
                let from = (number-within (before + length s.words) rest a number na).from in
                absurd (omega arith)
            | inr b_later ↦ same-number (before + length s.words) rest a b number na (later before s rest b number is_b b_later)
          ]
    ]

pub word_of-below : (program : RiscProgram) (address number : ℕ) → word_of program address ≡ Some number →
    number < length (all_words program)
word_of-below program address number is = let below = (number-within 0 program.spans address number is).below in omega arith

pub word_of-same : (program : RiscProgram) (a b number : ℕ) → word_of program a ≡ Some number → word_of program b ≡ Some number → a ≡ b
word_of-same program a b number is_a is_b = same-number 0 program.spans a b number is_a is_b
