-- A program of one span is its base and its words: what is at an address, what is fetched there, and that it can be made.
use Rattle.std.proofs.Common.{◌≡◌, ℕ, zero, suc, ◌+◌, ◌-◌, ◌*◌, ◌/◌, ◌%◌, ◌^◌, ◌<◌, ◌≤◌, ⊎_elim, max, min, Bool, true, false, ◌&&◌, ◌||◌}
use Rattle.std.proofs.Common.{List, [], ◌∷◌, length, take, drop, All, Some, None, refl, sym, ap, ◌∙◌, arith}
use Rattle.std.proofs.Common.{if◌then◌else◌, ◌==◌, nat_lt, nat_le, slice_index, append-nil, lt-ltb, le-leb, eq-eqb, leb-true, eqb-true}
use Rattle.std.proofs.Common.{ltb-true}
use Rattle.std.specs.List.{list_any}
use Rattle.std.proofs.Math.Bool.{or-false}
use Rattle.std.proofs.lemmas.Bool.{cases_lt}
use Rattle.std.proofs.lemmas.List.{drop_more}
use Rattle.risc_word.specs.Words.{first_instr, instr_at}
use Rattle.page_table.specs.Grants.{Chunk, AreGrants, is_met}
use Rattle.machine_model.specs.Paths.{RiscProgram, Span, IsProgram, AreApart, BeginsAtWord, span, spans_of, one_span, all_words, word_at}
use Rattle.machine_model.specs.Paths.{words_from, is_word, is_there, fetch, stands_in, shares_byte, max_words}
use Rattle.machine_model.proofs.BeforeTurns.{three_from, three_parts}

-- no instruction has more than five words
first_instr-five : (words : List ℕ) → first_instr (take 5 words) ≡ first_instr words
first_instr-five [] = refl
first_instr-five (a ∷ []) = refl
first_instr-five (a ∷ b ∷ []) = refl
first_instr-five (a ∷ b ∷ c ∷ []) = refl
first_instr-five (a ∷ b ∷ c ∷ d ∷ []) = refl
first_instr-five (a ∷ b ∷ c ∷ d ∷ e ∷ rest) = refl

pub none_left : (n : ℕ) (words : List ℕ) → length words ≤ n → drop n words ≡ []
none_left zero [] h = refl
none_left zero (word ∷ words) h = absurd (omega arith)
none_left (suc n) [] h = refl
none_left (suc n) (word ∷ words) h = none_left n words (omega arith)

if_there : (stands : Bool) (word : ℕ) → is_there (if stands then Some word else None) ≡ stands
if_there true word = refl
if_there false word = refl

pub never : (a b c : Bool) → c ≡ false → (a && b && c) ≡ false
never true true c h = h
never true false c h = refl
never false b c h = refl

pub ge-ltb : (a b : ℕ) → b ≤ a → nat_lt a b ≡ false
ge-ltb a b h = grind arith

module _ (base : ℕ) where
  -- the address of each word, and no other, is that of a word
  pub is_word-one_span : (words : List ℕ) (grants : List Chunk) (address : ℕ) →
      is_word (one_span base words grants) address
      ≡ (nat_le base address && (address - base) % 4 == 0 && nat_lt ((address - base) / 4) (length words))
  is_word-one_span [] grants address =
      sym (never (nat_le base address) ((address - base) % 4 == 0) _ (ge-ltb ((address - base) / 4) 0 (omega arith)))
  is_word-one_span (word ∷ words) grants address = if_there (stands_in (span base (word ∷ words)) address) _

  -- the word of a number is four bytes behind the one before
  pub word_at-one_span : (n : ℕ) (words : List ℕ) (grants : List Chunk) → n < length words →
      word_at (one_span base words grants) (base + 4 * n) ≡ Some (slice_index words n)
  word_at-one_span n [] grants h = absurd (omega arith)
  word_at-one_span n (word ∷ words) grants h =
      let number : (base + 4 * n - base) / 4 ≡ n = omega arith in
      let stands : stands_in (span base (word ∷ words)) (base + 4 * n) ≡ true =
      three_from (nat_le base (base + 4 * n)) ((base + 4 * n - base) % 4 == 0) (nat_lt ((base + 4 * n - base) / 4) (length (word ∷ words)))
      (le-leb base (base + 4 * n) (omega arith)) (eq-eqb ((base + 4 * n - base) % 4) 0 (omega arith))
      (lt-ltb ((base + 4 * n - base) / 4) (length (word ∷ words)) (omega arith)) in
      ap (λ stands. if stands then Some (slice_index (word ∷ words) ((base + 4 * n - base) / 4)) else None) stands
      ∙ ap (λ k. Some (slice_index (word ∷ words) k)) number

  -- behind the last word there is none
  pub word_at-behind : (n : ℕ) (words : List ℕ) (grants : List Chunk) → length words ≤ n →
      word_at (one_span base words grants) (base + 4 * n) ≡ None
  word_at-behind n [] grants h = refl
  word_at-behind n (word ∷ words) grants h =
      let number : (base + 4 * n - base) / 4 ≡ n = omega arith in
      ap (λ stands. if stands then Some (slice_index (word ∷ words) ((base + 4 * n - base) / 4)) else None)
      (never (nat_le base (base + 4 * n)) ((base + 4 * n - base) % 4 == 0) (nat_lt ((base + 4 * n - base) / 4) (length (word ∷ words)))
      (ge-ltb ((base + 4 * n - base) / 4) (length (word ∷ words)) (omega arith)))

  -- the words from one on are those of the list
  pub words_from-one_span : (count n : ℕ) (words : List ℕ) (grants : List Chunk) →
      words_from count (one_span base words grants) (base + 4 * n) ≡ take count (drop n words)
  words_from-one_span zero n words grants = refl
  words_from-one_span (suc count) n words grants =
      ⊎_elim
      (λ inside.
      let next : base + 4 * n + 4 ≡ base + 4 * (n + 1) = omega arith in
      ap (λ word. elim word as (λ _. List ℕ) [
        | None ↦ []
        | Some word ↦ word ∷ words_from count (one_span base words grants) (base + 4 * n + 4)
      ])
      (word_at-one_span n words grants inside)
      ∙ ap (λ at. slice_index words n ∷ words_from count (one_span base words grants) at) next
      ∙ ap (λ rest. slice_index words n ∷ rest) (words_from-one_span count (n + 1) words grants)
      ∙ sym (ap (take (suc count)) (drop_more words n 0 inside)))
      (λ behind.
      ap (λ word. elim word as (λ _. List ℕ) [
        | None ↦ []
        | Some word ↦ word ∷ words_from count (one_span base words grants) (base + 4 * n + 4)
      ])
      (word_at-behind n words grants behind)
      ∙ sym (ap (take (suc count)) (none_left n words behind)))
      (cases_lt n (length words))

  -- and so is the instruction that is fetched
  pub fetch-one_span : (n : ℕ) (words : List ℕ) (grants : List Chunk) → fetch (one_span base words grants) (base + 4 * n) ≡ instr_at words n
  fetch-one_span n words grants = ap first_instr (words_from-one_span 5 n words grants) ∙ first_instr-five (drop n words)

  pub all_words-one_span : (words : List ℕ) (grants : List Chunk) → all_words (one_span base words grants) ≡ words
  all_words-one_span [] grants = refl
  all_words-one_span (word ∷ words) grants = append-nil (word ∷ words)

  pub shares_byte-one_span : (words : List ℕ) (grants : List Chunk) (c : Chunk) →
      shares_byte (one_span base words grants) c ≡ is_met base (base + 4 * length words) c
  shares_byte-one_span [] grants c = sym (ge-ltb (max base c.at) (min (base + 4 * 0) (c.at + c.len)) (grind arith))
  shares_byte-one_span (word ∷ words) grants c = or-false (is_met base (base + 4 * length (word ∷ words)) c)

  pub any-shares_byte : (words : List ℕ) (grants chunks : List Chunk) →
      list_any (shares_byte (one_span base words grants)) chunks ≡ list_any (is_met base (base + 4 * length words)) chunks
  any-shares_byte words grants [] = refl
  any-shares_byte words grants (c ∷ rest) =
      ap (λ (met : Bool). met || list_any (shares_byte (one_span base words grants)) rest) (shares_byte-one_span words grants c)
      ∙ ap (λ (met : Bool). is_met base (base + 4 * length words) c || met) (any-shares_byte words grants rest)

begins : (base : ℕ) (words : List ℕ) (grants : List Chunk) → BeginsAtWord base (spans_of base words)
begins base [] grants = tt
begins base (word ∷ words) grants =
    let first : base + 4 * 0 ≡ base = omega arith in
    ap (λ address. is_there (word_at (one_span base (word ∷ words) grants) address)) (sym first)
    ∙ ap is_there (word_at-one_span base 0 (word ∷ words) grants (omega arith))

stands_apart : (base : ℕ) (words : List ℕ) → base % 4 ≡ 0 → base + 4 * length words ≤ 2 ^ 32 → All (λ word. word < 2 ^ 32) words →
    AreApart 0 (spans_of base words)
stands_apart base [] aligned ends fit = tt
stands_apart base (word ∷ words) aligned ends fit =
    (omega arith, record { aligned = aligned; some = omega arith; ends = ends; fit = fit }, tt)

one_at_most : (base : ℕ) (words : List ℕ) → length (spans_of base words) ≤ 1
one_at_most base [] = omega arith
one_at_most base (word ∷ words) = omega arith

-- a program of one span can be made where its words end at or below 2^32 and share no byte with its grants
pub one_span-made : (base : ℕ) (words : List ℕ) (grants : List Chunk) → base % 4 ≡ 0 → base < 2 ^ 32 → length words ≤ max_words →
    base + 4 * length words ≤ 2 ^ 32 → All (λ word. word < 2 ^ 32) words → AreGrants grants →
    All (λ c. shares_byte (one_span base words grants) c ≡ false) grants → IsProgram (one_span base words grants)
one_span-made base words grants aligned low few ends fit made apart =
    let one = one_at_most base words in
    let count = ap length (all_words-one_span base words grants) in
    record {
      aligned = aligned;
      low = low;
      begins = begins base words grants;
      spans = stands_apart base words aligned ends fit;
      many = omega arith;
      few = omega arith;
      grants = made;
      apart = apart;
    }

-- a program whose words are one after another from its base on is the one of these words
spans_alike : (program : RiscProgram) (words : List ℕ) → program.spans ≡ spans_of program.base words →
    program ≡ one_span program.base words program.grants
spans_alike program words spelled = ap (λ (spans : List Span). record program { spans = spans }) spelled

-- each of them is where its number puts it
pub word_there : (program : RiscProgram) (words : List ℕ) (n : ℕ) → program.spans ≡ spans_of program.base words → n < length words →
    is_word program (program.base + 4 * n) ≡ true
word_there program words n spelled inside =
    ap (λ (p : RiscProgram). is_word p (program.base + 4 * n)) (spans_alike program words spelled)
    ∙ ap is_there (word_at-one_span program.base n words program.grants inside)

pub fetch_there : (program : RiscProgram) (words : List ℕ) (n : ℕ) → program.spans ≡ spans_of program.base words →
    fetch program (program.base + 4 * n) ≡ instr_at words n
fetch_there program words n spelled =
    ap (λ (p : RiscProgram). fetch p (program.base + 4 * n)) (spans_alike program words spelled)
    ∙ fetch-one_span program.base n words program.grants

-- and no other address is that of a word
pub record StandsAmong (base : ℕ) (words : List ℕ) (address : ℕ) : Type 0 where
  pub begins : base ≤ address
  pub aligned : (address - base) % 4 ≡ 0
  pub inside : (address - base) / 4 < length words

pub is_word-there : (program : RiscProgram) (words : List ℕ) (address : ℕ) → program.spans ≡ spans_of program.base words →
    is_word program address
    ≡ (nat_le program.base address && (address - program.base) % 4 == 0 && nat_lt ((address - program.base) / 4) (length words))
is_word-there program words address spelled =
    ap (λ (p : RiscProgram). is_word p address) (spans_alike program words spelled)
    ∙ is_word-one_span program.base words program.grants address

pub stands_among : (program : RiscProgram) (words : List ℕ) (address : ℕ) → program.spans ≡ spans_of program.base words →
    is_word program address ≡ true →
    StandsAmong program.base words address
stands_among program words address spelled h =
    let parts =
    three_parts (nat_le program.base address) ((address - program.base) % 4 == 0) (nat_lt ((address - program.base) / 4) (length words))
    (sym (is_word-there program words address spelled) ∙ h)
    in
    record { begins = leb-true _ _ parts.0; aligned = eqb-true _ _ parts.1; inside = ltb-true _ _ parts.2 }
