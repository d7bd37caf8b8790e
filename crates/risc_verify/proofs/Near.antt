-- Words found by the place of a span: their numbers, and the instruction that begins at each.
use Rattle.std.proofs.Common.{◌≡◌, ℕ, zero, suc, ◌+◌, ◌-◌, ◌*◌, ◌/◌, ◌%◌, ◌^◌, ◌<◌, ◌≤◌, ◌⊎◌, inl, inr, ⊎_elim, Bool, true, false, List, []}
use Rattle.std.proofs.Common.{◌∷◌, ◌++◌, length, take, drop, Option, Some, None, Err, refl, sym, ap, subst, ◌∙◌, arith, is_some, IfSome}
use Rattle.std.proofs.Common.{if◌then◌else◌, ◌==◌, nat_lt, nat_le, slice_index, leb-true, ltb-true, eqb-true}
use Rattle.std.proofs.lemmas.Bool.{cases_lt, or_cases}
use Rattle.std.proofs.lemmas.List.{drop-drop, drop-take, length-append, length-take-le}
use Rattle.std.proofs.Math.Seq.{drop-append-add, take-append_seam}
use Rattle.risc_word.specs.declared.WordFault.TheVariants.{Cut}
use Rattle.risc_word.specs.Words.{first_instr, instr_at}
use Rattle.machine_model.specs.Paths.{RiscProgram, IsProgram, Span, span, one_span, AreApart, all_words, end_of, fetch, is_there, is_word}
use Rattle.machine_model.specs.Paths.{max_words, stands_in, word_among, word_at, words_from, words_of}
use Rattle.machine_model.proofs.BeforeTurns.{three_parts}
use Rattle.machine_model.proofs.OneSpan.{word_at-one_span, word_at-behind, fetch-one_span}
use Rattle.risc_verify.specs.declared.spans.SpanPlace.{SpanPlace}
use Rattle.risc_verify.specs.Programs.{number_from, word_of}
use Rattle.risc_verify.specs.Places.{has_address, number_in, stands_from, IsAt, IsNear}
use Rattle.machine_model.proofs.Spans.{not_in}
use Rattle.risc_verify.proofs.Cuts.{StandsFrom, stands-there, before-none}

-- A word has a number where it is.

there-if : (test : Bool) (a b : ℕ) (x y : Option ℕ) → is_there x ≡ is_some y →
    is_there (if test then Some a else x) ≡ is_some (if test then Some b else y)
there-if true a b x y same = refl
there-if false a b x y same = same

pub is_there-number : (before : ℕ) (spans : List Span) (address : ℕ) →
    is_there (word_among spans address) ≡ is_some (number_from before spans address)
is_there-number before [] address = refl
is_there-number before (s ∷ rest) address =
    there-if (stands_in s address) _ _ _ _ (is_there-number (before + length s.words) rest address)

-- a place is behind the spans before it
behind : (before from : ℕ) (spans : List Span) (p : SpanPlace) → AreApart from spans → StandsFrom before spans p → from ≤ p.at
behind before from [] p apart stands = absurd stands
behind before from (s ∷ rest) p apart (inl is) =
    let at = ap (λ q. q.at) is in
    let begins = apart.0 in
    omega arith
behind before from (s ∷ rest) p apart (inr later) =
    let at = behind (before + length s.words) (end_of s + 1) rest p apart.2 later in
    let begins = apart.0 in
    omega arith

has-from : (p : SpanPlace) (address : ℕ) → has_address p address ≡ true → p.at ≤ address
has-from p address has =
    leb-true p.at address (three_parts (nat_le p.at address) ((address - p.at) % 4 == 0) (nat_lt ((address - p.at) / 4) p.count) has).0

-- where the span at a place has an address, its word has the number that the place gives it
pub number-at : (before from : ℕ) (spans : List Span) (p : SpanPlace) (address : ℕ) → AreApart from spans → StandsFrom before spans p →
    has_address p address ≡ true →
    number_from before spans address ≡ Some (p.first + (address - p.at) / 4)
number-at before from [] p address apart stands has = absurd stands
number-at before from (s ∷ rest) p address apart (inl is) has =
    let here : stands_in s address ≡ true = sym (ap (λ q. has_address q address) is) ∙ has in
    ap (λ test. if test then Some (before + (address - s.at) / 4) else number_from (before + length s.words) rest address) here
    ∙ sym (ap (λ q. Some (q.first + (address - q.at) / 4)) is)
number-at before from (s ∷ rest) p address apart (inr later) has =
    let at = behind (before + length s.words) (end_of s + 1) rest p apart.2 later in
    let low = has-from p address has in
    ap (λ test. if test then Some (before + (address - s.at) / 4) else number_from (before + length s.words) rest address)
    (not_in s address (omega arith))
    ∙ number-at (before + length s.words) (end_of s + 1) rest p address apart.2 later has

-- the words of the span at a place are among all
stands-within : (before : ℕ) (spans : List Span) (p : SpanPlace) → StandsFrom before spans p →
    (before ≤ p.first) × (p.first + p.count ≤ before + length (words_of spans))
stands-within before [] p stands = absurd stands
stands-within before (s ∷ rest) p (inl is) =
    let first = ap (λ q. q.first) is in
    let count = ap (λ q. q.count) is in
    let long = length-append s.words (words_of rest) in
    (omega arith, omega arith)
stands-within before (s ∷ rest) p (inr later) =
    let rest-within = stands-within (before + length s.words) rest p later in
    let low = rest-within.0 in
    let high = rest-within.1 in
    let long = length-append s.words (words_of rest) in
    (omega arith, omega arith)

-- What the span at a place has: its words are among all words, and at its addresses and its end it might be alone.
record Seen (before : ℕ) (spans : List Span) (p : SpanPlace) : Type 0 where
  words : List ℕ
  count : length words ≡ p.count
  some : 0 < length words
  ends : p.at + 4 * length words ≤ 2 ^ 32
  first : before ≤ p.first
  part : words ≡ take p.count (drop (p.first - before) (words_of spans))
  alone : (k : ℕ) → k ≤ length words → word_among spans (p.at + 4 * k) ≡ word_among (span p.at words ∷ []) (p.at + 4 * k)

none-among : (from : ℕ) (spans : List Span) (address : ℕ) → AreApart from spans → address < from → word_among spans address ≡ None
none-among from [] address apart h = refl
none-among from (s ∷ rest) address apart h =
    let begins = apart.0 in
    ap (λ test. if test then Some (slice_index s.words ((address - s.at) / 4)) else word_among rest address)
    (before-none s address (omega arith))
    ∙ none-among (end_of s + 1) rest address apart.2 (omega arith)

alone-first : (s : Span) (rest : List Span) (address : ℕ) → word_among rest address ≡ None ⊎ (stands_in s address ≡ true) →
    word_among (s ∷ rest) address ≡ word_among (s ∷ []) address
alone-first s rest address (inl none) =
    ap (λ other. if stands_in s address then Some (slice_index s.words ((address - s.at) / 4)) else other) none
alone-first s rest address (inr here) =
    ap (λ test. if test then Some (slice_index s.words ((address - s.at) / 4)) else word_among rest address) here
    ∙ sym (ap (λ test. if test then Some (slice_index s.words ((address - s.at) / 4)) else None) here)

no_more : (n : ℕ) → n - n ≡ 0
no_more n = omega arith

seen : (before from : ℕ) (spans : List Span) (p : SpanPlace) → AreApart from spans → StandsFrom before spans p → Seen before spans p
seen before from [] p apart stands = absurd stands
seen before from (s ∷ rest) p apart (inl is) =
    subst (λ (q : SpanPlace). Seen before (s ∷ rest) q) (sym is)
    (record {
      words = s.words;
      count = refl;
      some = apart.1.some;
      ends = apart.1.ends;
      first = omega arith;
      part =
          sym
          (ap (λ n. take (length s.words) (drop n (s.words ++ words_of rest))) (no_more before) ∙ take-append_seam s.words (words_of rest));
      alone = λ k h.
          alone-first s rest (s.at + 4 * k) (inl (none-among (end_of s + 1) rest (s.at + 4 * k) apart.2 (omega arith)));
    })
seen before from (s ∷ rest) p apart (inr later) =
    let v = seen (before + length s.words) (end_of s + 1) rest p apart.2 later in
    let at = behind (before + length s.words) (end_of s + 1) rest p apart.2 later in
    let low = v.first in
    let first : p.first - before ≡ length s.words + (p.first - (before + length s.words)) = omega arith in
    record {
      words = v.words;
      count = v.count;
      some = v.some;
      ends = v.ends;
      first = omega arith;
      part =
          v.part
          ∙ sym (ap (λ n. take p.count (drop n (s.words ++ words_of rest))) first
          ∙ ap (take p.count) (drop-append-add s.words (words_of rest) (p.first - (before + length s.words))));
      alone = λ k h.
          ap (λ test. if test then Some (slice_index s.words ((p.at + 4 * k - s.at) / 4)) else word_among rest (p.at + 4 * k))
          (not_in s (p.at + 4 * k) (omega arith))
          ∙ v.alone k h;
    }

-- A span alone is a program of one span, whose instructions are read in its words.

abbrev one : ℕ → List ℕ → RiscProgram
one at words = one_span at words []

is-one : (at : ℕ) (words : List ℕ) (address : ℕ) → 0 < length words →
    word_among (span at words ∷ []) address ≡ word_at (one at words) address
is-one at [] address some = absurd (omega arith)
is-one at (word ∷ words) address some = refl

-- where the words of two programs are the same up to an end, behind which neither has one, the same are read
same-words : (count : ℕ) (program : RiscProgram) (at : ℕ) (words : List ℕ) (k : ℕ) →
    ((k : ℕ) → k ≤ length words → word_at program (at + 4 * k) ≡ word_at (one at words) (at + 4 * k)) → k ≤ length words →
    words_from count program (at + 4 * k) ≡ words_from count (one at words) (at + 4 * k)
same-words zero program at words k same h = refl
same-words (suc count) program at words k same h =
    let next : at + 4 * k + 4 ≡ at + 4 * (k + 1) = omega arith in
    ap (λ word. elim word as (λ _. List ℕ) [ None ↦ [] | Some word ↦ word ∷ words_from count program (at + 4 * k + 4) ]) (same k h)
    ∙ ⊎_elim
    (λ inside.
    let there = word_at-one_span at k words [] inside in
    ap (λ word. elim word as (λ _. List ℕ) [ None ↦ [] | Some word ↦ word ∷ words_from count program (at + 4 * k + 4) ]) there
    ∙ ap (λ a. slice_index words k ∷ words_from count program a) next
    ∙ ap (λ rest. slice_index words k ∷ rest) (same-words count program at words (k + 1) same (omega arith))
    ∙ sym (ap (λ a. slice_index words k ∷ words_from count (one at words) a) next)
    ∙ sym
    (ap (λ word. elim word as (λ _. List ℕ) [ None ↦ [] | Some word ↦ word ∷ words_from count (one at words) (at + 4 * k + 4) ]) there))
    (λ outside.
    let none = word_at-behind at k words [] outside in
    ap (λ word. elim word as (λ _. List ℕ) [ None ↦ [] | Some word ↦ word ∷ words_from count program (at + 4 * k + 4) ]) none
    ∙ sym
    (ap (λ word. elim word as (λ _. List ℕ) [ None ↦ [] | Some word ↦ word ∷ words_from count (one at words) (at + 4 * k + 4) ]) none))
    (cases_lt k (length words))

-- The span at a place, of a program that can be made.

record Has (p : SpanPlace) (address : ℕ) : Type 0 where
  from : p.at ≤ address
  whole : (address - p.at) % 4 ≡ 0
  below : (address - p.at) / 4 < p.count

parts : (p : SpanPlace) (address : ℕ) → has_address p address ≡ true → Has p address
parts p address has =
    let three = three_parts (nat_le p.at address) ((address - p.at) % 4 == 0) (nat_lt ((address - p.at) / 4) p.count) has in
    record {
      from = leb-true p.at address three.0;
      whole = eqb-true ((address - p.at) % 4) 0 three.1;
      below = ltb-true ((address - p.at) / 4) p.count three.2;
    }

stands : (program : RiscProgram) (p : SpanPlace) → IsNear program p → 0 < p.count → StandsFrom 0 program.spans p
stands program p near some =
    elim (or_cases (p.count == 0) (stands_from 0 program.spans p) near) [
      | inl none ↦ let zero_count = eqb-true p.count 0 none in absurd (omega arith)
      | inr there ↦ stands-there 0 program.spans p there
    ]

pub number-parts : (test : Bool) (n word : ℕ) → (if test then Some n else None) ≡ Some word → (test ≡ true) × (n ≡ word)
number-parts true n word is = (refl, cc)
number-parts false n word is = absurd (cc)

module _ (program : RiscProgram) (made : IsProgram program) (p : SpanPlace) (near : IsNear program p) where
  pub near-within : 0 < p.count → p.first + p.count ≤ length (all_words program)
  near-within some = let within = (stands-within 0 program.spans p (stands program p near some)).1 in omega arith

  pub near-small : 0 < p.count → p.first + p.count ≤ max_words
  near-small some = let within = near-within some in let few = made.few in omega arith

  module _ (address : ℕ) (has : has_address p address ≡ true) where
    some-count : 0 < p.count
    some-count = let h = (parts p address has).below in omega arith

    view : Seen 0 program.spans p
    view = seen 0 0 program.spans p made.spans (stands program p near some-count)

    pub near-number : word_of program address ≡ Some (p.first + (address - p.at) / 4)
    near-number = number-at 0 0 program.spans p address made.spans (stands program p near some-count) has

    pub near-low : address < 2 ^ 32
    near-low =
        let h = parts p address has in
        let from = h.from in let whole = h.whole in let below = h.below in
        let count = view.count in let ends = view.ends in omega arith

    pub near-in : p.first + (address - p.at) / 4 < p.first + p.count
    near-in = let below = (parts p address has).below in omega arith

    pub near-fetch : fetch program address ≡ instr_at (take (p.first + p.count) (all_words program)) (p.first + (address - p.at) / 4)
    near-fetch =
        let h = parts p address has in
        let k = (address - p.at) / 4 in
        let from-zero : p.first - 0 ≡ p.first = omega arith in
        let from = h.from in
        let whole = h.whole in
        let below = h.below in
        let count = view.count in
        let here : address ≡ p.at + 4 * k = omega arith in
        let within : k ≤ length view.words = omega arith in
        let same =
        same-words 5 program p.at view.words k (λ k h. view.alone k h ∙ is-one p.at view.words (p.at + 4 * k) view.some) within in
        ap (λ a. first_instr (words_from 5 program a)) here
        ∙ ap first_instr same
        ∙ fetch-one_span p.at k view.words []
        ∙ ap (λ ws. first_instr (drop k ws))
        (view.part ∙ ap (λ n. take p.count (drop n (all_words program))) from-zero ∙ sym (drop-take p.first p.count (all_words program)))
        ∙ ap first_instr (drop-drop k p.first (take (p.first + p.count) (all_words program)))

-- where no word has a number there is none, and no instruction is read
pub none-there : (program : RiscProgram) (address : ℕ) → word_of program address ≡ None → is_word program address ≡ false
none-there program address none = is_there-number 0 program.spans address ∙ ap is_some none

no-word : (word : Option ℕ) → is_there word ≡ false → word ≡ None
no-word None none = refl
no-word (Some word) none = absurd (cc)

pub none-fetched : (program : RiscProgram) (address : ℕ) → word_of program address ≡ None → fetch program address ≡ Err Cut
none-fetched program address none =
    ap (λ word. first_instr (elim word as (λ _. List ℕ) [ None ↦ [] | Some word ↦ word ∷ words_from 4 program (address + 4) ]))
    (no-word (word_at program address) (none-there program address none))

-- What follows from a number found by a place.
module _ (program : RiscProgram) (made : IsProgram program) (p : SpanPlace) (near : IsNear program p) (address word : ℕ)
    (there : number_in p address ≡ Some word) where
  told : (has_address p address ≡ true) × (p.first + (address - p.at) / 4 ≡ word)
  told = number-parts (has_address p address) (p.first + (address - p.at) / 4) word there

  pub told-number : word_of program address ≡ Some word
  told-number = near-number program made p near address told.0 ∙ ap Some told.1

  pub told-word : is_word program address ≡ true
  told-word = is_there-number 0 program.spans address ∙ ap is_some told-number

  pub told-low : address < 2 ^ 32
  told-low = near-low program made p near address told.0

  pub told-end : p.first + p.count ≤ length (all_words program)
  told-end = near-within program made p near (some-count program made p near address told.0)

  pub told-inside : word < length (all_words program)
  told-inside = let is = told.1 in let below = near-in program made p near address told.0 in let end = told-end in omega arith

  pub told-fetch : fetch program address ≡ instr_at (take (p.first + p.count) (all_words program)) word
  told-fetch = near-fetch program made p near address told.0 ∙ ap (instr_at (take (p.first + p.count) (all_words program))) told.1

  pub told-small : p.first + p.count ≤ max_words
  told-small = let end = told-end in let few = made.few in omega arith

module _ (program : RiscProgram) (made : IsProgram program) (p : SpanPlace) (near : IsNear program p) (address : ℕ) where
  pub known : (found : Option ℕ) → found ≡ number_in p address →
      IfSome found (λ word. (word_of program address ≡ Some word) × (is_word program address ≡ true) × (address < 2 ^ 32)
      × (word < length (all_words program)))
  known None is = tt
  known (Some word) is = (
    told-number program made p near address word (sym is),
    told-word program made p near address word (sym is),
    told-low program made p near address word (sym is),
    told-inside program made p near address word (sym is),
  )

-- A word of a span so many words behind another one, or the place behind the last, where no word is.

number-of : (p : SpanPlace) (k : ℕ) → k < p.count → number_in p (p.at + 4 * k) ≡ Some (p.first + k)
number-of p k below =
    let from : nat_le p.at (p.at + 4 * k) ≡ true = grind arith in
    let whole : ((p.at + 4 * k - p.at) % 4 == 0) ≡ true = grind arith in
    let number : (p.at + 4 * k - p.at) / 4 ≡ k = omega arith in
    let inside : nat_lt ((p.at + 4 * k - p.at) / 4) p.count ≡ true = rw number (grind arith) in
    let has : has_address p (p.at + 4 * k) ≡ true = rw (from, whole, inside) in
    ap (λ test. if test then Some (p.first + (p.at + 4 * k - p.at) / 4) else None) has ∙ ap (λ n. Some (p.first + n)) number

no-number : (number : Option ℕ) → is_some number ≡ false → number ≡ None
no-number None none = refl
no-number (Some number) none = absurd (cc)

none-behind : (program : RiscProgram) (p : SpanPlace) → Seen 0 program.spans p → word_of program (p.at + 4 * p.count) ≡ None
none-behind program p view =
    let count = view.count in
    let k = length view.words in
    let none : word_among program.spans (p.at + 4 * k) ≡ None =
    view.alone k (omega arith) ∙ is-one p.at view.words (p.at + 4 * k) view.some ∙ word_at-behind p.at k view.words [] (omega arith) in
    let there : is_some (word_of program (p.at + 4 * k)) ≡ false =
    sym (is_there-number 0 program.spans (p.at + 4 * k)) ∙ ap is_there none in
    ap (λ n. word_of program (p.at + 4 * n)) (sym count) ∙ no-number (word_of program (p.at + 4 * k)) there

module _ (program : RiscProgram) (made : IsProgram program) (p : SpanPlace) (near : IsNear program p) (address word : ℕ)
    (there : number_in p address ≡ Some word) where
  number-is : (has_address p address ≡ true) × (p.first + (address - p.at) / 4 ≡ word)
  number-is = number-parts (has_address p address) (p.first + (address - p.at) / 4) word there

  begins : address ≡ p.at + 4 * ((address - p.at) / 4)
  begins = let h = parts p address number-is.0 in let from = h.from in let whole = h.whole in omega arith

  later-there : (count : ℕ) → word + count < p.first + p.count → number_in p (address + 4 * count) ≡ Some (word + count)
  later-there count below =
      let is = number-is.1 in
      let k = (address - p.at) / 4 + count in
      let at : address + 4 * count ≡ p.at + 4 * k = omega (arith, begins) in
      let number : p.first + k ≡ word + count = omega arith in
      ap (number_in p) at ∙ number-of p k (omega arith) ∙ ap Some number

  later-none : (count : ℕ) → word + count ≡ p.first + p.count → word_of program (address + 4 * count) ≡ None
  later-none count behind =
      let is = number-is.1 in
      let at : address + 4 * count ≡ p.at + 4 * p.count = omega (arith, begins) in
      ap (word_of program) at ∙ none-behind program p (view program made p near address number-is.0)

  whole-length : length (take (p.first + p.count) (all_words program)) ≡ p.first + p.count
  whole-length = length-take-le (p.first + p.count) (all_words program) (told-end program made p near address word there)

  pub at-word : IsAt program p (take (p.first + p.count) (all_words program)) word address
  at-word =
      let long = whole-length in
      let is = number-is.1 in
      let below = near-in program made p near address number-is.0 in
      record { near = near; part = refl; there = λ inside. there; none = λ behind. absurd (omega arith) }

  pub at-later : (words : List ℕ) (count : ℕ) → words ≡ take (p.first + p.count) (all_words program) → word + count ≤ length words →
      IsAt program p words (word + count) (address + 4 * count)
  at-later words count part within =
      let long : length words ≡ p.first + p.count = ap length part ∙ whole-length in
      record {
        near = near;
        part = part;
        there = λ below. later-there count (omega arith);
        none = λ behind. later-none count (omega arith);
      }

module _ (program : RiscProgram) (made : IsProgram program) (p : SpanPlace) (words : List ℕ) (number address : ℕ)
    (at : IsAt program p words number address) (inside : number < length words) where
  pub at-number : word_of program address ≡ Some number
  at-number = told-number program made p at.near address number (at.there inside)

  pub at-inside : number < length (all_words program)
  at-inside = told-inside program made p at.near address number (at.there inside)
