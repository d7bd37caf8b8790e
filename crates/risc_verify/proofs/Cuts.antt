-- Spans that share one list of words, and places that cut it.
use Rattle.std.proofs.Common.{◌≡◌, ℕ, zero, suc, ◌+◌, ◌-◌, ◌/◌, ◌%◌, ◌<◌, ◌≤◌, inl, inr, Bool, true, false, ◌&&◌, List, [], ◌∷◌, ◌++◌}
use Rattle.std.proofs.Common.{length, take, drop, Option, Some, None, refl, sym, ap, subst, ◌∙◌, arith, is_some}
use Rattle.std.proofs.Common.{◌⊎◌, if◌then◌else◌, ◌==◌, nat_lt, nat_le, leb-true, get_or, All, ◌^◌, eqb-true, eq-eqb}
use Rattle.std.proofs.lemmas.Bool.{cases_Bool, cond-true, cond-false, lt-leb, leb-false, or_cases, or_left, or_right}
use Rattle.machine_model.proofs.BeforeTurns.{three_parts, three_from}
use Rattle.std.proofs.lemmas.List.{take-append-le, drop-append-le, drop-drop, take-append-drop, length-take-le, take_all, length-append}
use Rattle.std.proofs.lemmas.List.{length-map, map-append, get_or-map}
use Rattle.std.proofs.Math.ListN.{length-drop}
use Rattle.std.proofs.lemmas.List.Elements.{All-take, All-drop}
use Rattle.std.specs.List.{prefix_len, slice_get}
use Rattle.std.specs.List.Sorted.{IsNonDecreasingBy}
use Rattle.std.proofs.lemmas.List.Sorted.{IsNonDecreasingBy-take}
use Rattle.std.proofs.Math.Seq.{take-append_seam}
use Rattle.std.specs.Option.{option_to_list}
use Rattle.machine_model.specs.Paths.{Span, span, AreApart, begins_at, end_of, stands_in, words_of, max_words}
use Rattle.machine_model.proofs.OneSpan.{none_left}
use Rattle.machine_model.proofs.Spans.{not_in}
use Rattle.risc_verify.specs.declared.spans.SpanPlace.{SpanPlace}
use Rattle.risc_verify.specs.Programs.{number_from}
use Rattle.risc_verify.specs.Places.{with_word, place, span_at, spans_at, AreCut, has_address, number_in, place_end, stands_from}

-- Cuts.

pub cut_le : (from : ℕ) (ps : List SpanPlace) (end : ℕ) → AreCut from ps end → from ≤ end
cut_le from [] end cut = omega arith
cut_le from (p ∷ rest) end cut = let later = cut_le (from + p.count) rest end cut.1 in omega arith

pub cut_front : (from : ℕ) (ps : List SpanPlace) (q : SpanPlace) (end : ℕ) → AreCut from (ps ++ q ∷ []) end →
    AreCut from ps q.first × (q.first + q.count ≡ end)
cut_front from [] q end cut = let e = cut.0 in let f = cut.1 in (omega arith, omega arith)
cut_front from (p ∷ rest) q end cut = let later = cut_front (from + p.count) rest q end cut.1 in ((cut.0, later.0), later.1)

pub cut_with : (from : ℕ) (ps : List SpanPlace) (q : SpanPlace) (end : ℕ) → AreCut from ps q.first → q.first + q.count ≡ end →
    AreCut from (ps ++ q ∷ []) end
cut_with from [] q end cut ends = (omega arith, omega arith)
cut_with from (p ∷ rest) q end cut ends = (cut.0, cut_with (from + p.count) rest q end cut.1 ends)

-- Words behind them change no span.

pub span_at-more : (words more : List ℕ) (p : SpanPlace) → p.first + p.count ≤ length words → span_at (words ++ more) p ≡ span_at words p
span_at-more words more p within =
    let rest = length-drop p.first words in
    ap (λ ws. span p.at (take p.count ws)) (drop-append-le p.first words more (omega arith))
    ∙ ap (λ ws. span p.at ws) (take-append-le p.count (drop p.first words) more (omega arith))

pub spans_at-more : (from : ℕ) (ps : List SpanPlace) (words more : List ℕ) (end : ℕ) → end ≤ length words → AreCut from ps end →
    spans_at (words ++ more) ps ≡ spans_at words ps
spans_at-more from [] words more end within cut = refl
spans_at-more from (p ∷ rest) words more end within cut =
    let later = cut_le (from + p.count) rest end cut.1 in
    let begins = cut.0 in
    ap (λ s. s ∷ spans_at (words ++ more) rest) (span_at-more words more p (omega arith))
    ∙ ap (λ ss. span_at words p ∷ ss) (spans_at-more (from + p.count) rest words more end within cut.1)

-- all words of the spans
words_of-spans_from : (from : ℕ) (ps : List SpanPlace) (words : List ℕ) → AreCut from ps (length words) →
    words_of (spans_at words ps) ≡ drop from words
words_of-spans_from from [] words cut = sym (none_left from words (omega arith))
words_of-spans_from from (p ∷ rest) words cut =
    ap (λ ws. take p.count (drop p.first words) ++ ws) (words_of-spans_from (from + p.count) rest words cut.1)
    ∙ ap (λ n. take p.count (drop n words) ++ drop (from + p.count) words) cut.0
    ∙ ap (λ ws. take p.count (drop from words) ++ ws) (sym (drop-drop p.count from words))
    ∙ take-append-drop p.count (drop from words)

pub words_of-spans_at : (ps : List SpanPlace) (words : List ℕ) → AreCut 0 ps (length words) → words_of (spans_at words ps) ≡ words
words_of-spans_at ps words cut = words_of-spans_from 0 ps words cut

-- One word more.

pub with_word-last : (ss : List Span) (s : Span) (word : ℕ) → with_word (ss ++ s ∷ []) word ≡ ss ++ span s.at (s.words ++ word ∷ []) ∷ []
with_word-last [] s word = refl
with_word-last (a ∷ []) s word = refl
with_word-last (a ∷ b ∷ ss) s word = ap (λ rest. a ∷ rest) (with_word-last (b ∷ ss) s word)

pub with_word-length : (ss : List Span) (word : ℕ) → length (with_word ss word) ≡ length ss
with_word-length [] word = refl
with_word-length (s ∷ []) word = refl
with_word-length (s ∷ other ∷ rest) word = ap suc (with_word-length (other ∷ rest) word)

take_all-more : (n : ℕ) (words : List ℕ) (word : ℕ) → length words ≡ n → take (n + 1) (words ++ word ∷ []) ≡ take n words ++ word ∷ []
take_all-more n words word is =
    take_all (n + 1) (words ++ word ∷ []) (simp length-append (omega arith))
    ∙ ap (λ ws. ws ++ word ∷ []) (sym (take_all n words (omega arith)))

pub span_at-push : (words : List ℕ) (word at first count : ℕ) → first + count ≡ length words →
    span_at (words ++ word ∷ []) (place at first (count + 1)) ≡ span at (take count (drop first words) ++ word ∷ [])
span_at-push words word at first count ends =
    let rest = length-drop first words in
    ap (λ ws. span at (take (count + 1) ws)) (drop-append-le first words (word ∷ []) (omega arith))
    ∙ ap (λ ws. span at ws) (take_all-more count (drop first words) word (omega arith))

pub spans_at-push : (ps : List SpanPlace) (words : List ℕ) (word at first count : ℕ) →
    AreCut 0 (ps ++ place at first count ∷ []) (length words) →
    spans_at (words ++ word ∷ []) (ps ++ place at first (count + 1) ∷ [])
    ≡ with_word (spans_at words (ps ++ place at first count ∷ [])) word
spans_at-push ps words word at first count cut =
    let parts = cut_front 0 ps (place at first count) (length words) cut in
    let ends = parts.1 in
    map-append (span_at (words ++ word ∷ [])) ps (place at first (count + 1) ∷ [])
    ∙ ap (λ ss. ss ++ span_at (words ++ word ∷ []) (place at first (count + 1)) ∷ [])
    (spans_at-more 0 ps words (word ∷ []) first (omega arith) parts.0)
    ∙ ap (λ s. spans_at words ps ++ s ∷ []) (span_at-push words word at first count ends)
    ∙ sym (with_word-last (spans_at words ps) (span_at words (place at first count)) word)
    ∙ ap (λ ss. with_word ss word) (sym (map-append (span_at words) ps (place at first count ∷ [])))

pub cut-push : (ps : List SpanPlace) (words : List ℕ) (word at first count : ℕ) →
    AreCut 0 (ps ++ place at first count ∷ []) (length words) →
    AreCut 0 (ps ++ place at first (count + 1) ∷ []) (length (words ++ word ∷ []))
cut-push ps words word at first count cut =
    let parts = cut_front 0 ps (place at first count) (length words) cut in
    let ends = parts.1 in
    let long = length-append words (word ∷ []) in
    cut_with 0 ps (place at first (count + 1)) (length (words ++ word ∷ [])) parts.0 (omega arith)

-- one span alone
pub only_span : (entry : ℕ) (ss : List Span) (at : ℕ) → length ss ≡ 1 → ((d : Span) → at ≡ (get_or ss 0 d).at) →
    (at == entry) ≡ begins_at entry ss
only_span entry [] at one is = absurd (omega arith)
only_span entry (s ∷ []) at one is = ap (λ (n : ℕ). n == entry) (is s)
only_span entry (s ∷ other ∷ rest) at one is = absurd (omega arith)

-- Spans that are apart.

-- before its beginning no word is a span's own
pub before-none : (s : Span) (address : ℕ) → address < s.at → stands_in s address ≡ false
before-none s address h =
    ap (λ test. test && (address - s.at) % 4 == 0 && nat_lt ((address - s.at) / 4) (length s.words)) (lt-leb s.at address h)

-- no word is before the first span
pub none-before : (before from : ℕ) (spans : List Span) (address : ℕ) → AreApart from spans → address < from →
    number_from before spans address ≡ None
none-before before from [] address apart h = refl
none-before before from (s ∷ rest) address apart h =
    let begins = apart.0 in
    ap (λ test. if test then Some (before + (address - s.at) / 4) else number_from (before + length s.words) rest address)
    (before-none s address (omega arith))
    ∙ none-before (before + length s.words) (end_of s + 1) rest address apart.2 (omega arith)

-- a span's place has the addresses of its words
has-stands : (words : List ℕ) (p : SpanPlace) (address : ℕ) → p.first + p.count ≤ length words →
    stands_in (span_at words p) address ≡ has_address p address
has-stands words p address within =
    let rest = length-drop p.first words in
    ap (λ n. nat_le p.at address && (address - p.at) % 4 == 0 && nat_lt ((address - p.at) / 4) n)
    (length-take-le p.count (drop p.first words) (omega arith))

-- a span that was found, if any, has no word at an address
abbrev pub Misses : Option SpanPlace → ℕ → Type 0
Misses None address = Unit {0}
Misses (Some p) address = has_address p address ≡ false

abbrev pub ends_by : ℕ → SpanPlace → Bool
ends_by address p = nat_le (place_end p) address

missed-last : (before from : ℕ) (words : List ℕ) (last : Option SpanPlace) (address : ℕ) →
    AreCut before (option_to_list last) (length words) → Misses last address →
    number_from before (spans_at words (option_to_list last)) address ≡ None
missed-last before from words None address cut misses = refl
missed-last before from words (Some p) address cut misses =
    let begins = cut.0 in
    let ends = cut.1 in
    ap (λ test. if test then Some (before + (address - p.at) / 4) else None) (has-stands words p address (omega arith) ∙ misses)

-- where the first span that ends behind an address has no word there, and else the last has none, none has
pub missed : (before from : ℕ) (words : List ℕ) (ps : List SpanPlace) (last : Option SpanPlace) (address : ℕ) →
    AreCut before (ps ++ option_to_list last) (length words) →
    AreApart from (spans_at words (ps ++ option_to_list last)) →
    Misses (slice_get (ps ++ option_to_list last) (prefix_len (ends_by address) ps)) address →
    number_from before (spans_at words (ps ++ option_to_list last)) address ≡ None
missed before from words [] None address cut apart misses = refl
missed before from words [] (Some p) address cut apart misses = missed-last before from words (Some p) address cut misses
missed before from words (p ∷ ps) last address cut apart misses =
    let all = ps ++ option_to_list last in
    let later = cut_le (before + p.count) all (length words) cut.1 in
    let begins = cut.0 in
    let inside : p.first + p.count ≤ length words = omega arith in
    let long : length (span_at words p).words ≡ p.count =
    let rest = length-drop p.first words in length-take-le p.count (drop p.first words) (omega arith) in
    let next : ℕ = before + length (span_at words p).words in
    let same : next ≡ before + p.count = omega arith in
    elim (cases_Bool (ends_by address p)) [
      | inl is_ended ↦
          let h : place_end p ≤ address = leb-true (place_end p) address is_ended in
          let one_more : prefix_len (ends_by address) (p ∷ ps) ≡ suc (prefix_len (ends_by address) ps) =
          cond-true (ends_by address p) (1 + prefix_len (ends_by address) ps) 0 is_ended ∙ omega arith in
          ap (λ test. if test then Some (before + (address - p.at) / 4) else number_from next (spans_at words all) address)
          (not_in (span_at words p) address (omega arith))
          ∙ ap (λ n. number_from n (spans_at words all) address) same
          ∙ missed (before + p.count) (end_of (span_at words p) + 1) words ps last address cut.1 apart.2
          (subst (λ (n : ℕ). Misses (slice_get (p ∷ all) n) address) one_more misses)
      | inr not_ended ↦
          let h : address < place_end p = leb-false (place_end p) address not_ended in
          let none : prefix_len (ends_by address) (p ∷ ps) ≡ 0 =
          cond-false (ends_by address p) (1 + prefix_len (ends_by address) ps) 0 not_ended in
          let here : has_address p address ≡ false = subst (λ (n : ℕ). Misses (slice_get (p ∷ all) n) address) none misses in
          ap (λ test. if test then Some (before + (address - p.at) / 4) else number_from next (spans_at words all) address)
          (has-stands words p address inside ∙ here)
          ∙ none-before next (end_of (span_at words p) + 1) (spans_at words all) address apart.2 (omega arith)
    ]

-- One of the spans is at a place, where so many words are before them.
abbrev pub StandsFrom : ℕ → List Span → SpanPlace → Type 0
StandsFrom before [] p = ⊥
StandsFrom before (s ∷ rest) p = (p ≡ place s.at before (length s.words)) ⊎ StandsFrom (before + length s.words) rest p

same_place : (p : SpanPlace) (at first count : ℕ) → (p.at == at && p.first == first && p.count == count) ≡ true → p ≡ place at first count
same_place p at first count h =
    let three = three_parts (p.at == at) (p.first == first) (p.count == count) h in
    ap (λ at. place at p.first p.count) (eqb-true p.at at three.0) ∙ ap (λ first. place at first p.count) (eqb-true p.first first three.1)
    ∙ ap (λ count. place at first count) (eqb-true p.count count three.2)

pub stands-there : (before : ℕ) (spans : List Span) (p : SpanPlace) → stands_from before spans p ≡ true → StandsFrom before spans p
stands-there before [] p h = absurd (cc)
stands-there before (s ∷ rest) p h =
    elim (or_cases (p.at == s.at && p.first == before && p.count == length s.words) (stands_from (before + length s.words) rest p) h) [
      | inl here ↦ inl (same_place p s.at before (length s.words) here)
      | inr later ↦ inr (stands-there (before + length s.words) rest p later)
    ]

pub stands-true : (before : ℕ) (spans : List Span) (p : SpanPlace) → StandsFrom before spans p → stands_from before spans p ≡ true
stands-true before [] p stands = absurd stands
stands-true before (s ∷ rest) p (inl is) =
    or_left (p.at == s.at && p.first == before && p.count == length s.words) (stands_from (before + length s.words) rest p)
    (three_from (p.at == s.at) (p.first == before) (p.count == length s.words) (eq-eqb p.at s.at (ap (λ q. q.at) is))
    (eq-eqb p.first before (ap (λ q. q.first) is))
    (eq-eqb p.count (length s.words) (ap (λ q. q.count) is)))
stands-true before (s ∷ rest) p (inr later) =
    or_right (p.at == s.at && p.first == before && p.count == length s.words) (stands_from (before + length s.words) rest p)
    (stands-true (before + length s.words) rest p later)

-- each place is that of a span
pub stands_from-get : (before : ℕ) (words : List ℕ) (ps : List SpanPlace) (i : ℕ) (p : SpanPlace) → AreCut before ps (length words) →
    slice_get ps i ≡ Some p → StandsFrom before (spans_at words ps) p
stands_from-get before words [] i p cut found = absurd (cc)
stands_from-get before words (q ∷ ps) zero p cut found =
    let later = cut_le (before + q.count) ps (length words) cut.1 in
    let begins = cut.0 in
    let rest = length-drop q.first words in
    let long = length-take-le q.count (drop q.first words) (omega arith) in
    let is : q ≡ p = cc in
    inl (sym is ∙ ap (λ first. place q.at first q.count) begins ∙ ap (λ count. place q.at before count) (sym long))
stands_from-get before words (q ∷ ps) (suc i) p cut found =
    let later = cut_le (before + q.count) ps (length words) cut.1 in
    let begins = cut.0 in
    let rest = length-drop q.first words in
    let long = length-take-le q.count (drop q.first words) (omega arith) in
    inr (subst (λ (n : ℕ). StandsFrom n (spans_at words ps) p) (ap (λ count. before + count) (sym long))
    (stands_from-get (before + q.count) words ps i p cut.1 found))

-- the ends of places rise
le-place_end : (before from : ℕ) (words : List ℕ) (ps : List SpanPlace) (j : ℕ) (d : SpanPlace) → AreCut before ps (length words) →
    AreApart from (spans_at words ps) → j < length ps → from ≤ place_end (get_or ps j d)
le-place_end before from words [] j d cut apart within = absurd (omega arith)
le-place_end before from words (p ∷ rest) zero d cut apart within = let begins = apart.0 in omega arith
le-place_end before from words (p ∷ rest) (suc j) d cut apart within =
    let begins = apart.0 in
    let later = le-place_end (before + p.count) (end_of (span_at words p) + 1) words rest j d cut.1 apart.2 (omega arith) in omega arith

pub ends-rise : (before from : ℕ) (words : List ℕ) (ps : List SpanPlace) → AreCut before ps (length words) →
    AreApart from (spans_at words ps) → IsNonDecreasingBy place_end ps
ends-rise before from words [] cut apart i j d order within = absurd (omega arith)
ends-rise before from words (p ∷ rest) cut apart zero zero d order within = omega arith
ends-rise before from words (p ∷ rest) cut apart zero (suc j) d order within =
    let later = cut_le (before + p.count) rest (length words) cut.1 in
    let begins = cut.0 in
    let tail = length-drop p.first words in
    let long = length-take-le p.count (drop p.first words) (omega arith) in
    let end = le-place_end (before + p.count) (end_of (span_at words p) + 1) words rest j d cut.1 apart.2 (omega arith) in omega arith
ends-rise before from words (p ∷ rest) cut apart (suc i) zero d order within = absurd (omega arith)
ends-rise before from words (p ∷ rest) cut apart (suc i) (suc j) d order within =
    ends-rise (before + p.count) (end_of (span_at words p) + 1) words rest cut.1 apart.2 i j d (omega arith) (omega arith)

-- What a search finds.

pub behind_all : (ps : List SpanPlace) (last : Option SpanPlace) → slice_get (ps ++ option_to_list last) (length ps) ≡ last
behind_all [] None = refl
behind_all [] (Some p) = refl
behind_all (p ∷ ps) last = behind_all ps last

pub some-if : (test : Bool) (n : ℕ) → is_some (if test then Some n else None) ≡ test
some-if true n = refl
some-if false n = refl

-- a number is found where the place has the address
pub number-has : (p : SpanPlace) (address : ℕ) → is_some (number_in p address) ≡ has_address p address
number-has p address = some-if (has_address p address) (p.first + (address - p.at) / 4)

pub cut_within : (from : ℕ) (ps : List SpanPlace) (end i : ℕ) (p : SpanPlace) → AreCut from ps end → slice_get ps i ≡ Some p →
    p.first + p.count ≤ end
cut_within from [] end i p cut found = absurd (cc)
cut_within from (q ∷ ps) end zero p cut found =
    let later = cut_le (from + q.count) ps end cut.1 in
    let begins = cut.0 in
    let is : q ≡ p = cc in
    let first = ap (λ p. p.first) is in
    let count = ap (λ p. p.count) is in
    omega arith
cut_within from (q ∷ ps) end (suc i) p cut found = cut_within (from + q.count) ps end i p cut.1 found

-- all that a search needs of spans that are made of words, of places and of the last place
module _ (words : List ℕ) (before : List SpanPlace) (last : Option SpanPlace) (spans : List Span)
    (cut : AreCut 0 (before ++ option_to_list last) (length words)) (is : spans_at words (before ++ option_to_list last) ≡ spans) where
  pub words-are : words_of spans ≡ words
  words-are = ap words_of (sym is) ∙ words_of-spans_at (before ++ option_to_list last) words cut

  pub ends-rise-before : AreApart 0 spans → IsNonDecreasingBy place_end before
  ends-rise-before apart =
      subst (λ (ps : List SpanPlace). IsNonDecreasingBy place_end ps) (take-append_seam before (option_to_list last))
      (IsNonDecreasingBy-take place_end (length before) (before ++ option_to_list last)
      (ends-rise 0 0 words (before ++ option_to_list last) cut (subst (λ (ss : List Span). AreApart 0 ss) (sym is) apart)))

  pub missed-all : (address : ℕ) → AreApart 0 spans →
      Misses (slice_get (before ++ option_to_list last) (prefix_len (ends_by address) before)) address → number_from 0 spans address ≡ None
  missed-all address apart misses =
      ap (λ ss. number_from 0 ss address) (sym is)
      ∙ missed 0 0 words before last address cut (subst (λ (ss : List Span). AreApart 0 ss) (sym is) apart) misses

  pub stands-at : (i : ℕ) (p : SpanPlace) → slice_get (before ++ option_to_list last) i ≡ Some p → stands_from 0 spans p ≡ true
  stands-at i p found =
      subst (λ (ss : List Span). stands_from 0 ss p ≡ true) is
      (stands-true 0 (spans_at words (before ++ option_to_list last)) p
      (stands_from-get 0 words (before ++ option_to_list last) i p cut found))

  pub within-all : (i : ℕ) (p : SpanPlace) → slice_get (before ++ option_to_list last) i ≡ Some p → length (words_of spans) ≤ max_words →
      p.first + p.count ≤ max_words
  within-all i p found few =
      let most = cut_within 0 (before ++ option_to_list last) (length words) i p cut found in
      let long = ap length words-are in omega arith

-- the last place is that of a span
pub cut_at : (from : ℕ) (ps : List SpanPlace) (end i : ℕ) (d : SpanPlace) → AreCut from ps end → i < length ps →
    (get_or ps i d).first + (get_or ps i d).count ≤ end
cut_at from [] end i d cut h = absurd (omega arith)
cut_at from (q ∷ ps) end zero d cut h =
    let later = cut_le (from + q.count) ps end cut.1 in
    let begins = cut.0 in
    omega arith
cut_at from (q ∷ ps) end (suc i) d cut h = cut_at (from + q.count) ps end i d cut.1 (omega arith)

fit-from : (words : List ℕ) (ps : List SpanPlace) → All (λ word. word < 2 ^ 32) words →
    All (λ s. All (λ word. word < 2 ^ 32) s.words) (spans_at words ps)
fit-from words [] fit k d h = absurd (omega arith)
fit-from words (p ∷ ps) fit zero d h =
    All-take (λ word. word < 2 ^ 32) p.count (drop p.first words) (All-drop (λ word. word < 2 ^ 32) p.first words fit)
fit-from words (p ∷ ps) fit (suc k) d h = fit-from words ps fit k d (omega arith)

module _ (words : List ℕ) (before : List SpanPlace) (last : Option SpanPlace) (spans : List Span)
    (cut : AreCut 0 (before ++ option_to_list last) (length words)) (is : spans_at words (before ++ option_to_list last) ≡ spans) where
  pub place_within : (i : ℕ) (p : SpanPlace) → i < length spans → ((d : SpanPlace) → p ≡ get_or (before ++ option_to_list last) i d) →
      p.first + p.count ≤ length words
  place_within i p h found =
      let long = sym (ap length is) ∙ length-map (before ++ option_to_list last) (span_at words) in
      let most = cut_at 0 (before ++ option_to_list last) (length words) i p cut (omega arith) in
      let first = ap (λ q. q.first) (found p) in
      let count = ap (λ q. q.count) (found p) in
      omega arith

  pub place_words : (i : ℕ) (p : SpanPlace) → i < length spans → ((d : SpanPlace) → p ≡ get_or (before ++ option_to_list last) i d) →
      (d : Span) → take p.count (drop p.first words) ≡ (get_or spans i d).words
  place_words i p h found d =
      let long = sym (ap length is) ∙ length-map (before ++ option_to_list last) (span_at words) in
      ap (λ q. (span_at words q).words) (found p)
      ∙ ap (λ s. s.words) (sym (get_or-map (span_at words) (before ++ option_to_list last) i p d (omega arith)))
      ∙ ap (λ ss. (get_or ss i d).words) is

  pub fit-all : All (λ word. word < 2 ^ 32) words → All (λ s. All (λ word. word < 2 ^ 32) s.words) spans
  fit-all fit =
      subst (λ (ss : List Span). All (λ s. All (λ word. word < 2 ^ 32) s.words) ss) is (fit-from words (before ++ option_to_list last) fit)
