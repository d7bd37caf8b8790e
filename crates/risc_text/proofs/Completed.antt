-- Lines of spans, up to a cut, are those of a program that goes on with as little as can be.
use Rattle.std.proofs.Common.{◌≡◌, ℕ, zero, suc, ◌+◌, ◌-◌, ◌*◌, ◌/◌, ◌%◌, ◌^◌, ◌<◌, ◌≤◌, Bool, true, false, List, [], ◌∷◌, ◌++◌, length}
use Rattle.std.proofs.Common.{length-append, take, Some, None, refl, sym, ap, subst, ◌∙◌, arith, append_assoc}
use Rattle.std.specs.Prelude.{◌==◌, if◌then◌else◌, nat_lt, nat_le, IsTrue, slice_index}
use Rattle.std.specs.List.{All, flat_map}
use Rattle.std.proofs.lemmas.Bool.{eqb-false, eqb-true, leb-false, leb-true, ltb-false, ltb-true, ne_eqb}
use Rattle.std.proofs.lemmas.Grind.{flat_map-append}
use Rattle.std.proofs.lemmas.List.{append-nil, length-take}
use Rattle.std.proofs.lemmas.List.Elements.{All-append, All-cons, All-nil, All-take}
use Rattle.machine_model.specs.Paths.{begins_at, begins_at_base, RiscProgram, Span, IsProgram, IsSpan, AreApart, BeginsAtWord, end_of}
use Rattle.machine_model.specs.Paths.{is_there, max_spans, max_words, shares_byte, span, stands_in, word_among, words_of}
use Rattle.machine_model.proofs.BeforeTurns.{three_parts}
use Rattle.machine_model.proofs.Spans.{word_of_span-at}
use Rattle.risc_listing.specs.Listings.{entry_line, fill_line, lines_by, listing, span_line, span_lines, word_lines}
use Rattle.risc_text.specs.Assembly.{AreOfSpans, completed, filled, of_one_by, of_spans, other_word, some_words, with_entry}
use Rattle.risc_text.proofs.TwoWords.{other_behind}

-- a cut within a span, or right after it
pub record FewerSpans (spans : List Span) (lines : List ℕ) : Type 0 where
  pub before : List Span
  pub last : Span
  pub after : List Span
  pub number : ℕ
  pub left : List ℕ
  pub spans_are : spans ≡ before ++ last ∷ after
  pub lines_are : lines ≡ flat_map span_lines before ++ span_lines (span last.at (take number last.words))
  pub front : word_lines last.at 0 last.words ≡ word_lines last.at 0 (take number last.words) ++ left

-- ---- words of which there is one at least

record SomeWords (words : List ℕ) (whole : List ℕ) : Type 0 where
  pub some : 0 < length words
  pub few : length words ≤ length whole
  pub fit : All (λ word. word < 2 ^ 32) words

other_fits : All (λ word. word < 2 ^ 32) (other_word ∷ [])
other_fits = All-cons (λ word. word < 2 ^ 32) other_word [] (omega arith) (All-nil (λ word. word < 2 ^ 32))

some_of : (number : ℕ) (words : List ℕ) → 0 < length words → All (λ word. word < 2 ^ 32) words →
    SomeWords (some_words (take number words)) words
some_of number [] some fit = absurd (omega arith)
some_of zero (word ∷ words) some fit = record { some = omega arith; few = omega arith; fit = other_fits }
some_of (suc number) (word ∷ words) some fit =
    let long = length-take number words in
    record { some = omega arith; few = omega arith; fit = All-take (λ word. word < 2 ^ 32) (suc number) (word ∷ words) fit }

some_front : (at : ℕ) (words : List ℕ) → (more : List ℕ) × (word_lines at 0 (some_words words) ≡ word_lines at 0 words ++ more)
unfolding word_lines
some_front at [] = (word_lines at 0 (other_word ∷ []), refl)
some_front at (word ∷ words) = ([], sym (append-nil (word_lines at 0 (word ∷ words))))

-- ---- spans of which the last has some of its words

apart_up_to : (before after : List Span) (from : ℕ) (last : Span) (words : List ℕ) → AreApart from (before ++ last ∷ after) →
    SomeWords words last.words → AreApart from (before ++ span last.at words ∷ [])
apart_up_to [] after from last words apart is =
    let all = apart.1 in
    let ends = all.ends in
    let few = is.few in
    (apart.0, record { aligned = all.aligned; some = is.some; ends = omega arith; fit = is.fit }, tt)
apart_up_to (s ∷ before) after from last words apart is = (apart.0, apart.1, apart_up_to before after (end_of s + 1) last words apart.2 is)

spans_up_to : (before after : List Span) (last other : Span) → length (before ++ other ∷ []) ≤ length (before ++ last ∷ after)
spans_up_to [] after last other = omega arith
spans_up_to (s ∷ before) after last other = let rest = spans_up_to before after last other in omega arith

words_up_to : (before after : List Span) (last other : Span) → length other.words ≤ length last.words →
    length (words_of (before ++ other ∷ [])) ≤ length (words_of (before ++ last ∷ after))
words_up_to [] after last other few =
    let one = length-append other.words [] in
    let all = length-append last.words (words_of after) in
    omega arith
words_up_to (s ∷ before) after last other few =
    let rest = words_up_to before after last other few in
    let one = length-append s.words (words_of (before ++ other ∷ [])) in
    let all = length-append s.words (words_of (before ++ last ∷ after)) in
    omega arith

filled_last : (before : List Span) (last : Span) → filled (before ++ last ∷ []) ≡ before ++ span last.at (some_words last.words) ∷ []
filled_last [] last = refl
filled_last (s ∷ []) last = refl
filled_last (s ∷ other ∷ before) last = ap (λ (spans : List Span). s ∷ spans) (filled_last (other ∷ before) last)

many_with_entry : (s : Span) (before : List Span) (last : Span) →
    with_entry (s ∷ (before ++ last ∷ [])) ≡ of_spans s.at (s ∷ (before ++ last ∷ []))
many_with_entry s [] last = refl
many_with_entry s (other ∷ before) last = refl

many_by_spans : (entry : ℕ) (s : Span) (before : List Span) (last : Span) → begins_at entry (s ∷ (before ++ last ∷ [])) ≡ false
many_by_spans entry s [] last = refl
many_by_spans entry s (other ∷ before) last = refl

-- ---- programs of spans

begins_where_it_is : (s : Span) (rest : List Span) (k : ℕ) → AreApart 0 (s ∷ rest) → k < length s.words →
    IsTrue (is_there (word_among (s ∷ rest) (s.at + 4 * k)))
begins_where_it_is s rest k apart inside = ap is_there (word_of_span-at [] rest 0 s k apart inside)

spans_made : (entry : ℕ) (s : Span) (rest : List Span) → entry % 4 ≡ 0 → entry < 2 ^ 32 → IsTrue (is_there (word_among (s ∷ rest) entry)) →
    AreApart 0 (s ∷ rest) → length (s ∷ rest) ≤ max_spans →
    length (words_of (s ∷ rest)) ≤ max_words → IsProgram (of_spans entry (s ∷ rest))
spans_made entry s rest aligned low begins apart many few = record {
  aligned = aligned;
  low = low;
  begins = begins;
  spans = apart;
  many = many;
  few = few;
  grants = record { few = omega arith; small = omega arith; rising = tt };
  apart = All-nil (λ c. shares_byte (of_spans entry (s ∷ rest)) c ≡ false);
}

listed_by_spans : (entry : ℕ) (spans : List Span) (lines more : List ℕ) → begins_at entry spans ≡ false →
    flat_map span_lines spans ≡ lines ++ more →
    (rest : List ℕ) × (listing (of_spans entry spans) 0 ≡ lines ++ rest)
listed_by_spans entry spans lines more by_spans front =
    let last = fill_line 0 in
    let behind = entry_line entry in (
      more ++ (behind ++ last),
      ap (λ (by_base : Bool). lines_by by_base (of_spans entry spans) ++ last) by_spans
          ∙ append_assoc (flat_map span_lines spans) behind last
          ∙ ap (λ (list : List ℕ). list ++ (behind ++ last)) front
          ∙ append_assoc lines more (behind ++ last),
    )

-- a program whose listing begins with the lines
abbrev GoesOn : RiscProgram → List ℕ → Type 0
GoesOn program lines = IsProgram program × ((rest : List ℕ) × (listing program 0 ≡ lines ++ rest))

-- ---- two spans or more

many_go_on : (s : Span) (before after : List Span) (last : Span) (words lines more : List ℕ) → AreApart 0 (s ∷ (before ++ last ∷ after)) →
    SomeWords words last.words →
    length (s ∷ (before ++ last ∷ after)) ≤ max_spans → length (words_of (s ∷ (before ++ last ∷ after))) ≤ max_words →
    flat_map span_lines (s ∷ (before ++ span last.at words ∷ [])) ≡ lines ++ more →
    GoesOn (of_spans s.at (s ∷ (before ++ span last.at words ∷ []))) lines
many_go_on s before after last words lines more apart is many few front =
    let new = span last.at words in
    let all = apart_up_to (s ∷ before) after 0 last words apart is in
    let first = apart.1 in
    let ends = first.ends in
    let some = first.some in
    let spans = spans_up_to (s ∷ before) after last new in
    let count = words_up_to (s ∷ before) after last new is.few in
    let at : s.at + 4 * 0 ≡ s.at = omega arith in (
      spans_made s.at s (before ++ new ∷ []) first.aligned (omega arith)
          (subst (λ (entry : ℕ). IsTrue (is_there (word_among (s ∷ (before ++ new ∷ [])) entry))) at
          (begins_where_it_is s (before ++ new ∷ []) 0 all some)) all (omega arith) (omega arith),
      listed_by_spans s.at (s ∷ (before ++ new ∷ [])) lines more (many_by_spans s.at s before new) front,
    )

filled_front : (before : List Span) (at : ℕ) (words : List ℕ) →
    flat_map span_lines (before ++ span at (some_words words) ∷ [])
    ≡ flat_map span_lines (before ++ span at words ∷ []) ++ (some_front at words).0
filled_front [] at words =
    let front = some_front at words in
    append-nil (span_lines (span at (some_words words)))
    ∙ ap (λ (list : List ℕ). span_line at ++ list) front.1
    ∙ sym (append_assoc (span_line at) (word_lines at 0 words) front.0)
    ∙ ap (λ (list : List ℕ). list ++ front.0) (sym (append-nil (span_lines (span at words))))
filled_front (s ∷ before) at words =
    ap (λ (list : List ℕ). span_lines s ++ list) (filled_front before at words)
    ∙ sym (append_assoc (span_lines s) (flat_map span_lines (before ++ span at words ∷ [])) (some_front at words).0)

last_is : (before after : List Span) (from : ℕ) (last : Span) → AreApart from (before ++ last ∷ after) → IsSpan last
last_is [] after from last apart = apart.1
last_is (s ∷ before) after from last apart = last_is before after (end_of s + 1) last apart.2

-- ---- one span

-- the entry of an only span near the end isn't its first word, so it has two
record TwoWords (last : Span) (after : List Span) : Type 0 where
  pub alone : after ≡ []
  pub two : length last.words ≡ 2

stands_there : (stands : Bool) (word : ℕ) → is_there (if stands then Some word else None) ≡ true → stands ≡ true
stands_there true word h = refl
stands_there false word h = absurd cc

two_words : (entry : ℕ) (last : Span) (after : List Span) → AreApart 0 (last ∷ after) → (last.at + 12 ≤ 2 ^ 32 → ⊥) →
    IsTrue (is_there (word_among (last ∷ after) entry)) →
    begins_at entry (last ∷ after) ≡ false → TwoWords last after
two_words entry last [] apart near begins by_spans =
    let all = apart.1 in
    let ends = all.ends in
    let stands = stands_there (stands_in last entry) (slice_index last.words ((entry - last.at) / 4)) begins in
    let parts =
    three_parts (nat_le last.at entry) ((entry - last.at) % 4 == 0) (nat_lt ((entry - last.at) / 4) (length last.words)) stands in
    let behind = leb-true last.at entry parts.0 in
    let aligned = eqb-true ((entry - last.at) % 4) 0 parts.1 in
    let inside = ltb-true ((entry - last.at) / 4) (length last.words) parts.2 in
    let other = eqb-false last.at entry by_spans in
    record { alone = refl; two = by_sizes last.at entry (length last.words) behind other aligned inside ends near }
  where
    by_sizes : (at entry long : ℕ) → at ≤ entry → (at ≡ entry → ⊥) → (entry - at) % 4 ≡ 0 → (entry - at) / 4 < long →
        at + 4 * long ≤ 2 ^ 32 → (at + 12 ≤ 2 ^ 32 → ⊥) → long ≡ 2
    by_sizes at entry long behind other aligned inside ends near = omega arith
two_words entry last (next ∷ rest) apart near begins by_spans =
    let all = apart.1 in
    let behind = apart.2.0 in
    let later = apart.2.1 in
    let some = all.some in
    let first = all.aligned in
    let aligned = later.aligned in
    let ends = later.ends in
    let words = later.some in
    absurd (near (omega arith))

other_front : (at number : ℕ) (words left : List ℕ) → length words ≡ 2 → (1 < length (some_words (take number words)) → ⊥) →
    word_lines at 0 words ≡ word_lines at 0 (take number words) ++ left →
    (more : List ℕ) × (word_lines at 0 (some_words (take number words) ++ other_word ∷ []) ≡ word_lines at 0 (take number words) ++ more)
unfolding word_lines
other_front at number [] left two few front = absurd (omega arith)
other_front at number (word ∷ []) left two few front = absurd (omega arith)
other_front at zero (word ∷ second ∷ []) left two few front = (word_lines at 0 (other_word ∷ other_word ∷ []), refl)
other_front at (suc zero) (word ∷ second ∷ []) left two few front = other_behind at word second left front
other_front at (suc (suc n)) (word ∷ second ∷ []) left two few front = absurd (few (omega arith))
other_front at number (word ∷ second ∷ third ∷ rest) left two few front = absurd (omega arith)

one_goes_on : (two room : Bool) (entry : ℕ) (last : Span) (after : List Span) (number : ℕ) (left lines : List ℕ) →
    AreApart 0 (last ∷ after) → IsTrue (is_there (word_among (last ∷ after) entry)) →
    begins_at entry (last ∷ after) ≡ false → length (words_of (last ∷ after)) ≤ max_words →
    word_lines last.at 0 last.words ≡ word_lines last.at 0 (take number last.words) ++ left →
    lines ≡ span_lines (span last.at (take number last.words)) →
    nat_lt 1 (length (some_words (take number last.words))) ≡ two → nat_le (last.at + 12) (2 ^ 32) ≡ room →
    GoesOn (of_one_by two room (span last.at (some_words (take number last.words)))) lines
one_goes_on true room entry last after number left lines apart begins by_spans few front is long near =
    let words = some_words (take number last.words) in
    let at = last.at in
    let new = span at words in
    let some = some_of number last.words apart.1.some apart.1.fit in
    let alone = apart_up_to [] after 0 last words apart some in
    let two = ltb-true 1 (length words) long in
    let all = alone.1 in
    let ends = all.ends in
    let aligned = all.aligned in
    let count = words_up_to [] after last new some.few in
    let shown = filled_front [] at (take number last.words) in
    let next : at + 4 * 1 ≡ at + 4 = omega arith in (
      spans_made (at + 4) new [] (omega arith) (omega arith)
          (subst (λ (entry : ℕ). IsTrue (is_there (word_among (new ∷ []) entry))) next (begins_where_it_is new [] 1 alone two)) alone
          (omega arith) (omega arith),
      listed_by_spans (at + 4) (new ∷ []) lines (some_front at (take number last.words)).0 (ne_eqb at (at + 4) (λ e. omega arith))
          (shown ∙ ap (λ (list : List ℕ). list ++ (some_front at (take number last.words)).0)
          (append-nil (span_lines (span at (take number last.words))) ∙ sym is)),
    )
one_goes_on false true entry last after number left lines apart begins by_spans few front is long near =
    let words = some_words (take number last.words) in
    let at = last.at in
    let new = span at words in
    let more = (some_front at (take number last.words)).0 in
    let next = span (at + 8) (other_word ∷ []) in
    let some = some_of number last.words apart.1.some apart.1.fit in
    let alone = apart_up_to [] after 0 last words apart some in
    let room = leb-true (at + 12) (2 ^ 32) near in
    let one : length words ≤ 1 = ltb-false 1 (length words) long in
    let all = alone.1 in
    let aligned = all.aligned in
    let both : AreApart 0 (new ∷ next ∷ []) =
    (alone.0, alone.1, (omega arith, record { aligned = omega arith; some = omega arith; ends = omega arith; fit = other_fits }, tt)) in
    let first : at + 4 * 0 ≡ at = omega arith in
    let count = length-append words (other_word ∷ []) in
    let shown : span_lines new ≡ lines ++ more = sym (append-nil (span_lines new)) ∙ filled_front [] at (take number last.words)
    ∙ ap (λ (list : List ℕ). list ++ more) (append-nil (span_lines (span at (take number last.words))) ∙ sym is)
    in
    let rest = flat_map span_lines (next ∷ []) in (
      spans_made at new (next ∷ []) aligned (omega arith) (subst (λ (entry : ℕ). IsTrue (is_there (word_among (new ∷ next ∷ []) entry)))
          first (begins_where_it_is new (next ∷ []) 0 both some.some))
          both (omega arith) (omega arith),
      listed_by_spans at (new ∷ next ∷ []) lines (more ++ rest) refl
          (ap (λ (list : List ℕ). list ++ rest) shown ∙ append_assoc lines more rest),
    )
one_goes_on false false entry last after number left lines apart begins by_spans few front is long near =
    let words = some_words (take number last.words) in
    let at = last.at in
    let some = some_of number last.words apart.1.some apart.1.fit in
    let one : length words ≤ 1 = ltb-false 1 (length words) long in
    let close : (at + 12 ≤ 2 ^ 32) → ⊥ = λ room. (let far = leb-false (at + 12) (2 ^ 32) near in omega arith) in
    let two = two_words entry last after apart close begins by_spans in
    let pair = two.two in
    let all = apart.1 in
    let ends = all.ends in
    let aligned = all.aligned in
    let others = words ++ other_word ∷ [] in
    let least = some.some in
    let size : length others ≡ 2 = length-append words (other_word ∷ []) ∙ (let e : length words + 1 ≡ 2 = omega arith in e) in
    let new = span at others in
    let alone : AreApart 0 (new ∷ []) = (
      omega arith,
      record {
        aligned = aligned;
        some = omega arith;
        ends = omega arith;
        fit = All-append (λ word. word < 2 ^ 32) words (other_word ∷ []) some.fit other_fits;
      },
      tt,
    ) in
    let shown = other_front at number last.words left pair (λ more. omega arith) front in
    let count = length-append others [] in
    let next : at + 4 * 1 ≡ at + 4 = omega arith in (
      spans_made (at + 4) new [] (omega arith) (omega arith)
          (subst (λ (entry : ℕ). IsTrue (is_there (word_among (new ∷ []) entry))) next (begins_where_it_is new [] 1 alone (omega arith)))
          alone (omega arith) (omega arith),
      listed_by_spans (at + 4) (new ∷ []) lines shown.0 (ne_eqb at (at + 4) (λ e. omega arith))
          (append-nil (span_lines new) ∙ ap (λ (list : List ℕ). span_line at ++ list) shown.1
          ∙ sym (append_assoc (span_line at) (word_lines at 0 (take number last.words)) shown.0)
          ∙ ap (λ (list : List ℕ). list ++ shown.0) (sym is)),
    )

goes_by : (before after : List Span) (last : Span) (number : ℕ) (left lines : List ℕ) (entry : ℕ) → AreApart 0 (before ++ last ∷ after) →
    length (before ++ last ∷ after) ≤ max_spans →
    length (words_of (before ++ last ∷ after)) ≤ max_words → BeginsAtWord entry (before ++ last ∷ after) →
    begins_at entry (before ++ last ∷ after) ≡ false →
    word_lines last.at 0 last.words ≡ word_lines last.at 0 (take number last.words) ++ left →
    lines ≡ flat_map span_lines (before ++ span last.at (take number last.words) ∷ []) →
    GoesOn (completed (before ++ span last.at (take number last.words) ∷ [])) lines
goes_by [] after last number left lines entry apart many few begins by_spans front is =
    one_goes_on (nat_lt 1 (length (some_words (take number last.words))))
    (nat_le (last.at + 12) (2 ^ 32)) entry last after number left lines apart begins by_spans few front
    (is ∙ append-nil (span_lines (span last.at (take number last.words)))) refl refl
goes_by (s ∷ before) after last number left lines entry apart many few begins by_spans front is =
    let words = take number last.words in
    let new = span last.at (some_words words) in
    let more = (some_front last.at words).0 in
    let some_apart = last_is (s ∷ before) after 0 last apart in
    let some = some_of number last.words some_apart.some some_apart.fit in
    let same : completed ((s ∷ before) ++ span last.at words ∷ []) ≡ of_spans s.at (s ∷ (before ++ new ∷ [])) =
    ap with_entry (filled_last (s ∷ before) (span last.at words)) ∙ many_with_entry s before new
    in
    subst (λ (program : RiscProgram). GoesOn program lines) (sym same)
    (many_go_on s before after last (some_words words) lines more apart some many few
    (filled_front (s ∷ before) last.at words ∙ ap (λ (list : List ℕ). list ++ more) (sym is)))

pub are_of_spans : (program : RiscProgram) (lines : List ℕ) → IsProgram program → begins_at_base program ≡ false →
    FewerSpans program.spans lines → AreOfSpans lines
are_of_spans program lines made by_spans fewer =
    let known = fewer.spans_are in
    let words = take fewer.number fewer.last.words in
    let new = span fewer.last.at words in
    let is : lines ≡ flat_map span_lines (fewer.before ++ new ∷ []) =
    fewer.lines_are ∙ ap (λ (list : List ℕ). flat_map span_lines fewer.before ++ list) (sym (append-nil (span_lines new)))
    ∙ sym (flat_map-append span_lines fewer.before (new ∷ []))
    in
    let goes = goes_by fewer.before fewer.after fewer.last fewer.number fewer.left lines program.base
    (subst (AreApart 0) known made.spans)
    (subst (λ (spans : List Span). length spans ≤ max_spans) known made.many)
    (subst (λ (spans : List Span). length (words_of spans) ≤ max_words) known made.few)
    (subst (BeginsAtWord program.base) known made.begins)
    (subst (λ (spans : List Span). begins_at program.base spans ≡ false) known by_spans)
    fewer.front is
    in
    let last = last_is fewer.before fewer.after 0 fewer.last (subst (AreApart 0) known made.spans) in
    let all =
    apart_up_to fewer.before fewer.after 0 fewer.last (some_words words) (subst (AreApart 0) known made.spans)
    (some_of fewer.number fewer.last.words last.some last.fit) in
    let apart = subst (AreApart 0) (sym (filled_last fewer.before new)) all in
    record { spans = fewer.before ++ new ∷ []; is = is; apart = apart; made = goes.0; rest = goes.1.0; goes_on = goes.1.1 }
