-- Lines begin a listing exactly where there are none, or they are a listing, or become one with a last line.
use Rattle.std.proofs.Common.{◌≡◌, ℕ, zero, suc, ◌+◌, ◌-◌, ◌*◌, ◌^◌, ◌<◌, ◌≤◌, Bool, true, false, not, List, [], ◌∷◌, ◌++◌, length, take}
use Rattle.std.proofs.Common.{Option, Some, None, refl, sym, ap, subst, ◌∙◌, arith, append_assoc, inl, inr}
use Rattle.std.specs.Prelude.{◌==◌, ◌⊎◌, ◌↔◌}
use Rattle.std.specs.List.{flat_map}
use Rattle.std.proofs.lemmas.Bool.{and_parts}
use Rattle.std.proofs.lemmas.List.{append-nil, length-take}
use Rattle.std.proofs.Math.Seq.{take-length}
use Rattle.std.proofs.lemmas.List.Sums.{sum_by-take-le}
use Rattle.std.proofs.lemmas.List.Elements.{All-take, All-nil}
use Rattle.risc_word.specs.declared.Instr.{Instr}
use Rattle.page_table.specs.Grants.{Chunk, AreRising, total}
use Rattle.page_table.proofs.Placing.{total-cons}
use Rattle.machine_model.specs.Paths.{begins_at, begins_at_base, RiscProgram, Span, IsProgram, IsSpan, AreApart, all_words, end_of}
use Rattle.machine_model.specs.Paths.{one_span, shares_byte, span}
use Rattle.machine_model.proofs.OneSpan.{all_words-one_span, one_span-made}
use Rattle.risc_listing.specs.Listings.{all_word_lines, base_line, entry_line, lines_by, span_line, span_lines, chunk_line, fill_line}
use Rattle.risc_listing.specs.Listings.{line_of, listing, spelled, word_lines, words_of}
use Rattle.risc_text.specs.Assembly.{AreOfSpans, BeginsListing, FewLinesMissing, IsListed, IsListing, are_lines, completed, has_no_newline}
use Rattle.risc_text.proofs.Completed.{FewerSpans, are_of_spans}
use Rattle.risc_text.proofs.Gathering.{Fit, fit_all, trunk}
use Rattle.risc_text.proofs.OneSpan.{one_span-begins, words_of_one}
use Rattle.risc_text.proofs.Plain.{IsLine, Plain, base_line-is, entry_line-is, span_line-is, chunk_line-is, fill_line-is, instr_line-is}
use Rattle.risc_text.proofs.Plain.{word_line-is}
use Rattle.risc_text.proofs.TwoWords.{cons_parts}
use Rattle.risc_text.proofs.Spelling.{addresses_fit, spelled_is, spelled_less, unspelled_less}

-- a cut before a line or after it
pub record Past (line tail lines rest : List ℕ) : Type 0 where
  pub more : List ℕ
  pub lines_are : lines ≡ line ++ more
  pub tail_is : tail ≡ more ++ rest
  pub whole : are_lines more ≡ true

abbrev pub Cut : List ℕ → List ℕ → List ℕ → List ℕ → Type 0
Cut line tail lines rest = (lines ≡ []) ⊎ Past line tail lines rest

no_cons : (byte : ℕ) (text : List ℕ) → [] ≡ byte ∷ text → ⊥
no_cons byte text e = cc

pub not_newline : (byte : ℕ) → not (byte == 10) ≡ true → (byte == 10) ≡ true → ⊥
not_newline byte other is = cc

pub later_lines : (byte : ℕ) (rest : List ℕ) → are_lines (byte ∷ rest) ≡ true → are_lines rest ≡ true
later_lines byte [] is = refl
later_lines byte (other ∷ rest) is = is

cut_front : (front tail lines rest : List ℕ) → Plain front → (front ++ 10 ∷ []) ++ tail ≡ lines ++ rest → are_lines lines ≡ true →
    Cut (front ++ 10 ∷ []) tail lines rest
cut_front front tail [] rest plain same whole = inl refl
cut_front [] tail (byte ∷ lines) rest plain same whole =
    let parts = cons_parts 10 byte tail (lines ++ rest) same in
    inr
    (record { more = lines; lines_are = ap (λ (b : ℕ). b ∷ lines) (sym parts.0); tail_is = parts.1; whole = later_lines byte lines whole })
cut_front (first ∷ front) tail (byte ∷ []) rest plain same whole =
    let parts = cons_parts first byte ((front ++ 10 ∷ []) ++ tail) rest same in
    let apart = and_parts (not (first == 10)) (has_no_newline front) plain in
    absurd (not_newline byte (rw parts.0 at apart.0) whole)
cut_front (first ∷ front) tail (byte ∷ second ∷ lines) rest plain same whole =
    let parts = cons_parts first byte ((front ++ 10 ∷ []) ++ tail) (second ∷ lines ++ rest) same in
    let apart = and_parts (not (first == 10)) (has_no_newline front) plain in
    let byte_is = sym parts.0 in
    elim (cut_front front tail (second ∷ lines) rest apart.1 parts.1 whole)
    as (λ _. Cut (first ∷ front ++ 10 ∷ []) tail (byte ∷ second ∷ lines) rest) [
      | inl none ↦ absurd (no_cons second lines (sym none))
      | inr past ↦
          inr (record { more = past.more; lines_are = (λ i. byte_is i ∷ past.lines_are i); tail_is = past.tail_is; whole = past.whole })
    ]

pub cut_line : (line tail lines rest : List ℕ) → IsLine line → line ++ tail ≡ lines ++ rest → are_lines lines ≡ true →
    Cut line tail lines rest
cut_line line tail lines rest is same whole =
    subst (λ (shown : List ℕ). Cut shown tail lines rest) (sym is.is)
    (cut_front is.front tail lines rest is.plain (ap (λ (shown : List ℕ). shown ++ tail) (sym is.is) ∙ same) whole)

-- a cut among the lines of words, or after them
pub record FewerWords (at skip : ℕ) (words whole lines : List ℕ) : Type 0 where
  pub number : ℕ
  pub enough : skip ≤ number
  pub lines_are : lines ≡ word_lines at skip (take number words)
  pub left : List ℕ
  pub front : whole ≡ lines ++ left

abbrev pub CutWords : ℕ → ℕ → List ℕ → List ℕ → List ℕ → List ℕ → Type 0
CutWords at skip words tail lines rest =
    FewerWords at skip words (word_lines at skip words) lines ⊎ Past (word_lines at skip words) tail lines rest

abbrev front_lines : ℕ → ℕ → List ℕ → Option (Instr × ℕ) → List ℕ
front_lines at word more found = line_of at word found ++ word_lines (at + 4) (words_of found - 1) more

module _ (at word : ℕ) (more tail : List ℕ) (at_small : at < 2 ^ 32) (fit : Fit (word ∷ more)) where
  Further : Type 0
  Further =
      (skip : ℕ) (lines rest : List ℕ) → word_lines (at + 4) skip more ++ tail ≡ lines ++ rest → are_lines lines ≡ true →
      CutWords (at + 4) skip more tail lines rest

  cut_front_line : (found : Option (Instr × ℕ)) (lines rest : List ℕ) → IsLine (line_of at word found) →
      ((n : ℕ) → words_of found - 1 ≤ n → spelled (take (suc n) (word ∷ more)) ≡ found) → Further →
      front_lines at word more found ++ tail ≡ lines ++ rest → are_lines lines ≡ true →
      FewerWords at 0 (word ∷ more) (front_lines at word more found) lines ⊎ Past (front_lines at word more found) tail lines rest
  unfolding word_lines Further
  cut_front_line found lines rest is less further same whole =
      let line = line_of at word found in
      let skip = words_of found - 1 in
      let after = word_lines (at + 4) skip more in
      let Wanted : Type 0 =
      FewerWords at 0 (word ∷ more) (front_lines at word more found) lines ⊎ Past (front_lines at word more found) tail lines rest in
      elim (cut_line line (after ++ tail) lines rest is (sym (append_assoc line after tail) ∙ same) whole) as (λ _.
      FewerWords at 0 (word ∷ more) (front_lines at word more found) lines ⊎ Past (front_lines at word more found) tail lines rest) [
        | inl none ↦ inl (record {
          number = 0;
          enough = omega arith;
          lines_are = none;
          left = front_lines at word more found;
          front = ap (λ (text : List ℕ). text ++ front_lines at word more found) (sym none);
        })
        | inr past ↦ elim (further skip past.more rest past.tail_is past.whole) as (λ _.
            FewerWords at 0 (word ∷ more) (front_lines at word more found) lines ⊎ Past (front_lines at word more found) tail lines rest) [
              | inl fewer ↦ inl (record {
                number = suc fewer.number;
                enough = omega arith;
                lines_are = past.lines_are ∙ ap (λ (text : List ℕ). line ++ text) fewer.lines_are
                    ∙ sym (ap (front_lines at word (take fewer.number more)) (less fewer.number fewer.enough));
                left = fewer.left;
                front = ap (λ (text : List ℕ). line ++ text) fewer.front ∙ sym (append_assoc line past.more fewer.left)
                    ∙ ap (λ (text : List ℕ). text ++ fewer.left) (sym past.lines_are);
              })
              | inr last ↦ inr (record {
                more = last.more;
                lines_are = past.lines_are ∙ ap (λ (text : List ℕ). line ++ text) last.lines_are ∙ sym (append_assoc line after last.more);
                tail_is = last.tail_is;
                whole = last.whole;
              })
            ]
      ]

  cut_front_by : (found : Option (Instr × ℕ)) (lines rest : List ℕ) → spelled (word ∷ more) ≡ found → Further →
      front_lines at word more found ++ tail ≡ lines ++ rest → are_lines lines ≡ true →
      FewerWords at 0 (word ∷ more) (front_lines at word more found) lines ⊎ Past (front_lines at word more found) tail lines rest
  cut_front_by None lines rest is further same whole =
      cut_front_line None lines rest (word_line-is at word at_small (fit 0))
      (λ n enough. unspelled_less (suc n) (word ∷ more) is) further same whole
  cut_front_by (Some (instr, number)) lines rest is further same whole =
      let known = spelled_is (word ∷ more) instr number is in
      cut_front_line (Some (instr, number)) lines rest
      (instr_line-is at instr at_small known.is_instr (addresses_fit instr known.rest known.is_instr (subst Fit known.words_are fit)))
      (λ n enough. spelled_less (suc n) (word ∷ more) instr number is (omega arith)) further same whole

cut_words : (at skip : ℕ) (words tail lines rest : List ℕ) → at + 4 * length words ≤ 2 ^ 32 → Fit words →
    word_lines at skip words ++ tail ≡ lines ++ rest → are_lines lines ≡ true → CutWords at skip words tail lines rest
unfolding word_lines Further
cut_words at zero [] tail lines rest small fit same whole = inr (record { more = lines; lines_are = refl; tail_is = same; whole = whole })
cut_words at (suc skip) [] tail lines rest small fit same whole =
    inr (record { more = lines; lines_are = refl; tail_is = same; whole = whole })
cut_words at (suc skip) (word ∷ more) tail lines rest small fit same whole =
    elim (cut_words (at + 4) skip more tail lines rest (omega arith) (λ k. fit (suc k)) same whole)
    as (λ _. CutWords at (suc skip) (word ∷ more) tail lines rest) [
      | inl fewer ↦ inl (record {
        number = suc fewer.number;
        enough = (let e = fewer.enough in omega arith);
        lines_are = fewer.lines_are;
        left = fewer.left;
        front = fewer.front;
      })
      | inr past ↦ inr (record { more = past.more; lines_are = past.lines_are; tail_is = past.tail_is; whole = past.whole })
    ]
cut_words at zero (word ∷ more) tail lines rest small fit same whole =
    cut_front_by at word more tail (omega arith) fit (spelled (word ∷ more)) lines rest refl
    (λ skip lines rest same whole. cut_words (at + 4) skip more tail lines rest (omega arith) (λ k. fit (suc k)) same whole) same whole

-- a cut among the lines of spans
abbrev pub CutSpans : List Span → List ℕ → List ℕ → List ℕ → Type 0
CutSpans spans tail lines rest = (lines ≡ []) ⊎ (FewerSpans spans lines ⊎ Past (flat_map span_lines spans) tail lines rest)

-- all words of the first span
first_span : (s : Span) (after : List Span) → FewerSpans (s ∷ after) (span_lines s)
first_span s after =
    let whole = take-length s.words in record {
      before = [];
      last = s;
      after = after;
      number = length s.words;
      left = [];
      spans_are = refl;
      lines_are = ap (λ (words : List ℕ). span_lines (span s.at words)) (sym whole);
      front = ap (word_lines s.at 0) (sym whole) ∙ sym (append-nil (word_lines s.at 0 (take (length s.words) s.words)));
    }

later_span : (s : Span) (rest : List Span) (lines : List ℕ) → FewerSpans rest lines → FewerSpans (s ∷ rest) (span_lines s ++ lines)
later_span s rest lines fewer = record {
  before = s ∷ fewer.before;
  last = fewer.last;
  after = fewer.after;
  number = fewer.number;
  left = fewer.left;
  spans_are = ap (λ (spans : List Span). s ∷ spans) fewer.spans_are;
  lines_are = ap (λ (text : List ℕ). span_lines s ++ text) fewer.lines_are
      ∙ sym (append_assoc (span_lines s) (flat_map span_lines fewer.before)
      (span_lines (span fewer.last.at (take fewer.number fewer.last.words))));
  front = fewer.front;
}

all_spans : (s : Span) (rest : List Span) → FewerSpans (s ∷ rest) (flat_map span_lines (s ∷ rest))
all_spans s [] = subst (FewerSpans (s ∷ [])) (sym (append-nil (span_lines s))) (first_span s [])
all_spans s (other ∷ rest) = later_span s (other ∷ rest) (flat_map span_lines (other ∷ rest)) (all_spans other rest)

cut_span : (s : Span) (after : List Span) (tail lines rest : List ℕ) → IsSpan s → span_lines s ++ tail ≡ lines ++ rest →
    are_lines lines ≡ true →
    (lines ≡ []) ⊎ (FewerSpans (s ∷ after) lines ⊎ Past (span_lines s) tail lines rest)
cut_span s after tail lines rest is same whole =
    let ends = is.ends in
    let some = is.some in
    let words = word_lines s.at 0 s.words in
    elim (cut_line (span_line s.at) (words ++ tail) lines rest (span_line-is s.at (omega arith))
    (sym (append_assoc (span_line s.at) words tail) ∙ same) whole)
    as (λ _. (lines ≡ []) ⊎ (FewerSpans (s ∷ after) lines ⊎ Past (span_lines s) tail lines rest)) [
      | inl none ↦ inl none
      | inr past ↦ elim (cut_words s.at 0 s.words tail past.more rest ends (fit_all s.words is.fit) past.tail_is past.whole)
          as (λ _. (lines ≡ []) ⊎ (FewerSpans (s ∷ after) lines ⊎ Past (span_lines s) tail lines rest)) [
            | inl fewer ↦ inr (inl (record {
              before = [];
              last = s;
              after = after;
              number = fewer.number;
              left = fewer.left;
              spans_are = refl;
              lines_are = past.lines_are ∙ ap (λ (text : List ℕ). span_line s.at ++ text) fewer.lines_are;
              front = fewer.front ∙ ap (λ (text : List ℕ). text ++ fewer.left) fewer.lines_are;
            }))
            | inr last ↦ inr (inr (record {
              more = last.more;
              lines_are =
                  past.lines_are ∙ ap (λ (text : List ℕ). span_line s.at ++ text) last.lines_are
                  ∙ sym (append_assoc (span_line s.at) words last.more);
              tail_is = last.tail_is;
              whole = last.whole;
            }))
          ]
    ]

cut_spans : (from : ℕ) (spans : List Span) (tail lines rest : List ℕ) → AreApart from spans →
    flat_map span_lines spans ++ tail ≡ lines ++ rest → are_lines lines ≡ true → CutSpans spans tail lines rest
cut_spans from [] tail lines rest apart same whole = inr (inr (record { more = lines; lines_are = refl; tail_is = same; whole = whole }))
cut_spans from (s ∷ more) tail lines rest apart same whole =
    let after = flat_map span_lines more in
    elim (cut_span s more (after ++ tail) lines rest apart.1 (sym (append_assoc (span_lines s) after tail) ∙ same) whole)
    as (λ _. CutSpans (s ∷ more) tail lines rest) [
      | inl none ↦ inl none
      | inr first ↦ elim first as (λ _. CutSpans (s ∷ more) tail lines rest) [
        | inl fewer ↦ inr (inl fewer)
        | inr past ↦ elim (cut_spans (end_of s + 1) more tail past.more rest apart.2 past.tail_is past.whole)
            as (λ _. CutSpans (s ∷ more) tail lines rest) [
              | inl none ↦ inr (inl (subst (FewerSpans (s ∷ more)) (sym
                  (past.lines_are ∙ ap (λ (text : List ℕ). span_lines s ++ text) none ∙ append-nil (span_lines s))) (first_span s more)))
              | inr later ↦ elim later as (λ _. CutSpans (s ∷ more) tail lines rest) [
                | inl fewer ↦ inr (inl (subst (FewerSpans (s ∷ more)) (sym past.lines_are) (later_span s more past.more fewer)))
                | inr last ↦ inr (inr (record {
                  more = last.more;
                  lines_are =
                      past.lines_are ∙ ap (λ (text : List ℕ). span_lines s ++ text) last.lines_are
                      ∙ sym (append_assoc (span_lines s) after last.more);
                  tail_is = last.tail_is;
                  whole = last.whole;
                }))
              ]
            ]
      ]
    ]

-- a cut among the lines of chunks, or after them
pub record FewerChunks (chunks : List Chunk) (lines : List ℕ) : Type 0 where
  pub number : ℕ
  pub lines_are : lines ≡ flat_map chunk_line (take number chunks)

cut_chunks : (from : ℕ) (chunks : List Chunk) (tail lines rest : List ℕ) → AreRising from chunks → total chunks ≤ 2 ^ 24 →
    flat_map chunk_line chunks ++ tail ≡ lines ++ rest → are_lines lines ≡ true →
    FewerChunks chunks lines ⊎ Past (flat_map chunk_line chunks) tail lines rest
cut_chunks from [] tail lines rest rising small same whole = inr (record { more = lines; lines_are = refl; tail_is = same; whole = whole })
cut_chunks from (c ∷ chunks) tail lines rest rising small same whole =
    let all = total-cons c chunks in
    let is = rising.1 in
    let ends = is.ends in
    let some = is.some in
    let line = chunk_line c in
    let after = flat_map chunk_line chunks in
    elim (cut_line line (after ++ tail) lines rest (chunk_line-is c (omega arith) (omega arith))
    (sym (append_assoc line after tail) ∙ same) whole)
    as (λ _. FewerChunks (c ∷ chunks) lines ⊎ Past (flat_map chunk_line (c ∷ chunks)) tail lines rest) [
      | inl none ↦ inl (record { number = 0; lines_are = none })
      | inr past ↦ elim (cut_chunks (c.at + c.len) chunks tail past.more rest rising.2 (omega arith) past.tail_is past.whole)
          as (λ _. FewerChunks (c ∷ chunks) lines ⊎ Past (flat_map chunk_line (c ∷ chunks)) tail lines rest) [
            | inl fewer ↦ inl
                (record { number = suc fewer.number; lines_are = past.lines_are ∙ ap (λ (text : List ℕ). line ++ text) fewer.lines_are })
            | inr last ↦ inr (record {
              more = last.more;
              lines_are = past.lines_are ∙ ap (λ (text : List ℕ). line ++ text) last.lines_are ∙ sym (append_assoc line after last.more);
              tail_is = last.tail_is;
              whole = last.whole;
            })
          ]
    ]

-- ---- programs with fewer words or chunks

fewer_words : (program : RiscProgram) (n : ℕ) → IsProgram program → begins_at_base program ≡ true →
    IsProgram (one_span program.base (take n (all_words program)) [])
fewer_words program n made one =
    let words = all_words program in
    let all = words_of_one program made one in
    let short = length-take n words in
    one_span-made program.base (take n words) [] made.aligned made.low (let e = made.few in omega arith) (let e = all.ends in omega arith)
    (All-take (λ word. word < 2 ^ 32) n words all.fit)
    (record { few = omega arith; small = omega arith; rising = tt })
    (All-nil (λ c. shares_byte (one_span program.base (take n words) []) c ≡ false))

trunk_of_words : (base : ℕ) (words : List ℕ) → trunk (one_span base words []) ≡ base_line base ++ word_lines base 0 words
trunk_of_words base words =
    let program = one_span base words [] in
    ap (λ (by_base : Bool). lines_by by_base program ++ []) (one_span-begins base words [])
    ∙ append-nil (lines_by true program)
    ∙ ap (λ (list : List ℕ). base_line base ++ word_lines base 0 list) (all_words-one_span base words [])

rising-take : (from n : ℕ) (chunks : List Chunk) → AreRising from chunks → AreRising from (take n chunks)
rising-take from zero [] rising = tt
rising-take from zero (c ∷ rest) rising = tt
rising-take from (suc n) [] rising = tt
rising-take from (suc n) (c ∷ rest) rising = (rising.0, rising.1, rising-take (c.at + c.len) n rest rising.2)

fewer_chunks : (program : RiscProgram) (n : ℕ) → IsProgram program →
    IsProgram (record { base = program.base; spans = program.spans; grants = take n program.grants })
fewer_chunks program n made =
    let short = length-take n program.grants in
    let less = sum_by-take-le (λ (c : Chunk). c.len) program.grants n in
    let all = made.grants in
    record {
      aligned = made.aligned;
      low = made.low;
      begins = made.begins;
      spans = made.spans;
      many = made.many;
      few = made.few;
      grants = record {
        few = (let e = all.few in omega arith);
        small = (let e = all.small in omega arith);
        rising = rising-take 0 n program.grants all.rising;
      };
      apart = All-take (λ c. shares_byte program c ≡ false) n program.grants made.apart;
    }

-- ---- lines that begin a listing

-- all lines of a listing but the last
pub record IsTrunk (lines : List ℕ) : Type 0 where
  pub program : RiscProgram
  pub made : IsProgram program
  pub is : lines ≡ trunk program

abbrev pub Starts : List ℕ → Type 0
Starts lines = (lines ≡ []) ⊎ (IsTrunk lines ⊎ (AreOfSpans lines ⊎ IsListing lines))

module _ (program : RiscProgram) (fill : ℕ) (lines rest : List ℕ) (listed : IsListed program fill) where
  Head : List ℕ
  Head = all_word_lines program

  Chunks : List ℕ
  Chunks = flat_map chunk_line program.grants

  -- after the lines of the chunks
  starts_last : (two three : List ℕ) → lines ≡ Head ++ two → two ≡ Chunks ++ three → fill_line fill ≡ three ++ rest →
      are_lines three ≡ true → Starts lines
  unfolding Head Chunks
  starts_last two three two_is three_is same whole =
      let lines_are : lines ≡ Head ++ (Chunks ++ three) = two_is ∙ ap (λ (text : List ℕ). Head ++ text) three_is in
      elim (cut_line (fill_line fill) [] three rest (fill_line-is fill listed.fill_small) (append-nil (fill_line fill) ∙ same) whole)
      as (λ _. Starts lines) [
        | inl none ↦ inr (inl (record {
          program = program;
          made = listed.made;
          is = lines_are ∙ ap (λ (text : List ℕ). Head ++ (Chunks ++ text)) none ∙ ap (λ (text : List ℕ). Head ++ text) (append-nil Chunks);
        }))
        | inr past ↦ inr (inr (inr (
          program,
          fill,
          (
            listed,
            sym (lines_are
                ∙ ap (λ (text : List ℕ). Head ++ (Chunks ++ text))
                (past.lines_are ∙ ap (λ (text : List ℕ). fill_line fill ++ text) (no_more past.more rest past.tail_is)
                ∙ append-nil (fill_line fill))),
          ),
        )))
      ]
    where
      no_more : (more after : List ℕ) → [] ≡ more ++ after → more ≡ []
      no_more [] after same = refl
      no_more (byte ∷ more) after same = absurd (no_cons byte (more ++ after) same)

  starts_chunks : (two : List ℕ) → lines ≡ Head ++ two → Chunks ++ fill_line fill ≡ two ++ rest → are_lines two ≡ true → Starts lines
  unfolding Head Chunks
  starts_chunks two two_is same whole =
      let made = listed.made in
      let grants = made.grants in
      elim (cut_chunks 0 program.grants (fill_line fill) two rest grants.rising grants.small same whole) as (λ _. Starts lines) [
        | inl fewer ↦ inr (inl (record {
          program = record { base = program.base; spans = program.spans; grants = take fewer.number program.grants };
          made = fewer_chunks program fewer.number made;
          is = two_is ∙ ap (λ (text : List ℕ). Head ++ text) fewer.lines_are ∙ same_head fewer.number (begins_at_base program);
        }))
        | inr past ↦ starts_last two past.more two_is past.lines_are past.tail_is past.whole
      ]
    where
      -- fewer chunks change no line of a word
      same_head : (n : ℕ) (by_base : Bool) → lines_by by_base program ++ flat_map chunk_line (take n program.grants)
          ≡ lines_by by_base (record { base = program.base; spans = program.spans; grants = take n program.grants })
          ++ flat_map chunk_line (take n program.grants)
      same_head n true = refl
      same_head n false = refl

  -- among the lines of words, by the base
  starts_base : begins_at_base program ≡ true → listing program fill ≡ lines ++ rest → are_lines lines ≡ true → Starts lines
  unfolding Head Chunks
  starts_base by_base same whole =
      let made = listed.made in
      let words = all_words program in
      let all = words_of_one program made by_base in
      let base = base_line program.base in
      let shown = word_lines program.base 0 words in
      let after = Chunks ++ fill_line fill in
      let head_is : Head ≡ base ++ shown = ap (λ (by_base : Bool). lines_by by_base program) by_base in
      let parts : base ++ (shown ++ after) ≡ lines ++ rest =
      sym (append_assoc base shown after) ∙ ap (λ (head : List ℕ). head ++ after) (sym head_is) ∙ same in
      elim (cut_line base (shown ++ after) lines rest (base_line-is program.base made.low) parts whole) as (λ _. Starts lines) [
        | inl none ↦ inl none
        | inr past ↦ elim (cut_words program.base 0 words after past.more rest all.ends (fit_all words all.fit) past.tail_is past.whole)
            as (λ _. Starts lines) [
              | inl fewer ↦ inr (inl (record {
                program = one_span program.base (take fewer.number words) [];
                made = fewer_words program fewer.number made by_base;
                is =
                    past.lines_are ∙ ap (λ (text : List ℕ). base ++ text) fewer.lines_are
                    ∙ sym (trunk_of_words program.base (take fewer.number words));
              }))
              | inr last ↦ starts_chunks last.more
                  (past.lines_are ∙ ap (λ (text : List ℕ). base ++ text) last.lines_are ∙ sym (append_assoc base shown last.more)
                  ∙ ap (λ (head : List ℕ). head ++ last.more) (sym head_is)) last.tail_is last.whole
            ]
      ]

  -- among the lines of spans, or that of the entry
  starts_spans : begins_at_base program ≡ false → listing program fill ≡ lines ++ rest → are_lines lines ≡ true → Starts lines
  unfolding Head Chunks
  starts_spans by_spans same whole =
      let made = listed.made in
      let shown = flat_map span_lines program.spans in
      let entry = entry_line program.base in
      let after = Chunks ++ fill_line fill in
      let head_is : Head ≡ shown ++ entry = ap (λ (by_base : Bool). lines_by by_base program) by_spans in
      let parts : shown ++ (entry ++ after) ≡ lines ++ rest =
      sym (append_assoc shown entry after) ∙ ap (λ (head : List ℕ). head ++ after) (sym head_is) ∙ same in
      elim (cut_spans 0 program.spans (entry ++ after) lines rest made.spans parts whole) as (λ _. Starts lines) [
        | inl none ↦ inl none
        | inr first ↦ elim first as (λ _. Starts lines) [
          | inl fewer ↦ inr (inr (inl (are_of_spans program lines made by_spans fewer)))
          | inr past ↦ elim (cut_line entry after past.more rest (entry_line-is program.base made.low) past.tail_is past.whole)
              as (λ _. Starts lines) [
                | inl none ↦ inr (inr (inl (are_of_spans program lines made by_spans
                    (subst (FewerSpans program.spans) (sym (past.lines_are ∙ ap (λ (text : List ℕ). shown ++ text) none ∙ append-nil shown))
                    (every_span program.base program.spans by_spans)))))
                | inr last ↦ starts_chunks last.more
                    (past.lines_are ∙ ap (λ (text : List ℕ). shown ++ text) last.lines_are ∙ sym (append_assoc shown entry last.more)
                    ∙ ap (λ (head : List ℕ). head ++ last.more) (sym head_is)) last.tail_is last.whole
              ]
        ]
      ]
    where
      every_span : (entry : ℕ) (spans : List Span) → begins_at entry spans ≡ false → FewerSpans spans (flat_map span_lines spans)
      every_span entry [] is = absurd cc
      every_span entry (s ∷ rest) is = all_spans s rest

  starts_by : (by_base : Bool) → begins_at_base program ≡ by_base → listing program fill ≡ lines ++ rest → are_lines lines ≡ true →
      Starts lines
  starts_by true is same whole = starts_base is same whole
  starts_by false is same whole = starts_spans is same whole

  starts : listing program fill ≡ lines ++ rest → are_lines lines ≡ true → Starts lines
  starts same whole = starts_by (begins_at_base program) refl same whole

pub begun_starts : (lines : List ℕ) → BeginsListing lines → are_lines lines ≡ true → Starts lines
begun_starts lines begun whole =
    let found = begun.1 in
    starts found.0 found.1 lines begun.0 found.2.0 found.2.1 whole

-- a listing whose last line is added to all others
pub trunk_and_last : (program : RiscProgram) (fill : ℕ) → trunk program ++ fill_line fill ≡ listing program fill
trunk_and_last program fill = append_assoc (all_word_lines program) (flat_map chunk_line program.grants) (fill_line fill)

pub trunk_is_listing : (lines : List ℕ) → IsTrunk lines → IsListing (lines ++ fill_line 0)
trunk_is_listing lines trunk = (
  trunk.program,
  0,
  (
    record { made = trunk.made; fill_small = omega arith },
    sym (ap (λ (text : List ℕ). text ++ fill_line 0) trunk.is ∙ trunk_and_last trunk.program 0),
  ),
)

pub listing_begins : (lines : List ℕ) → IsListing lines → BeginsListing lines
listing_begins lines is = ([], subst IsListing (sym (append-nil lines)) is)

nothing : RiscProgram
nothing = one_span 0 [] []

none_begins : BeginsListing []
unfolding nothing
none_begins = (
  listing nothing 0,
  (
    nothing,
    0,
    (
      record {
        made = one_span-made 0 [] [] refl (omega arith) (omega arith) (omega arith) (All-nil (λ word. word < 2 ^ 32))
            (record { few = omega arith; small = omega arith; rising = tt }) (All-nil (λ c. shares_byte nothing c ≡ false));
        fill_small = omega arith;
      },
      refl,
    ),
  ),
)

pub spans_begin : (lines : List ℕ) → AreOfSpans lines → BeginsListing lines
spans_begin lines are = (are.rest, (completed are.spans, 0, (record { made = are.made; fill_small = omega arith }, are.goes_on)))

pub starts_begun : (lines : List ℕ) → Starts lines → BeginsListing lines
starts_begun lines (inl none) = subst BeginsListing (sym none) none_begins
starts_begun lines (inr (inl trunk)) = (fill_line 0, trunk_is_listing lines trunk)
starts_begun lines (inr (inr (inl are))) = spans_begin lines are
starts_begun lines (inr (inr (inr is))) = listing_begins lines is

-- the law
pub begins_where : (lines : List ℕ) → are_lines lines ≡ true → BeginsListing lines ↔ FewLinesMissing lines
begins_where lines whole = (forth, back)
  where
    by_start : Starts lines → FewLinesMissing lines
    by_start (inl none) = inl none
    by_start (inr (inl trunk)) = inr (inr (inl (trunk_is_listing lines trunk)))
    by_start (inr (inr (inl are))) = inr (inr (inr are))
    by_start (inr (inr (inr is))) = inr (inl is)

    forth : BeginsListing lines → FewLinesMissing lines
    forth begun = by_start (begun_starts lines begun whole)

    back : FewLinesMissing lines → BeginsListing lines
    back (inl none) = subst BeginsListing (sym none) none_begins
    back (inr (inl is)) = listing_begins lines is
    back (inr (inr (inl is))) = (fill_line 0, is)
    back (inr (inr (inr are))) = spans_begin lines are
