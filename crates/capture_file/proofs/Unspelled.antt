-- A file that is read is the canonical encoding of what was read.
use Rattle.std.proofs.Common.{◌≡◌, ℕ, zero, suc, ◌+◌, ◌*◌, ◌%◌, ◌^◌, ◌<◌, ◌≤◌, Bool, true, false, cond, not, ◌&&◌, List, [], ◌∷◌, ◌++◌}
use Rattle.std.proofs.Common.{length, drop, Option, Some, None, Ok, Err, refl}
use Rattle.std.proofs.Common.{sym, ap, subst, ◌∙◌, ◌-◌, ◌/◌, max, arith, append_assoc, eq-eqb, length-append}
use Rattle.std.specs.Prelude.{nat_lt, nat_le, slice_index, ◌==◌, codes}
use Rattle.std.specs.List.{All, flat_map, list_all}
use Rattle.std.proofs.lemmas.Bool.{and_parts, leb-true, eqb-true, ltb-false, not-false}
use Rattle.std.proofs.lemmas.List.Elements.{All-cons, All-nil}
use Rattle.byteorder.specs.Endian.{little_number, little_bytes}
use Rattle.page_table.specs.Grants.{Chunk, chunk, AreGrants, is_page}
use Rattle.machine_model.specs.Paths.{begins_at, AreApart, BeginsAtWord, IsProgram, IsSpan, RiscProgram, Span, end_of, is_there, one_span}
use Rattle.machine_model.specs.Paths.{shares_byte, span, spans_of, stands_in, word_among, words_of}
use Rattle.machine_model.proofs.BeforeTurns.{three_parts}
use Rattle.machine_model.proofs.OneSpan.{all_words-one_span, one_span-made}
use Rattle.capture_file.specs.declared.FileKind.{FileKind}
use Rattle.capture_file.specs.declared.FileKind.TheVariants as fault
use Rattle.capture_file.specs.declared.program.Layout.{Layout}
use Rattle.capture_file.specs.declared.program.Layout.TheVariants.{Paged, Chunked}
use Rattle.capture_file.specs.declared.program.ProgramForm.{ProgramForm}
use Rattle.capture_file.specs.declared.program.ProgramForm.TheVariants.{Based, Spanned}
use Rattle.capture_file.specs.declared.program.ProgramFile.{ProgramFile}
use Rattle.capture_file.specs.Programs.{◌>>=◌, number_field, form_field, form_or_magic, base_field, word_count_field, words_in, words_field}
use Rattle.capture_file.specs.Programs.{chunk_count_field, page_field, long_chunk_field}
use Rattle.capture_file.specs.Programs.{chunk_field, chunks_field, fill_field, program_of, without_grants, base_fault, word_count_fault}
use Rattle.capture_file.specs.Programs.{chunk_count_fault, page_fault, fill_fault, judged}
use Rattle.capture_file.specs.Programs.{nothing_after, numbers_spelled, page_spelled, chunk_spelled, chunk_in, name_of, spelled, spelled_as}
use Rattle.capture_file.specs.Programs.{cut, IsFile, form_for, layout_of, with_grants}
use Rattle.capture_file.specs.Programs.{span_number_field, span_number_fault, span_address_field, span_address_fault, span_length_field}
use Rattle.capture_file.specs.Programs.{span_length_fault, span_field, spans_field, entry_field, entry_fault}
use Rattle.capture_file.specs.Programs.{based_field, spanned_field, placed_field, span_spelled, placed_spelled}
use Rattle.capture_file.proofs.Chunks.{bind_ok, judged_ok, ok_is, no_fault, IsBytes, IsBytes-drop, chunks_read, totals_small, some_fault}
use Rattle.capture_file.proofs.Chunks.{long_chunk_parts, above_zero}
use Rattle.capture_file.proofs.Spelled.{tail_of, line_of, in_line, span_line, spanned_line, with_form, with_placed, with_chunk_count}
use Rattle.capture_file.proofs.Spelled.{with_chunks, field_by_field, IsPlacedIn}
use Rattle.capture_file.proofs.FourBytes.{four_back, number_low}

-- ---- numbers

pub record Takes (bytes front : List ℕ) (rest : List ℕ) : Type 0 where
  pub parts : bytes ≡ front ++ rest
  pub fits : IsBytes rest

number_takes : (size : ℕ) (bytes : List ℕ) (x : ℕ × List ℕ) → IsBytes bytes → number_field size bytes ≡ Ok x →
    Takes bytes (little_bytes 4 x.0) x.1 × (x.0 < 2 ^ 32)
number_takes size [] x fits e = absurd (cc)
number_takes size (a ∷ []) x fits e = absurd (cc)
number_takes size (a ∷ b ∷ []) x fits e = absurd (cc)
number_takes size (a ∷ b ∷ c ∷ []) x fits e = absurd (cc)
number_takes size (a ∷ b ∷ c ∷ d ∷ rest) x fits e =
    let front : List ℕ = a ∷ b ∷ c ∷ d ∷ [] in
    let same : (little_number 4 front, rest) ≡ x = ok_is (little_number 4 front, rest) x e in
    subst (λ (p : ℕ × List ℕ). Takes (a ∷ b ∷ c ∷ d ∷ rest) (little_bytes 4 p.0) p.1 × (p.0 < 2 ^ 32)) same (
      record {
        parts = ap (λ (zs : List ℕ). zs ++ rest) (sym (four_back a b c d rest fits));
        fits = IsBytes-drop 4 (a ∷ b ∷ c ∷ d ∷ rest) fits;
      },
      number_low a b c d rest fits,
    )

-- ---- the first word

-- the first word is the name of a form
abbrev IsNamed : ProgramForm → ℕ → List ℕ → ProgramForm × List ℕ → Type 0
IsNamed form word rest x = (word ≡ little_number 4 (name_of form)) × (x ≡ (form, rest))

form_is : (size word : ℕ) (bytes rest : List ℕ) (x : ProgramForm × List ℕ) (first second third : Bool) →
    (word == little_number 4 (codes "BRP1")) ≡ first → (word == little_number 4 (codes "BRP2")) ≡ second →
    (word == little_number 4 (codes "BRP3")) ≡ third → form_or_magic size bytes
    (cond first (Some (Based Paged)) (cond second (Some (Based Chunked)) (cond third (Some Spanned) None))) rest ≡ Ok x →
    (form : ProgramForm) × IsNamed form word rest x
form_is size word bytes rest x true second third e f g h =
    (Based Paged, (eqb-true word (little_number 4 (codes "BRP1")) e, sym (ok_is (Based Paged, rest) x h)))
form_is size word bytes rest x false true third e f g h =
    (Based Chunked, (eqb-true word (little_number 4 (codes "BRP2")) f, sym (ok_is (Based Chunked, rest) x h)))
form_is size word bytes rest x false false true e f g h =
    (Spanned, (eqb-true word (little_number 4 (codes "BRP3")) g, sym (ok_is (Spanned, rest) x h)))
form_is size word bytes rest x false false false e f g h = absurd (cc)

pub form_takes : (size : ℕ) (bytes : List ℕ) (x : ProgramForm × List ℕ) → IsBytes bytes → form_field size bytes ≡ Ok x →
    Takes bytes (name_of x.0) x.1
unfolding form_field
form_takes size [] x fits e = absurd (cc)
form_takes size (a ∷ []) x fits e = absurd (cc)
form_takes size (a ∷ b ∷ []) x fits e = absurd (cc)
form_takes size (a ∷ b ∷ c ∷ []) x fits e = absurd (cc)
form_takes size (a ∷ b ∷ c ∷ d ∷ rest) x fits e =
    let word : ℕ = little_number 4 (a ∷ b ∷ c ∷ d ∷ []) in
    let is =
    form_is size word (a ∷ b ∷ c ∷ d ∷ rest) rest x (word == little_number 4 (codes "BRP1")) (word == little_number 4 (codes "BRP2"))
    (word == little_number 4 (codes "BRP3")) refl refl refl e in
    subst (λ (p : ProgramForm × List ℕ). Takes (a ∷ b ∷ c ∷ d ∷ rest) (name_of p.0) p.1) (sym is.1.1)
    (record { parts = named is.0 is.1.0; fits = IsBytes-drop 4 (a ∷ b ∷ c ∷ d ∷ rest) fits })
  where
    four_are : (a b c d p q r s : ℕ) (rest : List ℕ) → IsBytes (a ∷ b ∷ c ∷ d ∷ rest) → p < 256 → q < 256 → r < 256 → s < 256 →
        little_number 4 (a ∷ b ∷ c ∷ d ∷ []) ≡ little_number 4 (p ∷ q ∷ r ∷ s ∷ []) → (a ∷ b ∷ c ∷ d ∷ rest) ≡ (p ∷ q ∷ r ∷ s ∷ rest)
    four_are a b c d p q r s rest fits hp hq hr hs e =
        let fa : a < 256 = fits 0 in
        let fb : b < 256 = fits 1 in
        let fc : c < 256 = fits 2 in
        let fd : d < 256 = fits 3 in
        let ea : a ≡ p = omega arith in
        let eb : b ≡ q = omega arith in
        let ec : c ≡ r = omega arith in
        let ed : d ≡ s = omega arith in
        cc

    named : (form : ProgramForm) → little_number 4 (a ∷ b ∷ c ∷ d ∷ []) ≡ little_number 4 (name_of form) →
        (a ∷ b ∷ c ∷ d ∷ rest) ≡ (name_of form ++ rest)
    named (Based Paged) e = four_are a b c d 66 82 80 49 rest fits (omega arith) (omega arith) (omega arith) (omega arith) e
    named (Based Chunked) e = four_are a b c d 66 82 80 50 rest fits (omega arith) (omega arith) (omega arith) (omega arith) e
    named Spanned e = four_are a b c d 66 82 80 51 rest fits (omega arith) (omega arith) (omega arith) (omega arith) e

not-true : (b : Bool) → not b ≡ true → b ≡ false
not-true true e = absurd (cc)
not-true false e = refl

-- ---- base and counts

-- a number that was checked
pub judged_number : (fault : ℕ → Option FileKind) (size : ℕ) (bytes : List ℕ) (x : ℕ × List ℕ) →
    (number_field size bytes >>= λ y. judged (fault y.0) size bytes >>= λ _. Ok y) ≡ Ok x →
    (number_field size bytes ≡ Ok x) × (fault x.0 ≡ None)
judged_number fault size bytes x e =
    let a = bind_ok (number_field size bytes) (λ y. judged (fault y.0) size bytes >>= λ _. Ok y) x e in
    let b = bind_ok (judged (fault a.0.0) size bytes) (λ _. Ok a.0) x a.2 in
    let same : a.0 ≡ x = ok_is a.0 x b.2 in
    subst (λ (p : ℕ × List ℕ). (number_field size bytes ≡ Ok p) × (fault p.0 ≡ None)) same (a.1, judged_ok (fault a.0.0) size bytes b.0 b.1)

pub base_takes : (size : ℕ) (bytes : List ℕ) (x : ℕ × List ℕ) → IsBytes bytes → base_field size bytes ≡ Ok x →
    Takes bytes (little_bytes 4 x.0) x.1 × (x.0 < 2 ^ 32) × (x.0 % 4 ≡ 0)
unfolding base_field
base_takes size bytes x fits e =
    let a = judged_number base_fault size bytes x e in
    let n = number_takes size bytes x fits a.0 in
    (n.0, n.1, eqb-true (x.0 % 4) 0 (some_fault (x.0 % 4 == 0) fault.Base a.1))

pub word_count_takes : (size base : ℕ) (bytes : List ℕ) (x : ℕ × List ℕ) → IsBytes bytes → word_count_field size base bytes ≡ Ok x →
    Takes bytes (little_bytes 4 x.0) x.1 × (x.0 ≤ 1048576) × (base + 4 * x.0 ≤ 2 ^ 32)
unfolding word_count_field
word_count_takes size base bytes x fits e =
    let a = judged_number (word_count_fault base) size bytes x e in
    let n = number_takes size bytes x fits a.0 in
    let right =
    and_parts (nat_le x.0 1048576) (nat_le (base + 4 * x.0) (2 ^ 32))
    (some_fault (nat_le x.0 1048576 && nat_le (base + 4 * x.0) (2 ^ 32)) fault.Count a.1) in
    (n.0, leb-true x.0 1048576 right.0, leb-true (base + 4 * x.0) (2 ^ 32) right.1)

chunk_count_takes : (size : ℕ) (bytes : List ℕ) (x : ℕ × List ℕ) → IsBytes bytes → chunk_count_field size bytes ≡ Ok x →
    Takes bytes (little_bytes 4 x.0) x.1 × (x.0 ≤ 4096)
unfolding chunk_count_field
chunk_count_takes size bytes x fits e =
    let a = judged_number chunk_count_fault size bytes x e in
    let n = number_takes size bytes x fits a.0 in
    (n.0, leb-true x.0 4096 (some_fault (nat_le x.0 4096) fault.Count a.1))

-- ---- words

pub record AreWords (count : ℕ) (bytes : List ℕ) : Type 0 where
  pub parts : bytes ≡ numbers_spelled (words_in count bytes) ++ drop (4 * count) bytes
  pub len : length (words_in count bytes) ≡ count
  pub fit : All (λ word. word < 2 ^ 32) (words_in count bytes)

pub words_are : (count : ℕ) (bytes : List ℕ) → IsBytes bytes → 4 * count ≤ length bytes → AreWords count bytes
words_are zero bytes fits long = record { parts = refl; len = refl; fit = λ k d h. absurd (omega arith) }
words_are (suc count) [] fits long = absurd (omega arith)
words_are (suc count) (a ∷ []) fits long = absurd (omega arith)
words_are (suc count) (a ∷ b ∷ []) fits long = absurd (omega arith)
words_are (suc count) (a ∷ b ∷ c ∷ []) fits long = absurd (omega arith)
words_are (suc count) (a ∷ b ∷ c ∷ d ∷ rest) fits long =
    let n = number_takes 0 (a ∷ b ∷ c ∷ d ∷ rest) (little_number 4 (a ∷ b ∷ c ∷ d ∷ []), rest) fits refl in
    let others = words_are count rest n.0.fits (omega arith) in
    let four : 4 * suc count ≡ suc (suc (suc (suc (4 * count)))) = omega arith in
    record {
      parts =
          n.0.parts
          ∙ ap (λ (zs : List ℕ). little_bytes 4 (little_number 4 (a ∷ b ∷ c ∷ d ∷ [])) ++ zs) others.parts
          ∙ sym (append_assoc (little_bytes 4 (little_number 4 (a ∷ b ∷ c ∷ d ∷ []))) (numbers_spelled (words_in count rest))
          (drop (4 * count) rest))
          ∙ ap (λ (m : ℕ). numbers_spelled (words_in (suc count) (a ∷ b ∷ c ∷ d ∷ rest)) ++ drop m (a ∷ b ∷ c ∷ d ∷ rest)) (sym four);
      len = ap suc others.len;
      fit = All-cons (λ (word : ℕ). word < 2 ^ 32) (little_number 4 (a ∷ b ∷ c ∷ d ∷ [])) (words_in count rest) n.1 others.fit;
    }

words_right : (size count : ℕ) (bytes : List ℕ) (x : List ℕ × List ℕ) (b : Bool) → nat_le (4 * count) (length bytes) ≡ b →
    cond b (Ok (words_in count bytes, drop (4 * count) bytes)) (Err (cut size)) ≡ Ok x →
    (4 * count ≤ length bytes) × ((words_in count bytes, drop (4 * count) bytes) ≡ x)
words_right size count bytes x true is e =
    (leb-true (4 * count) (length bytes) is, ok_is (words_in count bytes, drop (4 * count) bytes) x e)
words_right size count bytes x false is e = absurd (cc)

words_takes : (size count : ℕ) (bytes : List ℕ) (x : List ℕ × List ℕ) → IsBytes bytes → words_field size count bytes ≡ Ok x →
    Takes bytes (numbers_spelled x.0) x.1 × (length x.0 ≡ count) × All (λ word. word < 2 ^ 32) x.0
unfolding words_field
words_takes size count bytes x fits e =
    let right = words_right size count bytes x (nat_le (4 * count) (length bytes)) refl e in
    let are = words_are count bytes fits right.0 in
    subst (λ (p : List ℕ × List ℕ). Takes bytes (numbers_spelled p.0) p.1 × (length p.0 ≡ count) × All (λ word. word < 2 ^ 32) p.0) right.1
    (record { parts = are.parts; fits = IsBytes-drop (4 * count) bytes fits }, are.len, are.fit)

-- ---- spans

pub span_number_right : (count : ℕ) → span_number_fault count ≡ None → (0 < count) × (count ≤ 4096)
span_number_right count e =
    let right = and_parts (not (count == 0)) (nat_le count 4096) (some_fault (not (count == 0) && nat_le count 4096) fault.Count e) in
    (above_zero count right.0, leb-true count 4096 right.1)

span_number_takes : (size : ℕ) (bytes : List ℕ) (x : ℕ × List ℕ) → IsBytes bytes → span_number_field size bytes ≡ Ok x →
    Takes bytes (little_bytes 4 x.0) x.1 × (0 < x.0) × (x.0 ≤ 4096)
unfolding span_number_field
span_number_takes size bytes x fits e =
    let a = judged_number span_number_fault size bytes x e in
    let n = number_takes size bytes x fits a.0 in
    let right = span_number_right x.0 a.1 in
    (n.0, right.0, right.1)

span_address_takes : (size from : ℕ) (bytes : List ℕ) (x : ℕ × List ℕ) → IsBytes bytes → span_address_field size from bytes ≡ Ok x →
    Takes bytes (little_bytes 4 x.0) x.1 × (x.0 % 4 ≡ 0) × (from ≤ x.0)
unfolding span_address_field
span_address_takes size from bytes x fits e =
    let a = judged_number (span_address_fault from) size bytes x e in
    let n = number_takes size bytes x fits a.0 in
    let first = no_fault (not (x.0 % 4 == 0)) fault.Base (cond (nat_lt x.0 from) (Some fault.Order) None) a.1 in
    let second = no_fault (nat_lt x.0 from) fault.Order None first.1 in
    (n.0, eqb-true (x.0 % 4) 0 (not-false (x.0 % 4 == 0) first.0), ltb-false x.0 from second.0)

span_length_takes : (size at sum : ℕ) (bytes : List ℕ) (x : ℕ × List ℕ) → IsBytes bytes → span_length_field size at sum bytes ≡ Ok x →
    Takes bytes (little_bytes 4 x.0) x.1 × (0 < x.0) × (sum + x.0 ≤ 1048576) × (at + 4 * x.0 ≤ 2 ^ 32)
unfolding span_length_field
span_length_takes size at sum bytes x fits e =
    let a = judged_number (span_length_fault at sum) size bytes x e in
    let n = number_takes size bytes x fits a.0 in
    let right = some_fault (not (x.0 == 0) && nat_le (sum + x.0) 1048576 && nat_le (at + 4 * x.0) (2 ^ 32)) fault.Count a.1 in
    let last = and_parts (not (x.0 == 0) && nat_le (sum + x.0) 1048576) (nat_le (at + 4 * x.0) (2 ^ 32)) right in
    let first = and_parts (not (x.0 == 0)) (nat_le (sum + x.0) 1048576) last.0 in
    (n.0, above_zero x.0 first.0, leb-true (sum + x.0) 1048576 first.1, leb-true (at + 4 * x.0) (2 ^ 32) last.1)

-- a span that was read
record SpanRead (from sum : ℕ) (bytes : List ℕ) (x : Span × List ℕ) : Type 0 where
  takes : Takes bytes (span_spelled x.0) x.1
  above : from ≤ x.0.at
  is : IsSpan x.0
  few : sum + length x.0.words ≤ 1048576

span_read : (size from sum : ℕ) (bytes : List ℕ) (x : Span × List ℕ) → IsBytes bytes → span_field size from sum bytes ≡ Ok x →
    SpanRead from sum bytes x
unfolding span_field
span_read size from sum bytes x fits e =
    let a = bind_ok (span_address_field size from bytes) (λ at. span_length_field size at.0 sum at.1 >>= λ count.
    words_field size count.0 count.1 >>= λ words. Ok (span at.0 words.0, words.1)) x e in
    let b =
    bind_ok (span_length_field size a.0.0 sum a.0.1)
    (λ count. words_field size count.0 count.1 >>= λ words. Ok (span a.0.0 words.0, words.1)) x a.2 in
    let c = bind_ok (words_field size b.0.0 b.0.1) (λ words. Ok (span a.0.0 words.0, words.1)) x b.2 in
    let at = span_address_takes size from bytes a.0 fits a.1 in
    let count = span_length_takes size a.0.0 sum a.0.1 b.0 at.0.fits b.1 in
    let words = words_takes size b.0.0 b.0.1 c.0 count.0.fits c.1 in
    subst (λ (y : Span × List ℕ). SpanRead from sum bytes y) (ok_is (span a.0.0 c.0.0, c.0.1) x c.2) (joined a.0 b.0 c.0 at count words)
  where
    joined : (at count : ℕ × List ℕ) (words : List ℕ × List ℕ) → Takes bytes (little_bytes 4 at.0) at.1 × (at.0 % 4 ≡ 0) × (from ≤ at.0) →
        Takes at.1 (little_bytes 4 count.0) count.1 × (0 < count.0) × (sum + count.0 ≤ 1048576) × (at.0 + 4 * count.0 ≤ 2 ^ 32) →
        Takes count.1 (numbers_spelled words.0) words.1 × (length words.0 ≡ count.0) × All (λ word. word < 2 ^ 32) words.0 →
        SpanRead from sum bytes (span at.0 words.0, words.1)
    joined at count words first second third = record {
      takes = record {
        parts =
            first.0.parts
            ∙ ap (λ (zs : List ℕ). little_bytes 4 at.0 ++ zs)
            (second.0.parts ∙ ap (λ (zs : List ℕ). little_bytes 4 count.0 ++ zs) third.0.parts
            ∙ ap (λ (n : ℕ). little_bytes 4 n ++ (numbers_spelled words.0 ++ words.1)) (sym third.1))
            ∙ sym (span_line (span at.0 words.0) words.1);
        fits = third.0.fits;
      };
      above = first.2;
      is = record {
        aligned = first.1;
        some = rw third.1 second.1;
        ends = rw third.1 second.3;
        fit = third.2;
      };
      few = rw third.1 second.2;
    }

-- spans that were read
record SpansRead (from sum count : ℕ) (bytes : List ℕ) (x : List Span × List ℕ) : Type 0 where
  takes : Takes bytes (flat_map span_spelled x.0) x.1
  apart : AreApart from x.0
  len : length x.0 ≡ count
  few : sum + length (words_of x.0) ≤ max sum 1048576

spans_read : (size count from sum : ℕ) (bytes : List ℕ) (x : List Span × List ℕ) → IsBytes bytes →
    spans_field size count from sum bytes ≡ Ok x → SpansRead from sum count bytes x
unfolding spans_field
spans_read size zero from sum bytes x fits e =
    subst (λ (y : List Span × List ℕ). SpansRead from sum 0 bytes y) (ok_is ([], bytes) x e)
    (record { takes = record { parts = refl; fits = fits }; apart = tt; len = refl; few = omega arith })
spans_read size (suc count) from sum bytes x fits e =
    let a =
    bind_ok (span_field size from sum bytes)
    (λ s. spans_field size count (end_of s.0 + 1) (sum + length s.0.words) s.1 >>= λ others. Ok (s.0 ∷ others.0, others.1)) x e in
    let b =
    bind_ok (spans_field size count (end_of a.0.0 + 1) (sum + length a.0.0.words) a.0.1)
    (λ others. Ok (a.0.0 ∷ others.0, others.1)) x a.2 in
    let first = span_read size from sum bytes a.0 fits a.1 in
    let rest = spans_read size count (end_of a.0.0 + 1) (sum + length a.0.0.words) a.0.1 b.0 first.takes.fits b.1 in
    let words = length-append a.0.0.words (words_of b.0.0) in
    let few = first.few in
    let fewer = rest.few in
    subst (λ (y : List Span × List ℕ). SpansRead from sum (suc count) bytes y) (ok_is (a.0.0 ∷ b.0.0, b.0.1) x b.2)
    (record {
      takes = record {
        parts =
            first.takes.parts ∙ ap (λ (zs : List ℕ). span_spelled a.0.0 ++ zs) rest.takes.parts
            ∙ sym (append_assoc (span_spelled a.0.0) (flat_map span_spelled b.0.0) b.0.1);
        fits = rest.takes.fits;
      };
      apart = (first.above, first.is, rest.apart);
      len = ap suc rest.len;
      few = omega (arith, words, few, fewer);
    })

entry_takes : (size : ℕ) (spans : List Span) (bytes : List ℕ) (x : ℕ × List ℕ) → IsBytes bytes → entry_field size spans bytes ≡ Ok x →
    Takes bytes (little_bytes 4 x.0) x.1 × (x.0 < 2 ^ 32) × (is_there (word_among spans x.0) ≡ true) × (begins_at x.0 spans ≡ false)
unfolding entry_field
entry_takes size spans bytes x fits e =
    let a = judged_number (entry_fault spans) size bytes x e in
    let n = number_takes size bytes x fits a.0 in
    let right =
    and_parts (is_there (word_among spans x.0)) (not (begins_at x.0 spans))
    (some_fault (is_there (word_among spans x.0) && not (begins_at x.0 spans)) fault.Entry a.1) in
    (n.0, n.1, right.0, not-true (begins_at x.0 spans) right.1)

-- ---- the words where they are

-- words that were read where they are: of a program that can be made, but for its grants
record PlacedRead (form : ProgramForm) (bytes : List ℕ) (program : RiscProgram) (rest : List ℕ) : Type 0 where
  takes : Takes bytes (placed_spelled form program) rest
  bare : program.grants ≡ []
  is : IsPlacedIn form program
  made : IsProgram program

no_grants : AreGrants []
no_grants = record { few = omega arith; small = omega arith; rising = tt }

none_shares : (program : RiscProgram) → All (λ c. shares_byte program c ≡ false) []
none_shares program = All-nil (λ (c : Chunk). shares_byte program c ≡ false)

one_alone : (base : ℕ) (words : List ℕ) → begins_at base (spans_of base words) ≡ true
one_alone base [] = refl
one_alone base (word ∷ words) = eq-eqb base base refl

based_read : (layout : Layout) (size : ℕ) (bytes : List ℕ) (x : RiscProgram × List ℕ) → IsBytes bytes → based_field size bytes ≡ Ok x →
    PlacedRead (Based layout) bytes x.0 x.1
unfolding based_field
based_read layout size bytes x fits e =
    let a = bind_ok (base_field size bytes) (λ base. word_count_field size base.0 base.1 >>= λ count.
    words_field size count.0 count.1 >>= λ words. Ok (one_span base.0 words.0 [], words.1)) x e in
    let b =
    bind_ok (word_count_field size a.0.0 a.0.1)
    (λ count. words_field size count.0 count.1 >>= λ words. Ok (one_span a.0.0 words.0 [], words.1)) x a.2 in
    let c = bind_ok (words_field size b.0.0 b.0.1) (λ words. Ok (one_span a.0.0 words.0 [], words.1)) x b.2 in
    let base = base_takes size bytes a.0 fits a.1 in
    let count = word_count_takes size a.0.0 a.0.1 b.0 base.0.fits b.1 in
    let words = words_takes size b.0.0 b.0.1 c.0 count.0.fits c.1 in
    subst (λ (y : RiscProgram × List ℕ). PlacedRead (Based layout) bytes y.0 y.1) (ok_is (one_span a.0.0 c.0.0 [], c.0.1) x c.2)
    (joined a.0 b.0 c.0 base count words)
  where
    joined : (base count : ℕ × List ℕ) (words : List ℕ × List ℕ) →
        Takes bytes (little_bytes 4 base.0) base.1 × (base.0 < 2 ^ 32) × (base.0 % 4 ≡ 0) →
        Takes base.1 (little_bytes 4 count.0) count.1 × (count.0 ≤ 1048576) × (base.0 + 4 * count.0 ≤ 2 ^ 32) →
        Takes count.1 (numbers_spelled words.0) words.1 × (length words.0 ≡ count.0) × All (λ word. word < 2 ^ 32) words.0 →
        PlacedRead (Based layout) bytes (one_span base.0 words.0 []) words.1
    joined base count words first second third = record {
      takes = record {
        parts =
            first.0.parts
            ∙ ap (λ (zs : List ℕ). little_bytes 4 base.0 ++ zs)
            (second.0.parts ∙ ap (λ (zs : List ℕ). little_bytes 4 count.0 ++ zs) third.0.parts
            ∙ ap (λ (n : ℕ). little_bytes 4 n ++ (numbers_spelled words.0 ++ words.1)) (sym third.1))
            ∙ sym (span_line (span base.0 words.0) words.1)
            ∙ ap (λ (ws : List ℕ). span_spelled (span base.0 ws) ++ words.1) (sym (all_words-one_span base.0 words.0 []));
        fits = third.0.fits;
      };
      bare = refl;
      is = one_alone base.0 words.0;
      made =
          one_span-made base.0 words.0 [] first.2 first.1 (rw third.1 second.1) (rw third.1 second.2) third.2 no_grants
          (none_shares (one_span base.0 words.0 []));
    }

even_in : (s : Span) (rest : List Span) (entry : ℕ) (b : Bool) → IsSpan s → (is_there (word_among rest entry) ≡ true → entry % 4 ≡ 0) →
    stands_in s entry ≡ b →
    is_there (cond b (Some (slice_index s.words ((entry - s.at) / 4))) (word_among rest entry)) ≡ true → entry % 4 ≡ 0
even_in s rest entry true is later stands there =
    let parts = three_parts (nat_le s.at entry) ((entry - s.at) % 4 == 0) (nat_lt ((entry - s.at) / 4) (length s.words)) stands in
    let above : s.at ≤ entry = leb-true s.at entry parts.0 in
    let even : (entry - s.at) % 4 ≡ 0 = eqb-true ((entry - s.at) % 4) 0 parts.1 in
    let aligned = is.aligned in
    omega (arith, above, even, aligned)
even_in s rest entry false is later stands there = later there

even_word : (spans : List Span) (from entry : ℕ) → AreApart from spans → is_there (word_among spans entry) ≡ true → entry % 4 ≡ 0
even_word [] from entry apart there = absurd (cc)
even_word (s ∷ rest) from entry apart there =
    even_in s rest entry (stands_in s entry) apart.1 (even_word rest (end_of s + 1) entry apart.2) refl there

begins_there : (spans : List Span) (entry : ℕ) → is_there (word_among spans entry) ≡ true → BeginsAtWord entry spans
begins_there [] entry there = tt
begins_there (s ∷ rest) entry there = there

spanned_read : (size : ℕ) (bytes : List ℕ) (x : RiscProgram × List ℕ) → IsBytes bytes → spanned_field size bytes ≡ Ok x →
    PlacedRead Spanned bytes x.0 x.1
unfolding spanned_field
spanned_read size bytes x fits e =
    let a = bind_ok (span_number_field size bytes) (λ count. spans_field size count.0 0 0 count.1 >>= λ spans.
    entry_field size spans.0 spans.1 >>= λ entry. Ok (without_grants entry.0 spans.0, entry.1)) x e in
    let b =
    bind_ok (spans_field size a.0.0 0 0 a.0.1)
    (λ spans. entry_field size spans.0 spans.1 >>= λ entry. Ok (without_grants entry.0 spans.0, entry.1)) x a.2 in
    let c = bind_ok (entry_field size b.0.0 b.0.1) (λ entry. Ok (without_grants entry.0 b.0.0, entry.1)) x b.2 in
    let count = span_number_takes size bytes a.0 fits a.1 in
    let spans = spans_read size a.0.0 0 0 a.0.1 b.0 count.0.fits b.1 in
    let entry = entry_takes size b.0.0 b.0.1 c.0 spans.takes.fits c.1 in
    subst (λ (y : RiscProgram × List ℕ). PlacedRead Spanned bytes y.0 y.1) (ok_is (without_grants c.0.0 b.0.0, c.0.1) x c.2)
    (joined a.0 b.0 c.0 count spans entry)
  where
    joined : (count : ℕ × List ℕ) (spans : List Span × List ℕ) (entry : ℕ × List ℕ) →
        Takes bytes (little_bytes 4 count.0) count.1 × (0 < count.0) × (count.0 ≤ 4096) → SpansRead 0 0 count.0 count.1 spans →
        Takes spans.1 (little_bytes 4 entry.0) entry.1 × (entry.0 < 2 ^ 32) × (is_there (word_among spans.0 entry.0) ≡ true)
        × (begins_at entry.0 spans.0 ≡ false) →
        PlacedRead Spanned bytes (without_grants entry.0 spans.0) entry.1
    joined count spans entry first second third = record {
      takes = record {
        parts =
            first.0.parts
            ∙ ap (λ (zs : List ℕ). little_bytes 4 count.0 ++ zs)
            (second.takes.parts ∙ ap (λ (zs : List ℕ). flat_map span_spelled spans.0 ++ zs) third.0.parts)
            ∙ ap (λ (n : ℕ). little_bytes 4 n ++ (flat_map span_spelled spans.0 ++ (little_bytes 4 entry.0 ++ entry.1))) (sym second.len)
            ∙ sym (spanned_line entry.0 spans.0 entry.1);
        fits = third.0.fits;
      };
      bare = refl;
      is = third.3;
      made = record {
        aligned = even_word spans.0 0 entry.0 second.apart third.2;
        low = third.1;
        begins = begins_there spans.0 entry.0 third.2;
        spans = second.apart;
        many = rw second.len first.2;
        few = (let few = second.few in omega arith);
        grants = no_grants;
        apart = none_shares (without_grants entry.0 spans.0);
      };
    }

placed_read : (form : ProgramForm) (size : ℕ) (bytes : List ℕ) (x : RiscProgram × List ℕ) → IsBytes bytes →
    placed_field form size bytes ≡ Ok x → PlacedRead form bytes x.0 x.1
placed_read (Based layout) size bytes x fits e = based_read layout size bytes x fits e
placed_read Spanned size bytes x fits e = spanned_read size bytes x fits e

-- ---- chunks

abbrev PageIf : Layout → Chunk → Type 0
PageIf Paged c = is_page c ≡ true
PageIf Chunked c = Unit {0}

page_takes : (size : ℕ) (program : RiscProgram) (from : ℕ) (bytes : List ℕ) (x : Chunk × List ℕ) → IsBytes bytes →
    page_field size program from bytes ≡ Ok x →
    Takes bytes (page_spelled x.0) x.1 × (is_page x.0 ≡ true)
unfolding page_field
page_takes size program from bytes x fits e =
    let a =
    bind_ok (number_field size bytes) (λ at. judged (page_fault program from at.0) size bytes >>= λ _. Ok (chunk at.0 4096, at.1)) x e in
    let b = bind_ok (judged (page_fault program from a.0.0) size bytes) (λ _. Ok (chunk a.0.0 4096, a.0.1)) x a.2 in
    let n = number_takes size bytes a.0 fits a.1 in
    let right = judged_ok (page_fault program from a.0.0) size bytes b.0 b.1 in
    let paged =
    no_fault (not (a.0.0 % 4096 == 0)) fault.Page
    (cond (nat_lt a.0.0 from) (Some fault.Order) (cond (shares_byte program (chunk a.0.0 4096)) (Some fault.Overlap) None)) right in
    let same : (chunk a.0.0 4096, a.0.1) ≡ x = ok_is (chunk a.0.0 4096, a.0.1) x b.2 in
    let page : is_page (chunk a.0.0 4096) ≡ true = ap (λ (t : Bool). t && true) (not-false (a.0.0 % 4096 == 0) paged.0) in
    subst (λ (y : Chunk × List ℕ). Takes bytes (page_spelled y.0) y.1 × (is_page y.0 ≡ true)) same (n.0, page)

long_chunk_takes : (size : ℕ) (program : RiscProgram) (from sum : ℕ) (bytes : List ℕ) (x : Chunk × List ℕ) → IsBytes bytes →
    long_chunk_field size program from sum bytes ≡ Ok x →
    Takes bytes (chunk_spelled x.0) x.1
long_chunk_takes size program from sum bytes x fits e =
    let c = long_chunk_parts size program from sum bytes x e in
    let first = number_takes size bytes c.at fits c.at_read in
    let second = number_takes size c.at.1 c.len first.0.fits c.len_read in
    subst (λ (y : Chunk × List ℕ). Takes bytes (chunk_spelled y.0) y.1) c.is
    (record {
      parts =
          first.0.parts ∙ ap (λ (zs : List ℕ). little_bytes 4 c.at.0 ++ zs) second.0.parts
          ∙ sym (append_assoc (little_bytes 4 c.at.0) (little_bytes 4 c.len.0) c.len.1);
      fits = second.0.fits;
    })

one_takes : (layout : Layout) (size : ℕ) (program : RiscProgram) (from sum : ℕ) (bytes : List ℕ) (x : Chunk × List ℕ) → IsBytes bytes →
    chunk_field layout size program from sum bytes ≡ Ok x →
    Takes bytes (chunk_in layout x.0) x.1 × PageIf layout x.0
one_takes Paged size program from sum bytes x fits e = page_takes size program from bytes x fits e
one_takes Chunked size program from sum bytes x fits e = (long_chunk_takes size program from sum bytes x fits e, tt)

abbrev PagesIf : Layout → List Chunk → Type 0
PagesIf Paged chunks = list_all is_page chunks ≡ true
PagesIf Chunked chunks = Unit {0}

no_pages : (layout : Layout) → PagesIf layout []
no_pages Paged = refl
no_pages Chunked = tt

more_pages : (layout : Layout) (c : Chunk) (chunks : List Chunk) → PageIf layout c → PagesIf layout chunks → PagesIf layout (c ∷ chunks)
more_pages Paged c chunks h all = rw (h, all) refl
more_pages Chunked c chunks h all = tt

chunks_takes : (layout : Layout) (size : ℕ) (program : RiscProgram) (count from sum : ℕ) (bytes : List ℕ) (x : List Chunk × List ℕ) →
    IsBytes bytes → chunks_field layout size program count from sum bytes ≡ Ok x →
    Takes bytes (flat_map (chunk_in layout) x.0) x.1 × PagesIf layout x.0
unfolding chunks_field
chunks_takes layout size program zero from sum bytes x fits e =
    let same : ([], bytes) ≡ x = ok_is ([], bytes) x e in
    subst (λ (y : List Chunk × List ℕ). Takes bytes (flat_map (chunk_in layout) y.0) y.1 × PagesIf layout y.0) same
    (record { parts = refl; fits = fits }, no_pages layout)
chunks_takes layout size program (suc count) from sum bytes x fits e =
    let a = bind_ok (chunk_field layout size program from sum bytes)
    (λ c. chunks_field layout size program count (c.0.at + c.0.len) (sum + c.0.len) c.1 >>= λ others. Ok (c.0 ∷ others.0, others.1)) x e in
    let b =
    bind_ok (chunks_field layout size program count (a.0.0.at + a.0.0.len) (sum + a.0.0.len) a.0.1)
    (λ others. Ok (a.0.0 ∷ others.0, others.1)) x a.2 in
    let first = one_takes layout size program from sum bytes a.0 fits a.1 in
    let rest = chunks_takes layout size program count (a.0.0.at + a.0.0.len) (sum + a.0.0.len) a.0.1 b.0 first.0.fits b.1 in
    let same : (a.0.0 ∷ b.0.0, b.0.1) ≡ x = ok_is (a.0.0 ∷ b.0.0, b.0.1) x b.2 in
    subst (λ (y : List Chunk × List ℕ). Takes bytes (flat_map (chunk_in layout) y.0) y.1 × PagesIf layout y.0) same (
      record {
        parts =
            first.0.parts ∙ ap (λ (zs : List ℕ). chunk_in layout a.0.0 ++ zs) rest.0.parts
            ∙ sym (append_assoc (chunk_in layout a.0.0) (flat_map (chunk_in layout) b.0.0) b.0.1);
        fits = rest.0.fits;
      },
      more_pages layout a.0.0 b.0.0 first.1 rest.1,
    )

-- ---- the fill

ended : (size fill : ℕ) (rest : List ℕ) (x : ℕ) → nothing_after size fill rest ≡ Ok x → (rest ≡ []) × (fill ≡ x)
ended size fill [] x e = (refl, ok_is fill x e)
ended size fill (byte ∷ rest) x e = absurd (cc)

fill_takes : (form : ProgramForm) (size : ℕ) (chunks : List Chunk) (bytes : List ℕ) (x : ℕ) → IsBytes bytes →
    fill_field form size chunks bytes ≡ Ok x →
    (bytes ≡ x ∷ []) × (x < 256) × (fill_fault form chunks ≡ None)
unfolding fill_field
fill_takes form size chunks [] x fits e = absurd (cc)
fill_takes form size chunks (fill ∷ rest) x fits e =
    let a = bind_ok (judged (fill_fault form chunks) size (fill ∷ rest)) (λ _. nothing_after size fill rest) x e in
    let b = ended size fill rest x a.2 in
    let low : fill < 256 = fits 0 in (
      ap (λ (zs : List ℕ). fill ∷ zs) b.0 ∙ ap (λ (y : ℕ). y ∷ []) b.1,
      subst (λ (y : ℕ). y < 256) b.1 low,
      judged_ok (fill_fault form chunks) size (fill ∷ rest) a.0 a.1,
    )

-- ---- the whole file

pages_fault : (b : Bool) → cond b (Some fault.Pages) None ≡ None → b ≡ false
pages_fault true e = absurd (cc)
pages_fault false e = refl

form_right : (form : ProgramForm) (program : RiscProgram) → IsPlacedIn form program → PagesIf (layout_of form) program.grants →
    fill_fault form program.grants ≡ None → form ≡ form_for program
form_right (Based Paged) program is pages e = rw (is, pages) refl
form_right (Based Chunked) program is pages e = rw (is, pages_fault (list_all is_page program.grants) e) refl
form_right Spanned program is pages e = rw is refl

-- the grants don't change how the words are spelled
still_placed : (form : ProgramForm) (placed : RiscProgram) (grants : List Chunk) → IsPlacedIn form placed →
    IsPlacedIn form (with_grants placed grants)
still_placed (Based layout) placed grants is = is
still_placed Spanned placed grants is = is

still_spelled : (form : ProgramForm) (placed : RiscProgram) (grants : List Chunk) →
    placed_spelled form placed ≡ placed_spelled form (with_grants placed grants)
still_spelled (Based layout) placed grants = refl
still_spelled Spanned placed grants = refl

-- what is behind the number of the chunks
record ReadRest (form : ProgramForm) (placed : RiscProgram) (count : ℕ) (bytes : List ℕ) (file : ProgramFile) : Type 0 where
  parts : bytes ≡ flat_map (chunk_in (layout_of form)) file.program.grants ++ file.fill ∷ []
  is : file.program ≡ with_grants placed file.program.grants
  own : form ≡ form_for file.program
  len : length file.program.grants ≡ count
  grants : AreGrants file.program.grants
  apart : All (λ c. shares_byte placed c ≡ false) file.program.grants
  fill : file.fill < 256

rest_read : (size : ℕ) (form : ProgramForm) (placed : RiscProgram) (x : ℕ × List ℕ) (file : ProgramFile) → IsPlacedIn form placed →
    IsBytes x.1 → x.0 ≤ 4096 → with_chunk_count size form placed x ≡ Ok file →
    ReadRest form placed x.0 x.1 file
rest_read size form placed x file is fits few e =
    let a = bind_ok (chunks_field (layout_of form) size placed x.0 0 0 x.1) (λ y. with_chunks size form placed y) file e in
    chunks_then a.0 a.1 a.2
  where
    last : (y : List Chunk × List ℕ) (fill : ℕ) (same : record { program = with_grants placed y.0; fill = fill } ≡ file) →
        Takes x.1 (flat_map (chunk_in (layout_of form)) y.0) y.1 → PagesIf (layout_of form) y.0 →
        chunks_field (layout_of form) size placed x.0 0 0 x.1 ≡ Ok y → (y.1 ≡ fill ∷ []) × (fill < 256) × (fill_fault form y.0 ≡ None) →
        ReadRest form placed x.0 x.1 file
    last y fill same takes pages chunks f =
        let read = chunks_read (layout_of form) size placed x.0 0 0 x.1 y fits chunks in
        subst (λ (z : ProgramFile). ReadRest form placed x.0 x.1 z) same
        (record {
          parts = takes.parts ∙ ap (λ (zs : List ℕ). flat_map (chunk_in (layout_of form)) y.0 ++ zs) f.0;
          is = refl;
          own = form_right form (with_grants placed y.0) (still_placed form placed y.0 is) pages f.2;
          len = read.len;
          grants = record {
            few = let n = read.len in omega arith;
            small = totals_small (layout_of form) x.0 y.0 few read.totals;
            rising = read.rising;
          };
          apart = read.apart;
          fill = f.1;
        })

    chunks_then : (y : List Chunk × List ℕ) → chunks_field (layout_of form) size placed x.0 0 0 x.1 ≡ Ok y →
        with_chunks size form placed y ≡ Ok file → ReadRest form placed x.0 x.1 file
    chunks_then y chunks rest =
        let takes = chunks_takes (layout_of form) size placed x.0 0 0 x.1 y fits chunks in
        let b = bind_ok (fill_field form size y.0 y.1) (λ fill. Ok (record { program = with_grants placed y.0; fill = fill })) file rest in
        last y b.0 (ok_is (record { program = with_grants placed y.0; fill = b.0 }) file b.2) takes.0 takes.1 chunks
        (fill_takes form size y.0 y.1 b.0 takes.0.fits b.1)

-- a program that can be made can be made with these grants
granted : (placed : RiscProgram) (grants : List Chunk) → IsProgram placed → AreGrants grants →
    All (λ c. shares_byte placed c ≡ false) grants → IsProgram (with_grants placed grants)
granted placed grants made are apart = record {
  aligned = made.aligned;
  low = made.low;
  begins = made.begins;
  spans = made.spans;
  many = made.many;
  few = made.few;
  grants = are;
  apart = apart;
}

pub file_read : (bytes : List ℕ) (file : ProgramFile) → IsBytes bytes → program_of bytes ≡ Ok file → IsFile bytes file
unfolding spelled
file_read bytes file fits e =
    let size : ℕ = length bytes in
    let a = bind_ok (form_field size bytes) (λ x. with_form size x) file (sym (field_by_field size bytes) ∙ e) in
    let form = form_takes size bytes a.0 fits a.1 in
    after_form size a.0 form a.2
  where
    finish : (x : ProgramForm × List ℕ) (y : RiscProgram × List ℕ) (z : ℕ × List ℕ) → Takes bytes (name_of x.0) x.1 →
        PlacedRead x.0 x.1 y.0 y.1 → Takes y.1 (little_bytes 4 z.0) z.1 →
        ReadRest x.0 y.0 z.0 z.1 file → IsFile bytes file
    finish x y z first second third rest =
        let chunks : List Chunk = file.program.grants in
        let bytes_are : bytes ≡ line_of x.0 (with_grants y.0 chunks) file.fill =
        first.parts
        ∙ ap (λ (zs : List ℕ). name_of x.0 ++ zs)
        (second.takes.parts
        ∙ ap (λ (zs : List ℕ). placed_spelled x.0 y.0 ++ zs)
        (third.parts ∙ ap (λ (zs : List ℕ). little_bytes 4 z.0 ++ zs) rest.parts
        ∙ ap (λ (n : ℕ). little_bytes 4 n ++ (flat_map (chunk_in (layout_of x.0)) chunks ++ file.fill ∷ [])) (sym rest.len))
        ∙ ap (λ (zs : List ℕ). zs ++ tail_of (layout_of x.0) chunks file.fill) (still_spelled x.0 y.0 chunks)) in
        record {
          parts =
              bytes_are ∙ ap (λ (program : RiscProgram). line_of x.0 program file.fill) (sym rest.is)
              ∙ sym (in_line x.0 file.program file.fill) ∙ ap (λ (form : ProgramForm). spelled_as form file.program file.fill) rest.own;
          made = subst IsProgram (sym rest.is) (granted y.0 chunks second.made rest.grants rest.apart);
          fill = rest.fill;
        }

    after_placed : (size : ℕ) (x : ProgramForm × List ℕ) (y : RiscProgram × List ℕ) → Takes bytes (name_of x.0) x.1 →
        PlacedRead x.0 x.1 y.0 y.1 → with_placed size x.0 y ≡ Ok file → IsFile bytes file
    after_placed size x y first second rest =
        let b = bind_ok (chunk_count_field size y.1) (λ z. with_chunk_count size x.0 y.0 z) file rest in
        let third = chunk_count_takes size y.1 b.0 second.takes.fits b.1 in
        finish x y b.0 first second third.0 (rest_read size x.0 y.0 b.0 file second.is third.0.fits third.1 b.2)

    after_form : (size : ℕ) (x : ProgramForm × List ℕ) → Takes bytes (name_of x.0) x.1 → with_form size x ≡ Ok file → IsFile bytes file
    after_form size x first rest =
        let b = bind_ok (placed_field x.0 size x.1) (λ y. with_placed size x.0 y) file rest in
        after_placed size x b.0 first (placed_read x.0 size x.1 b.0 first.fits b.1) b.2
