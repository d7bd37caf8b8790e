-- A program's canonical encoding is read as that program.
use Rattle.std.proofs.Common.{◌≡◌, ℕ, ◌+◌, ◌*◌, ◌%◌, ◌^◌, ◌<◌, ◌≤◌, Bool, true, false, cond, List, [], ◌∷◌, ◌++◌, length, Option, None}
use Rattle.std.proofs.Common.{Result, Ok, refl, sym, ap, subst, ◌∙◌, arith, append_assoc, length-append}
use Rattle.std.specs.Prelude.{◌==◌}
use Rattle.std.specs.List.{All, flat_map, list_all}
use Rattle.std.proofs.lemmas.Bool.{and_parts, le-leb, le-ltb, eqb-true, ne_eqb}
use Rattle.std.proofs.lemmas.List.{append-nil, drop_at}
use Rattle.std.proofs.lemmas.List.Elements.{All-head, All-tail}
use Rattle.byteorder.specs.Endian.{little_number, little_bytes}
use Rattle.page_table.specs.Grants.{Chunk, chunk, IsChunk, AreRising, is_page, total}
use Rattle.page_table.proofs.Placing.{total-cons}
use Rattle.machine_model.specs.Paths.{begins_at, AreApart, BeginsAtWord, RiscProgram, Span, IsProgram, all_words, IsSpan, end_of, is_there}
use Rattle.machine_model.specs.Paths.{one_span, shares_byte, span, spans_of, word_among, words_of}
use Rattle.capture_file.specs.declared.FileKind.{FileKind}
use Rattle.capture_file.specs.declared.FileFault.{FileFault}
use Rattle.capture_file.specs.declared.program.Layout.{Layout}
use Rattle.capture_file.specs.declared.program.Layout.TheVariants.{Paged, Chunked}
use Rattle.capture_file.specs.declared.program.ProgramForm.{ProgramForm}
use Rattle.capture_file.specs.declared.program.ProgramForm.TheVariants.{Based, Spanned}
use Rattle.capture_file.specs.declared.program.ProgramFile.{ProgramFile}
use Rattle.capture_file.specs.Programs.{◌>>=◌, Field, number_field, form_field, base_field, word_count_field, words_in, words_field}
use Rattle.capture_file.specs.Programs.{chunk_count_field, page_field, long_chunk_field, chunk_field}
use Rattle.capture_file.specs.Programs.{chunks_field, fill_field, program_in, program_of, without_grants, base_fault, word_count_fault}
use Rattle.capture_file.specs.Programs.{chunk_count_fault, page_fault, address_fault, length_fault}
use Rattle.capture_file.specs.Programs.{fill_fault, judged, numbers_spelled, chunk_in, name_of, grants_spelled, spelled_as, layout_for}
use Rattle.capture_file.specs.Programs.{spelled, layout_of, form_for, with_grants}
use Rattle.capture_file.specs.Programs.{span_number_field, span_number_fault, span_address_field, span_address_fault, span_length_field}
use Rattle.capture_file.specs.Programs.{span_length_fault, span_field, spans_field, entry_field, entry_fault}
use Rattle.capture_file.specs.Programs.{based_field, spanned_field, placed_field, span_spelled, spanned_spelled, placed_spelled}

-- ---- numbers

pub number_again : (size n : ℕ) (rest : List ℕ) → n < 2 ^ 32 → number_field size (little_bytes 4 n ++ rest) ≡ Ok (n, rest)
number_again size n rest low =
    let same : little_number 4 (little_bytes 4 n) ≡ n = omega arith in
    ap (λ (m : ℕ). Ok (m, rest)) same

pub form_again : (size : ℕ) (form : ProgramForm) (rest : List ℕ) → form_field size (name_of form ++ rest) ≡ Ok (form, rest)
unfolding form_field
form_again size (Based Paged) rest = refl
form_again size (Based Chunked) rest = refl
form_again size Spanned rest = refl

judged_then : {A : Type 0} (kind : Option FileKind) (size : ℕ) (bytes : List ℕ) (x : A) → kind ≡ None →
    (judged kind size bytes >>= λ _. Ok x) ≡ Ok x
judged_then kind size bytes x e = ap (λ (k : Option FileKind). judged k size bytes >>= λ _. Ok x) e

base_right : (base : ℕ) → base % 4 ≡ 0 → base_fault base ≡ None
base_right base even = rw even refl

pub base_again : (size base : ℕ) (rest : List ℕ) → base < 2 ^ 32 → base % 4 ≡ 0 →
    base_field size (little_bytes 4 base ++ rest) ≡ Ok (base, rest)
unfolding base_field
base_again size base rest low even =
    ap (λ (r : Field ℕ). r >>= λ x. judged (base_fault x.0) size (little_bytes 4 base ++ rest) >>= λ _. Ok x)
    (number_again size base rest low)
    ∙ judged_then (base_fault base) size (little_bytes 4 base ++ rest) (base, rest) (base_right base even)

word_count_right : (base count : ℕ) → count ≤ 1048576 → base + 4 * count ≤ 2 ^ 32 → word_count_fault base count ≡ None
word_count_right base count few ends = rw (le-leb count 1048576 few, le-leb (base + 4 * count) (2 ^ 32) ends) refl

pub word_count_again : (size base count : ℕ) (rest : List ℕ) → count ≤ 1048576 → base + 4 * count ≤ 2 ^ 32 →
    word_count_field size base (little_bytes 4 count ++ rest) ≡ Ok (count, rest)
unfolding word_count_field
word_count_again size base count rest few ends =
    let low : count < 2 ^ 32 = omega arith in
    ap (λ (r : Field ℕ). r >>= λ x. judged (word_count_fault base x.0) size (little_bytes 4 count ++ rest) >>= λ _. Ok x)
    (number_again size count rest low)
    ∙ judged_then (word_count_fault base count) size (little_bytes 4 count ++ rest) (count, rest) (word_count_right base count few ends)

chunk_count_right : (count : ℕ) → count ≤ 4096 → chunk_count_fault count ≡ None
chunk_count_right count few = rw (le-leb count 4096 few) refl

pub chunk_count_again : (size count : ℕ) (rest : List ℕ) → count ≤ 4096 →
    chunk_count_field size (little_bytes 4 count ++ rest) ≡ Ok (count, rest)
unfolding chunk_count_field
chunk_count_again size count rest few =
    let low : count < 2 ^ 32 = omega arith in
    ap (λ (r : Field ℕ). r >>= λ x. judged (chunk_count_fault x.0) size (little_bytes 4 count ++ rest) >>= λ _. Ok x)
    (number_again size count rest low)
    ∙ judged_then (chunk_count_fault count) size (little_bytes 4 count ++ rest) (count, rest) (chunk_count_right count few)

-- ---- words

pub numbers_length : (words : List ℕ) → length (numbers_spelled words) ≡ 4 * length words
numbers_length [] = refl
numbers_length (word ∷ words) = let rest = numbers_length words in omega arith

words_again : (words rest : List ℕ) → All (λ word. word < 2 ^ 32) words → words_in (length words) (numbers_spelled words ++ rest) ≡ words
words_again [] rest fit = refl
words_again (word ∷ words) rest fit =
    let low : word < 2 ^ 32 = All-head (λ (w : ℕ). w < 2 ^ 32) word words fit in
    let same : little_number 4 (little_bytes 4 word) ≡ word = omega arith in
    ap (λ (w : ℕ). w ∷ words_in (length words) (numbers_spelled words ++ rest)) same
    ∙ ap (λ (ws : List ℕ). word ∷ ws) (words_again words rest (All-tail (λ (w : ℕ). w < 2 ^ 32) word words fit))

pub words_field_again : (size : ℕ) (words rest : List ℕ) → All (λ word. word < 2 ^ 32) words →
    words_field size (length words) (numbers_spelled words ++ rest) ≡ Ok (words, rest)
unfolding words_field
words_field_again size words rest fit =
    let len = numbers_length words in
    let long : 4 * length words ≤ length (numbers_spelled words ++ rest) = omega (arith, length-append (numbers_spelled words) rest) in
    rw (
      le-leb (4 * length words) (length (numbers_spelled words ++ rest)) long,
      words_again words rest fit,
      drop_at (numbers_spelled words) rest (4 * length words) len,
    ) refl

-- ---- spans

not_zero : (n : ℕ) → 0 < n → (n == 0) ≡ false
not_zero n h = ne_eqb n 0 (λ (e : n ≡ 0). omega arith)

pub judged_again : (wrongs : ℕ → Option FileKind) (size n : ℕ) (rest : List ℕ) → n < 2 ^ 32 → wrongs n ≡ None →
    (number_field size (little_bytes 4 n ++ rest) >>= λ x. judged (wrongs x.0) size (little_bytes 4 n ++ rest) >>= λ _. Ok x) ≡ Ok (n, rest)
judged_again wrongs size n rest low right =
    ap (λ (r : Field ℕ). r >>= λ x. judged (wrongs x.0) size (little_bytes 4 n ++ rest) >>= λ _. Ok x) (number_again size n rest low)
    ∙ judged_then (wrongs n) size (little_bytes 4 n ++ rest) (n, rest) right

span_number_right : (count : ℕ) → 0 < count → count ≤ 4096 → span_number_fault count ≡ None
span_number_right count some many = rw (not_zero count some, le-leb count 4096 many) refl

pub span_number_again : (size count : ℕ) (rest : List ℕ) → 0 < count → count ≤ 4096 →
    span_number_field size (little_bytes 4 count ++ rest) ≡ Ok (count, rest)
unfolding span_number_field
span_number_again size count rest some many =
    judged_again span_number_fault size count rest (omega arith) (span_number_right count some many)

span_address_right : (from at : ℕ) → at % 4 ≡ 0 → from ≤ at → span_address_fault from at ≡ None
span_address_right from at even le = rw (even, le-ltb at from le) refl

pub span_address_again : (size from at : ℕ) (rest : List ℕ) → at < 2 ^ 32 → at % 4 ≡ 0 → from ≤ at →
    span_address_field size from (little_bytes 4 at ++ rest) ≡ Ok (at, rest)
unfolding span_address_field
span_address_again size from at rest low even le =
    judged_again (span_address_fault from) size at rest low (span_address_right from at even le)

span_length_right : (at sum count : ℕ) → 0 < count → sum + count ≤ 1048576 → at + 4 * count ≤ 2 ^ 32 → span_length_fault at sum count ≡ None
span_length_right at sum count some few ends =
    rw (not_zero count some, le-leb (sum + count) 1048576 few, le-leb (at + 4 * count) (2 ^ 32) ends) refl

pub span_length_again : (size at sum count : ℕ) (rest : List ℕ) → 0 < count → sum + count ≤ 1048576 → at + 4 * count ≤ 2 ^ 32 →
    span_length_field size at sum (little_bytes 4 count ++ rest) ≡ Ok (count, rest)
unfolding span_length_field
span_length_again size at sum count rest some few ends =
    judged_again (span_length_fault at sum) size count rest (omega arith) (span_length_right at sum count some few ends)

-- a span from left to right
pub span_line : (s : Span) (rest : List ℕ) →
    span_spelled s ++ rest ≡ little_bytes 4 s.at ++ (little_bytes 4 (length s.words) ++ (numbers_spelled s.words ++ rest))
span_line s rest =
    append_assoc (little_bytes 4 s.at ++ little_bytes 4 (length s.words)) (numbers_spelled s.words) rest
    ∙ append_assoc (little_bytes 4 s.at) (little_bytes 4 (length s.words)) (numbers_spelled s.words ++ rest)

pub span_again : (size from sum : ℕ) (s : Span) (rest : List ℕ) → from ≤ s.at → IsSpan s → sum + length s.words ≤ 1048576 →
    span_field size from sum (span_spelled s ++ rest) ≡ Ok (s, rest)
unfolding span_field
span_again size from sum s rest above is few =
    let some = is.some in
    let ends = is.ends in
    let words : List ℕ = numbers_spelled s.words ++ rest in
    let counted : List ℕ = little_bytes 4 (length s.words) ++ words in
    ap (λ (bytes : List ℕ). span_address_field size from bytes >>= λ at. span_length_field size at.0 sum at.1
    >>= λ count. words_field size count.0 count.1 >>= λ ws. Ok (span at.0 ws.0, ws.1)) (span_line s rest)
    ∙ ap (λ (r : Field ℕ). r >>= λ at. span_length_field size at.0 sum at.1 >>= λ count. words_field size count.0 count.1
    >>= λ ws. Ok (span at.0 ws.0, ws.1))
    (span_address_again size from s.at counted (omega arith) is.aligned above)
    ∙ ap (λ (r : Field ℕ). r >>= λ count. words_field size count.0 count.1 >>= λ ws. Ok (span s.at ws.0, ws.1))
    (span_length_again size s.at sum (length s.words) words some few ends)
    ∙ ap (λ (r : Field (List ℕ)). r >>= λ ws. Ok (span s.at ws.0, ws.1)) (words_field_again size s.words rest is.fit)

pub spans_again : (size from sum : ℕ) (spans : List Span) (rest : List ℕ) → AreApart from spans → sum + length (words_of spans) ≤ 1048576 →
    spans_field size (length spans) from sum (flat_map span_spelled spans ++ rest) ≡ Ok (spans, rest)
unfolding spans_field
spans_again size from sum [] rest apart few = refl
spans_again size from sum (s ∷ spans) rest apart few =
    let words = length-append s.words (words_of spans) in
    let split : flat_map span_spelled (s ∷ spans) ++ rest ≡ span_spelled s ++ (flat_map span_spelled spans ++ rest) =
    append_assoc (span_spelled s) (flat_map span_spelled spans) rest in
    ap (λ (bytes : List ℕ). span_field size from sum bytes
    >>= λ x. spans_field size (length spans) (end_of x.0 + 1) (sum + length x.0.words) x.1 >>= λ y. Ok (x.0 ∷ y.0, y.1)) split
    ∙ ap (λ (r : Field Span). r >>= λ x. spans_field size (length spans) (end_of x.0 + 1) (sum + length x.0.words) x.1
    >>= λ y. Ok (x.0 ∷ y.0, y.1))
    (span_again size from sum s (flat_map span_spelled spans ++ rest) apart.0 apart.1 (omega (arith, words, few)))
    ∙ ap (λ (r : Field (List Span)). r >>= λ y. Ok (s ∷ y.0, y.1))
    (spans_again size (end_of s + 1) (sum + length s.words) spans rest apart.2 (omega (arith, words, few)))

entry_right : (spans : List Span) (entry : ℕ) → is_there (word_among spans entry) ≡ true → begins_at entry spans ≡ false →
    entry_fault spans entry ≡ None
entry_right spans entry there alone = rw (there, alone) refl

pub entry_again : (size : ℕ) (spans : List Span) (entry : ℕ) (rest : List ℕ) → entry < 2 ^ 32 → is_there (word_among spans entry) ≡ true →
    begins_at entry spans ≡ false →
    entry_field size spans (little_bytes 4 entry ++ rest) ≡ Ok (entry, rest)
unfolding entry_field
entry_again size spans entry rest low there alone =
    judged_again (entry_fault spans) size entry rest low (entry_right spans entry there alone)

-- ---- the words where they are

-- a program in its form
abbrev pub IsPlacedIn : ProgramForm → RiscProgram → Type 0
IsPlacedIn (Based layout) program = begins_at program.base program.spans ≡ true
IsPlacedIn Spanned program = begins_at program.base program.spans ≡ false

-- where it begins alone, it is one span
pub alone_is_one : (program : RiscProgram) → AreApart 0 program.spans → begins_at program.base program.spans ≡ true →
    program.spans ≡ spans_of program.base (all_words program)
alone_is_one program apart alone = by_spans program.spans apart alone
  where
    of_words : (at base : ℕ) (words : List ℕ) → 0 < length words → at ≡ base → span at words ∷ [] ≡ spans_of base (words ++ [])
    of_words at base [] some same = absurd (omega arith)
    of_words at base (word ∷ words) some same = rw (same, append-nil words) refl

    by_spans : (spans : List Span) → AreApart 0 spans → begins_at program.base spans ≡ true → spans ≡ spans_of program.base (words_of spans)
    by_spans [] apart alone = refl
    by_spans (s ∷ []) apart alone = of_words s.at program.base s.words apart.1.some (eqb-true s.at program.base alone)
    by_spans (s ∷ other ∷ rest) apart alone = absurd (cc)

pub based_again : (size : ℕ) (program : RiscProgram) (rest : List ℕ) → IsProgram program → begins_at program.base program.spans ≡ true →
    based_field size (span_spelled (span program.base (all_words program)) ++ rest) ≡ Ok (without_grants program.base program.spans, rest)
unfolding based_field
based_again size program rest made alone =
    let words : List ℕ = all_words program in
    let one = alone_is_one program made.spans alone in
    let fits = one_fits program.base words (subst (AreApart 0) one made.spans) made.low in
    let after : List ℕ = numbers_spelled words ++ rest in
    ap (λ (bytes : List ℕ). base_field size bytes >>= λ base. word_count_field size base.0 base.1
    >>= λ count. words_field size count.0 count.1 >>= λ ws. Ok (one_span base.0 ws.0 [], ws.1)) (span_line (span program.base words) rest)
    ∙ ap (λ (r : Field ℕ). r >>= λ base. word_count_field size base.0 base.1 >>= λ count. words_field size count.0 count.1
    >>= λ ws. Ok (one_span base.0 ws.0 [], ws.1))
    (base_again size program.base (little_bytes 4 (length words) ++ after) made.low made.aligned)
    ∙ ap (λ (r : Field ℕ). r >>= λ count. words_field size count.0 count.1 >>= λ ws. Ok (one_span program.base ws.0 [], ws.1))
    (word_count_again size program.base (length words) after made.few fits.0)
    ∙ ap (λ (r : Field (List ℕ)). r >>= λ ws. Ok (one_span program.base ws.0 [], ws.1)) (words_field_again size words rest fits.1)
    ∙ ap (λ (spans : List Span). Ok (without_grants program.base spans, rest)) (sym one)
  where
    one_fits : (base : ℕ) (words : List ℕ) → AreApart 0 (spans_of base words) → base < 2 ^ 32 →
        (base + 4 * length words ≤ 2 ^ 32) × All (λ word. word < 2 ^ 32) words
    one_fits base [] apart low = (omega arith, λ k d h. absurd (omega arith))
    one_fits base (word ∷ words) apart low = (apart.1.ends, apart.1.fit)

-- the spans and the entry from left to right
pub spanned_line : (entry : ℕ) (spans : List Span) (rest : List ℕ) →
    spanned_spelled entry spans ++ rest ≡ little_bytes 4 (length spans) ++ (flat_map span_spelled spans ++ (little_bytes 4 entry ++ rest))
spanned_line entry spans rest =
    append_assoc (little_bytes 4 (length spans) ++ flat_map span_spelled spans) (little_bytes 4 entry) rest
    ∙ append_assoc (little_bytes 4 (length spans)) (flat_map span_spelled spans) (little_bytes 4 entry ++ rest)

-- a program that doesn't begin alone has spans, and its path begins at one of their words
pub some_spans : (program : RiscProgram) → IsProgram program → begins_at program.base program.spans ≡ false →
    (0 < length program.spans) × (is_there (word_among program.spans program.base) ≡ true)
some_spans program made alone = by_spans program.spans made.begins alone
  where
    by_spans : (spans : List Span) → BeginsAtWord program.base spans → begins_at program.base spans ≡ false →
        (0 < length spans) × (is_there (word_among spans program.base) ≡ true)
    by_spans [] begins alone = absurd (cc)
    by_spans (s ∷ rest) begins alone = (omega arith, begins)

pub spanned_again : (size : ℕ) (program : RiscProgram) (rest : List ℕ) → IsProgram program → begins_at program.base program.spans ≡ false →
    spanned_field size (spanned_spelled program.base program.spans ++ rest) ≡ Ok (without_grants program.base program.spans, rest)
unfolding spanned_field
spanned_again size program rest made alone =
    let spans : List Span = program.spans in
    let is = some_spans program made alone in
    let after : List ℕ = little_bytes 4 program.base ++ rest in
    ap (λ (bytes : List ℕ). span_number_field size bytes >>= λ count. spans_field size count.0 0 0 count.1 >>= λ x. entry_field size x.0 x.1
    >>= λ entry. Ok (without_grants entry.0 x.0, entry.1)) (spanned_line program.base spans rest)
    ∙ ap (λ (r : Field ℕ). r >>= λ count. spans_field size count.0 0 0 count.1 >>= λ x. entry_field size x.0 x.1
    >>= λ entry. Ok (without_grants entry.0 x.0, entry.1))
    (span_number_again size (length spans) (flat_map span_spelled spans ++ after) is.0 made.many)
    ∙ ap (λ (r : Field (List Span)). r >>= λ x. entry_field size x.0 x.1 >>= λ entry. Ok (without_grants entry.0 x.0, entry.1))
    (spans_again size 0 0 spans after made.spans (let few = made.few in omega arith))
    ∙ ap (λ (r : Field ℕ). r >>= λ entry. Ok (without_grants entry.0 spans, entry.1))
    (entry_again size spans program.base rest made.low is.1 alone)

pub placed_again : (form : ProgramForm) (size : ℕ) (program : RiscProgram) (rest : List ℕ) → IsProgram program → IsPlacedIn form program →
    placed_field form size (placed_spelled form program ++ rest) ≡ Ok (without_grants program.base program.spans, rest)
placed_again (Based layout) size program rest made is = based_again size program rest made is
placed_again Spanned size program rest made is = spanned_again size program rest made is

-- ---- chunks

page_right : (program : RiscProgram) (from at : ℕ) → at % 4096 ≡ 0 → from ≤ at → shares_byte program (chunk at 4096) ≡ false →
    page_fault program from at ≡ None
page_right program from at paged le apart = rw (paged, le-ltb at from le, apart) refl

page_again : (size : ℕ) (program : RiscProgram) (from at : ℕ) (rest : List ℕ) → at < 2 ^ 32 → at % 4096 ≡ 0 → from ≤ at →
    shares_byte program (chunk at 4096) ≡ false →
    page_field size program from (little_bytes 4 at ++ rest) ≡ Ok (chunk at 4096, rest)
unfolding page_field
page_again size program from at rest low paged le apart =
    ap (λ (r : Field ℕ). r >>= λ x. judged (page_fault program from x.0) size (little_bytes 4 at ++ rest) >>= λ _. Ok (chunk x.0 4096, x.1))
    (number_again size at rest low)
    ∙ judged_then (page_fault program from at) size (little_bytes 4 at ++ rest) (chunk at 4096, rest)
    (page_right program from at paged le apart)

address_right : (from at : ℕ) → at % 4 ≡ 0 → from ≤ at → address_fault from at ≡ None
address_right from at even le = rw (even, le-ltb at from le) refl

length_right : (program : RiscProgram) (sum at len : ℕ) → IsChunk (chunk at len) → sum + len ≤ 16777216 →
    shares_byte program (chunk at len) ≡ false → length_fault program sum at len ≡ None
length_right program sum at len is small apart =
    let some = is.some in
    rw (not_zero len (omega arith), is.len_aligned, le-leb (at + len) (2 ^ 32) is.ends, le-leb (sum + len) 16777216 small, apart) refl

long_chunk_again : (size : ℕ) (program : RiscProgram) (from sum at len : ℕ) (rest : List ℕ) → IsChunk (chunk at len) → from ≤ at →
    sum + len ≤ 16777216 → shares_byte program (chunk at len) ≡ false →
    long_chunk_field size program from sum (little_bytes 4 at ++ (little_bytes 4 len ++ rest)) ≡ Ok (chunk at len, rest)
unfolding long_chunk_field
long_chunk_again size program from sum at len rest is le small apart =
    let some = is.some in
    let ends = is.ends in
    let low : at < 2 ^ 32 = omega arith in
    let low' : len < 2 ^ 32 = omega arith in
    let after : List ℕ = little_bytes 4 len ++ rest in
    let bytes : List ℕ = little_bytes 4 at ++ after in
    ap (λ (r : Field ℕ). r >>= λ x. judged (address_fault from x.0) size bytes >>= λ _. number_field size x.1
    >>= λ y. judged (length_fault program sum x.0 y.0) size x.1 >>= λ _. Ok (chunk x.0 y.0, y.1))
    (number_again size at after low)
    ∙ ap (λ (k : Option FileKind). judged k size bytes >>= λ _. number_field size after
    >>= λ y. judged (length_fault program sum at y.0) size after >>= λ _. Ok (chunk at y.0, y.1))
    (address_right from at is.at_aligned le)
    ∙ ap (λ (r : Field ℕ). r >>= λ y. judged (length_fault program sum at y.0) size after >>= λ _. Ok (chunk at y.0, y.1))
    (number_again size len rest low')
    ∙ judged_then (length_fault program sum at len) size after (chunk at len, rest) (length_right program sum at len is small apart)

abbrev Fits : Layout → ℕ → Chunk → Type 0
Fits Paged sum c = is_page c ≡ true
Fits Chunked sum c = sum + c.len ≤ 16777216

one_again : (layout : Layout) (size : ℕ) (program : RiscProgram) (from sum : ℕ) (c : Chunk) (rest : List ℕ) → IsChunk c → from ≤ c.at →
    Fits layout sum c → shares_byte program c ≡ false →
    chunk_field layout size program from sum (chunk_in layout c ++ rest) ≡ Ok (c, rest)
one_again Paged size program from sum c rest is le page apart =
    let both = and_parts (c.at % 4096 == 0) (c.len == 4096) page in
    let paged : c.at % 4096 ≡ 0 = eqb-true (c.at % 4096) 0 both.0 in
    let len : c.len ≡ 4096 = eqb-true c.len 4096 both.1 in
    let some = is.some in
    let ends = is.ends in
    let same : chunk c.at 4096 ≡ c = ap (λ (n : ℕ). chunk c.at n) (sym len) in
    page_again size program from c.at rest (omega arith) paged le (subst (λ (d : Chunk). shares_byte program d ≡ false) (sym same) apart)
    ∙ ap (λ (d : Chunk). Ok (d, rest)) same
one_again Chunked size program from sum c rest is le small apart = long_chunk_again size program from sum c.at c.len rest is le small apart

abbrev AllFit : Layout → ℕ → List Chunk → Type 0
AllFit Paged sum chunks = list_all is_page chunks ≡ true
AllFit Chunked sum chunks = sum + total chunks ≤ 16777216

fit_head : (layout : Layout) (sum : ℕ) (c : Chunk) (chunks : List Chunk) → AllFit layout sum (c ∷ chunks) →
    Fits layout sum c × AllFit layout (sum + c.len) chunks
fit_head Paged sum c chunks h = and_parts (is_page c) (list_all is_page chunks) h
fit_head Chunked sum c chunks h = (omega (arith, total-cons c chunks), omega (arith, total-cons c chunks))

pub chunks_again : (layout : Layout) (size : ℕ) (program : RiscProgram) (from sum : ℕ) (chunks : List Chunk) (rest : List ℕ) →
    AreRising from chunks → All (λ c. shares_byte program c ≡ false) chunks → AllFit layout sum chunks →
    chunks_field layout size program (length chunks) from sum (flat_map (chunk_in layout) chunks ++ rest) ≡ Ok (chunks, rest)
unfolding chunks_field
chunks_again layout size program from sum [] rest rising apart fit = refl
chunks_again layout size program from sum (c ∷ chunks) rest rising apart fit =
    let split : flat_map (chunk_in layout) (c ∷ chunks) ++ rest ≡ chunk_in layout c ++ (flat_map (chunk_in layout) chunks ++ rest) =
    append_assoc (chunk_in layout c) (flat_map (chunk_in layout) chunks) rest in
    let fits = fit_head layout sum c chunks fit in
    let first = All-head (λ (d : Chunk). shares_byte program d ≡ false) c chunks apart in
    let others = All-tail (λ (d : Chunk). shares_byte program d ≡ false) c chunks apart in
    ap (λ (bytes : List ℕ). chunk_field layout size program from sum bytes
    >>= λ x. chunks_field layout size program (length chunks) (x.0.at + x.0.len) (sum + x.0.len) x.1 >>= λ y. Ok (x.0 ∷ y.0, y.1)) split
    ∙ ap (λ (r : Field Chunk). r >>= λ x. chunks_field layout size program (length chunks) (x.0.at + x.0.len) (sum + x.0.len) x.1
    >>= λ y. Ok (x.0 ∷ y.0, y.1))
    (one_again layout size program from sum c (flat_map (chunk_in layout) chunks ++ rest) rising.1 rising.0 fits.0 first)
    ∙ ap (λ (r : Field (List Chunk)). r >>= λ y. Ok (c ∷ y.0, y.1))
    (chunks_again layout size program (c.at + c.len) (sum + c.len) chunks rest rising.2 others fits.1)

-- ---- the whole file

fill_again : (form : ProgramForm) (size fill : ℕ) (chunks : List Chunk) → fill_fault form chunks ≡ None →
    fill_field form size chunks (fill ∷ []) ≡ Ok fill
unfolding fill_field
fill_again form size fill chunks e = ap (λ (k : Option FileKind). judged k size (fill ∷ []) >>= λ _. Ok fill) e

-- the chunks are in the layout that is theirs
abbrev pub AreFor : Layout → List Chunk → Type 0
AreFor Paged chunks = list_all is_page chunks ≡ true
AreFor Chunked chunks = list_all is_page chunks ≡ false

pub are_for : (chunks : List Chunk) → AreFor (layout_for chunks) chunks
are_for chunks =
    elim (list_all is_page chunks) as (λ (b : Bool). list_all is_page chunks ≡ b → AreFor (cond b Paged Chunked) chunks) [
      | true ↦ λ e. e
      | false ↦ λ e. e
    ] refl

-- a program is in the form that is its own
abbrev pub IsFor : ProgramForm → RiscProgram → Type 0
IsFor (Based layout) program = (begins_at program.base program.spans ≡ true) × AreFor layout program.grants
IsFor Spanned program = begins_at program.base program.spans ≡ false

pub is_for : (program : RiscProgram) → IsFor (form_for program) program
is_for program = by_test (begins_at program.base program.spans) refl
  where
    by_test : (alone : Bool) → begins_at program.base program.spans ≡ alone →
        IsFor (cond alone (Based (layout_for program.grants)) Spanned) program
    by_test true e = (e, are_for program.grants)
    by_test false e = e

pub placed_in : (form : ProgramForm) (program : RiscProgram) → IsFor form program → IsPlacedIn form program
placed_in (Based layout) program is = is.0
placed_in Spanned program is = is

fill_right : (form : ProgramForm) (program : RiscProgram) → IsFor form program → fill_fault form program.grants ≡ None
fill_right (Based Paged) program h = refl
fill_right (Based Chunked) program h = rw h.1 refl
fill_right Spanned program h = refl

all_fit : (form : ProgramForm) (program : RiscProgram) → IsFor form program → total program.grants ≤ 2 ^ 24 →
    AllFit (layout_of form) 0 program.grants
all_fit (Based Paged) program h small = h.1
all_fit (Based Chunked) program h small = omega arith
all_fit Spanned program h small = omega arith

-- the canonical encoding from left to right
abbrev pub tail_of : Layout → List Chunk → ℕ → List ℕ
tail_of layout chunks fill = little_bytes 4 (length chunks) ++ (flat_map (chunk_in layout) chunks ++ fill ∷ [])

abbrev pub line_of : ProgramForm → RiscProgram → ℕ → List ℕ
line_of form program fill = name_of form ++ (placed_spelled form program ++ tail_of (layout_of form) program.grants fill)

grants_line : (layout : Layout) (chunks : List Chunk) (rest : List ℕ) →
    grants_spelled layout chunks ++ rest ≡ little_bytes 4 (length chunks) ++ (flat_map (chunk_in layout) chunks ++ rest)
grants_line layout chunks rest = append_assoc (little_bytes 4 (length chunks)) (flat_map (chunk_in layout) chunks) rest

pub in_line : (form : ProgramForm) (program : RiscProgram) (fill : ℕ) → spelled_as form program fill ≡ line_of form program fill
in_line form program fill =
    append_assoc (name_of form ++ placed_spelled form program) (grants_spelled (layout_of form) program.grants) (fill ∷ [])
    ∙ ap (λ (zs : List ℕ). (name_of form ++ placed_spelled form program) ++ zs) (grants_line (layout_of form) program.grants (fill ∷ []))
    ∙ append_assoc (name_of form) (placed_spelled form program) (tail_of (layout_of form) program.grants fill)

-- what is read after each field
module _ (size : ℕ) where
  abbrev pub with_chunks : ProgramForm → RiscProgram → List Chunk × List ℕ → Result ProgramFile FileFault
  with_chunks form placed x = fill_field form size x.0 x.1 >>= λ fill. Ok (record { program = with_grants placed x.0; fill = fill })

  abbrev pub with_chunk_count : ProgramForm → RiscProgram → ℕ × List ℕ → Result ProgramFile FileFault
  with_chunk_count form placed x = chunks_field (layout_of form) size placed x.0 0 0 x.1 >>= λ y. with_chunks form placed y

  abbrev pub with_placed : ProgramForm → RiscProgram × List ℕ → Result ProgramFile FileFault
  with_placed form x = chunk_count_field size x.1 >>= λ y. with_chunk_count form x.0 y

  abbrev pub with_form : ProgramForm × List ℕ → Result ProgramFile FileFault
  with_form x = placed_field x.0 size x.1 >>= λ y. with_placed x.0 y

  pub field_by_field : (bytes : List ℕ) → program_in size bytes ≡ (form_field size bytes >>= λ x. with_form x)
  unfolding program_in
  field_by_field bytes = refl

pub line_again : (form : ProgramForm) (size : ℕ) (program : RiscProgram) (fill : ℕ) → IsProgram program → IsFor form program →
    program_in size (line_of form program fill) ≡ Ok (record { program = program; fill = fill })
line_again form size program fill made is =
    let chunks = program.grants in
    let last : List ℕ = fill ∷ [] in
    let after_count : List ℕ = flat_map (chunk_in (layout_of form)) chunks ++ last in
    let after_placed : List ℕ = little_bytes 4 (length chunks) ++ after_count in
    let placed : RiscProgram = without_grants program.base program.spans in
    field_by_field size (line_of form program fill)
    ∙ ap (λ (r : Field ProgramForm). r >>= λ x. with_form size x) (form_again size form (placed_spelled form program ++ after_placed))
    ∙ ap (λ (r : Field RiscProgram). r >>= λ x. with_placed size form x)
    (placed_again form size program after_placed made (placed_in form program is))
    ∙ ap (λ (r : Field ℕ). r >>= λ x. with_chunk_count size form placed x)
    (chunk_count_again size (length chunks) after_count made.grants.few)
    ∙ ap (λ (r : Field (List Chunk)). r >>= λ x. with_chunks size form placed x)
    (chunks_again (layout_of form) size placed 0 0 chunks last made.grants.rising made.apart (all_fit form program is made.grants.small))
    ∙ ap (λ (r : Result ℕ FileFault). r >>= λ f. Ok (record { program = program; fill = f }))
    (fill_again form size fill chunks (fill_right form program is))

pub spelled_again : (program : RiscProgram) (fill : ℕ) → IsProgram program →
    program_of (spelled program fill) ≡ Ok (record { program = program; fill = fill })
unfolding spelled
spelled_again program fill made =
    ap (program_in (length (spelled_as (form_for program) program fill))) (in_line (form_for program) program fill)
    ∙ line_again (form_for program) (length (spelled_as (form_for program) program fill)) program fill made (is_for program)
