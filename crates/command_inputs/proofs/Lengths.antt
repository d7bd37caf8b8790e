-- The bytes of each field of a program file that is right.
use Rattle.std.proofs.Common.{◌≡◌, ℕ, zero, suc, ◌+◌, ◌*◌, ◌≤◌, Bool, true, false, cond, not, List, [], ◌∷◌, length, drop, Option, Some}
use Rattle.std.proofs.Common.{None, Ok, Err, refl, ap, subst, ◌∙◌, arith, length-drop}
use Rattle.std.specs.Prelude.{nat_le, ◌==◌, ◌&&◌, ◌^◌}
use Rattle.std.proofs.lemmas.Bool.{and_parts, leb-true}
use Rattle.page_table.specs.Grants.{Chunk, chunk}
use Rattle.machine_model.specs.Paths.{RiscProgram, Span, end_of, one_span, span}
use Rattle.capture_file.specs.declared.FileKind.{FileKind}
use Rattle.capture_file.specs.declared.FileKind.TheVariants as fault
use Rattle.capture_file.specs.declared.program.Layout.{Layout}
use Rattle.capture_file.specs.declared.program.Layout.TheVariants.{Paged, Chunked}
use Rattle.capture_file.specs.declared.program.ProgramForm.{ProgramForm}
use Rattle.capture_file.specs.declared.program.ProgramForm.TheVariants.{Based, Spanned}
use Rattle.capture_file.proofs.SpansRead.{words_length}
use Rattle.capture_file.specs.Programs.{based_field, entry_fault, entry_field, placed_field, span_address_fault, span_address_field}
use Rattle.capture_file.specs.Programs.{span_field, span_length_fault, span_length_field, span_number_fault, span_number_field}
use Rattle.capture_file.specs.Programs.{spanned_field, spans_field, without_grants}
use Rattle.capture_file.specs.Programs.{◌>>=◌, number_or_cut, number_field, form_field, form_or_magic, form_of, base_field}
use Rattle.capture_file.specs.Programs.{word_count_field, words_in, words_field, chunk_count_field}
use Rattle.capture_file.specs.Programs.{page_field, long_chunk_field, chunk_field, chunks_field, base_fault, word_count_fault}
use Rattle.capture_file.specs.Programs.{chunk_count_fault, page_fault, judged, cut}
use Rattle.capture_file.specs.Streams.{number_at}
use Rattle.capture_file.proofs.Chunks.{bind_ok, judged_ok, ok_is, some_fault, long_chunk_parts}

number_rest : (size : ℕ) (n : Option ℕ) (rest : List ℕ) (x : ℕ × List ℕ) → number_or_cut size n rest ≡ Ok x → rest ≡ x.1
number_rest size None rest x e = absurd (cc)
number_rest size (Some n) rest x e = ap (λ (p : ℕ × List ℕ). p.1) (ok_is (n, rest) x e)

number_len : (size : ℕ) (bytes : List ℕ) (x : ℕ × List ℕ) → number_field size bytes ≡ Ok x → length bytes ≡ 4 + length x.1
number_len size [] x e = absurd (cc)
number_len size (a ∷ []) x e = absurd (cc)
number_len size (a ∷ b ∷ []) x e = absurd (cc)
number_len size (a ∷ b ∷ c ∷ []) x e = absurd (cc)
number_len size (a ∷ b ∷ c ∷ d ∷ rest) x e =
    subst (λ r. length (a ∷ b ∷ c ∷ d ∷ rest) ≡ 4 + length r) (number_rest size (number_at (a ∷ b ∷ c ∷ d ∷ rest)) rest x e) (omega arith)

judged_len : (kind : ℕ → Option FileKind) (size : ℕ) (bytes : List ℕ) (x : ℕ × List ℕ) →
    (number_field size bytes >>= λ y. judged (kind y.0) size bytes >>= λ _. Ok y) ≡ Ok x →
    (length bytes ≡ 4 + length x.1) × (kind x.0 ≡ None)
judged_len kind size bytes x e =
    let a = bind_ok (number_field size bytes) (λ y. judged (kind y.0) size bytes >>= λ _. Ok y) x e in
    let b = bind_ok (judged (kind a.0.0) size bytes) (λ _. Ok a.0) x a.2 in
    let same : a.0 ≡ x = ok_is a.0 x b.2 in
    subst (λ (p : ℕ × List ℕ). (length bytes ≡ 4 + length p.1) × (kind p.0 ≡ None)) same
    (number_len size bytes a.0 a.1, judged_ok (kind a.0.0) size bytes b.0 b.1)

magic_len : (size : ℕ) (bytes rest : List ℕ) (form : Option ProgramForm) (x : ProgramForm × List ℕ) →
    form_or_magic size bytes form rest ≡ Ok x → rest ≡ x.1
magic_len size bytes rest None x e = absurd (cc)
magic_len size bytes rest (Some form) x e = ap (λ (p : ProgramForm × List ℕ). p.1) (ok_is (form, rest) x e)

pub form_len : (size : ℕ) (bytes : List ℕ) (x : ProgramForm × List ℕ) → form_field size bytes ≡ Ok x → length bytes ≡ 4 + length x.1
unfolding form_field
form_len size bytes x e =
    let a = bind_ok (number_field size bytes) (λ word. form_or_magic size bytes (form_of word.0) word.1) x e in
    number_len size bytes a.0 a.1 ∙ ap (λ rest. 4 + length rest) (magic_len size bytes a.0.1 (form_of a.0.0) x a.2)

pub base_len : (size : ℕ) (bytes : List ℕ) (x : ℕ × List ℕ) → base_field size bytes ≡ Ok x → length bytes ≡ 4 + length x.1
unfolding base_field
base_len size bytes x e = (judged_len base_fault size bytes x e).0

pub word_count_len : (size base : ℕ) (bytes : List ℕ) (x : ℕ × List ℕ) → word_count_field size base bytes ≡ Ok x →
    (length bytes ≡ 4 + length x.1) × (x.0 ≤ 1048576)
unfolding word_count_field
word_count_len size base bytes x e =
    let a = judged_len (word_count_fault base) size bytes x e in
    let right =
    and_parts (nat_le x.0 1048576) (nat_le (base + 4 * x.0) (2 ^ 32))
    (some_fault (nat_le x.0 1048576 && nat_le (base + 4 * x.0) (2 ^ 32)) fault.Count a.1) in
    (a.0, leb-true x.0 1048576 right.0)

words_if : (size count : ℕ) (bytes : List ℕ) (x : List ℕ × List ℕ) (b : Bool) → nat_le (4 * count) (length bytes) ≡ b →
    cond b (Ok (words_in count bytes, drop (4 * count) bytes)) (Err (cut size)) ≡ Ok x →
    (length bytes ≡ 4 * count + length x.1) × (length x.0 ≡ count)
words_if size count bytes x true is e =
    let enough = leb-true (4 * count) (length bytes) is in
    let left = length-drop (4 * count) bytes in
    subst (λ (p : List ℕ × List ℕ). (length bytes ≡ 4 * count + length p.1) × (length p.0 ≡ count))
    (ok_is (words_in count bytes, drop (4 * count) bytes) x e)
    (omega (arith, enough, left), words_length count bytes)
words_if size count bytes x false is e = absurd (cc)

pub words_len : (size count : ℕ) (bytes : List ℕ) (x : List ℕ × List ℕ) → words_field size count bytes ≡ Ok x →
    (length bytes ≡ 4 * count + length x.1) × (length x.0 ≡ count)
unfolding words_field
words_len size count bytes x e = words_if size count bytes x (nat_le (4 * count) (length bytes)) refl e

pub chunk_count_len : (size : ℕ) (bytes : List ℕ) (x : ℕ × List ℕ) → chunk_count_field size bytes ≡ Ok x →
    (length bytes ≡ 4 + length x.1) × (x.0 ≤ 4096)
unfolding chunk_count_field
chunk_count_len size bytes x e =
    let a = judged_len chunk_count_fault size bytes x e in
    (a.0, leb-true x.0 4096 (some_fault (nat_le x.0 4096) fault.Count a.1))

-- ---- the spans and the entry

pub span_number_len : (size : ℕ) (bytes : List ℕ) (x : ℕ × List ℕ) → span_number_field size bytes ≡ Ok x →
    (length bytes ≡ 4 + length x.1) × (x.0 ≤ 4096)
unfolding span_number_field
span_number_len size bytes x e =
    let a = judged_len span_number_fault size bytes x e in
    let right = and_parts (not (x.0 == 0)) (nat_le x.0 4096) (some_fault (not (x.0 == 0) && nat_le x.0 4096) fault.Count a.1) in
    (a.0, leb-true x.0 4096 right.1)

pub span_address_len : (size from : ℕ) (bytes : List ℕ) (x : ℕ × List ℕ) → span_address_field size from bytes ≡ Ok x →
    length bytes ≡ 4 + length x.1
unfolding span_address_field
span_address_len size from bytes x e = (judged_len (span_address_fault from) size bytes x e).0

pub span_length_len : (size at sum : ℕ) (bytes : List ℕ) (x : ℕ × List ℕ) → span_length_field size at sum bytes ≡ Ok x →
    (length bytes ≡ 4 + length x.1) × (sum + x.0 ≤ 1048576)
unfolding span_length_field
span_length_len size at sum bytes x e =
    let a = judged_len (span_length_fault at sum) size bytes x e in
    let right = some_fault (not (x.0 == 0) && nat_le (sum + x.0) 1048576 && nat_le (at + 4 * x.0) (2 ^ 32)) fault.Count a.1 in
    let first = and_parts (not (x.0 == 0) && nat_le (sum + x.0) 1048576) (nat_le (at + 4 * x.0) (2 ^ 32)) right in
    (a.0, leb-true (sum + x.0) 1048576 (and_parts (not (x.0 == 0)) (nat_le (sum + x.0) 1048576) first.0).1)

pub span_len : (size from sum : ℕ) (bytes : List ℕ) (x : Span × List ℕ) → span_field size from sum bytes ≡ Ok x →
    (length bytes ≡ 8 + 4 * length x.0.words + length x.1) × (sum + length x.0.words ≤ 1048576)
unfolding span_field
span_len size from sum bytes x e =
    let a = bind_ok (span_address_field size from bytes) (λ at. span_length_field size at.0 sum at.1 >>= λ count.
    words_field size count.0 count.1 >>= λ words. Ok (span at.0 words.0, words.1)) x e in
    let b =
    bind_ok (span_length_field size a.0.0 sum a.0.1)
    (λ count. words_field size count.0 count.1 >>= λ words. Ok (span a.0.0 words.0, words.1)) x a.2 in
    let c = bind_ok (words_field size b.0.0 b.0.1) (λ words. Ok (span a.0.0 words.0, words.1)) x b.2 in
    let at = span_address_len size from bytes a.0 a.1 in
    let count = span_length_len size a.0.0 sum a.0.1 b.0 b.1 in
    let words = words_len size b.0.0 b.0.1 c.0 c.1 in
    subst (λ (y : Span × List ℕ). (length bytes ≡ 8 + 4 * length y.0.words + length y.1) × (sum + length y.0.words ≤ 1048576))
    {x = (span a.0.0 c.0.0, c.0.1)} (ok_is (span a.0.0 c.0.0, c.0.1) x c.2)
    (omega (arith, at, count.0, words.0, words.1), omega (arith, count.1, words.1))

pub spans_len : (size count from sum : ℕ) (bytes : List ℕ) (x : List Span × List ℕ) → sum ≤ 1048576 →
    spans_field size count from sum bytes ≡ Ok x → length bytes + 4 * sum ≤ 8 * count + 4 * 1048576 + length x.1
unfolding spans_field
spans_len size zero from sum bytes x few e =
    subst (λ (y : List Span × List ℕ). length bytes + 4 * sum ≤ 8 * 0 + 4 * 1048576 + length y.1) (ok_is ([], bytes) x e)
    (omega (arith, few))
spans_len size (suc count) from sum bytes x few e =
    let a =
    bind_ok (span_field size from sum bytes)
    (λ s. spans_field size count (end_of s.0 + 1) (sum + length s.0.words) s.1 >>= λ others. Ok (s.0 ∷ others.0, others.1)) x e in
    let b =
    bind_ok (spans_field size count (end_of a.0.0 + 1) (sum + length a.0.0.words) a.0.1)
    (λ others. Ok (a.0.0 ∷ others.0, others.1)) x a.2 in
    let one = span_len size from sum bytes a.0 a.1 in
    let rest = spans_len size count (end_of a.0.0 + 1) (sum + length a.0.0.words) a.0.1 b.0 one.1 b.1 in
    subst (λ (y : List Span × List ℕ). length bytes + 4 * sum ≤ 8 * suc count + 4 * 1048576 + length y.1) {x = (a.0.0 ∷ b.0.0, b.0.1)}
    (ok_is (a.0.0 ∷ b.0.0, b.0.1) x b.2)
    (omega (arith, one.0, rest))

pub entry_len : (size : ℕ) (spans : List Span) (bytes : List ℕ) (x : ℕ × List ℕ) → entry_field size spans bytes ≡ Ok x →
    length bytes ≡ 4 + length x.1
unfolding entry_field
entry_len size spans bytes x e = (judged_len (entry_fault spans) size bytes x e).0

-- the words and where they are
abbrev pub most_placed : ℕ
most_placed = 4 + 8 * 4096 + 4 * 1048576 + 4

pub placed_len : (form : ProgramForm) (size : ℕ) (bytes : List ℕ) (x : RiscProgram × List ℕ) → placed_field form size bytes ≡ Ok x →
    length bytes ≤ most_placed + length x.1
unfolding based_field spanned_field
placed_len (Based layout) size bytes x e =
    let a = bind_ok (base_field size bytes) (λ base. word_count_field size base.0 base.1 >>= λ count.
    words_field size count.0 count.1 >>= λ words. Ok (one_span base.0 words.0 [], words.1)) x e in
    let b =
    bind_ok (word_count_field size a.0.0 a.0.1)
    (λ count. words_field size count.0 count.1 >>= λ words. Ok (one_span a.0.0 words.0 [], words.1)) x a.2 in
    let c = bind_ok (words_field size b.0.0 b.0.1) (λ words. Ok (one_span a.0.0 words.0 [], words.1)) x b.2 in
    let base = base_len size bytes a.0 a.1 in
    let count = word_count_len size a.0.0 a.0.1 b.0 b.1 in
    let words = words_len size b.0.0 b.0.1 c.0 c.1 in
    subst (λ (y : RiscProgram × List ℕ). length bytes ≤ most_placed + length y.1) {x = (one_span a.0.0 c.0.0 [], c.0.1)}
    (ok_is (one_span a.0.0 c.0.0 [], c.0.1) x c.2) (omega (arith, base, count.0, count.1, words.0))
placed_len Spanned size bytes x e =
    let a = bind_ok (span_number_field size bytes) (λ count. spans_field size count.0 0 0 count.1 >>= λ spans.
    entry_field size spans.0 spans.1 >>= λ entry. Ok (without_grants entry.0 spans.0, entry.1)) x e in
    let b =
    bind_ok (spans_field size a.0.0 0 0 a.0.1)
    (λ spans. entry_field size spans.0 spans.1 >>= λ entry. Ok (without_grants entry.0 spans.0, entry.1)) x a.2 in
    let c = bind_ok (entry_field size b.0.0 b.0.1) (λ entry. Ok (without_grants entry.0 b.0.0, entry.1)) x b.2 in
    let count = span_number_len size bytes a.0 a.1 in
    let spans = spans_len size a.0.0 0 0 a.0.1 b.0 (omega arith) b.1 in
    let entry = entry_len size b.0.0 b.0.1 c.0 c.1 in
    subst (λ (y : RiscProgram × List ℕ). length bytes ≤ most_placed + length y.1) {x = (without_grants c.0.0 b.0.0, c.0.1)}
    (ok_is (without_grants c.0.0 b.0.0, c.0.1) x c.2)
    (omega (arith, count.0, count.1, spans, entry))

-- ---- the chunks

page_len : (size : ℕ) (program : RiscProgram) (from : ℕ) (bytes : List ℕ) (x : Chunk × List ℕ) → page_field size program from bytes ≡ Ok x →
    length bytes ≤ 8 + length x.1
unfolding page_field
page_len size program from bytes x e =
    let a =
    bind_ok (number_field size bytes) (λ at. judged (page_fault program from at.0) size bytes >>= λ _. Ok (chunk at.0 4096, at.1)) x e in
    let b = bind_ok (judged (page_fault program from a.0.0) size bytes) (λ _. Ok (chunk a.0.0 4096, a.0.1)) x a.2 in
    let same : (chunk a.0.0 4096, a.0.1) ≡ x = ok_is (chunk a.0.0 4096, a.0.1) x b.2 in
    let one = number_len size bytes a.0 a.1 in
    subst (λ (y : Chunk × List ℕ). length bytes ≤ 8 + length y.1) same (omega (arith, one))

long_chunk_len : (size : ℕ) (program : RiscProgram) (from sum : ℕ) (bytes : List ℕ) (x : Chunk × List ℕ) →
    long_chunk_field size program from sum bytes ≡ Ok x → length bytes ≤ 8 + length x.1
long_chunk_len size program from sum bytes x e =
    let c = long_chunk_parts size program from sum bytes x e in
    let one = number_len size bytes c.at c.at_read in
    let two = number_len size c.at.1 c.len c.len_read in
    subst (λ (y : Chunk × List ℕ). length bytes ≤ 8 + length y.1) c.is (omega (arith, one, two))

pub chunk_len : (layout : Layout) (size : ℕ) (program : RiscProgram) (from sum : ℕ) (bytes : List ℕ) (x : Chunk × List ℕ) →
    chunk_field layout size program from sum bytes ≡ Ok x → length bytes ≤ 8 + length x.1
chunk_len Paged size program from sum bytes x e = page_len size program from bytes x e
chunk_len Chunked size program from sum bytes x e = long_chunk_len size program from sum bytes x e

pub chunks_len : (layout : Layout) (size : ℕ) (program : RiscProgram) (count from sum : ℕ) (bytes : List ℕ) (x : List Chunk × List ℕ) →
    chunks_field layout size program count from sum bytes ≡ Ok x →
    length bytes ≤ 8 * count + length x.1
unfolding chunks_field
chunks_len layout size program zero from sum bytes x e =
    subst (λ (y : List Chunk × List ℕ). length bytes ≤ 8 * 0 + length y.1) (ok_is ([], bytes) x e) (omega arith)
chunks_len layout size program (suc count) from sum bytes x e =
    let a = bind_ok (chunk_field layout size program from sum bytes)
    (λ c. chunks_field layout size program count (c.0.at + c.0.len) (sum + c.0.len) c.1 >>= λ others. Ok (c.0 ∷ others.0, others.1)) x e in
    let b =
    bind_ok (chunks_field layout size program count (a.0.0.at + a.0.0.len) (sum + a.0.0.len) a.0.1)
    (λ others. Ok (a.0.0 ∷ others.0, others.1)) x a.2 in
    let one = chunk_len layout size program from sum bytes a.0 a.1 in
    let rest = chunks_len layout size program count (a.0.0.at + a.0.0.len) (sum + a.0.0.len) a.0.1 b.0 b.1 in
    subst (λ (y : List Chunk × List ℕ). length bytes ≤ 8 * suc count + length y.1) {x = (a.0.0 ∷ b.0.0, b.0.1)}
    (ok_is (a.0.0 ∷ b.0.0, b.0.1) x b.2) (omega (arith, one, rest))
