-- Beginnings of which each field is right, though no good file begins so.
use Rattle.std.proofs.Common.{◌≡◌, ℕ, ◌+◌, ◌-◌, ◌/◌, ◌%◌, ◌^◌, ◌<◌, ◌≤◌, Bool, true, false, cond, not, ◌&&◌, List, [], ◌∷◌, ◌++◌, drop}
use Rattle.std.proofs.Common.{length, None, Some, Result, Ok, Err, refl, sym, ap, subst, ◌∙◌, arith, eq-eqb}
use Rattle.std.specs.Prelude.{nat_le, nat_lt, slice_index, ◌==◌}
use Rattle.std.proofs.lemmas.Bool.{and_parts, eqb-true, leb-true, ltb-true}
use Rattle.std.proofs.lemmas.List.Elements.{All-cons, All-nil}
use Rattle.page_table.specs.Grants.{AreRising, Chunk, chunk}
use Rattle.machine_model.specs.Paths.{begins_at, IsProgram, RiscProgram, Span, is_there, one_span, span, stands_in, word_among}
use Rattle.machine_model.proofs.BeforeTurns.{three_parts}
use Rattle.capture_file.specs.declared.FileFault.{FileFault}
use Rattle.capture_file.specs.declared.FileKind.TheVariants as fault
use Rattle.capture_file.specs.declared.program.Layout.TheVariants.{Chunked, Paged}
use Rattle.capture_file.specs.declared.program.ProgramForm.TheVariants.{Based, Spanned}
use Rattle.capture_file.specs.declared.program.ProgramFile.{ProgramFile}
use Rattle.capture_file.specs.Programs.{◌>>=◌, Field, HasProgram, base_field, based_field, chunk_count_field, chunks_field, entry_fault}
use Rattle.capture_file.specs.Programs.{entry_field, fill_field, form_field, page_field, program_in, program_of}
use Rattle.capture_file.specs.Programs.{span_address_field, span_field, span_length_field, span_number_field, spanned_field, spans_field}
use Rattle.capture_file.specs.Programs.{with_grants, without_grants, word_count_field, words_field}
use Rattle.capture_file.proofs.Chunks.{bind_ok, ok_is, some_fault}
use Rattle.capture_file.proofs.Spelled.{spelled_again, with_chunks, with_placed, words_field_again}
use Rattle.capture_file.proofs.Unspelled.{judged_number}
use Rattle.file_law.specs.ProgramBeginnings.{BeginsFile}
use Rattle.file_law.specs.WorkedPrograms.{highest_first, one_word_alone, without_chunks}

abbrev read : Result ProgramFile FileFault → Bool
read (Ok file) = true
read (Err found) = false

-- a good file is read
good_is_read : (bytes : List ℕ) (held : HasProgram bytes) → program_of bytes ≡ Ok held.0
good_is_read bytes held = let is = held.1 in ap program_of is.parts ∙ spelled_again held.0.program held.0.fill is.made

filled_is_not_read : (n fill : ℕ) (more : List ℕ) → read (program_in n (without_chunks ++ fill ∷ more)) ≡ false
unfolding program_in form_field based_field base_field word_count_field chunk_count_field chunks_field fill_field
filled_is_not_read n fill more =
    ap (λ (r : Field (List ℕ)). read ((r >>= λ words. Ok (one_span 0 words.0 [], words.1)) >>= λ x. with_placed n (Based Chunked) x))
    (words_field_again n [] (0 ∷ 0 ∷ 0 ∷ 0 ∷ fill ∷ more) (All-nil (λ (word : ℕ). word < 2 ^ 32)))

none_is_read : (more : List ℕ) → read (program_of (without_chunks ++ more)) ≡ false
unfolding program_in form_field based_field base_field word_count_field words_field chunk_count_field chunks_field fill_field
none_is_read [] = refl
none_is_read (fill ∷ more) = filled_is_not_read (length (without_chunks ++ fill ∷ more)) fill more

pub none_without_chunks : BeginsFile without_chunks → ⊥
none_without_chunks begins =
    let no : false ≡ true = sym (none_is_read begins.0) ∙ ap read (good_is_read (without_chunks ++ begins.0) begins.1) in cc

-- ---- a page behind the highest

abbrev no_words : RiscProgram
no_words = one_span 0 [] []

abbrev highest : Chunk
highest = chunk 4294963200 4096

second_behind : (n : ℕ) (more : List ℕ) (x : List Chunk × List ℕ) → chunks_field Paged n no_words 1 4294967296 4096 more ≡ Ok x →
    (c : Chunk) × (x.0 ≡ c ∷ [])
unfolding chunks_field
second_behind n more x e =
    let a = bind_ok (page_field n no_words 4294967296 more)
    (λ c. chunks_field Paged n no_words 0 (c.0.at + c.0.len) (4096 + c.0.len) c.1 >>= λ others. Ok (c.0 ∷ others.0, others.1)) x e in (
      a.0.0,
      ap (λ (y : List Chunk × List ℕ). y.0) (sym (ok_is (a.0.0 ∷ [], a.0.1) x a.2)),
    )

two_listed : (n : ℕ) (more : List ℕ) (x : List Chunk × List ℕ) → chunks_field Paged n no_words 2 0 0 (0 ∷ 240 ∷ 255 ∷ 255 ∷ more) ≡ Ok x →
    (c : Chunk) × (x.0 ≡ highest ∷ c ∷ [])
unfolding chunks_field page_field
two_listed n more x e =
    let a = bind_ok (chunks_field Paged n no_words 1 4294967296 4096 more) (λ others. Ok (highest ∷ others.0, others.1)) x e in
    let b = second_behind n more a.0 a.1 in (
      b.0,
      ap (λ (y : List Chunk × List ℕ). y.0) (sym (ok_is (highest ∷ a.0.0, a.0.1) x a.2)) ∙ ap (λ (cs : List Chunk). highest ∷ cs) b.1,
    )

grants_are : (n : ℕ) (x : List Chunk × List ℕ) (file : ProgramFile) → with_chunks n (Based Paged) no_words x ≡ Ok file →
    file.program.grants ≡ x.0
grants_are n x file e =
    let a = bind_ok (fill_field (Based Paged) n x.0 x.1) (λ fill. Ok (record { program = with_grants no_words x.0; fill = fill })) file e in
    ap (λ (f : ProgramFile). f.program.grants) (sym (ok_is (record { program = with_grants no_words x.0; fill = a.0 }) file a.2))

never_rising : (c : Chunk) → AreRising 0 (highest ∷ c ∷ []) → ⊥
never_rising c rising =
    let above : 4294967296 ≤ c.at = rising.2.0 in
    let is = rising.2.1 in
    let some = is.some in
    let ends = is.ends in
    omega (arith, above, some, ends)

read_with_words : (n : ℕ) (more : List ℕ) →
    program_in n (highest_first ++ more) ≡ with_placed n (Based Paged) (no_words, 2 ∷ 0 ∷ 0 ∷ 0 ∷ 0 ∷ 240 ∷ 255 ∷ 255 ∷ more)
unfolding program_in form_field based_field base_field word_count_field
read_with_words n more =
    ap (λ (r : Field (List ℕ)). (r >>= λ words. Ok (one_span 0 words.0 [], words.1)) >>= λ x. with_placed n (Based Paged) x)
    (words_field_again n [] (2 ∷ 0 ∷ 0 ∷ 0 ∷ 0 ∷ 240 ∷ 255 ∷ 255 ∷ more) (All-nil (λ (word : ℕ). word < 2 ^ 32)))

no_program : (n : ℕ) (more : List ℕ) (file : ProgramFile) →
    with_placed n (Based Paged) (no_words, 2 ∷ 0 ∷ 0 ∷ 0 ∷ 0 ∷ 240 ∷ 255 ∷ 255 ∷ more) ≡ Ok file → IsProgram file.program → ⊥
unfolding chunk_count_field
no_program n more file e made =
    let a =
    bind_ok (chunks_field Paged n no_words 2 0 0 (0 ∷ 240 ∷ 255 ∷ 255 ∷ more)) (λ x. with_chunks n (Based Paged) no_words x) file e in
    let two = two_listed n more a.0 a.1 in
    never_rising two.0 (subst (AreRising 0) (grants_are n a.0 file a.2 ∙ two.1) made.grants.rising)

pub none_behind_the_highest : BeginsFile highest_first → ⊥
none_behind_the_highest begins =
    let bytes : List ℕ = highest_first ++ begins.0 in
    no_program (length bytes) begins.0 begins.1.0
    (sym (read_with_words (length bytes) begins.0) ∙ good_is_read bytes begins.1) begins.1.1.made

-- ---- one word alone

abbrev one_word : Span
one_word = span 4096 (0 ∷ [])

never_entry : (entry : ℕ) → entry_fault (one_word ∷ []) entry ≡ None → ⊥
never_entry entry e = by_test (stands_in one_word entry) refl right.0
  where
    right : (is_there (word_among (one_word ∷ []) entry) ≡ true) × (not (begins_at entry (one_word ∷ [])) ≡ true)
    right =
        and_parts (is_there (word_among (one_word ∷ []) entry)) (not (begins_at entry (one_word ∷ [])))
        (some_fault (is_there (word_among (one_word ∷ []) entry) && not (begins_at entry (one_word ∷ []))) fault.Entry e)

    by_test : (b : Bool) → stands_in one_word entry ≡ b →
        is_there (cond b (Some (slice_index (0 ∷ []) ((entry - 4096) / 4))) None) ≡ true → ⊥
    by_test true stands there =
        let parts = three_parts (nat_le 4096 entry) ((entry - 4096) % 4 == 0) (nat_lt ((entry - 4096) / 4) 1) stands in
        let above : 4096 ≤ entry = leb-true 4096 entry parts.0 in
        let even : (entry - 4096) % 4 ≡ 0 = eqb-true ((entry - 4096) % 4) 0 parts.1 in
        let one : (entry - 4096) / 4 < 1 = ltb-true ((entry - 4096) / 4) 1 parts.2 in
        let same : 4096 ≡ entry = omega (arith, above, even, one) in
        let no : false ≡ true = sym (ap not (eq-eqb 4096 entry same)) ∙ right.1 in
        cc
    by_test false stands there = absurd (cc)

abbrev as_span : List ℕ × List ℕ → Field Span
as_span words = Ok (span 4096 words.0, words.1)

abbrev as_spans : Span × List ℕ → Field (List Span)
as_spans s = Ok (s.0 ∷ [], s.1)

abbrev with_entry : ℕ → List Span × List ℕ → Field RiscProgram
with_entry n spans = entry_field n spans.0 spans.1 >>= λ entry. Ok (without_grants entry.0 spans.0, entry.1)

entry_alone : (n : ℕ) (more : List ℕ) (x : RiscProgram × List ℕ) → spanned_field n (drop 4 one_word_alone ++ more) ≡ Ok x →
    (entry : ℕ × List ℕ) × (entry_field n (one_word ∷ []) more ≡ Ok entry)
unfolding spanned_field span_number_field spans_field span_field span_address_field span_length_field
entry_alone n more x e =
    let words =
    words_field_again n (0 ∷ []) more (All-cons (λ (word : ℕ). word < 2 ^ 32) 0 [] (omega arith) (All-nil (λ (word : ℕ). word < 2 ^ 32))) in
    let is : spanned_field n (drop 4 one_word_alone ++ more) ≡ with_entry n (one_word ∷ [], more) =
    ap (λ (r : Field (List ℕ)). ((r >>= as_span) >>= as_spans) >>= with_entry n) words in
    let a = bind_ok (entry_field n (one_word ∷ []) more) (λ entry. Ok (without_grants entry.0 (one_word ∷ []), entry.1)) x (sym is ∙ e) in
    (a.0, a.1)

pub none_with_one_word : BeginsFile one_word_alone → ⊥
unfolding program_in form_field entry_field
none_with_one_word begins =
    let bytes : List ℕ = one_word_alone ++ begins.0 in
    let n : ℕ = length bytes in
    let a =
    bind_ok (spanned_field n (drop 4 one_word_alone ++ begins.0)) (λ placed. with_placed n Spanned placed) begins.1.0
    (good_is_read bytes begins.1) in
    let entry = entry_alone n begins.0 a.0 a.1 in
    never_entry entry.0.0 (judged_number (entry_fault (one_word ∷ [])) n begins.0 entry.0 entry.1).1
