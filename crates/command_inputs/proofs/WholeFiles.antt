-- A program file is read up to one byte beyond the longest: what is read shows what the whole file is.
use Rattle.std.proofs.Common.{◌≡◌, ℕ, zero, suc, ◌+◌, ◌-◌, ◌*◌, ◌<◌, ◌≤◌, ◌⊎◌, inl, inr, Bool, true, false, cond, List, [], ◌∷◌, ◌++◌}
use Rattle.std.proofs.Common.{length, take, drop, Option, Some, None, Result, Ok, Err, refl, sym, ap, ◌∙◌, arith, length-append}
use Rattle.std.specs.Prelude.{nat_le}
use Rattle.std.proofs.lemmas.Bool.{le-leb, leb-true, leb-false}
use Rattle.std.proofs.lemmas.List.{drop-append-le, length-take, take_all, take-append-drop}
use Rattle.page_table.specs.Grants.{Chunk}
use Rattle.machine_model.specs.Paths.{RiscProgram, end_of, one_span, span}
use Rattle.capture_file.specs.declared.FileKind.{FileKind}
use Rattle.capture_file.specs.declared.FileKind.TheVariants as fault
use Rattle.capture_file.specs.declared.FileFault.{FileFault}
use Rattle.capture_file.specs.declared.program.Layout.{Layout}
use Rattle.capture_file.specs.declared.program.Layout.TheVariants.{Paged, Chunked}
use Rattle.capture_file.specs.declared.program.ProgramForm.{ProgramForm}
use Rattle.capture_file.specs.declared.program.ProgramForm.TheVariants.{Based, Spanned}
use Rattle.capture_file.specs.Streams.{fault_at}
use Rattle.capture_file.specs.Programs as file
use Rattle.capture_file.specs.Programs.{Field, ◌>>=◌, number_field, form_field, form_or_magic, base_field, word_count_field, words_in}
use Rattle.capture_file.specs.Programs.{words_field, chunk_count_field, page_field, long_chunk_field}
use Rattle.capture_file.specs.Programs.{chunk_field, chunks_field, fill_field, program_of, without_grants, base_fault, word_count_fault}
use Rattle.capture_file.specs.Programs.{chunk_count_fault, fill_fault, judged, wrong, nothing_after}
use Rattle.capture_file.specs.Programs.{based_field, cut, entry_fault, entry_field, layout_of, placed_field, span_address_fault}
use Rattle.capture_file.specs.Programs.{span_address_field, span_field, span_length_fault, span_length_field, span_number_fault}
use Rattle.capture_file.specs.Programs.{span_number_field, spanned_field, spans_field, with_grants}
use Rattle.capture_file.proofs.Spelled.{with_form, with_placed, with_chunk_count, with_chunks, field_by_field}
use Rattle.command_inputs.specs.Programs.{longest_program}
use Rattle.command_inputs.proofs.Lengths.{base_len, chunk_count_len, chunk_len, chunks_len, form_len, most_placed, placed_len}
use Rattle.command_inputs.proofs.Lengths.{span_address_len, span_len, span_length_len, span_number_len, spans_len, word_count_len}

-- A file of `size` bytes, and the same with more bytes at its end.
module _ (size : ℕ) (more : List ℕ) where
  abbrev longer : ℕ
  longer = size + length more

  -- a field that has all its bytes is the same in both, a value or a fault
  abbrev Same : {A : Type 0} → Field A → Field A → Type 0
  Same {A = A} x y =
      ((p : A × List ℕ) × (x ≡ Ok p) × (y ≡ Ok (p.0, p.1 ++ more)))
      ⊎ ((e : FileFault) × (x ≡ Err e) × (y ≡ Err e))

  same_place : (bytes : List ℕ) (kind : FileKind) → wrong size bytes kind ≡ wrong longer (bytes ++ more) kind
  same_place bytes kind =
      let len = length-append bytes more in
      let place : size - length bytes ≡ longer - length (bytes ++ more) = omega (arith, len) in
      ap (λ at. fault_at at kind) place

  then_same : {A B : Type 0} (x y : Field A) (f g : A × List ℕ → Result B FileFault) → Same x y →
      ((p : A × List ℕ) → x ≡ Ok p → f p ≡ g (p.0, p.1 ++ more)) → (x >>= f) ≡ (y >>= g)
  then_same x y f g (inl (p, e, d)) h = ap (λ r. r >>= f) e ∙ h p e ∙ sym (ap (λ r. r >>= g) d)
  then_same x y f g (inr (e, a, b)) h = ap (λ r. r >>= f) a ∙ sym (ap (λ r. r >>= g) b)

  -- a value that was checked
  judged_same : {A : Type 0} (kind : Option FileKind) (bytes : List ℕ) (value : A) (rest : List ℕ) →
      Same (judged kind size bytes >>= λ _. Ok (value, rest)) (judged kind longer (bytes ++ more) >>= λ _. Ok (value, rest ++ more))
  judged_same None bytes value rest = inl ((value, rest), refl, refl)
  judged_same (Some kind) bytes value rest = inr (wrong size bytes kind, refl, ap Err (sym (same_place bytes kind)))

  number_same : (bytes : List ℕ) → 4 ≤ length bytes → Same (number_field size bytes) (number_field longer (bytes ++ more))
  number_same [] long = absurd (omega arith)
  number_same (a ∷ []) long = absurd (omega arith)
  number_same (a ∷ b ∷ []) long = absurd (omega arith)
  number_same (a ∷ b ∷ c ∷ []) long = absurd (omega arith)
  number_same (a ∷ b ∷ c ∷ d ∷ rest) long = inl (_, refl, refl)

  judged_number_same : (kind : ℕ → Option FileKind) (bytes : List ℕ) → 4 ≤ length bytes →
      Same (number_field size bytes >>= λ y. judged (kind y.0) size bytes >>= λ _. Ok y)
      (number_field longer (bytes ++ more) >>= λ y. judged (kind y.0) longer (bytes ++ more) >>= λ _. Ok y)
  judged_number_same kind [] long = absurd (omega arith)
  judged_number_same kind (a ∷ []) long = absurd (omega arith)
  judged_number_same kind (a ∷ b ∷ []) long = absurd (omega arith)
  judged_number_same kind (a ∷ b ∷ c ∷ []) long = absurd (omega arith)
  judged_number_same kind (a ∷ b ∷ c ∷ d ∷ rest) long = judged_same _ (a ∷ b ∷ c ∷ d ∷ rest) _ rest

  magic_same : (form : Option ProgramForm) (bytes rest : List ℕ) →
      Same (form_or_magic size bytes form rest) (form_or_magic longer (bytes ++ more) form (rest ++ more))
  magic_same None bytes rest = inr (wrong size bytes fault.Magic, refl, ap Err (sym (same_place bytes fault.Magic)))
  magic_same (Some form) bytes rest = inl ((form, rest), refl, refl)

  form_same : (bytes : List ℕ) → 4 ≤ length bytes → Same (form_field size bytes) (form_field longer (bytes ++ more))
  unfolding form_field
  form_same [] long = absurd (omega arith)
  form_same (a ∷ []) long = absurd (omega arith)
  form_same (a ∷ b ∷ []) long = absurd (omega arith)
  form_same (a ∷ b ∷ c ∷ []) long = absurd (omega arith)
  form_same (a ∷ b ∷ c ∷ d ∷ rest) long = magic_same _ (a ∷ b ∷ c ∷ d ∷ rest) rest

  base_same : (bytes : List ℕ) → 4 ≤ length bytes → Same (base_field size bytes) (base_field longer (bytes ++ more))
  unfolding base_field
  base_same bytes long = judged_number_same base_fault bytes long

  word_count_same : (base : ℕ) (bytes : List ℕ) → 4 ≤ length bytes →
      Same (word_count_field size base bytes) (word_count_field longer base (bytes ++ more))
  unfolding word_count_field
  word_count_same base bytes long = judged_number_same (word_count_fault base) bytes long

  chunk_count_same : (bytes : List ℕ) → 4 ≤ length bytes → Same (chunk_count_field size bytes) (chunk_count_field longer (bytes ++ more))
  unfolding chunk_count_field
  chunk_count_same bytes long = judged_number_same chunk_count_fault bytes long

  -- the words
  words_in_more : (count : ℕ) (bytes : List ℕ) → 4 * count ≤ length bytes → words_in count (bytes ++ more) ≡ words_in count bytes
  words_in_more zero bytes long = refl
  words_in_more (suc count) [] long = absurd (omega arith)
  words_in_more (suc count) (a ∷ []) long = absurd (omega arith)
  words_in_more (suc count) (a ∷ b ∷ []) long = absurd (omega arith)
  words_in_more (suc count) (a ∷ b ∷ c ∷ []) long = absurd (omega arith)
  words_in_more (suc count) (a ∷ b ∷ c ∷ d ∷ rest) long = let others = words_in_more count rest (omega arith) in rw others refl

  words_same : (count : ℕ) (bytes : List ℕ) → 4 * count ≤ length bytes →
      Same (words_field size count bytes) (words_field longer count (bytes ++ more))
  unfolding words_field
  words_same count bytes long =
      let len = length-append bytes more in
      let one : nat_le (4 * count) (length bytes) ≡ true = le-leb (4 * count) (length bytes) long in
      let two : nat_le (4 * count) (length (bytes ++ more)) ≡ true =
      le-leb (4 * count) (length (bytes ++ more)) (omega (arith, len, long)) in
      inl (
        (words_in count bytes, drop (4 * count) bytes),
        ap (λ b. cond b (Ok (words_in count bytes, drop (4 * count) bytes)) (Err (cut size))) one,
        ap (λ b. cond b (Ok (words_in count (bytes ++ more), drop (4 * count) (bytes ++ more))) (Err (cut longer))) two
            ∙ ap (λ ws. Ok (ws, drop (4 * count) (bytes ++ more))) (words_in_more count bytes long)
            ∙ ap (λ rest. Ok (words_in count bytes, rest)) (drop-append-le (4 * count) bytes more long),
      )

  same_by : {A : Type 0} {x y v w : Field A} → v ≡ x → w ≡ y → Same x y → Same v w
  same_by e d (inl (p, a, b)) = inl (p, e ∙ a, d ∙ b)
  same_by e d (inr (f, a, b)) = inr (f, e ∙ a, d ∙ b)

  -- a field, and another behind it
  bind_same : {A B : Type 0} (x y : Field A) (f g : A × List ℕ → Field B) → Same x y →
      ((p : A × List ℕ) → x ≡ Ok p → Same (f p) (g (p.0, p.1 ++ more))) → Same (x >>= f) (y >>= g)
  bind_same x y f g (inl (p, e, d)) h = same_by (ap (λ r. r >>= f) e) (ap (λ r. r >>= g) d) (h p e)
  bind_same x y f g (inr (w, e, d)) h = inr (w, ap (λ r. r >>= f) e, ap (λ r. r >>= g) d)

  -- the words and where they are
  span_same : (from sum : ℕ) (bytes : List ℕ) → sum ≤ 1048576 → 8 + 4 * 1048576 ≤ length bytes + 4 * sum →
      Same (span_field size from sum bytes) (span_field longer from sum (bytes ++ more))
  unfolding span_field span_address_field span_length_field
  span_same from sum bytes few long =
      bind_same (span_address_field size from bytes) (span_address_field longer from (bytes ++ more))
      (λ at. span_length_field size at.0 sum at.1 >>= λ count. words_field size count.0 count.1
      >>= λ words. Ok (span at.0 words.0, words.1))
      (λ at. span_length_field longer at.0 sum at.1 >>= λ count. words_field longer count.0 count.1
      >>= λ words. Ok (span at.0 words.0, words.1)) (judged_number_same (span_address_fault from) bytes (omega (arith, few, long)))
      (λ at e.
      let at_len = span_address_len size from bytes at e in
      bind_same (span_length_field size at.0 sum at.1) (span_length_field longer at.0 sum (at.1 ++ more))
      (λ count. words_field size count.0 count.1 >>= λ words. Ok (span at.0 words.0, words.1))
      (λ count. words_field longer count.0 count.1 >>= λ words. Ok (span at.0 words.0, words.1))
      (judged_number_same (span_length_fault at.0 sum) at.1 (omega (arith, few, long, at_len)))
      (λ count d.
      let count_len = span_length_len size at.0 sum at.1 count d in
      bind_same (words_field size count.0 count.1) (words_field longer count.0 (count.1 ++ more)) (λ words. Ok (span at.0 words.0, words.1))
      (λ words. Ok (span at.0 words.0, words.1))
      (words_same count.0 count.1 (omega (arith, long, at_len, count_len.0, count_len.1))) (λ words w. inl (
        (span at.0 words.0, words.1),
        refl,
        refl,
      ))))

  spans_same : (count from sum : ℕ) (bytes : List ℕ) → sum ≤ 1048576 → 8 * count + 4 * 1048576 ≤ length bytes + 4 * sum →
      Same (spans_field size count from sum bytes) (spans_field longer count from sum (bytes ++ more))
  unfolding spans_field
  spans_same zero from sum bytes few long = inl (([], bytes), refl, refl)
  spans_same (suc count) from sum bytes few long =
      bind_same (span_field size from sum bytes) (span_field longer from sum (bytes ++ more))
      (λ s. spans_field size count (end_of s.0 + 1) (sum + length s.0.words) s.1 >>= λ others. Ok (s.0 ∷ others.0, others.1))
      (λ s. spans_field longer count (end_of s.0 + 1) (sum + length s.0.words) s.1 >>= λ others. Ok (s.0 ∷ others.0, others.1))
      (span_same from sum bytes few (omega (arith, long)))
      (λ s e.
      let len = span_len size from sum bytes s e in
      bind_same (spans_field size count (end_of s.0 + 1) (sum + length s.0.words) s.1)
      (spans_field longer count (end_of s.0 + 1) (sum + length s.0.words) (s.1 ++ more))
      (λ others. Ok (s.0 ∷ others.0, others.1)) (λ others. Ok (s.0 ∷ others.0, others.1))
      (spans_same count (end_of s.0 + 1) (sum + length s.0.words) s.1 len.1 (omega (arith, long, len.0)))
      (λ others d. inl ((s.0 ∷ others.0, others.1), refl, refl)))

  placed_same : (form : ProgramForm) (bytes : List ℕ) → most_placed ≤ length bytes →
      Same (placed_field form size bytes) (placed_field form longer (bytes ++ more))
  unfolding based_field spanned_field span_number_field entry_field
  placed_same (Based layout) bytes long =
      bind_same (base_field size bytes) (base_field longer (bytes ++ more))
      (λ base. word_count_field size base.0 base.1 >>= λ count. words_field size count.0 count.1
      >>= λ words. Ok (one_span base.0 words.0 [], words.1))
      (λ base. word_count_field longer base.0 base.1 >>= λ count. words_field longer count.0 count.1
      >>= λ words. Ok (one_span base.0 words.0 [], words.1)) (base_same bytes (omega (arith, long)))
      (λ base e.
      let base_is = base_len size bytes base e in
      bind_same (word_count_field size base.0 base.1) (word_count_field longer base.0 (base.1 ++ more))
      (λ count. words_field size count.0 count.1 >>= λ words. Ok (one_span base.0 words.0 [], words.1))
      (λ count. words_field longer count.0 count.1 >>= λ words. Ok (one_span base.0 words.0 [], words.1))
      (word_count_same base.0 base.1 (omega (arith, long, base_is)))
      (λ count d.
      let count_is = word_count_len size base.0 base.1 count d in
      bind_same (words_field size count.0 count.1) (words_field longer count.0 (count.1 ++ more))
      (λ words. Ok (one_span base.0 words.0 [], words.1)) (λ words. Ok (one_span base.0 words.0 [], words.1))
      (words_same count.0 count.1 (omega (arith, long, base_is, count_is.0, count_is.1))) (λ words w. inl (
        (one_span base.0 words.0 [], words.1),
        refl,
        refl,
      ))))
  placed_same Spanned bytes long =
      bind_same (span_number_field size bytes) (span_number_field longer (bytes ++ more))
      (λ count. spans_field size count.0 0 0 count.1 >>= λ spans. entry_field size spans.0 spans.1
      >>= λ entry. Ok (without_grants entry.0 spans.0, entry.1))
      (λ count. spans_field longer count.0 0 0 count.1 >>= λ spans. entry_field longer spans.0 spans.1
      >>= λ entry. Ok (without_grants entry.0 spans.0, entry.1))
      (judged_number_same span_number_fault bytes (omega (arith, long)))
      (λ count e.
      let count_is = span_number_len size bytes count e in
      bind_same (spans_field size count.0 0 0 count.1) (spans_field longer count.0 0 0 (count.1 ++ more))
      (λ spans. entry_field size spans.0 spans.1 >>= λ entry. Ok (without_grants entry.0 spans.0, entry.1))
      (λ spans. entry_field longer spans.0 spans.1 >>= λ entry. Ok (without_grants entry.0 spans.0, entry.1))
      (spans_same count.0 0 0 count.1 (omega arith) (omega (arith, long, count_is.0, count_is.1)))
      (λ spans d.
      let spans_are = spans_len size count.0 0 0 count.1 spans (omega arith) d in
      bind_same (entry_field size spans.0 spans.1) (entry_field longer spans.0 (spans.1 ++ more))
      (λ entry. Ok (without_grants entry.0 spans.0, entry.1)) (λ entry. Ok (without_grants entry.0 spans.0, entry.1))
      (judged_number_same (entry_fault spans.0) spans.1 (omega (arith, long, count_is.0, count_is.1, spans_are))) (λ entry w. inl (
        (without_grants entry.0 spans.0, entry.1),
        refl,
        refl,
      ))))

  -- the chunks
  judged_then : {A : Type 0} (kind : Option FileKind) (bytes : List ℕ) (x y : Field A) → Same x y →
      Same (judged kind size bytes >>= λ _. x) (judged kind longer (bytes ++ more) >>= λ _. y)
  judged_then None bytes x y same = same
  judged_then (Some kind) bytes x y same = inr (wrong size bytes kind, refl, ap Err (sym (same_place bytes kind)))

  page_same : (program : RiscProgram) (from : ℕ) (bytes : List ℕ) → 8 ≤ length bytes →
      Same (page_field size program from bytes) (page_field longer program from (bytes ++ more))
  unfolding page_field
  page_same program from [] long = absurd (omega arith)
  page_same program from (a ∷ []) long = absurd (omega arith)
  page_same program from (a ∷ b ∷ []) long = absurd (omega arith)
  page_same program from (a ∷ b ∷ c ∷ []) long = absurd (omega arith)
  page_same program from (a ∷ b ∷ c ∷ d ∷ rest) long = judged_same _ (a ∷ b ∷ c ∷ d ∷ rest) _ rest

  long_chunk_same : (program : RiscProgram) (from sum : ℕ) (bytes : List ℕ) → 8 ≤ length bytes →
      Same (long_chunk_field size program from sum bytes) (long_chunk_field longer program from sum (bytes ++ more))
  unfolding long_chunk_field
  long_chunk_same program from sum [] long = absurd (omega arith)
  long_chunk_same program from sum (a ∷ []) long = absurd (omega arith)
  long_chunk_same program from sum (a ∷ b ∷ []) long = absurd (omega arith)
  long_chunk_same program from sum (a ∷ b ∷ c ∷ []) long = absurd (omega arith)
  long_chunk_same program from sum (a ∷ b ∷ c ∷ d ∷ []) long = absurd (omega arith)
  long_chunk_same program from sum (a ∷ b ∷ c ∷ d ∷ e ∷ []) long = absurd (omega arith)
  long_chunk_same program from sum (a ∷ b ∷ c ∷ d ∷ e ∷ f ∷ []) long = absurd (omega arith)
  long_chunk_same program from sum (a ∷ b ∷ c ∷ d ∷ e ∷ f ∷ g ∷ []) long = absurd (omega arith)
  long_chunk_same program from sum (a ∷ b ∷ c ∷ d ∷ e ∷ f ∷ g ∷ h ∷ rest) long =
      judged_then _ (a ∷ b ∷ c ∷ d ∷ e ∷ f ∷ g ∷ h ∷ rest) _ _ (judged_same _ (e ∷ f ∷ g ∷ h ∷ rest) _ rest)

  chunk_same : (layout : Layout) (program : RiscProgram) (from sum : ℕ) (bytes : List ℕ) → 8 ≤ length bytes →
      Same (chunk_field layout size program from sum bytes) (chunk_field layout longer program from sum (bytes ++ more))
  chunk_same Paged program from sum bytes long = page_same program from bytes long
  chunk_same Chunked program from sum bytes long = long_chunk_same program from sum bytes long

  with_first : (c : Chunk) (x y : Field (List Chunk)) → Same x y →
      Same (x >>= λ others. Ok (c ∷ others.0, others.1)) (y >>= λ others. Ok (c ∷ others.0, others.1))
  with_first c x y (inl (p, e, d)) =
      inl ((c ∷ p.0, p.1), ap (λ r. r >>= λ others. Ok (c ∷ others.0, others.1)) e, ap (λ r. r >>= λ others. Ok (c ∷ others.0, others.1)) d)
  with_first c x y (inr (w, e, d)) =
      inr (w, ap (λ r. r >>= λ others. Ok (c ∷ others.0, others.1)) e, ap (λ r. r >>= λ others. Ok (c ∷ others.0, others.1)) d)

  chunks_step : (layout : Layout) (program : RiscProgram) (count from sum : ℕ) (bytes : List ℕ) →
      ((p : Chunk × List ℕ) → chunk_field layout size program from sum bytes ≡ Ok p →
      Same (chunks_field layout size program count (p.0.at + p.0.len) (sum + p.0.len) p.1)
      (chunks_field layout longer program count (p.0.at + p.0.len) (sum + p.0.len) (p.1 ++ more))) →
      Same (chunk_field layout size program from sum bytes) (chunk_field layout longer program from sum (bytes ++ more)) →
      Same (chunks_field layout size program (suc count) from sum bytes)
      (chunks_field layout longer program (suc count) from sum (bytes ++ more))
  unfolding chunks_field
  chunks_step layout program count from sum bytes rest (inl (p, e, d)) =
      same_by
      (ap (λ r. r >>= λ c. chunks_field layout size program count (c.0.at + c.0.len) (sum + c.0.len) c.1
      >>= λ others. Ok (c.0 ∷ others.0, others.1)) e)
      (ap (λ r. r >>= λ c. chunks_field layout longer program count (c.0.at + c.0.len) (sum + c.0.len) c.1
      >>= λ others. Ok (c.0 ∷ others.0, others.1)) d)
      (with_first p.0
      (chunks_field layout size program count (p.0.at + p.0.len) (sum + p.0.len) p.1)
      (chunks_field layout longer program count (p.0.at + p.0.len) (sum + p.0.len) (p.1 ++ more))
      (rest p e))
  chunks_step layout program count from sum bytes rest (inr (w, e, d)) =
      inr (
        w,
        ap (λ r. r >>= λ c. chunks_field layout size program count (c.0.at + c.0.len) (sum + c.0.len) c.1
            >>= λ others. Ok (c.0 ∷ others.0, others.1)) e,
        ap (λ r. r >>= λ c. chunks_field layout longer program count (c.0.at + c.0.len) (sum + c.0.len) c.1
            >>= λ others. Ok (c.0 ∷ others.0, others.1)) d,
      )

  chunks_same : (layout : Layout) (program : RiscProgram) (count from sum : ℕ) (bytes : List ℕ) → 8 * count ≤ length bytes →
      Same (chunks_field layout size program count from sum bytes) (chunks_field layout longer program count from sum (bytes ++ more))
  unfolding chunks_field
  chunks_same layout program zero from sum bytes long = inl (([], bytes), refl, refl)
  chunks_same layout program (suc count) from sum bytes long =
      chunks_step layout program count from sum bytes
      (λ p e.
      let len = chunk_len layout size program from sum bytes p e in
      chunks_same layout program count (p.0.at + p.0.len) (sum + p.0.len) p.1 (omega (arith, len, long)))
      (chunk_same layout program from sum bytes (omega (arith, long)))

  -- the fill, with a byte after it
  filled_same : (kind : Option FileKind) (fill byte : ℕ) (rest : List ℕ) →
      (judged kind size (fill ∷ byte ∷ rest) >>= λ _. nothing_after size fill (byte ∷ rest))
      ≡ (judged kind longer (fill ∷ byte ∷ (rest ++ more)) >>= λ _. nothing_after longer fill (byte ∷ (rest ++ more)))
  filled_same None fill byte rest = ap Err (same_place (byte ∷ rest) fault.AfterEnd)
  filled_same (Some kind) fill byte rest = ap Err (same_place (fill ∷ byte ∷ rest) kind)

  fill_same : (form : ProgramForm) (chunks : List Chunk) (bytes : List ℕ) → 2 ≤ length bytes →
      fill_field form size chunks bytes ≡ fill_field form longer chunks (bytes ++ more)
  unfolding fill_field
  fill_same form chunks [] long = absurd (omega arith)
  fill_same form chunks (fill ∷ []) long = absurd (omega arith)
  fill_same form chunks (fill ∷ byte ∷ rest) long = filled_same (fill_fault form chunks) fill byte rest

  -- field by field, from the last
  after_chunks : (form : ProgramForm) (placed : RiscProgram) (x : List Chunk × List ℕ) → 2 ≤ length x.1 →
      with_chunks size form placed x ≡ with_chunks longer form placed (x.0, x.1 ++ more)
  after_chunks form placed x long =
      ap (λ r. r >>= λ fill. Ok (record { program = with_grants placed x.0; fill = fill })) (fill_same form x.0 x.1 long)

  after_chunk_count : (form : ProgramForm) (placed : RiscProgram) (x : ℕ × List ℕ) → 8 * x.0 + 2 ≤ length x.1 →
      with_chunk_count size form placed x ≡ with_chunk_count longer form placed (x.0, x.1 ++ more)
  after_chunk_count form placed x long =
      then_same (chunks_field (layout_of form) size placed x.0 0 0 x.1) (chunks_field (layout_of form) longer placed x.0 0 0 (x.1 ++ more))
      (λ y. with_chunks size form placed y) (λ y. with_chunks longer form placed y)
      (chunks_same (layout_of form) placed x.0 0 0 x.1 (omega (arith, long)))
      (λ y e. let len = chunks_len (layout_of form) size placed x.0 0 0 x.1 y e in after_chunks form placed y (omega (arith, len, long)))

  after_placed : (form : ProgramForm) (x : RiscProgram × List ℕ) → 4 + 8 * 4096 + 2 ≤ length x.1 →
      with_placed size form x ≡ with_placed longer form (x.0, x.1 ++ more)
  after_placed form x long =
      then_same (chunk_count_field size x.1) (chunk_count_field longer (x.1 ++ more)) (λ y. with_chunk_count size form x.0 y)
      (λ y. with_chunk_count longer form x.0 y)
      (chunk_count_same x.1 (omega (arith, long)))
      (λ y e. let len = chunk_count_len size x.1 y e in after_chunk_count form x.0 y (omega (arith, len.0, len.1, long)))

  after_form : (x : ProgramForm × List ℕ) → most_placed + 4 + 8 * 4096 + 2 ≤ length x.1 →
      with_form size x ≡ with_form longer (x.0, x.1 ++ more)
  after_form x long =
      then_same (placed_field x.0 size x.1) (placed_field x.0 longer (x.1 ++ more)) (λ y. with_placed size x.0 y)
      (λ y. with_placed longer x.0 y)
      (placed_same x.0 x.1 (omega (arith, long)))
      (λ y e. let len = placed_len x.0 size x.1 y e in after_placed x.0 y (omega (arith, len, long)))

  whole_same : (bytes : List ℕ) → longest_program < length bytes → file.program_in size bytes ≡ file.program_in longer (bytes ++ more)
  whole_same bytes long =
      field_by_field size bytes
      ∙ then_same (form_field size bytes) (form_field longer (bytes ++ more)) (λ x. with_form size x) (λ x. with_form longer x)
      (form_same bytes (omega (arith, long)))
      (λ x e. let len = form_len size bytes x e in after_form x (omega (arith, len, long)))
      ∙ sym (field_by_field longer (bytes ++ more))

-- what is read of a program file shows what the whole file is
pub read_is_whole : (bytes : List ℕ) → program_of (take (longest_program + 1) bytes) ≡ program_of bytes
read_is_whole bytes = by_length (nat_le (length bytes) longest_program) refl
  where
    by_length : (few : Bool) → nat_le (length bytes) longest_program ≡ few →
        program_of (take (longest_program + 1) bytes) ≡ program_of bytes
    by_length true is =
        let few = leb-true (length bytes) longest_program is in
        ap program_of (take_all (longest_program + 1) bytes (omega (arith, few)))
    by_length false is =
        let long = leb-false (length bytes) longest_program is in
        let front : List ℕ = take (longest_program + 1) bytes in
        let rest : List ℕ = drop (longest_program + 1) bytes in
        let len = length-take (longest_program + 1) bytes in
        whole_same (length front) rest front (omega (arith, len, long))
        ∙ ap (λ n. file.program_in n (front ++ rest)) (sym (length-append front rest))
        ∙ ap program_of (take-append-drop (longest_program + 1) bytes)
