-- Spans one after another, as loops go through them and read them.
use Rattle.std.proofs.Common.{◌≡◌, ℕ, zero, suc, ◌+◌, ◌-◌, ◌*◌, ◌/◌, ◌<◌, ◌≤◌, ◌⊎◌, inl, inr, Bool, true, false, cond, ◌||◌, List, [], ◌∷◌}
use Rattle.std.proofs.Common.{◌++◌, length, drop, get_or, Some, Result, Ok, Err, refl, sym, ap, subst, ◌∙◌, arith, append_assoc}
use Rattle.std.proofs.Common.{length-append}
use Rattle.std.proofs.lemmas.Bool.{le-leb}
use Rattle.std.proofs.lemmas.List.{append-nil, drop-drop, drop_more}
use Rattle.std.specs.Prelude.{IfErr, IsOk, nat_le, slice_index}
use Rattle.std.specs.List.{list_any}
use Rattle.byteorder.specs.Endian.{little_number}
use Rattle.page_table.specs.Grants.{Chunk}
use Rattle.machine_model.specs.Paths.{IsProgram, RiscProgram, Span, end_of, is_there, span, stands_in, word_among, words_of}
use Rattle.risc_verify.specs.Places.{with_word}
use Rattle.risc_verify.proofs.Cuts.{with_word-last}
use Rattle.capture_file.specs.declared.FileFault.{FileFault}
use Rattle.capture_file.specs.declared.program.ProgramError.{ProgramError}
use Rattle.capture_file.specs.declared.program.ProgramError.TheVariants.{File, Memory}
use Rattle.capture_file.specs.declared.program.ProgramForm.{ProgramForm}
use Rattle.capture_file.specs.declared.program.ProgramForm.TheVariants.{Based, Spanned}
use Rattle.capture_file.specs.declared.program.ProgramFile.{ProgramFile}
use Rattle.capture_file.specs.Programs.{◌>>=◌, Fails, Field, HasWords, chunk_count_field, chunks_field, cut, entry_field, fill_field}
use Rattle.capture_file.specs.Programs.{first_words_field, form_field, layout_of}
use Rattle.capture_file.specs.Programs.{passed, placed_field, program_in, program_of, span_address_field, span_field, span_length_field}
use Rattle.capture_file.specs.Programs.{span_number_fault, span_number_field, spanned_field, spans_field}
use Rattle.capture_file.specs.Programs.{with_grants, with_span, with_words, without_grants, words_field, words_in, words_read}
use Rattle.capture_file.proofs.Chunks.{IsBytes, bind_ok, ok_is}
use Rattle.capture_file.proofs.Unspelled.{file_read, judged_number, span_number_right}

-- ---- spans that are passed

module _ (spans : List Span) (i : ℕ) (inside : i < length spans) where
  -- the span of a number, and those behind it
  from_here : (s : Span) → ((d : Span) → s ≡ get_or spans i d) → drop i spans ≡ s ∷ drop (i + 1) spans
  from_here s is = drop_more spans i s inside ∙ ap (λ (t : Span). t ∷ drop (i + 1) spans) (sym (is s))

  module _ (s : Span) (is : (d : Span) → s ≡ get_or spans i d) (address : ℕ) where
    found_by : (b : Bool) → stands_in s address ≡ b →
        is_there (word_among (drop i spans) address) ≡ cond b true (is_there (word_among (drop (i + 1) spans) address))
    found_by true stands =
        ap (λ (zs : List Span). is_there (word_among zs address)) (from_here s is)
        ∙ ap (λ (b : Bool). is_there (cond b (Some (slice_index s.words ((address - s.at) / 4))) (word_among (drop (i + 1) spans) address)))
        stands
    found_by false stands =
        ap (λ (zs : List Span). is_there (word_among zs address)) (from_here s is)
        ∙ ap (λ (b : Bool). is_there (cond b (Some (slice_index s.words ((address - s.at) / 4))) (word_among (drop (i + 1) spans) address)))
        stands

    pub is_found : stands_in s address ≡ true → is_there (word_among spans address) ≡ is_there (word_among (drop i spans) address) →
        is_there (word_among spans address) ≡ true
    is_found stands so_far = so_far ∙ found_by true stands

    pub not_found : stands_in s address ≡ false → is_there (word_among spans address) ≡ is_there (word_among (drop i spans) address) →
        is_there (word_among spans address) ≡ is_there (word_among (drop (i + 1) spans) address)
    not_found stands so_far = so_far ∙ found_by false stands

  module _ (test : Span → Bool) (s : Span) (is : (d : Span) → s ≡ get_or spans i d) where
    any_by : list_any test (drop i spans) ≡ (test s || list_any test (drop (i + 1) spans))
    any_by = ap (list_any test) (from_here s is)

    pub is_any : test s ≡ true → list_any test spans ≡ list_any test (drop i spans) → list_any test spans ≡ true
    is_any holds so_far = so_far ∙ any_by ∙ ap (λ (b : Bool). b || list_any test (drop (i + 1) spans)) holds

    pub not_any : test s ≡ false → list_any test spans ≡ list_any test (drop i spans) →
        list_any test spans ≡ list_any test (drop (i + 1) spans)
    not_any fails so_far = so_far ∙ any_by ∙ ap (λ (b : Bool). b || list_any test (drop (i + 1) spans)) fails

-- a span by its parts
pub by_parts : (s : Span) (at : ℕ) (words : List ℕ) → at ≡ s.at → words ≡ s.words → span at words ≡ s
by_parts s at words e f = ap (λ (n : ℕ). span n words) e ∙ ap (span s.at) f

pub get_or-any : (spans : List Span) (i : ℕ) (d other : Span) → i < length spans → get_or spans i d ≡ get_or spans i other
get_or-any [] i d other inside = absurd (omega arith)
get_or-any (s ∷ spans) zero d other inside = refl
get_or-any (s ∷ spans) (suc i) d other inside = get_or-any spans i d other (omega arith)

-- no span has more words than all
pub some_words : (spans : List Span) (i : ℕ) (d : Span) → i < length spans → length (get_or spans i d).words ≤ length (words_of spans)
some_words [] i d inside = absurd (omega arith)
some_words (s ∷ spans) zero d inside = let all = length-append s.words (words_of spans) in omega arith
some_words (s ∷ spans) (suc i) d inside =
    let all = length-append s.words (words_of spans) in
    let rest = some_words spans i d (omega arith) in
    omega arith

-- ---- words that are appended

pub words_pushed : (spans : List Span) (bytes : List ℕ) (count i word : ℕ) (total : List Span) → i < count →
    word ≡ little_number 4 (drop (4 * i) bytes) →
    with_words spans (words_in (count - i) (drop (4 * i) bytes)) ≡ total →
    with_words (with_word spans word) (words_in (count - (i + 1)) (drop (4 * (i + 1)) bytes)) ≡ total
words_pushed spans bytes count i word total lt is so_far =
    let k : count - i ≡ suc (count - (i + 1)) = omega arith in
    let next : 4 * i + 4 ≡ 4 * (i + 1) = omega arith in
    let behind : drop 4 (drop (4 * i) bytes) ≡ drop (4 * (i + 1)) bytes = drop-drop 4 (4 * i) bytes ∙ ap (λ n. drop n bytes) next in
    ap (λ (w : ℕ). with_words (with_word spans w) (words_in (count - (i + 1)) (drop (4 * (i + 1)) bytes))) is
    ∙ ap (λ (zs : List ℕ). with_words (with_word spans (little_number 4 (drop (4 * i) bytes))) (words_in (count - (i + 1)) zs)) (sym behind)
    ∙ sym (ap (λ (n : ℕ). with_words spans (words_in n (drop (4 * i) bytes))) k)
    ∙ so_far

words_behind : (front : List Span) (s : Span) (words : List ℕ) →
    with_words (front ++ s ∷ []) words ≡ front ++ span s.at (s.words ++ words) ∷ []
words_behind front s [] = ap (λ (ws : List ℕ). front ++ span s.at ws ∷ []) (sym (append-nil s.words))
words_behind front s (word ∷ words) =
    ap (λ (zs : List Span). with_words zs words) (with_word-last front s word)
    ∙ words_behind front (span s.at (s.words ++ word ∷ [])) words
    ∙ ap (λ (ws : List ℕ). front ++ span s.at ws ∷ []) (append_assoc s.words (word ∷ []) words)

-- a span that began without words
pub span_filled : (front begun filled : List Span) (at : ℕ) (words : List ℕ) → begun ≡ front ++ span at [] ∷ [] →
    filled ≡ with_words begun words → filled ≡ front ++ span at words ∷ []
span_filled front begun filled at words e f = f ∙ ap (λ (zs : List Span). with_words zs words) e ∙ words_behind front (span at []) words

pub words_length : (count : ℕ) (bytes : List ℕ) → length (words_in count bytes) ≡ count
words_length zero bytes = refl
words_length (suc count) bytes = ap suc (words_length count (drop 4 bytes))

words_counted : (size count : ℕ) (bytes : List ℕ) (x : List ℕ × List ℕ) → words_field size count bytes ≡ Ok x → length x.0 ≡ count
unfolding words_field
words_counted size count bytes x e = by_test (nat_le (4 * count) (length bytes)) e
  where
    by_test : (b : Bool) → cond b (Ok (words_in count bytes, drop (4 * count) bytes)) (Err (cut size)) ≡ Ok x → length x.0 ≡ count
    by_test true is =
        sym (ap (λ (y : List ℕ × List ℕ). length y.0) (ok_is (words_in count bytes, drop (4 * count) bytes) x is))
        ∙ words_length count bytes
    by_test false is = absurd (cc)

pub span_words_read : (size count at : ℕ) (bytes rest : List ℕ) (front begun filled : List Span) → 4 * count ≤ length bytes →
    begun ≡ front ++ span at [] ∷ [] →
    filled ≡ with_words begun (words_in count bytes) → rest ≡ drop (4 * count) bytes →
    with_span front at (words_field size count bytes) ≡ Ok (filled, rest)
unfolding words_field
span_words_read size count at bytes rest front begun filled long e f g =
    ap (λ (b : Bool). with_span front at (cond b (Ok (words_in count bytes, drop (4 * count) bytes)) (Err (cut size))))
    (le-leb (4 * count) (length bytes) long)
    ∙ ap (λ (spans : List Span). Ok (spans, drop (4 * count) bytes)) (sym (span_filled front begun filled at (words_in count bytes) e f))
    ∙ ap (λ (zs : List ℕ). Ok (filled, zs)) (sym g)

pub span_passed : (size size' size'' from sum at count next : ℕ) (bytes behind after rest : List ℕ) (front filled : List Span) →
    size' ≡ size → size'' ≡ size' →
    span_address_field size from bytes ≡ Ok (at, behind) → span_length_field size' at sum behind ≡ Ok (count, after) →
    with_span front at (words_field size'' count after) ≡ Ok (filled, rest) →
    next ≡ at + 4 * count + 1 → passed front sum (span_field size from sum bytes) ≡ Ok (((next, sum + count), filled), rest)
unfolding span_field
span_passed size size' size'' from sum at count next bytes behind after rest front filled same same' e f g n =
    let f' : span_length_field size at sum behind ≡ Ok (count, after) = rw same at f in
    let words = bind_ok (words_field size'' count after) (λ words. Ok (front ++ span at words.0 ∷ [], words.1)) (filled, rest) g in
    let w : words_field size count after ≡ Ok words.0 = subst (λ (n : ℕ). words_field n count after ≡ Ok words.0) (same' ∙ same) words.1 in
    let len = words_counted size count after words.0 w in
    let is : (front ++ span at words.0.0 ∷ [], words.0.1) ≡ (filled, rest) =
    ok_is (front ++ span at words.0.0 ∷ [], words.0.1) (filled, rest) words.2 in
    ap (λ (r : Field ℕ).
    passed front sum (r >>= λ a. span_length_field size a.0 sum a.1 >>= λ c. words_field size c.0 c.1 >>= λ ws. Ok (span a.0 ws.0, ws.1))) e
    ∙ ap (λ (r : Field ℕ). passed front sum (r >>= λ c. words_field size c.0 c.1 >>= λ ws. Ok (span at ws.0, ws.1))) f'
    ∙ ap (λ (r : Field (List ℕ)). passed front sum (r >>= λ ws. Ok (span at ws.0, ws.1))) w
    ∙ ap (λ (k : ℕ). Ok (((at + 4 * k + 1, sum + k), front ++ span at words.0.0 ∷ []), words.0.1)) len
    ∙ ap (λ (k : ℕ). Ok (((k, sum + count), front ++ span at words.0.0 ∷ []), words.0.1)) (sym n)
    ∙ ap (λ (y : List Span × List ℕ). Ok (((next, sum + count), y.0), y.1)) is

-- ---- spans that are read

-- what was read before, and what is still read
abbrev pub with_first : List Span → Field (List Span) → Field (List Span)
with_first front read = read >>= λ x. Ok (front ++ x.0, x.1)

regroup : (front : List Span) (s : Span) (read : Field (List Span)) →
    with_first front (read >>= λ x. Ok (s ∷ x.0, x.1)) ≡ with_first (front ++ s ∷ []) read
regroup front s (Ok x) = ap (λ (ss : List Span). Ok (ss, x.1)) (sym (append_assoc front (s ∷ []) x.0))
regroup front s (Err f) = refl

-- what follows from a span that was passed
pub record HasPassed (spans : List Span) (from sum : ℕ) (read : Field Span) (x : ((ℕ × ℕ) × List Span) × List ℕ) : Type 0 where
  pub s : Span
  pub is : read ≡ Ok (s, x.1)
  pub next : x.0.0.0 ≡ end_of s + 1
  pub words : x.0.0.1 ≡ sum + length s.words
  pub all : x.0.1 ≡ spans ++ s ∷ []

pub has_passed : (spans : List Span) (from sum : ℕ) (read : Field Span) (x : ((ℕ × ℕ) × List Span) × List ℕ) →
    passed spans sum read ≡ Ok x → HasPassed spans from sum read x
has_passed spans from sum read x e =
    let a = bind_ok read (λ s. Ok (((end_of s.0 + 1, sum + length s.0.words), spans ++ s.0 ∷ []), s.1)) x e in
    let same : (((end_of a.0.0 + 1, sum + length a.0.0.words), spans ++ a.0.0 ∷ []), a.0.1) ≡ x =
    ok_is (((end_of a.0.0 + 1, sum + length a.0.0.words), spans ++ a.0.0 ∷ []), a.0.1) x a.2 in
    record {
      s = a.0.0;
      is = a.1 ∙ ap (λ (y : ((ℕ × ℕ) × List Span) × List ℕ). Ok (a.0.0, y.1)) same;
      next = sym (ap (λ (y : ((ℕ × ℕ) × List Span) × List ℕ). y.0.0.0) same);
      words = sym (ap (λ (y : ((ℕ × ℕ) × List Span) × List ℕ). y.0.0.1) same);
      all = sym (ap (λ (y : ((ℕ × ℕ) × List Span) × List ℕ). y.0.1) same);
    }

passed_err : (spans : List Span) (sum : ℕ) (read : Field Span) (f : FileFault) → passed spans sum read ≡ Err f → read ≡ Err f
passed_err spans sum (Ok s) f e = absurd (cc)
passed_err spans sum (Err g) f e = cc

module _ (size : ℕ) (front : List Span) (count i from sum : ℕ) (bytes : List ℕ) (total : Field (List Span))
    (so_far : with_first front (spans_field size (count - i) from sum bytes) ≡ total) where
  pub spans_more : (x : ((ℕ × ℕ) × List Span) × List ℕ) → i < count → passed front sum (span_field size from sum bytes) ≡ Ok x →
      with_first x.0.1 (spans_field size (count - (i + 1)) x.0.0.0 x.0.0.1 x.1) ≡ total
  unfolding spans_field
  spans_more x lt e =
      let p = has_passed front from sum (span_field size from sum bytes) x e in
      let k : count - i ≡ suc (count - (i + 1)) = omega arith in
      let one : with_first front (spans_field size (count - i) from sum bytes)
      ≡ with_first (front ++ p.s ∷ []) (spans_field size (count - (i + 1)) (end_of p.s + 1) (sum + length p.s.words) x.1) =
      ap (λ (n : ℕ). with_first front (spans_field size n from sum bytes)) k
      ∙ ap (λ (r : Field Span). with_first front (r >>= λ s.
      spans_field size (count - (i + 1)) (end_of s.0 + 1) (sum + length s.0.words) s.1 >>= λ others. Ok (s.0 ∷ others.0, others.1))) p.is
      ∙ (regroup front p.s (spans_field size (count - (i + 1)) (end_of p.s + 1) (sum + length p.s.words) x.1)) in
      ap (λ (ss : List Span). with_first ss (spans_field size (count - (i + 1)) x.0.0.0 x.0.0.1 x.1)) p.all
      ∙ ap (λ (n : ℕ). with_first (front ++ p.s ∷ []) (spans_field size (count - (i + 1)) n x.0.0.1 x.1)) p.next
      ∙ ap (λ (n : ℕ). with_first (front ++ p.s ∷ []) (spans_field size (count - (i + 1)) (end_of p.s + 1) n x.1)) p.words
      ∙ sym one ∙ so_far

  pub spans_end : (f : FileFault) → i < count → passed front sum (span_field size from sum bytes) ≡ Err f → total ≡ Err f
  unfolding spans_field
  spans_end f lt e =
      let k : count - i ≡ suc (count - (i + 1)) = omega arith in
      let fails = passed_err front sum (span_field size from sum bytes) f e in
      let one : with_first front (spans_field size (count - i) from sum bytes) ≡ Err f = rw (k, fails) refl in
      sym so_far ∙ one

  pub spans_fail : (e : ProgramError) → i < count → Fails e (passed front sum (span_field size from sum bytes)) → Fails e total
  spans_fail Memory lt fails = tt
  spans_fail (File f) lt fails = spans_end f lt fails

  pub spans_done : count ≤ i → total ≡ Ok (front, bytes)
  unfolding spans_field
  spans_done le =
      let k : count - i ≡ 0 = omega arith in
      let one : with_first front (spans_field size (count - i) from sum bytes) ≡ Ok (front, bytes) =
      rw k (ap (λ (ss : List Span). Ok (ss, bytes)) (append-nil front)) in
      sym so_far ∙ one

pub passed_is_ok : (spans : List Span) (sum : ℕ) (read : Field Span) (x : ((ℕ × ℕ) × List Span) × List ℕ) →
    passed spans sum read ≡ Ok x → IsOk read
passed_is_ok spans sum (Ok s) x e = refl
passed_is_ok spans sum (Err f) x e = absurd (cc)

-- the first span is read, or nothing was read as yet
abbrev pub HasFirst : ℕ → List ℕ → ℕ → ℕ → List ℕ → Type 0
HasFirst size bytes from sum rest = IsOk (span_field size 0 0 bytes) ⊎ ((from ≡ 0) × (sum ≡ 0) × (rest ≡ bytes))

pub first_read : (size : ℕ) (bytes : List ℕ) (from sum : ℕ) (rest : List ℕ) → HasFirst size bytes from sum rest →
    IsOk (span_field size from sum rest) → IsOk (span_field size 0 0 bytes)
first_read size bytes from sum rest (inl is) ok = is
first_read size bytes from sum rest (inr at) ok = rw (at.0, at.1, at.2) at ok

-- ---- the whole program

first_of : (size count : ℕ) (bytes : List ℕ) (x : List Span × List ℕ) → 0 < count → spans_field size count 0 0 bytes ≡ Ok x →
    (s : Span × List ℕ) × (span_field size 0 0 bytes ≡ Ok s)
unfolding spans_field
first_of size zero bytes x some e = absurd (omega arith)
first_of size (suc count) bytes x some e =
    let a =
    bind_ok (span_field size 0 0 bytes)
    (λ s. spans_field size count (end_of s.0 + 1) (0 + length s.0.words) s.1 >>= λ others. Ok (s.0 ∷ others.0, others.1)) x e in
    (a.0, a.1)

first_words : (form : ProgramForm) (size : ℕ) (bytes : List ℕ) (x : RiscProgram × List ℕ) → placed_field form size bytes ≡ Ok x →
    IsOk (first_words_field form size bytes)
unfolding spanned_field span_number_field
first_words (Based layout) size bytes x e = rw e refl
first_words Spanned size bytes x e =
    let a = bind_ok (span_number_field size bytes) (λ count. spans_field size count.0 0 0 count.1 >>= λ spans.
    entry_field size spans.0 spans.1 >>= λ entry. Ok (without_grants entry.0 spans.0, entry.1)) x e in
    let b =
    bind_ok (spans_field size a.0.0 0 0 a.0.1)
    (λ spans. entry_field size spans.0 spans.1 >>= λ entry. Ok (without_grants entry.0 spans.0, entry.1)) x a.2 in
    let some = span_number_right a.0.0 (judged_number span_number_fault size bytes a.0 a.1).1 in
    let first = first_of size a.0.0 a.0.1 b.0 some.0 b.1 in
    rw (a.1, first.1) refl

pub has_words : (size : ℕ) (form : ProgramForm) (bytes behind : List ℕ) (x : RiscProgram × List ℕ) → size ≡ length bytes →
    form_field (length bytes) bytes ≡ Ok (form, behind) →
    placed_field form size behind ≡ Ok x → HasWords bytes
unfolding words_read
has_words size form bytes behind x same e f =
    let f' : placed_field form (length bytes) behind ≡ Ok x = rw same at f in
    rw e (first_words form (length bytes) behind x f')

pub program_made : (form : ProgramForm) (start count fill one two three four : ℕ) (spans : List Span) (chunks grants : List Chunk)
    (bytes a b c d : List ℕ) → IsBytes bytes →
    one ≡ length bytes → two ≡ one → three ≡ two → four ≡ three → form_field (length bytes) bytes ≡ Ok (form, a) →
    placed_field form one a ≡ Ok (without_grants start spans, b) →
    chunk_count_field two b ≡ Ok (count, c) → chunks_field (layout_of form) three (without_grants start spans) count 0 0 c
    ≡ Ok (chunks, d) → Ok fill ≡ fill_field form four chunks d → grants ≡ chunks →
    IsProgram (with_grants (without_grants start spans) grants)
unfolding program_in
program_made form start count fill one two three four spans chunks grants bytes a b c d fits is_one is_two is_three is_four e f g h i same =
    let size : ℕ = length bytes in
    let placed : RiscProgram = without_grants start spans in
    let f' : placed_field form size a ≡ Ok (placed, b) = subst (λ (n : ℕ). placed_field form n a ≡ Ok (placed, b)) is_one f in
    let g' : chunk_count_field size b ≡ Ok (count, c) = subst (λ (n : ℕ). chunk_count_field n b ≡ Ok (count, c)) (is_two ∙ is_one) g in
    let h' : chunks_field (layout_of form) size placed count 0 0 c ≡ Ok (chunks, d) =
    subst (λ (n : ℕ). chunks_field (layout_of form) n placed count 0 0 c ≡ Ok (chunks, d)) (is_three ∙ is_two ∙ is_one) h in
    let i' : fill_field form size chunks d ≡ Ok fill =
    subst (λ (n : ℕ). fill_field form n chunks d ≡ Ok fill) (is_four ∙ is_three ∙ is_two ∙ is_one) (sym i) in
    let file : ProgramFile = record { program = with_grants placed chunks; fill = fill } in
    let read : program_of bytes ≡ Ok file = rw (e, f', g', h', i') refl in
    let made = file_read bytes file fits read in
    subst (λ (cs : List Chunk). IsProgram (with_grants placed cs)) (sym same) made.made

-- an answer of out of memory where something holds anyway
pub whatever_fails : {X E : Type 0} (P : E → Type 0) (r : Result X E) → ((e : E) → P e) → IfErr r P
whatever_fails P (Ok x) holds = tt
whatever_fails P (Err e) holds = holds e
