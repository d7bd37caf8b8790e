-- A program file, read field by field: each fault is decided by its field and the bytes before it.
use Rattle.std.proofs.Common.{◌≡◌, ℕ, zero, suc, ◌+◌, ◌*◌, ◌%◌, ◌^◌, ◌<◌, ◌≤◌, max, min, inl, inr, Bool, true, false, cond, ◌&&◌, List, []}
use Rattle.std.proofs.Common.{◌∷◌, ◌++◌, length, Option, Some, None, Result, Ok, Err, refl, sym, ap, subst, ◌∙◌, arith}
use Rattle.std.specs.Prelude.{nat_lt, nat_le, ◌==◌}
use Rattle.std.specs.List.{flat_map, list_all}
use Rattle.std.proofs.lemmas.Bool.{and_parts, eqb-true, leb-true, le-ltb, ltb-false, ltb-true}
use Rattle.std.proofs.lemmas.List.Elements.{All-cons, All-nil}
use Rattle.byteorder.specs.Endian.{little_bytes}
use Rattle.page_table.specs.Grants.{AreRising, Chunk, chunk, is_page, total}
use Rattle.machine_model.specs.Paths.{RiscProgram, one_span, shares_byte}
use Rattle.machine_model.proofs.OneSpan.{shares_byte-one_span}
use Rattle.capture_file.specs.declared.FileKind.{FileKind}
use Rattle.capture_file.specs.declared.FileKind.TheVariants as fault
use Rattle.capture_file.specs.declared.FileFault.{FileFault}
use Rattle.capture_file.specs.declared.program.Layout.{Layout}
use Rattle.capture_file.specs.declared.program.Layout.TheVariants.{Paged, Chunked}
use Rattle.capture_file.specs.declared.program.ProgramForm.{ProgramForm}
use Rattle.capture_file.specs.declared.program.ProgramForm.TheVariants.{Based, Spanned}
use Rattle.capture_file.specs.declared.program.ProgramFile.{ProgramFile}
use Rattle.capture_file.specs.Programs.{based_field}
use Rattle.capture_file.specs.Programs.{Field, ◌>>=◌, cut, wrong, judged, form_field, name_of, with_grants, layout_of, spanned_field}
use Rattle.capture_file.specs.Programs.{base_field, base_fault, word_count_field, word_count_fault, words_field, chunk_count_field}
use Rattle.capture_file.specs.Programs.{chunks_field, fill_fault, fill_field, chunk_in}
use Rattle.capture_file.proofs.Chunks.{IsBytes, some_fault}
use Rattle.capture_file.proofs.Spelled.{form_again, base_again, word_count_again, chunk_count_again, chunks_again, words_field_again}
use Rattle.capture_file.proofs.Spelled.{with_form, with_placed, with_chunk_count, with_chunks}
use Rattle.file_law.specs.ProgramBeginnings.{IsWhole, field_width, has_good_beginning}
use Rattle.file_law.proofs.Judging.{FieldGoes, IsBytes-append, IsBytes-behind, Reader, FileGoes, IsReader, CanEnd, EndsWell, both}
use Rattle.file_law.proofs.Judging.{file_then, after_field, ends_alike, reads_alike, reads_loosely}
use Rattle.file_law.proofs.Fields.{AtFront, AtFront-inside, Crowded, Crowded-inside, Loose, Loose-inside, form_goes, base_goes}
use Rattle.file_law.proofs.Fields.{word_count_goes, chunk_count_goes, words_go, chunks_go, spanned_goes}

-- ---- the fill, and the end

module _ (based : Bool) (form : ProgramForm) (placed : RiscProgram) (chunks : List Chunk) where
  abbrev pub last_of : Reader ProgramFile
  last_of size bytes = with_chunks size form placed (chunks, bytes)

  abbrev held : ℕ → ProgramFile
  held fill = record { program = with_grants placed chunks; fill = fill }

  pages_alone : (form : ProgramForm) (chunks : List Chunk) (kind : FileKind) → fill_fault form chunks ≡ Some kind → fault.Pages ≡ kind
  pages_alone (Based Paged) chunks kind e = absurd (cc)
  pages_alone Spanned chunks kind e = absurd (cc)
  pages_alone (Based Chunked) chunks kind e = by_test (list_all is_page chunks) e
    where
      by_test : (b : Bool) → cond b (Some fault.Pages) None ≡ Some kind → fault.Pages ≡ kind
      by_test true e = cc
      by_test false e = absurd (cc)

  fill_ends : (right : fill_fault form chunks ≡ None) (fill n : ℕ) → last_of n (fill ∷ []) ≡ Ok (held fill)
  unfolding fill_field
  fill_ends right fill n = ap (λ (k : Option FileKind). (judged k n (fill ∷ []) >>= λ _. Ok fill) >>= λ f. Ok (held f)) right

  fill_more : (right : fill_fault form chunks ≡ None) (fill n byte : ℕ) (more : List ℕ) →
      last_of n (fill ∷ byte ∷ more) ≡ Err (wrong n (byte ∷ more) fault.AfterEnd)
  unfolding fill_field
  fill_more right fill n byte more =
      ap (λ (k : Option FileKind). (judged k n (fill ∷ byte ∷ more) >>= λ _. Err (wrong n (byte ∷ more) fault.AfterEnd))
      >>= λ f. Ok (held f)) right

  fill_wrong : (kind : FileKind) → fill_fault form chunks ≡ Some kind → (fill n : ℕ) (more : List ℕ) →
      last_of n (fill ∷ more) ≡ Err (wrong n (fill ∷ more) kind)
  unfolding fill_field
  fill_wrong kind found fill n [] = ap (λ (k : Option FileKind). (judged k n (fill ∷ []) >>= λ _. Ok fill) >>= λ f. Ok (held f)) found
  fill_wrong kind found fill n (byte ∷ more) =
      ap (λ (k : Option FileKind). (judged k n (fill ∷ byte ∷ more) >>= λ _. Err (wrong n (byte ∷ more) fault.AfterEnd))
      >>= λ f. Ok (held f)) found

  fill_cut : (n : ℕ) → last_of n [] ≡ Err (cut n)
  unfolding fill_field
  fill_cut n = refl

  abbrev Goes : ℕ → List ℕ → Result ProgramFile FileFault → Type 0
  Goes size bytes r = FileGoes based ProgramFile last_of size bytes r

  by_fill : (k : Option FileKind) → fill_fault form chunks ≡ k → (size fill : ℕ) (rest : List ℕ) →
      Goes size (fill ∷ rest) (last_of size (fill ∷ rest))
  by_fill None right size fill [] =
      subst (Goes size (fill ∷ [])) (sym (fill_ends right fill size)) (λ n byte more. fill_more right fill n byte more)
  by_fill None right size fill (byte ∷ rest) =
      subst (Goes size (fill ∷ byte ∷ rest)) (sym (fill_more right fill size byte rest))
      (inr
      (record {
        before = fill ∷ [];
        field = byte ∷ [];
        rest = rest;
        kind = fault.AfterEnd;
        parts = refl;
        width = refl;
        is = refl;
        whole = λ e. absurd (cc);
        again = λ n more. fill_more right fill n byte more;
        cut_before = λ other n. absurd (other refl);
        done_before = λ late n. (held fill, fill_ends right fill n);
        noted = λ sure. record { more = []; fits = λ i. omega arith; ends = λ n. (held fill, fill_ends right fill n) };
      }))
  by_fill (Some kind) found size fill rest =
      subst (Goes size (fill ∷ rest)) (sym (fill_wrong kind found fill size rest))
      (inr
      (record {
        before = [];
        field = fill ∷ [];
        rest = rest;
        kind = kind;
        parts = refl;
        width = ap field_width (pages_alone form chunks kind found);
        is = refl;
        whole = subst IsWhole (pages_alone form chunks kind found) (λ e. absurd (cc));
        again = λ n more. fill_wrong kind found fill n more;
        cut_before = λ other n. fill_cut n;
        done_before = λ late n. absurd (let same : fault.Pages ≡ fault.AfterEnd = pages_alone form chunks kind found ∙ late in cc);
        noted = λ sure. absurd (let no : false ≡ true = ap (has_good_beginning based) (pages_alone form chunks kind found) ∙ sure in cc);
      }))

  pub last_goes : IsReader based ProgramFile last_of
  last_goes size [] fits = subst (Goes size []) (sym (fill_cut size)) (inl refl)
  last_goes size (fill ∷ rest) fits = by_fill (fill_fault form chunks) refl size fill rest

-- ---- good ends

bytes_by_test : (bytes : List ℕ) → list_all (λ byte. nat_lt byte 256) bytes ≡ true → IsBytes bytes
bytes_by_test [] low i = omega arith
bytes_by_test (byte ∷ rest) low zero = ltb-true byte 256 (and_parts (nat_lt byte 256) (list_all (λ b. nat_lt b 256) rest) low).0
bytes_by_test (byte ∷ rest) low (suc i) = bytes_by_test rest (and_parts (nat_lt byte 256) (list_all (λ b. nat_lt b 256) rest) low).1 i

zeros : (rest : List ℕ) → IsBytes rest → IsBytes (0 ∷ 0 ∷ 0 ∷ 0 ∷ rest)
zeros rest fits = IsBytes-append (0 ∷ 0 ∷ 0 ∷ 0 ∷ []) rest (bytes_by_test (0 ∷ 0 ∷ 0 ∷ 0 ∷ []) refl) fits

-- a field that is right, before bytes that can go on
module _ (A B : Type 0) (field : Reader (A × List ℕ)) (next : A → Reader B) where
  ends_after : (x : A) (front : List ℕ) → ((rest : List ℕ) → IsBytes rest → IsBytes (front ++ rest)) →
      ((n : ℕ) (more : List ℕ) → field n (front ++ more) ≡ Ok (x, more)) → CanEnd B (next x) [] →
      CanEnd B (both A B field next) []
  ends_after x front low again can =
      record {
        more = front ++ can.more;
        fits = low can.more can.fits;
        ends = λ n. ((can.ends n).0, ap (λ (r : Field A). r >>= λ y. next y.0 n y.1) (again n can.more) ∙ (can.ends n).1);
      }

-- four bytes of memory apart from a program
abbrev free_at : Bool → ℕ
free_at true = 4294967292
free_at false = 0

free_apart : (base : ℕ) (words : List ℕ) (b : Bool) → nat_lt base 4 ≡ b → base % 4 ≡ 0 → length words ≤ 1048576 →
    shares_byte (one_span base words []) (chunk (free_at b) 4) ≡ false
free_apart base words true is even few =
    let low : base < 4 = ltb-true base 4 is in
    shares_byte-one_span base words [] (chunk 4294967292 4)
    ∙ le-ltb (max base 4294967292) (min (base + 4 * length words) (4294967292 + 4)) (omega (arith, low, few))
free_apart base words false is even few =
    let high : 4 ≤ base = ltb-false base 4 is in
    shares_byte-one_span base words [] (chunk 0 4) ∙ le-ltb (max base 0) (min (base + 4 * length words) (0 + 4)) (omega (arith, high, few))

free_chunk : (b : Bool) → AreRising 0 (chunk (free_at b) 4 ∷ [])
free_chunk true = (omega arith, record { at_aligned = refl; len_aligned = refl; some = omega arith; ends = omega arith }, tt)
free_chunk false = (omega arith, record { at_aligned = refl; len_aligned = refl; some = omega arith; ends = omega arith }, tt)

abbrev free_bytes : Bool → List ℕ
free_bytes b = flat_map (chunk_in Chunked) (chunk (free_at b) 4 ∷ []) ++ 0 ∷ []

free_fits : (b : Bool) → IsBytes (little_bytes 4 1 ++ free_bytes b)
free_fits true = bytes_by_test (little_bytes 4 1 ++ free_bytes true) refl
free_fits false = bytes_by_test (little_bytes 4 1 ++ free_bytes false) refl

module _ (base : ℕ) (words : List ℕ) where
  abbrev alone : RiscProgram
  alone = one_span base words []

  abbrev with_memory : List Chunk → ProgramFile
  with_memory chunks = record { program = with_grants alone chunks; fill = 0 }

  abbrev apart : Chunk → Type 0
  apart c = shares_byte alone c ≡ false

  filled_last : (b : Bool) (n : ℕ) →
      with_chunks n (Based Chunked) alone (chunk (free_at b) 4 ∷ [], 0 ∷ []) ≡ Ok (with_memory (chunk (free_at b) 4 ∷ []))
  unfolding fill_field
  filled_last true n = refl
  filled_last false n = refl

  free_small : (b : Bool) → 0 + total (chunk (free_at b) 4 ∷ []) ≤ 16777216
  free_small true = omega arith
  free_small false = omega arith

  one_chunk : (b : Bool) → apart (chunk (free_at b) 4) → (n : ℕ) →
      with_placed n (Based Chunked) (alone, little_bytes 4 1 ++ free_bytes b) ≡ Ok (with_memory (chunk (free_at b) 4 ∷ []))
  one_chunk b free n =
      ap (λ (r : Field ℕ). r >>= λ y. with_chunk_count n (Based Chunked) alone y) (chunk_count_again n 1 (free_bytes b) (omega arith))
      ∙ ap (λ (r : Field (List Chunk)). r >>= λ y. with_chunks n (Based Chunked) alone y)
      (chunks_again Chunked n alone 0 0 (chunk (free_at b) 4 ∷ []) (0 ∷ []) (free_chunk b)
      (All-cons apart (chunk (free_at b) 4) [] free (All-nil apart)) (free_small b))
      ∙ filled_last b n

  no_chunk : (n : ℕ) → with_placed n (Based Paged) (alone, 0 ∷ 0 ∷ 0 ∷ 0 ∷ 0 ∷ []) ≡ Ok (with_memory [])
  unfolding chunk_count_field chunks_field fill_field
  no_chunk n = refl

  words_end : (layout : Layout) → base % 4 ≡ 0 → length words ≤ 1048576 →
      CanEnd ProgramFile (λ n bytes. with_placed n (Based layout) (alone, bytes)) []
  words_end Paged even few =
      record { more = 0 ∷ 0 ∷ 0 ∷ 0 ∷ 0 ∷ []; fits = bytes_by_test (0 ∷ 0 ∷ 0 ∷ 0 ∷ 0 ∷ []) refl; ends = λ n. (with_memory [], no_chunk n) }
  words_end Chunked even few =
      let b : Bool = nat_lt base 4 in
      record {
        more = little_bytes 4 1 ++ free_bytes b;
        fits = free_fits b;
        ends = λ n. (with_memory (chunk (free_at b) 4 ∷ []), one_chunk b (free_apart base words b refl even few) n);
      }

-- what is read behind each field of a file with a base
module _ (n : ℕ) (layout : Layout) where
  abbrev with_words : ℕ → List ℕ × List ℕ → Result ProgramFile FileFault
  with_words base x = with_placed n (Based layout) (one_span base x.0 [], x.1)

  abbrev with_count : ℕ → ℕ × List ℕ → Result ProgramFile FileFault
  with_count base x = words_field n x.0 x.1 >>= λ y. with_words base y

  abbrev with_base : ℕ × List ℕ → Result ProgramFile FileFault
  with_base x = word_count_field n x.0 x.1 >>= λ y. with_count x.0 y

  abbrev based_file : List ℕ → Result ProgramFile FileFault
  based_file bytes = base_field n bytes >>= λ x. with_base x

bind_bind : {A B C : Type 0} (r : Result A FileFault) (f : A → Result B FileFault) (g : B → Result C FileFault) →
    (r >>= λ x. f x >>= g) ≡ ((r >>= f) >>= g)
bind_bind (Ok x) f g = refl
bind_bind (Err found) f g = refl

same_bind : {A B : Type 0} (r : Result A FileFault) (f g : A → Result B FileFault) → ((x : A) → f x ≡ g x) → (r >>= f) ≡ (r >>= g)
same_bind (Ok x) f g same = same x
same_bind (Err found) f g same = refl

based_alike : (layout : Layout) (n : ℕ) (bytes : List ℕ) → based_file n layout bytes ≡ with_form n (Based layout, bytes)
unfolding based_field
based_alike layout n bytes =
    same_bind (base_field n bytes) (λ x. with_base n layout x)
    (λ base. (word_count_field n base.0 base.1 >>= λ count. words_field n count.0 count.1
    >>= λ words. Ok (one_span base.0 words.0 [], words.1)) >>= λ y. with_placed n (Based layout) y)
    (λ base.
    same_bind (word_count_field n base.0 base.1) (λ y. with_count n layout base.0 y)
    (λ count. (words_field n count.0 count.1 >>= λ words. Ok (one_span base.0 words.0 [], words.1)) >>= λ y. with_placed n (Based layout) y)
    (λ count.
    bind_bind (words_field n count.0 count.1) (λ words. Ok (one_span base.0 words.0 [], words.1)) (λ y. with_placed n (Based layout) y))
    ∙ bind_bind (word_count_field n base.0 base.1)
    (λ count. words_field n count.0 count.1 >>= λ words. Ok (one_span base.0 words.0 [], words.1)) (λ y. with_placed n (Based layout) y))
    ∙ bind_bind (base_field n bytes) (λ base. word_count_field n base.0 base.1 >>= λ count. words_field n count.0 count.1
    >>= λ words. Ok (one_span base.0 words.0 [], words.1))
    (λ y. with_placed n (Based layout) y)

count_ends : (layout : Layout) (base : ℕ) → base % 4 ≡ 0 → base < 2 ^ 32 →
    CanEnd ProgramFile (λ n bytes. with_base n layout (base, bytes)) []
count_ends layout base even low =
    ends_after ℕ ProgramFile (λ n. word_count_field n base) (λ count n bytes. with_count n layout base (count, bytes)) 0
    (0 ∷ 0 ∷ 0 ∷ 0 ∷ []) zeros
    (λ n more. word_count_again n base 0 more (omega arith) (omega arith))
    (ends_after (List ℕ) ProgramFile (λ n. words_field n 0) (λ words n bytes. with_words n layout base (words, bytes)) [] []
    (λ rest fits. fits)
    (λ n more. words_field_again n [] more (All-nil (λ (word : ℕ). word < 2 ^ 32))) (words_end base [] layout even (omega arith)))

base_ends : (layout : Layout) → CanEnd ProgramFile (λ n bytes. based_file n layout bytes) []
base_ends layout =
    ends_after ℕ ProgramFile base_field (λ base n bytes. with_base n layout (base, bytes)) 0 (0 ∷ 0 ∷ 0 ∷ 0 ∷ []) zeros
    (λ n more. base_again n 0 more (omega arith) refl)
    (count_ends layout 0 refl (omega arith))

name_fits : (rest : List ℕ) → IsBytes rest → IsBytes (name_of (Based Paged) ++ rest)
name_fits rest fits = IsBytes-append (name_of (Based Paged)) rest (bytes_by_test (name_of (Based Paged)) refl) fits

abbrev pub file_of : Reader ProgramFile
file_of size bytes = form_field size bytes >>= λ x. with_form size x

file_ends : CanEnd ProgramFile file_of []
file_ends =
    ends_after ProgramForm ProgramFile form_field (λ form n bytes. with_form n (form, bytes)) (Based Paged)
    (name_of (Based Paged)) name_fits (λ n more. form_again n (Based Paged) more)
    (ends_alike ProgramFile (λ n bytes. based_file n Paged bytes) (λ n bytes. with_form n (Based Paged, bytes)) (based_alike Paged) []
    (base_ends Paged))

-- ---- the whole file

ends_at_front : (based : Bool) (B : Type 0) (read : Reader B) → CanEnd B read [] → (before : List ℕ) (kind : FileKind) →
    AtFront before kind → EndsWell based B read before kind
ends_at_front based B read ends before kind noted sure = subst (λ (zs : List ℕ). CanEnd B read zs) (sym noted.0) ends

crowded_ends : (based : Bool) (B : Type 0) (read : Reader B) (before : List ℕ) (kind : FileKind) → Crowded before kind →
    EndsWell based B read before kind
crowded_ends based B read before kind crowded sure = absurd (let no : false ≡ true = sym (crowded based) ∙ sure in cc)

loose_ends : (B : Type 0) (read : Reader B) (before : List ℕ) (kind : FileKind) → Loose before kind → EndsWell false B read before kind
loose_ends B read before kind loose sure = absurd (let no : false ≡ true = sym loose ∙ sure in cc)

never_ends : (B : Type 0) (read : Reader B) (before : List ℕ) (kind : FileKind) → ⊥ → EndsWell true B read before kind
never_ends B read before kind never = absurd never

chunks_rest : (based : Bool) (form : ProgramForm) (placed : RiscProgram) (count : ℕ) →
    IsReader based ProgramFile (λ n bytes. with_chunk_count n form placed (count, bytes))
chunks_rest based form placed count =
    file_then (List Chunk) ProgramFile (λ n. chunks_field (layout_of form) n placed count 0 0)
    (λ chunks n bytes. with_chunks n form placed (chunks, bytes)) based (λ chunks. Unit {0}) Crowded
    (chunks_go (layout_of form) placed count 0 0) (λ chunks known. last_goes based form placed chunks)
    (crowded_ends based ProgramFile (λ n bytes. with_chunk_count n form placed (count, bytes))) Crowded-inside

words_rest : (layout : Layout) (base : ℕ) (words : List ℕ) → base % 4 ≡ 0 → length words ≤ 1048576 →
    IsReader true ProgramFile (λ n bytes. with_words n layout base (words, bytes))
words_rest layout base words even few =
    file_then ℕ ProgramFile chunk_count_field
    (λ count n bytes. with_chunk_count n (Based layout) (one_span base words []) (count, bytes)) true (λ count. Unit {0}) AtFront
    (chunk_count_goes AtFront (refl, λ late. absurd (cc))) (λ count known. chunks_rest true (Based layout) (one_span base words []) count)
    (ends_at_front true ProgramFile (λ n bytes. with_words n layout base (words, bytes)) (words_end base words layout even few))
    AtFront-inside

abbrev Never : List ℕ → FileKind → Type 0
Never before kind = ⊥

count_rest : (layout : Layout) (base count : ℕ) → base % 4 ≡ 0 → count ≤ 1048576 →
    IsReader true ProgramFile (λ n bytes. with_count n layout base (count, bytes))
count_rest layout base count even few =
    file_then (List ℕ) ProgramFile (λ n. words_field n count) (λ words n bytes. with_words n layout base (words, bytes)) true
    (λ words. length words ≡ count) Never (words_go Never count)
    (λ words len. words_rest layout base words even (omega (arith, len)))
    (never_ends ProgramFile (λ n bytes. with_count n layout base (count, bytes))) (λ before kind never late. never)

base_rest : (layout : Layout) (base : ℕ) → base % 4 ≡ 0 → base < 2 ^ 32 →
    IsReader true ProgramFile (λ n bytes. with_base n layout (base, bytes))
base_rest layout base even low =
    file_then ℕ ProgramFile (λ n. word_count_field n base) (λ count n bytes. with_count n layout base (count, bytes)) true
    (λ count. word_count_fault base count ≡ None) AtFront (word_count_goes base)
    (λ count right. count_rest layout base count even
    (leb-true count 1048576 (and_parts (nat_le count 1048576) (nat_le (base + 4 * count) (2 ^ 32))
    (some_fault (nat_le count 1048576 && nat_le (base + 4 * count) (2 ^ 32)) fault.Count right)).0))
    (ends_at_front true ProgramFile (λ n bytes. with_base n layout (base, bytes)) (count_ends layout base even low)) AtFront-inside

based_rest : (layout : Layout) → IsReader true ProgramFile (λ n bytes. based_file n layout bytes)
based_rest layout =
    file_then ℕ ProgramFile base_field (λ base n bytes. with_base n layout (base, bytes)) true
    (λ base. (base_fault base ≡ None) × (base < 2 ^ 32)) AtFront base_goes
    (λ base known. base_rest layout base (eqb-true (base % 4) 0 (some_fault (base % 4 == 0) fault.Base known.0)) known.1)
    (ends_at_front true ProgramFile (λ n bytes. based_file n layout bytes) (base_ends layout)) AtFront-inside

-- what follows the first word of a file with a base, and of any other
pub based_goes : (layout : Layout) → IsReader true ProgramFile (λ n bytes. with_form n (Based layout, bytes))
based_goes layout =
    reads_alike ProgramFile (λ n bytes. based_file n layout bytes) (λ n bytes. with_form n (Based layout, bytes)) (based_alike layout) true
    (based_rest layout)

placed_rest : (placed : RiscProgram) → IsReader false ProgramFile (λ n bytes. with_placed n Spanned (placed, bytes))
placed_rest placed =
    file_then ℕ ProgramFile chunk_count_field (λ count n bytes. with_chunk_count n Spanned placed (count, bytes)) false
    (λ count. Unit {0}) Loose (chunk_count_goes Loose refl)
    (λ count known. chunks_rest false Spanned placed count)
    (loose_ends ProgramFile (λ n bytes. with_placed n Spanned (placed, bytes))) Loose-inside

spanned_rest : IsReader false ProgramFile (λ n bytes. with_form n (Spanned, bytes))
spanned_rest =
    file_then RiscProgram ProgramFile spanned_field (λ placed n bytes. with_placed n Spanned (placed, bytes)) false
    (λ placed. Unit {0}) Loose spanned_goes (λ placed known. placed_rest placed)
    (loose_ends ProgramFile (λ n bytes. with_form n (Spanned, bytes))) Loose-inside

form_rest : (form : ProgramForm) → IsReader false ProgramFile (λ n bytes. with_form n (form, bytes))
form_rest (Based layout) = reads_loosely ProgramFile (λ n bytes. with_form n (Based layout, bytes)) (based_goes layout)
form_rest Spanned = spanned_rest

pub file_goes : IsReader false ProgramFile file_of
file_goes =
    file_then ProgramForm ProgramFile form_field (λ form n bytes. with_form n (form, bytes)) false (λ form. Unit {0}) AtFront form_goes
    (λ form known. form_rest form)
    (ends_at_front false ProgramFile file_of file_ends) AtFront-inside

-- a file that names a form with a base
pub based_file_goes : (size : ℕ) (bytes : List ℕ) (layout : Layout) (rest : List ℕ) → IsBytes bytes →
    form_field size bytes ≡ Ok (Based layout, rest) → FileGoes true ProgramFile file_of size bytes (file_of size bytes)
based_file_goes size bytes layout rest fits e =
    let goes : FieldGoes ProgramForm form_field (λ form. Unit {0}) AtFront size bytes (Ok (Based layout, rest)) =
    subst (λ (r : Field ProgramForm). FieldGoes ProgramForm form_field (λ form. Unit {0}) AtFront size bytes r) e
    (form_goes size bytes fits) in
    subst (λ (r : Field ProgramForm). FileGoes true ProgramFile file_of size bytes (r >>= λ x. with_form size x)) (sym e)
    (after_field ProgramForm ProgramFile form_field (λ form n bytes. with_form n (form, bytes)) true (λ form. Unit {0}) AtFront size bytes
    (Based layout, rest) goes (with_form size (Based layout, rest))
    (based_goes layout size rest (IsBytes-behind goes.front rest bytes goes.parts fits)))
