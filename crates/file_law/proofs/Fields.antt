-- The fields of a program file, each with what it gives where it is right.
use Rattle.std.proofs.Common.{◌≡◌, ℕ, zero, suc, ◌+◌, ◌*◌, ◌%◌, ◌^◌, ◌<◌, ◌≤◌, inl, inr, Bool, true, false, cond, List, [], ◌∷◌, ◌++◌}
use Rattle.std.proofs.Common.{length, take, drop, Option, Some, None, Ok, Err, refl, sym, ap, subst, ◌∙◌, arith, length-append}
use Rattle.std.specs.Prelude.{nat_le, nat_lt, not, ◌&&◌, ◌==◌}
use Rattle.std.proofs.lemmas.Bool.{leb-true, le-leb}
use Rattle.std.proofs.lemmas.List.{drop_at, length-take-le, take-append-drop}
use Rattle.byteorder.specs.Endian.{little_number}
use Rattle.page_table.specs.Grants.{Chunk, chunk}
use Rattle.machine_model.specs.Paths.{begins_at, RiscProgram, Span, end_of, is_there, shares_byte, span, word_among}
use Rattle.capture_file.specs.declared.FileKind.{FileKind}
use Rattle.capture_file.specs.declared.FileKind.TheVariants as fault
use Rattle.capture_file.specs.declared.program.Layout.{Layout}
use Rattle.capture_file.specs.declared.program.Layout.TheVariants.{Paged, Chunked}
use Rattle.capture_file.specs.declared.program.ProgramForm.{ProgramForm}
use Rattle.capture_file.proofs.SpansRead.{words_length}
use Rattle.capture_file.specs.Programs.{Field, ◌>>=◌, cut, judged, number_field, form_field, form_of, form_or_magic, base_field, base_fault}
use Rattle.capture_file.specs.Programs.{word_count_field, word_count_fault, words_in}
use Rattle.capture_file.specs.Programs.{words_field, chunk_count_field, chunk_count_fault, page_field, page_fault, long_chunk_field}
use Rattle.capture_file.specs.Programs.{address_fault, length_fault, is_length, chunk_field, chunks_field}
use Rattle.capture_file.specs.Programs.{entry_fault, entry_field, span_address_fault, span_address_field, span_field, span_length_fault}
use Rattle.capture_file.specs.Programs.{span_length_field, span_number_fault, span_number_field, spanned_field, spans_field, without_grants}
use Rattle.capture_file.proofs.FourBytes.{number_low}
use Rattle.file_law.specs.ProgramBeginnings.{IsWhole, field_width, has_good_beginning}
use Rattle.file_law.proofs.Judging.{Reader, FieldGoes, Inside, IsField, field_then}

-- ---- a number that is checked by its value

-- the kind of fault that a number may have
pub record IsOfNumber (kind : FileKind) : Type 0 where
  pub width : 4 ≡ field_width kind
  pub whole : IsWhole kind
  pub inside : kind ≡ fault.AfterEnd → ⊥

abbrev pub AtFront : List ℕ → FileKind → Type 0
AtFront before kind = (before ≡ []) × (kind ≡ fault.AfterEnd → ⊥)

pub AtFront-inside : Inside AtFront
AtFront-inside before kind noted late = noted.1 late

module _ (A : Type 0) (value : ℕ → A) (wrongs : ℕ → Option FileKind) (Known : A → Type 0)
    (Noted : List ℕ → FileKind → Type 0) (of : (n : ℕ) (kind : FileKind) → wrongs n ≡ Some kind → IsOfNumber kind × Noted [] kind)
    (known : (n : ℕ) → wrongs n ≡ None → n < 2 ^ 32 → Known (value n)) where
  abbrev pub judged_number : Reader (A × List ℕ)
  judged_number size bytes = number_field size bytes >>= λ x. judged (wrongs x.0) size bytes >>= λ _. Ok (value x.0, x.1)

  pub number_goes : IsField A judged_number Known Noted
  number_goes size [] fits = inl refl
  number_goes size (a ∷ []) fits = inl refl
  number_goes size (a ∷ b ∷ []) fits = inl refl
  number_goes size (a ∷ b ∷ c ∷ []) fits = inl refl
  number_goes size (a ∷ b ∷ c ∷ d ∷ rest) fits = by_fault (wrongs n) refl
    where
      n : ℕ
      n = little_number 4 (a ∷ b ∷ c ∷ d ∷ [])

      by_fault : (k : Option FileKind) → wrongs (little_number 4 (a ∷ b ∷ c ∷ d ∷ [])) ≡ k →
          FieldGoes A judged_number Known Noted size (a ∷ b ∷ c ∷ d ∷ rest)
          (judged k size (a ∷ b ∷ c ∷ d ∷ rest) >>= λ _. Ok (value (little_number 4 (a ∷ b ∷ c ∷ d ∷ [])), rest))
      by_fault None right =
          record {
            front = a ∷ b ∷ c ∷ d ∷ [];
            parts = refl;
            again = λ m more. ap (λ (k : Option FileKind). judged k m (a ∷ b ∷ c ∷ d ∷ more) >>= λ _.
                Ok (value (little_number 4 (a ∷ b ∷ c ∷ d ∷ [])), more)) right;
            known = known (little_number 4 (a ∷ b ∷ c ∷ d ∷ [])) right (number_low a b c d rest fits);
          }
      by_fault (Some kind) is_wrong =
          let found = of (little_number 4 (a ∷ b ∷ c ∷ d ∷ [])) kind is_wrong in
          let number = found.0 in
          inr
          (record {
            before = [];
            field = a ∷ b ∷ c ∷ d ∷ [];
            rest = rest;
            kind = kind;
            parts = refl;
            width = number.width;
            is = refl;
            whole = number.whole;
            again = λ m more. ap (λ (k : Option FileKind). judged k m (a ∷ b ∷ c ∷ d ∷ more) >>= λ _.
                Ok (value (little_number 4 (a ∷ b ∷ c ∷ d ∷ [])), more)) is_wrong;
            cut_before = λ other m. refl;
            done_before = λ late m. absurd (number.inside late);
            noted = found.1;
          })

-- ---- the first word

form_goes_at : (size : ℕ) (a b c d : ℕ) (rest : List ℕ) (l : Option ProgramForm) → form_of (little_number 4 (a ∷ b ∷ c ∷ d ∷ [])) ≡ l →
    FieldGoes ProgramForm form_field (λ form. Unit {0}) AtFront size (a ∷ b ∷ c ∷ d ∷ rest)
    (form_or_magic size (a ∷ b ∷ c ∷ d ∷ rest) l rest)
unfolding form_field
form_goes_at size a b c d rest (Some form) named =
    record {
      front = a ∷ b ∷ c ∷ d ∷ [];
      parts = refl;
      again = λ m more. ap (λ (l : Option ProgramForm). form_or_magic m (a ∷ b ∷ c ∷ d ∷ more) l more) named;
      known = tt;
    }
form_goes_at size a b c d rest None unnamed =
    inr
    (record {
      before = [];
      field = a ∷ b ∷ c ∷ d ∷ [];
      rest = rest;
      kind = fault.Magic;
      parts = refl;
      width = refl;
      is = refl;
      whole = λ e. absurd (cc);
      again = λ m more. ap (λ (l : Option ProgramForm). form_or_magic m (a ∷ b ∷ c ∷ d ∷ more) l more) unnamed;
      cut_before = λ other m. refl;
      done_before = λ late m. absurd (cc);
      noted = (refl, λ late. absurd (cc));
    })

pub form_goes : IsField ProgramForm form_field (λ form. Unit {0}) AtFront
unfolding form_field
form_goes size [] fits = inl refl
form_goes size (a ∷ []) fits = inl refl
form_goes size (a ∷ b ∷ []) fits = inl refl
form_goes size (a ∷ b ∷ c ∷ []) fits = inl refl
form_goes size (a ∷ b ∷ c ∷ d ∷ rest) fits = form_goes_at size a b c d rest (form_of (little_number 4 (a ∷ b ∷ c ∷ d ∷ []))) refl

-- ---- base and counts

one_kind : (b : Bool) (kind other : FileKind) → cond b None (Some kind) ≡ Some other → kind ≡ other
one_kind true kind other e = absurd (cc)
one_kind false kind other e = cc

base_is : IsOfNumber fault.Base
base_is = record { width = refl; whole = λ e. absurd (cc); inside = λ e. absurd (cc) }

count_is : IsOfNumber fault.Count
count_is = record { width = refl; whole = λ e. absurd (cc); inside = λ e. absurd (cc) }

-- a number with one fault
module _ (wrongs : ℕ → Bool) (kind : FileKind) (Noted : List ℕ → FileKind → Type 0) (is : IsOfNumber kind) (noted : Noted [] kind) where
  pub one_fault : (n : ℕ) (other : FileKind) → cond (wrongs n) None (Some kind) ≡ Some other → IsOfNumber other × Noted [] other
  one_fault n other e =
      let same = one_kind (wrongs n) kind other e in
      (subst IsOfNumber same is, subst (Noted []) same noted)

pub base_goes : IsField ℕ base_field (λ base. (base_fault base ≡ None) × (base < 2 ^ 32)) AtFront
unfolding base_field
base_goes =
    number_goes ℕ (λ n. n) base_fault (λ base. (base_fault base ≡ None) × (base < 2 ^ 32)) AtFront
    (one_fault (λ n. n % 4 == 0) fault.Base AtFront base_is (refl, base_is.inside)) (λ n right low. (right, low))

pub word_count_goes : (base : ℕ) → IsField ℕ (λ size. word_count_field size base) (λ count. word_count_fault base count ≡ None) AtFront
unfolding word_count_field
word_count_goes base =
    number_goes ℕ (λ n. n) (word_count_fault base) (λ count. word_count_fault base count ≡ None) AtFront
    (one_fault (λ n. nat_le n 1048576 && nat_le (base + 4 * n) (2 ^ 32)) fault.Count AtFront count_is (refl, count_is.inside))
    (λ n right low. right)

pub chunk_count_goes : (Noted : List ℕ → FileKind → Type 0) → Noted [] fault.Count → IsField ℕ chunk_count_field (λ count. Unit {0}) Noted
unfolding chunk_count_field
chunk_count_goes Noted noted =
    number_goes ℕ (λ n. n) chunk_count_fault (λ count. Unit {0}) Noted (one_fault (λ n. nat_le n 4096) fault.Count Noted count_is noted)
    (λ n right low. tt)

-- ---- the words

words_back : (count : ℕ) (bytes more : List ℕ) → 4 * count ≤ length bytes →
    words_in count (take (4 * count) bytes ++ more) ≡ words_in count bytes
words_back zero bytes more long = refl
words_back (suc count) [] more long = absurd (omega arith)
words_back (suc count) (a ∷ []) more long = absurd (omega arith)
words_back (suc count) (a ∷ b ∷ []) more long = absurd (omega arith)
words_back (suc count) (a ∷ b ∷ c ∷ []) more long = absurd (omega arith)
words_back (suc count) (a ∷ b ∷ c ∷ d ∷ rest) more long =
    let four : 4 * suc count ≡ suc (suc (suc (suc (4 * count)))) = omega arith in
    ap (λ (n : ℕ). words_in (suc count) (take n (a ∷ b ∷ c ∷ d ∷ rest) ++ more)) four
    ∙ ap (λ (words : List ℕ). little_number 4 (a ∷ b ∷ c ∷ d ∷ []) ∷ words) (words_back count rest more (omega arith))

words_at : (Noted : List ℕ → FileKind → Type 0) (size count : ℕ) (bytes : List ℕ) (b : Bool) → nat_le (4 * count) (length bytes) ≡ b →
    FieldGoes (List ℕ) (λ n. words_field n count) (λ words. length words ≡ count) Noted size bytes
    (cond b (Ok (words_in count bytes, drop (4 * count) bytes)) (Err (cut size)))
unfolding words_field
words_at Noted size count bytes true long =
    let le : 4 * count ≤ length bytes = leb-true (4 * count) (length bytes) long in
    let front : List ℕ = take (4 * count) bytes in
    let len : length front ≡ 4 * count = length-take-le (4 * count) bytes le in
    record {
      front = front;
      parts = sym (take-append-drop (4 * count) bytes);
      again =
          λ n more.
          let longer : 4 * count ≤ length (front ++ more) = omega (arith, length-append front more) in
          rw (le-leb (4 * count) (length (front ++ more)) longer, words_back count bytes more le, drop_at front more (4 * count) len) refl;
      known = words_length count bytes;
    }
words_at Noted size count bytes false short = inl refl

pub words_go : (Noted : List ℕ → FileKind → Type 0) (count : ℕ) →
    IsField (List ℕ) (λ n. words_field n count) (λ words. length words ≡ count) Noted
unfolding words_field
words_go Noted count size bytes fits = words_at Noted size count bytes (nat_le (4 * count) (length bytes)) refl

-- ---- the chunks

abbrev pub Crowded : List ℕ → FileKind → Type 0
Crowded before kind = (based : Bool) → has_good_beginning based kind ≡ false

pub Crowded-inside : Inside Crowded
Crowded-inside before kind crowded late = let no : false ≡ true = sym (crowded false) ∙ ap (has_good_beginning false) late in cc

abbrev Any : {A : Type 0} → A → Type 0
Any x = Unit {0}

pub record IsOfChunk (kind : FileKind) : Type 0 where
  pub number : IsOfNumber kind
  pub crowded : (based : Bool) → has_good_beginning based kind ≡ false

page_is : IsOfChunk fault.Page
page_is = record { number = record { width = refl; whole = λ e. absurd (cc); inside = λ e. absurd (cc) }; crowded = λ based. refl }

order_is : IsOfChunk fault.Order
order_is = record { number = record { width = refl; whole = λ e. absurd (cc); inside = λ e. absurd (cc) }; crowded = λ based. refl }

overlap_is : IsOfChunk fault.Overlap
overlap_is = record { number = record { width = refl; whole = λ e. absurd (cc); inside = λ e. absurd (cc) }; crowded = λ based. refl }

length_is : IsOfChunk fault.Length
length_is = record { number = record { width = refl; whole = λ e. absurd (cc); inside = λ e. absurd (cc) }; crowded = λ based. refl }

-- a fault that is one of a chunk's, or one that is found after it
first_or : (b : Bool) (kind other : FileKind) (later : Option FileKind) → IsOfChunk kind → (later ≡ Some other → IsOfChunk other) →
    cond b (Some kind) later ≡ Some other → IsOfChunk other
first_or true kind other later is more e = let same : kind ≡ other = cc in subst IsOfChunk same is
first_or false kind other later is more e = more e

none_left : (kind : FileKind) → None ≡ Some kind → IsOfChunk kind
none_left kind e = absurd (cc)

page_of : (program : RiscProgram) (from at : ℕ) (kind : FileKind) → page_fault program from at ≡ Some kind → IsOfChunk kind
page_of program from at kind e =
    first_or (not (at % 4096 == 0)) fault.Page kind
    (cond (nat_lt at from) (Some fault.Order) (cond (shares_byte program (chunk at 4096)) (Some fault.Overlap) None)) page_is
    (first_or (nat_lt at from) fault.Order kind (cond (shares_byte program (chunk at 4096)) (Some fault.Overlap) None) order_is
    (first_or (shares_byte program (chunk at 4096)) fault.Overlap kind None overlap_is (none_left kind))) e

address_of : (from at : ℕ) (kind : FileKind) → address_fault from at ≡ Some kind → IsOfChunk kind
address_of from at kind e =
    first_or (not (at % 4 == 0)) fault.Page kind (cond (nat_lt at from) (Some fault.Order) None) page_is
    (first_or (nat_lt at from) fault.Order kind None order_is (none_left kind)) e

length_of : (program : RiscProgram) (sum at len : ℕ) (kind : FileKind) → length_fault program sum at len ≡ Some kind → IsOfChunk kind
length_of program sum at len kind e =
    first_or (not (is_length sum at len)) fault.Length kind (cond (shares_byte program (chunk at len)) (Some fault.Overlap) None) length_is
    (first_or (shares_byte program (chunk at len)) fault.Overlap kind None overlap_is (none_left kind)) e

page_goes_at : (program : RiscProgram) (from size a b c d : ℕ) (rest : List ℕ) (k : Option FileKind) →
    page_fault program from (little_number 4 (a ∷ b ∷ c ∷ d ∷ [])) ≡ k →
    FieldGoes Chunk (λ n. page_field n program from) Any Crowded size (a ∷ b ∷ c ∷ d ∷ rest)
    (judged k size (a ∷ b ∷ c ∷ d ∷ rest) >>= λ _. Ok (chunk (little_number 4 (a ∷ b ∷ c ∷ d ∷ [])) 4096, rest))
unfolding page_field
page_goes_at program from size a b c d rest None right =
    record {
      front = a ∷ b ∷ c ∷ d ∷ [];
      parts = refl;
      again = λ m more. ap (λ (k : Option FileKind). judged k m (a ∷ b ∷ c ∷ d ∷ more) >>= λ _.
          Ok (chunk (little_number 4 (a ∷ b ∷ c ∷ d ∷ [])) 4096, more)) right;
      known = tt;
    }
page_goes_at program from size a b c d rest (Some kind) is_wrong =
    let of = page_of program from (little_number 4 (a ∷ b ∷ c ∷ d ∷ [])) kind is_wrong in
    inr
    (record {
      before = [];
      field = a ∷ b ∷ c ∷ d ∷ [];
      rest = rest;
      kind = kind;
      parts = refl;
      width = of.number.width;
      is = refl;
      whole = of.number.whole;
      again = λ m more. ap (λ (k : Option FileKind). judged k m (a ∷ b ∷ c ∷ d ∷ more) >>= λ _.
          Ok (chunk (little_number 4 (a ∷ b ∷ c ∷ d ∷ [])) 4096, more)) is_wrong;
      cut_before = λ other m. refl;
      done_before = λ late m. absurd (of.number.inside late);
      noted = of.crowded;
    })

page_goes : (program : RiscProgram) (from : ℕ) → IsField Chunk (λ n. page_field n program from) Any Crowded
unfolding page_field
page_goes program from size [] fits = inl refl
page_goes program from size (a ∷ []) fits = inl refl
page_goes program from size (a ∷ b ∷ []) fits = inl refl
page_goes program from size (a ∷ b ∷ c ∷ []) fits = inl refl
page_goes program from size (a ∷ b ∷ c ∷ d ∷ rest) fits =
    page_goes_at program from size a b c d rest (page_fault program from (little_number 4 (a ∷ b ∷ c ∷ d ∷ []))) refl

-- an address, and the length behind it
module _ (program : RiscProgram) (from sum a b c d : ℕ) where
  abbrev at : ℕ
  at = little_number 4 (a ∷ b ∷ c ∷ d ∷ [])

  abbrev behind : ℕ → List ℕ → Field Chunk
  behind size bytes =
      number_field size bytes >>= λ len. judged (length_fault program sum at len.0) size bytes >>= λ _. Ok (chunk at len.0, len.1)

  abbrev Goes : ℕ → List ℕ → Field Chunk → Type 0
  Goes size bytes r = FieldGoes Chunk (λ n. long_chunk_field n program from sum) Any Crowded size bytes r

  length_at : (right : address_fault from at ≡ None) (size e f g h : ℕ) (rest : List ℕ) (k : Option FileKind) →
      length_fault program sum at (little_number 4 (e ∷ f ∷ g ∷ h ∷ [])) ≡ k →
      Goes size (a ∷ b ∷ c ∷ d ∷ e ∷ f ∷ g ∷ h ∷ rest)
      (judged k size (e ∷ f ∷ g ∷ h ∷ rest) >>= λ _. Ok (chunk at (little_number 4 (e ∷ f ∷ g ∷ h ∷ [])), rest))
  unfolding long_chunk_field
  length_at right size e f g h rest None good =
      record {
        front = a ∷ b ∷ c ∷ d ∷ e ∷ f ∷ g ∷ h ∷ [];
        parts = refl;
        again =
            λ m more.
            ap (λ (k : Option FileKind). judged k m (a ∷ b ∷ c ∷ d ∷ e ∷ f ∷ g ∷ h ∷ more) >>= λ _. behind m (e ∷ f ∷ g ∷ h ∷ more)) right
            ∙ ap (λ (k : Option FileKind). judged k m (e ∷ f ∷ g ∷ h ∷ more)
            >>= λ _. Ok (chunk at (little_number 4 (e ∷ f ∷ g ∷ h ∷ [])), more)) good;
        known = tt;
      }
  length_at right size e f g h rest (Some kind) is_wrong =
      let of = length_of program sum at (little_number 4 (e ∷ f ∷ g ∷ h ∷ [])) kind is_wrong in
      inr
      (record {
        before = a ∷ b ∷ c ∷ d ∷ [];
        field = e ∷ f ∷ g ∷ h ∷ [];
        rest = rest;
        kind = kind;
        parts = refl;
        width = of.number.width;
        is = refl;
        whole = of.number.whole;
        again =
            λ m more.
            ap (λ (k : Option FileKind). judged k m (a ∷ b ∷ c ∷ d ∷ e ∷ f ∷ g ∷ h ∷ more) >>= λ _. behind m (e ∷ f ∷ g ∷ h ∷ more)) right
            ∙ ap (λ (k : Option FileKind). judged k m (e ∷ f ∷ g ∷ h ∷ more)
            >>= λ _. Ok (chunk at (little_number 4 (e ∷ f ∷ g ∷ h ∷ [])), more)) is_wrong;
        cut_before = λ other m. ap (λ (k : Option FileKind). judged k m (a ∷ b ∷ c ∷ d ∷ []) >>= λ _. behind m []) right;
        done_before = λ late m. absurd (of.number.inside late);
        noted = of.crowded;
      })

  behind_at : (right : address_fault from at ≡ None) (size : ℕ) (rest : List ℕ) → Goes size (a ∷ b ∷ c ∷ d ∷ rest) (behind size rest)
  behind_at right size [] = inl refl
  behind_at right size (e ∷ []) = inl refl
  behind_at right size (e ∷ f ∷ []) = inl refl
  behind_at right size (e ∷ f ∷ g ∷ []) = inl refl
  behind_at right size (e ∷ f ∷ g ∷ h ∷ rest) =
      length_at right size e f g h rest (length_fault program sum at (little_number 4 (e ∷ f ∷ g ∷ h ∷ []))) refl

  address_at : (size : ℕ) (rest : List ℕ) (k : Option FileKind) → address_fault from at ≡ k →
      Goes size (a ∷ b ∷ c ∷ d ∷ rest) (judged k size (a ∷ b ∷ c ∷ d ∷ rest) >>= λ _. behind size rest)
  unfolding long_chunk_field
  address_at size rest None right = behind_at right size rest
  address_at size rest (Some kind) is_wrong =
      let of = address_of from at kind is_wrong in
      inr
      (record {
        before = [];
        field = a ∷ b ∷ c ∷ d ∷ [];
        rest = rest;
        kind = kind;
        parts = refl;
        width = of.number.width;
        is = refl;
        whole = of.number.whole;
        again = λ m more. ap (λ (k : Option FileKind). judged k m (a ∷ b ∷ c ∷ d ∷ more) >>= λ _. behind m more) is_wrong;
        cut_before = λ other m. refl;
        done_before = λ late m. absurd (of.number.inside late);
        noted = of.crowded;
      })

long_chunk_goes : (program : RiscProgram) (from sum : ℕ) → IsField Chunk (λ n. long_chunk_field n program from sum) Any Crowded
unfolding long_chunk_field
long_chunk_goes program from sum size [] fits = inl refl
long_chunk_goes program from sum size (a ∷ []) fits = inl refl
long_chunk_goes program from sum size (a ∷ b ∷ []) fits = inl refl
long_chunk_goes program from sum size (a ∷ b ∷ c ∷ []) fits = inl refl
long_chunk_goes program from sum size (a ∷ b ∷ c ∷ d ∷ rest) fits =
    address_at program from sum a b c d size rest (address_fault from (little_number 4 (a ∷ b ∷ c ∷ d ∷ []))) refl

chunk_goes : (layout : Layout) (program : RiscProgram) (from sum : ℕ) →
    IsField Chunk (λ n. chunk_field layout n program from sum) Any Crowded
chunk_goes Paged program from sum = page_goes program from
chunk_goes Chunked program from sum = long_chunk_goes program from sum

listed_goes : (c : Chunk) (chunks : List Chunk) → IsField (List Chunk) (λ n bytes. Ok (c ∷ chunks, bytes)) Any Crowded
listed_goes c chunks size bytes fits = record { front = []; parts = refl; again = λ n more. refl; known = tt }

pub chunks_go : (layout : Layout) (program : RiscProgram) (count from sum : ℕ) →
    IsField (List Chunk) (λ n. chunks_field layout n program count from sum) Any Crowded
unfolding chunks_field
chunks_go layout program zero from sum = λ size bytes fits. record { front = []; parts = refl; again = λ n more. refl; known = tt }
chunks_go layout program (suc count) from sum =
    field_then Chunk (List Chunk) (λ n. chunk_field layout n program from sum)
    (λ c n bytes. chunks_field layout n program count (c.at + c.len) (sum + c.len) bytes >>= λ others. Ok (c ∷ others.0, others.1)) Any Any
    Crowded (chunk_goes layout program from sum)
    (λ c known.
    field_then (List Chunk) (List Chunk) (λ n. chunks_field layout n program count (c.at + c.len) (sum + c.len))
    (λ others n bytes. Ok (c ∷ others, bytes)) Any Any Crowded
    (chunks_go layout program count (c.at + c.len) (sum + c.len)) (λ others known. listed_goes c others)
    (λ front before kind noted. noted) Crowded-inside)
    (λ front before kind noted. noted) Crowded-inside

-- ---- the spans and the entry

-- a fault before which there need be no good file's beginning, in a file without a base
abbrev pub Loose : List ℕ → FileKind → Type 0
Loose before kind = has_good_beginning false kind ≡ false

pub Loose-inside : Inside Loose
Loose-inside before kind loose late = let no : false ≡ true = sym loose ∙ ap (has_good_beginning false) late in cc

two_faults : (b c : Bool) (first second other : FileKind) → IsOfNumber first × Loose [] first → IsOfNumber second × Loose [] second →
    cond b (Some first) (cond c (Some second) None) ≡ Some other → IsOfNumber other × Loose [] other
two_faults true c first second other is too e = let same : first ≡ other = cc in subst (λ (k : FileKind). IsOfNumber k × Loose [] k) same is
two_faults false true first second other is too e =
    let same : second ≡ other = cc in
    subst (λ (k : FileKind). IsOfNumber k × Loose [] k) same too
two_faults false false first second other is too e = absurd (cc)

entry_is : IsOfNumber fault.Entry
entry_is = record { width = refl; whole = λ e. absurd (cc); inside = λ e. absurd (cc) }

span_number_goes : IsField ℕ span_number_field Any Loose
unfolding span_number_field
span_number_goes =
    number_goes ℕ (λ n. n) span_number_fault Any Loose (one_fault (λ n. not (n == 0) && nat_le n 4096) fault.Count Loose count_is refl)
    (λ n right low. tt)

span_address_goes : (from : ℕ) → IsField ℕ (λ n. span_address_field n from) Any Loose
unfolding span_address_field
span_address_goes from =
    number_goes ℕ (λ n. n) (span_address_fault from) Any Loose
    (λ n kind e. two_faults (not (n % 4 == 0)) (nat_lt n from) fault.Base fault.Order kind (base_is, refl) (order_is.number, refl) e)
    (λ n right low. tt)

span_length_goes : (at sum : ℕ) → IsField ℕ (λ n. span_length_field n at sum) Any Loose
unfolding span_length_field
span_length_goes at sum =
    number_goes ℕ (λ n. n) (span_length_fault at sum) Any Loose
    (one_fault (λ n. not (n == 0) && nat_le (sum + n) 1048576 && nat_le (at + 4 * n) (2 ^ 32)) fault.Count Loose count_is refl)
    (λ n right low. tt)

entry_goes : (spans : List Span) → IsField ℕ (λ n. entry_field n spans) Any Loose
unfolding entry_field
entry_goes spans =
    number_goes ℕ (λ n. n) (entry_fault spans) Any Loose
    (one_fault (λ n. is_there (word_among spans n) && not (begins_at n spans)) fault.Entry Loose entry_is refl) (λ n right low. tt)

given : {A : Type 0} (x : A) → IsField A (λ n bytes. Ok (x, bytes)) Any Loose
given x size bytes fits = record { front = []; parts = refl; again = λ n more. refl; known = tt }

turned : (front before : List ℕ) (kind : FileKind) → Loose before kind → Loose (front ++ before) kind
turned front before kind loose = loose

span_goes : (from sum : ℕ) → IsField Span (λ n. span_field n from sum) Any Loose
unfolding span_field
span_goes from sum =
    field_then ℕ Span (λ n. span_address_field n from) (λ at n bytes. span_length_field n at sum bytes
    >>= λ count. words_field n count.0 count.1 >>= λ words. Ok (span at words.0, words.1)) Any Any Loose (span_address_goes from)
    (λ at known.
    field_then ℕ Span (λ n. span_length_field n at sum)
    (λ count n bytes. words_field n count bytes >>= λ words. Ok (span at words.0, words.1)) Any Any Loose (span_length_goes at sum)
    (λ count known.
    field_then (List ℕ) Span (λ n. words_field n count) (λ words n bytes. Ok (span at words, bytes))
    (λ words. length words ≡ count) Any Loose (words_go Loose count) (λ words known. given (span at words)) turned Loose-inside)
    turned Loose-inside)
    turned Loose-inside

spans_go : (count from sum : ℕ) → IsField (List Span) (λ n. spans_field n count from sum) Any Loose
unfolding spans_field
spans_go zero from sum = λ size bytes fits. record { front = []; parts = refl; again = λ n more. refl; known = tt }
spans_go (suc count) from sum =
    field_then Span (List Span) (λ n. span_field n from sum)
    (λ s n bytes. spans_field n count (end_of s + 1) (sum + length s.words) bytes >>= λ others. Ok (s ∷ others.0, others.1)) Any Any Loose
    (span_goes from sum)
    (λ s known.
    field_then (List Span) (List Span) (λ n. spans_field n count (end_of s + 1) (sum + length s.words))
    (λ others n bytes. Ok (s ∷ others, bytes)) Any Any Loose
    (spans_go count (end_of s + 1) (sum + length s.words)) (λ others known. given (s ∷ others)) turned Loose-inside)
    turned Loose-inside

pub spanned_goes : IsField RiscProgram spanned_field (λ placed. Unit {0}) Loose
unfolding spanned_field
spanned_goes =
    field_then ℕ RiscProgram span_number_field (λ count n bytes. spans_field n count 0 0 bytes >>= λ spans. entry_field n spans.0 spans.1
    >>= λ entry. Ok (without_grants entry.0 spans.0, entry.1)) Any Any Loose span_number_goes
    (λ count known.
    field_then (List Span) RiscProgram (λ n. spans_field n count 0 0)
    (λ spans n bytes. entry_field n spans bytes >>= λ entry. Ok (without_grants entry.0 spans, entry.1)) Any Any Loose (spans_go count 0 0)
    (λ spans known.
    field_then ℕ RiscProgram (λ n. entry_field n spans) (λ entry n bytes. Ok (without_grants entry spans, bytes)) Any Any Loose
    (entry_goes spans) (λ entry known. given (without_grants entry spans)) turned Loose-inside)
    turned Loose-inside)
    turned Loose-inside
