-- What the bytes of a program file stand for, and the canonical encoding of a program.
use Rattle.std.specs.Prelude.{◌≡◌, ℕ, zero, suc, ◌+◌, ◌-◌, ◌*◌, ◌%◌, ◌^◌, ◌<◌, ◌≤◌, Bool, not, ◌&&◌, List, [], ◌∷◌, ◌++◌}
use Rattle.std.specs.Prelude.{length, drop, get_or, Option, Some, None, Result, Ok, Err, IsOk, if◌then◌else◌, ◌==◌, nat_lt, nat_le, codes}
use Rattle.std.specs.List.{flat_map, list_all}
use Rattle.byteorder.specs.Endian.{little_number, little_bytes}
use Rattle.page_table.specs.Grants.{Chunk, chunk, is_page, max_bytes, max_chunks, page_size}
use Rattle.machine_model.specs.Paths.{RiscProgram, Span, IsProgram, all_words, begins_at, end_of, is_there, max_spans, max_words, one_span}
use Rattle.machine_model.specs.Paths.{shares_byte, span, word_among}
use Rattle.capture_file.specs.declared.FileKind.{FileKind}
use Rattle.capture_file.specs.declared.FileKind.TheVariants as fault
use Rattle.capture_file.specs.declared.FileFault.{FileFault}
use Rattle.capture_file.specs.declared.program.Layout.{Layout}
use Rattle.capture_file.specs.declared.program.Layout.TheVariants.{Paged, Chunked}
use Rattle.capture_file.specs.declared.program.ProgramForm.{ProgramForm}
use Rattle.capture_file.specs.declared.program.ProgramForm.TheVariants.{Based, Spanned}
use Rattle.capture_file.specs.declared.program.ProgramFile.{ProgramFile}
use Rattle.capture_file.specs.declared.program.ProgramError.{ProgramError}
use Rattle.capture_file.specs.declared.program.ProgramError.TheVariants as errors
use Rattle.capture_file.specs.Streams.{fault_at, number_at}
use Rattle.risc_verify.specs.Places.{with_word}

-- a field's value and the bytes after it, or the first fault
abbrev pub Field : Type 0 → Type 0
Field A = Result (A × List ℕ) FileFault

infixl 10 ◌>>=◌
abbrev pub ◌>>=◌ : {A B : Type 0} → Result A FileFault → (A → Result B FileFault) → Result B FileFault
(Ok x) >>= f = f x
(Err e) >>= f = Err e

-- A file of `size` bytes. The field at the front of these last bytes of it: it is cut, or it is at
-- fault at its first byte, or it is right.
abbrev pub cut : ℕ → FileFault
cut size = fault_at size fault.Short

abbrev pub wrong : ℕ → List ℕ → FileKind → FileFault
wrong size bytes kind = fault_at (size - length bytes) kind

abbrev pub judged : Option FileKind → ℕ → List ℕ → Result (Unit {0}) FileFault
judged None size bytes = Ok tt
judged (Some kind) size bytes = Err (wrong size bytes kind)

abbrev pub number_or_cut : ℕ → Option ℕ → List ℕ → Field ℕ
number_or_cut size None rest = Err (cut size)
number_or_cut size (Some n) rest = Ok (n, rest)

abbrev pub number_field : ℕ → List ℕ → Field ℕ
number_field size bytes = number_or_cut size (number_at bytes) (drop 4 bytes)

-- the first word
abbrev pub form_of : ℕ → Option ProgramForm
form_of word =
    if word == little_number 4 (codes "BRP1") then Some (Based Paged)
    else (if word == little_number 4 (codes "BRP2") then Some (Based Chunked)
    else (if word == little_number 4 (codes "BRP3") then Some Spanned
    else None))

abbrev pub form_or_magic : ℕ → List ℕ → Option ProgramForm → List ℕ → Field ProgramForm
form_or_magic size bytes None rest = Err (wrong size bytes fault.Magic)
form_or_magic size bytes (Some form) rest = Ok (form, rest)

unfoldable pub form_field : ℕ → List ℕ → Field ProgramForm
form_field size bytes = do
  word ← number_field size bytes
  form_or_magic size bytes (form_of word.0) word.1

-- base and number of words, where they are one after another
abbrev pub base_fault : ℕ → Option FileKind
base_fault base = if base % 4 == 0 then None else Some fault.Base

unfoldable pub base_field : ℕ → List ℕ → Field ℕ
base_field size bytes = do
  base ← number_field size bytes
  _ ← judged (base_fault base.0) size bytes
  Ok base

abbrev pub word_count_fault : ℕ → ℕ → Option FileKind
word_count_fault base count =
    if nat_le count max_words && nat_le (base + 4 * count) (2 ^ 32) then None else Some fault.Count

unfoldable pub word_count_field : ℕ → ℕ → List ℕ → Field ℕ
word_count_field size base bytes = do
  count ← number_field size bytes
  _ ← judged (word_count_fault base count.0) size bytes
  Ok count

-- the words
abbrev pub words_in : ℕ → List ℕ → List ℕ
words_in zero bytes = []
words_in (suc count) bytes = little_number 4 bytes ∷ words_in count (drop 4 bytes)

unfoldable pub words_field : ℕ → ℕ → List ℕ → Field (List ℕ)
words_field size count bytes =
    if nat_le (4 * count) (length bytes) then Ok (words_in count bytes, drop (4 * count) bytes)
    else Err (cut size)

-- the number of spans
abbrev pub span_number_fault : ℕ → Option FileKind
span_number_fault count = if not (count == 0) && nat_le count max_spans then None else Some fault.Count

unfoldable pub span_number_field : ℕ → List ℕ → Field ℕ
span_number_field size bytes = do
  count ← number_field size bytes
  _ ← judged (span_number_fault count.0) size bytes
  Ok count

-- one span, where it may begin from an address on and those before have `sum` words
abbrev pub span_address_fault : ℕ → ℕ → Option FileKind
span_address_fault from at =
    if not (at % 4 == 0) then Some fault.Base
    else (if nat_lt at from then Some fault.Order else None)

unfoldable pub span_address_field : ℕ → ℕ → List ℕ → Field ℕ
span_address_field size from bytes = do
  at ← number_field size bytes
  _ ← judged (span_address_fault from at.0) size bytes
  Ok at

abbrev pub span_length_fault : ℕ → ℕ → ℕ → Option FileKind
span_length_fault at sum count =
    if not (count == 0) && nat_le (sum + count) max_words && nat_le (at + 4 * count) (2 ^ 32) then None
    else Some fault.Count

unfoldable pub span_length_field : ℕ → ℕ → ℕ → List ℕ → Field ℕ
span_length_field size at sum bytes = do
  count ← number_field size bytes
  _ ← judged (span_length_fault at sum count.0) size bytes
  Ok count

unfoldable pub span_field : ℕ → ℕ → ℕ → List ℕ → Field Span
span_field size from sum bytes = do
  at ← span_address_field size from bytes
  count ← span_length_field size at.0 sum at.1
  words ← words_field size count.0 count.1
  Ok (span at.0 words.0, words.1)

-- the spans, which don't touch
unfoldable pub spans_field : ℕ → ℕ → ℕ → ℕ → List ℕ → Field (List Span)
spans_field size zero from sum bytes = Ok ([], bytes)
spans_field size (suc count) from sum bytes = do
  s ← span_field size from sum bytes
  others ← spans_field size count (end_of s.0 + 1) (sum + length s.0.words) s.1
  Ok (s.0 ∷ others.0, others.1)

-- the entry, which is the address of a word
abbrev pub entry_fault : List Span → ℕ → Option FileKind
entry_fault spans entry =
    if is_there (word_among spans entry) && not (begins_at entry spans) then None else Some fault.Entry

unfoldable pub entry_field : ℕ → List Span → List ℕ → Field ℕ
entry_field size spans bytes = do
  entry ← number_field size bytes
  _ ← judged (entry_fault spans entry.0) size bytes
  Ok entry

-- the program without its chunks
abbrev pub without_grants : ℕ → List Span → RiscProgram
without_grants entry spans = record { base = entry; spans = spans; grants = [] }

unfoldable pub based_field : ℕ → List ℕ → Field RiscProgram
based_field size bytes = do
  base ← base_field size bytes
  count ← word_count_field size base.0 base.1
  words ← words_field size count.0 count.1
  Ok (one_span base.0 words.0 [], words.1)

unfoldable pub spanned_field : ℕ → List ℕ → Field RiscProgram
spanned_field size bytes = do
  count ← span_number_field size bytes
  spans ← spans_field size count.0 0 0 count.1
  entry ← entry_field size spans.0 spans.1
  Ok (without_grants entry.0 spans.0, entry.1)

abbrev pub placed_field : ProgramForm → ℕ → List ℕ → Field RiscProgram
placed_field (Based layout) size bytes = based_field size bytes
placed_field Spanned size bytes = spanned_field size bytes

-- the number of chunks
abbrev pub chunk_count_fault : ℕ → Option FileKind
chunk_count_fault count = if nat_le count max_chunks then None else Some fault.Count

unfoldable pub chunk_count_field : ℕ → List ℕ → Field ℕ
chunk_count_field size bytes = do
  count ← number_field size bytes
  _ ← judged (chunk_count_fault count.0) size bytes
  Ok count

-- one chunk, where the one before it ends at `from` and those before have `sum` bytes: a page is its
-- address alone
abbrev pub page_fault : RiscProgram → ℕ → ℕ → Option FileKind
page_fault program from at =
    if not (at % page_size == 0) then Some fault.Page
    else (if nat_lt at from then Some fault.Order
    else (if shares_byte program (chunk at page_size) then Some fault.Overlap
    else None))

abbrev pub address_fault : ℕ → ℕ → Option FileKind
address_fault from at =
    if not (at % 4 == 0) then Some fault.Page
    else (if nat_lt at from then Some fault.Order else None)

abbrev pub is_length : ℕ → ℕ → ℕ → Bool
is_length sum at len =
    not (len == 0) && len % 4 == 0 && nat_le (at + len) (2 ^ 32) && nat_le (sum + len) max_bytes

abbrev pub length_fault : RiscProgram → ℕ → ℕ → ℕ → Option FileKind
length_fault program sum at len =
    if not (is_length sum at len) then Some fault.Length
    else (if shares_byte program (chunk at len) then Some fault.Overlap
    else None)

unfoldable pub page_field : ℕ → RiscProgram → ℕ → List ℕ → Field Chunk
page_field size program from bytes = do
  at ← number_field size bytes
  _ ← judged (page_fault program from at.0) size bytes
  Ok (chunk at.0 page_size, at.1)

unfoldable pub long_chunk_field : ℕ → RiscProgram → ℕ → ℕ → List ℕ → Field Chunk
long_chunk_field size program from sum bytes = do
  at ← number_field size bytes
  _ ← judged (address_fault from at.0) size bytes
  len ← number_field size at.1
  _ ← judged (length_fault program sum at.0 len.0) size at.1
  Ok (chunk at.0 len.0, len.1)

abbrev pub chunk_field : Layout → ℕ → RiscProgram → ℕ → ℕ → List ℕ → Field Chunk
chunk_field Paged size program from sum bytes = page_field size program from bytes
chunk_field Chunked size program from sum bytes = long_chunk_field size program from sum bytes

unfoldable pub chunks_field : Layout → ℕ → RiscProgram → ℕ → ℕ → ℕ → List ℕ → Field (List Chunk)
chunks_field layout size program zero from sum bytes = Ok ([], bytes)
chunks_field layout size program (suc count) from sum bytes = do
  c ← chunk_field layout size program from sum bytes
  others ← chunks_field layout size program count (c.0.at + c.0.len) (sum + c.0.len) c.1
  Ok (c.0 ∷ others.0, others.1)

-- how a form spells its chunks
abbrev pub layout_of : ProgramForm → Layout
layout_of (Based layout) = layout
layout_of Spanned = Chunked

-- the fill, which is the last byte
abbrev pub fill_fault : ProgramForm → List Chunk → Option FileKind
fill_fault (Based Paged) chunks = None
fill_fault (Based Chunked) chunks = if list_all is_page chunks then Some fault.Pages else None
fill_fault Spanned chunks = None

abbrev pub nothing_after : ℕ → ℕ → List ℕ → Result ℕ FileFault
nothing_after size fill [] = Ok fill
nothing_after size fill (byte ∷ rest) = Err (wrong size (byte ∷ rest) fault.AfterEnd)

unfoldable pub fill_field : ProgramForm → ℕ → List Chunk → List ℕ → Result ℕ FileFault
fill_field form size chunks [] = Err (cut size)
fill_field form size chunks (fill ∷ rest) = do
  _ ← judged (fill_fault form chunks) size (fill ∷ rest)
  nothing_after size fill rest

-- the program that a file holds, or its first fault
abbrev pub with_grants : RiscProgram → List Chunk → RiscProgram
with_grants program chunks = record program { grants = chunks }

unfoldable pub program_in : ℕ → List ℕ → Result ProgramFile FileFault
program_in size bytes = do
  form ← form_field size bytes
  placed ← placed_field form.0 size form.1
  count ← chunk_count_field size placed.1
  chunks ← chunks_field (layout_of form.0) size placed.0 count.0 0 0 count.1
  fill ← fill_field form.0 size chunks.0 chunks.1
  Ok (record { program = with_grants placed.0 chunks.0; fill = fill })

-- what is read behind the words of a program, and when the front of a file gave its words
unfoldable pub behind_field : ProgramForm → ℕ → RiscProgram → List ℕ → Result ProgramFile FileFault
behind_field form size placed bytes = do
  count ← chunk_count_field size bytes
  chunks ← chunks_field (layout_of form) size placed count.0 0 0 count.1
  fill ← fill_field form size chunks.0 chunks.1
  Ok (record { program = with_grants placed chunks.0; fill = fill })

pub record IsPlaced (form : ProgramForm) (placed : RiscProgram) (size : ℕ) (rest : List ℕ) : Type 0 where
  pub bytes : List ℕ
  pub behind : List ℕ
  pub fits : (i : ℕ) → get_or bytes i 0 < 256
  pub whole : size ≡ length bytes
  pub read : form_field (length bytes) bytes ≡ Ok (form, behind)
  pub words : placed_field form (length bytes) behind ≡ Ok (placed, rest)

abbrev pub program_of : List ℕ → Result ProgramFile FileFault
program_of bytes = program_in (length bytes) bytes

-- the first words of a file; it has them where its fields up to there are right and whole
abbrev pub first_words_field : ProgramForm → ℕ → List ℕ → Field RiscProgram
first_words_field (Based layout) size bytes = based_field size bytes
first_words_field Spanned size bytes = do
  count ← span_number_field size bytes
  s ← span_field size 0 0 count.1
  Ok (without_grants s.0.at (s.0 ∷ []), s.1)

unfoldable pub words_read : ℕ → List ℕ → Field RiscProgram
words_read size bytes = do
  form ← form_field size bytes
  first_words_field form.0 size form.1

abbrev pub HasWords : List ℕ → Type 0
HasWords bytes = IsOk (words_read (length bytes) bytes)

-- some spans, and words that were read as a span behind them
abbrev pub with_span : List Span → ℕ → Field (List ℕ) → Field (List Span)
with_span spans at read = read >>= λ words. Ok (spans ++ span at words.0 ∷ [], words.1)

-- a span that was read behind some that have `sum` words: where the next may begin, the words then, and the spans
abbrev pub passed : List Span → ℕ → Field Span → Field ((ℕ × ℕ) × List Span)
passed spans sum read = read >>= λ s. Ok (((end_of s.0 + 1, sum + length s.0.words), spans ++ s.0 ∷ []), s.1)

-- words that are appended to the last span
abbrev pub with_words : List Span → List ℕ → List Span
with_words spans [] = spans
with_words spans (word ∷ words) = with_words (with_word spans word) words

-- a field is read so; it takes no memory
abbrev pub Reads : {X Y : Type 0} → (X → Y) → Result X FileFault → Result Y FileFault → Type 0
Reads view (Ok x) wanted = wanted ≡ Ok (view x)
Reads view (Err fault) wanted = wanted ≡ Err fault

-- a call answers this, or that it is out of memory
abbrev pub Fails : {Y : Type 0} → ProgramError → Result Y FileFault → Type 0
Fails errors.Memory wanted = Unit {0}
Fails (errors.File fault) wanted = wanted ≡ Err fault

abbrev pub Gives : {X Y : Type 0} → (X → Y) → Result X ProgramError → Result Y FileFault → Type 0
Gives view (Ok x) wanted = wanted ≡ Ok (view x)
Gives view (Err e) wanted = Fails e wanted

-- The canonical encoding: BRP1 or BRP2 where the words are one after another from the entry on, or where there
-- are none, by whether all chunks are pages; else BRP3.

abbrev pub numbers_spelled : List ℕ → List ℕ
numbers_spelled numbers = flat_map (little_bytes 4) numbers

abbrev pub page_spelled : Chunk → List ℕ
page_spelled c = little_bytes 4 c.at

abbrev pub chunk_spelled : Chunk → List ℕ
chunk_spelled c = little_bytes 4 c.at ++ little_bytes 4 c.len

-- a chunk as each form spells it
abbrev pub chunk_in : Layout → Chunk → List ℕ
chunk_in Paged c = page_spelled c
chunk_in Chunked c = chunk_spelled c

-- the numbers of a chunk, as they are written
abbrev pub chunk_numbers : Chunk → List ℕ
chunk_numbers c = c.at ∷ c.len ∷ []

abbrev pub name_of : ProgramForm → List ℕ
name_of (Based Paged) = codes "BRP1"
name_of (Based Chunked) = codes "BRP2"
name_of Spanned = codes "BRP3"

-- what is before the words of a program whose words are one after another
pub record IsHead (bytes : List ℕ) (layout : Layout) (start count : ℕ) : Type 0 where
  pub parts : bytes ≡ name_of (Based layout) ++ (little_bytes 4 start ++ little_bytes 4 count)
  pub aligned : start % 4 ≡ 0
  pub few : count ≤ max_words
  pub ends : start + 4 * count ≤ 2 ^ 32

abbrev pub grants_spelled : Layout → List Chunk → List ℕ
grants_spelled layout chunks = little_bytes 4 (length chunks) ++ flat_map (chunk_in layout) chunks

-- a span, and the spans and the entry; words one after another from the entry on are one span
abbrev pub span_spelled : Span → List ℕ
span_spelled s = little_bytes 4 s.at ++ little_bytes 4 (length s.words) ++ numbers_spelled s.words

abbrev pub spanned_spelled : ℕ → List Span → List ℕ
spanned_spelled entry spans = little_bytes 4 (length spans) ++ flat_map span_spelled spans ++ little_bytes 4 entry

abbrev pub placed_spelled : ProgramForm → RiscProgram → List ℕ
placed_spelled (Based layout) program = span_spelled (span program.base (all_words program))
placed_spelled Spanned program = spanned_spelled program.base program.spans

abbrev pub spelled_as : ProgramForm → RiscProgram → ℕ → List ℕ
spelled_as form program fill =
    name_of form ++ placed_spelled form program ++ grants_spelled (layout_of form) program.grants ++ fill ∷ []

abbrev pub layout_for : List Chunk → Layout
layout_for chunks = if list_all is_page chunks then Paged else Chunked

abbrev pub form_for : RiscProgram → ProgramForm
form_for program = if begins_at program.base program.spans then Based (layout_for program.grants) else Spanned

unfoldable pub spelled : RiscProgram → ℕ → List ℕ
spelled program fill = spelled_as (form_for program) program fill

-- bytes that are the canonical encoding of a program that can be made, and of a fill
pub record IsFile (bytes : List ℕ) (file : ProgramFile) : Type 0 where
  pub parts : bytes ≡ spelled file.program file.fill
  pub made : IsProgram file.program
  pub fill : file.fill < 256

abbrev pub HasProgram : List ℕ → Type 0
HasProgram bytes = (file : ProgramFile) × IsFile bytes file

abbrev pub HasFault : List ℕ → Type 0
HasFault bytes = (fault : FileFault) × (program_of bytes ≡ Err fault)
