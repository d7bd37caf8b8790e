-- The beginning of a program file up to some of its spans or chunks, and room for the others that are counted.
use Rattle.std.specs.Prelude.{◌≡◌, ℕ, ◌+◌, ◌-◌, ◌*◌, ◌^◌, ◌<◌, ◌≤◌, true, false, List, [], ◌∷◌, ◌++◌, length}
use Rattle.std.specs.List.{flat_map, list_all}
use Rattle.byteorder.specs.Endian.{little_bytes}
use Rattle.page_table.specs.Grants.{Chunk, is_page, max_bytes, max_chunks, page_size, total}
use Rattle.machine_model.specs.Paths.{begins_at, AreApart, IsProgram, RiscProgram, Span, end_of, max_spans, max_words, words_of}
use Rattle.capture_file.specs.declared.program.Layout.{Layout}
use Rattle.capture_file.specs.declared.program.Layout.TheVariants.{Paged, Chunked}
use Rattle.capture_file.specs.declared.program.ProgramForm.{ProgramForm}
use Rattle.capture_file.specs.declared.program.ProgramForm.TheVariants.{Based, Spanned}
use Rattle.capture_file.specs.Programs.{chunk_in, layout_of, name_of, placed_spelled, span_spelled}

-- the bytes up to the last chunk of a program, in a file that counts so many chunks
abbrev pub beginning : ProgramForm → RiscProgram → ℕ → List ℕ
beginning form program count =
    name_of form ++ placed_spelled form program ++ little_bytes 4 count ++ flat_map (chunk_in (layout_of form)) program.grants

-- the end of the last chunk, or of what is before them, and that of the last span
abbrev pub chunks_end : ℕ → List Chunk → ℕ
chunks_end from [] = from
chunks_end from (c ∷ chunks) = chunks_end (c.at + c.len) chunks

abbrev pub spans_end : ℕ → List Span → ℕ
spans_end from [] = from
spans_end from (s ∷ spans) = spans_end (end_of s) spans

-- the shortest chunk of each layout
abbrev pub least_length : Layout → ℕ
least_length Paged = page_size
least_length Chunked = 4

-- a program can be in a form; where it has spans these are in the lower half of the addresses
abbrev pub StandIn : ProgramForm → RiscProgram → Type 0
StandIn (Based Paged) program = (begins_at program.base program.spans ≡ true) × (list_all is_page program.grants ≡ true)
StandIn (Based Chunked) program = begins_at program.base program.spans ≡ true
StandIn Spanned program = (begins_at program.base program.spans ≡ false) × (spans_end 0 program.spans ≤ 2 ^ 31)

-- more chunks are counted than there are, and the others find room: the last is in the lower half of the
-- addresses, and the shortest chunks in place of the others stay within the bytes that may be granted
pub record HasRoom (form : ProgramForm) (program : RiscProgram) (count : ℕ) : Type 0 where
  pub made : IsProgram program
  pub stands : StandIn form program
  pub more : length program.grants < count
  pub few : count ≤ max_chunks
  pub low : chunks_end 0 program.grants ≤ 2 ^ 31
  pub small : total program.grants + least_length (layout_of form) * (count - length program.grants) ≤ max_bytes

-- the bytes up to some spans, in a file that counts so many
abbrev pub span_beginning : ℕ → List Span → List ℕ
span_beginning count spans = name_of Spanned ++ little_bytes 4 count ++ flat_map span_spelled spans

-- spans that can be at the front of those that are counted, and the others find room: the last is in the lower
-- half of the addresses, and two words for each of the others are not too many; the only span isn't one word alone
pub record HasSpanRoom (count : ℕ) (spans : List Span) : Type 0 where
  pub apart : AreApart 0 spans
  pub some : 0 < count
  pub more : length spans ≤ count
  pub many : count ≤ max_spans
  pub few : length (words_of spans) + 2 * (count - length spans) ≤ max_words
  pub low : spans_end 0 spans ≤ 2 ^ 31
  pub entry : length spans ≡ count → 1 < length (words_of spans)

-- the most bytes of a program file: the first word, the spans and the entry, the chunks, and the fill
abbrev pub longest_file : ℕ
longest_file = 4 + (4 + 8 * max_spans + 4 * max_words + 4) + (4 + 8 * max_chunks) + 1
