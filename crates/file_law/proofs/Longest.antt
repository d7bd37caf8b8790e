-- How many bytes a program file has at most.
use Rattle.std.proofs.Common.{◌≡◌, ℕ, ◌+◌, ◌*◌, ◌≤◌, List, [], ◌∷◌, ◌++◌, length, refl, ap, arith, length-append}
use Rattle.std.specs.List.{flat_map}
use Rattle.byteorder.specs.Endian.{little_bytes}
use Rattle.page_table.specs.Grants.{Chunk}
use Rattle.machine_model.specs.Paths.{IsProgram, RiscProgram, Span, all_words, span, words_of}
use Rattle.capture_file.specs.declared.program.Layout.{Layout}
use Rattle.capture_file.specs.declared.program.Layout.TheVariants.{Chunked, Paged}
use Rattle.capture_file.specs.declared.program.ProgramForm.{ProgramForm}
use Rattle.capture_file.specs.declared.program.ProgramForm.TheVariants.{Based, Spanned}
use Rattle.capture_file.proofs.Spelled.{numbers_length}
use Rattle.capture_file.specs.Programs.{HasProgram, chunk_in, form_for, grants_spelled, layout_of, name_of, numbers_spelled, placed_spelled}
use Rattle.capture_file.specs.Programs.{span_spelled, spelled, spelled_as}
use Rattle.file_law.specs.ProgramRoom.{longest_file}

span_length : (s : Span) → length (span_spelled s) ≡ 8 + 4 * length s.words
span_length s =
    let all = length-append (little_bytes 4 s.at ++ little_bytes 4 (length s.words)) (numbers_spelled s.words) in
    let words = numbers_length s.words in
    omega arith

spans_length : (spans : List Span) → length (flat_map span_spelled spans) ≡ 8 * length spans + 4 * length (words_of spans)
spans_length [] = refl
spans_length (s ∷ spans) =
    let all = length-append (span_spelled s) (flat_map span_spelled spans) in
    let words = length-append s.words (words_of spans) in
    let one = span_length s in
    let rest = spans_length spans in
    omega (arith, all, words, one, rest)

name_length : (form : ProgramForm) → length (name_of form) ≡ 4
name_length (Based Paged) = refl
name_length (Based Chunked) = refl
name_length Spanned = refl

placed_length : (form : ProgramForm) (program : RiscProgram) → IsProgram program →
    length (placed_spelled form program) ≤ 4 + 8 * 4096 + 4 * 1048576 + 4
placed_length (Based layout) program made =
    let one = span_length (span program.base (all_words program)) in
    let few = made.few in
    omega (arith, one, few)
placed_length Spanned program made =
    let all = length-append (little_bytes 4 (length program.spans) ++ flat_map span_spelled program.spans) (little_bytes 4 program.base) in
    let front = length-append (little_bytes 4 (length program.spans)) (flat_map span_spelled program.spans) in
    let spans = spans_length program.spans in
    let many = made.many in
    let few = made.few in
    omega (arith, all, front, spans, many, few)

chunk_length : (layout : Layout) (c : Chunk) → length (chunk_in layout c) ≤ 8
chunk_length Paged c = omega arith
chunk_length Chunked c = omega arith

chunks_length : (layout : Layout) (chunks : List Chunk) → length (flat_map (chunk_in layout) chunks) ≤ 8 * length chunks
chunks_length layout [] = omega arith
chunks_length layout (c ∷ chunks) =
    let all = length-append (chunk_in layout c) (flat_map (chunk_in layout) chunks) in
    let one = chunk_length layout c in
    let rest = chunks_length layout chunks in
    omega (arith, all, one, rest)

spelled_length : (form : ProgramForm) (program : RiscProgram) (fill : ℕ) → IsProgram program →
    length (spelled_as form program fill) ≤ longest_file
spelled_length form program fill made =
    let all = length-append (name_of form ++ placed_spelled form program ++ grants_spelled (layout_of form) program.grants) (fill ∷ []) in
    let front = length-append (name_of form ++ placed_spelled form program) (grants_spelled (layout_of form) program.grants) in
    let begin = length-append (name_of form) (placed_spelled form program) in
    let grants = length-append (little_bytes 4 (length program.grants)) (flat_map (chunk_in (layout_of form)) program.grants) in
    let name = name_length form in
    let placed = placed_length form program made in
    let chunks = chunks_length (layout_of form) program.grants in
    let few = made.grants.few in
    omega (arith, all, front, begin, grants, name, placed, chunks, few)

pub none_longer : (bytes : List ℕ) → HasProgram bytes → length bytes ≤ longest_file
unfolding spelled
none_longer bytes held =
    let is = held.1 in
    let same = ap length is.parts in
    let most = spelled_length (form_for held.0.program) held.0.program held.0.fill is.made in
    omega (arith, same, most)
