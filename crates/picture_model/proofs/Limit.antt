-- A compiled program has fewer than 500,000 words.
use Rattle.std.proofs.Common.{◌≡◌, ℕ, zero, suc, ◌+◌, ◌*◌, ◌/◌, ◌<◌, ◌≤◌, Bool, true, false, List, [], ◌∷◌, ◌++◌, length, length-append}
use Rattle.std.proofs.Common.{map, Option, Some, None, refl, sym, ap, ◌∙◌, subst, arith, inl, inr, ◌⊎◌, ⊎_elim, if◌then◌else◌}
use Rattle.std.specs.Prelude.{replicate, IfSome}
use Rattle.std.specs.List.{All, range_with_len}
use Rattle.std.proofs.lemmas.Grind.{flat_map-append}
use Rattle.std.proofs.lemmas.Bool.{cases_order}
use Rattle.std.proofs.lemmas.List.{length-map}
use Rattle.std.proofs.lemmas.List.FromFn.{length-range_with_len}
use Rattle.std.proofs.lemmas.Nat.{mul-le, row_fits}
use Rattle.std.proofs.Math.Nat.{div-le_self, div-mul-le_self}
use Rattle.risc_word.specs.declared.Ends.{Ends}
use Rattle.risc_word.specs.Words.{encoded}
use Rattle.pixel_layout.specs.declared.Parity.{Parity}
use Rattle.pixel_layout.specs.declared.Parity.TheVariants.{Top, Bottom}
use Rattle.pixel_layout.specs.Layouts.{planes_of}
use Rattle.pixel_layout.proofs.Table.{layout_sizes}
use Rattle.clip_spans.specs.declared.Span.{Span}
use Rattle.clip_spans.specs.Runs.{Alternate, BeginsWithout, spans_of}
use Rattle.clip_spans.proofs.Few.{spans-few}
use Rattle.clip_spans.proofs.Runs.{runs-alternate}
use Rattle.page_table.specs.Grants.{Chunk}
use Rattle.page_table.specs.Taken.{page_at, pair_chunk}
use Rattle.capture_desc.specs.WellFormed.{IsWellFormed, count}
use Rattle.capture_desc.specs.declared.desc.Desc.{Desc}
use Rattle.capture_desc.specs.declared.desc.Fields.{Fields}
use Rattle.capture_desc.specs.declared.desc.Fields.TheVariants as fields
use Rattle.picture_model.specs.declared.PieceKind.{PieceKind}
use Rattle.picture_model.specs.declared.PieceKind.TheVariants.{Write, WriteLuma, Skip}
use Rattle.picture_model.specs.Described.{Extent, IsDescription, describes, extent, field_number, fields_before, fields_of, is_both}
use Rattle.picture_model.specs.Described.{layout_of, memory_from, memory_of, picture_row, rows_of, stride, vbi_area, vbi_skip, vbi_stride}
use Rattle.picture_model.specs.Geometry.{some_overlap}
use Rattle.picture_model.specs.Places.{plane_row, row_offset, vbi_line_offset}
use Rattle.picture_model.specs.Plans.{Cut, Strip, cuts_of, grain_bytes, grain_clipped, grains_of, in_grains, kind_of, piece_of, row_strip}
use Rattle.picture_model.specs.Plans.{skipped_strip, skipped_vbi_strip, vbi_strip}
use Rattle.picture_model.specs.Programs.{body, closing, field_instrs, instr_by, instr_of, line_instrs, lines_instrs, opening}
use Rattle.picture_model.specs.Programs.{picture_strips, section, section_length, sections_by, sections_words, vbi_from, vbi_instrs}
use Rattle.picture_model.specs.Programs.{vbi_strips, words_of}
use Rattle.picture_model.proofs.FaultlessGeometry.{IsRight}
use Rattle.picture_model.proofs.Each.{Each, each_range}
use Rattle.picture_model.proofs.Ends.{all_ended, ended, ended_after, interleaved}
use Rattle.picture_model.proofs.Crossing.{at_begins, at_ends, crossed-within, crossed_once, forward_append, forward_map, range_apart}
use Rattle.picture_model.proofs.Counting.{cut_words, line_words-few, passed, span_weights, words_for}
use Rattle.picture_model.proofs.Grains.{held_plane, row_grains}
use Rattle.picture_model.proofs.Offsets.{line_within, plane_row-own, row_offset-IsRowAt, row_within}
use Rattle.picture_model.proofs.Spans.{row_runs}
use Rattle.picture_model.proofs.Sections.{rows_below}
use Rattle.picture_model.proofs.Circle.{split_length, words_split}
use Rattle.picture_model.proofs.Strips.{row-IsStrip, skipped-IsStrip, skipped_vbi-IsStrip, vbi-IsStrip}

-- a piece has 2 words at most where it is clipped, and 5 where it isn't

short_by : (planar clipped : Bool) (kind : PieceKind) (ends : Ends) (a b c x y z : ℕ) →
    length (encoded (instr_by planar (kind_of clipped kind)
    (record { kind = kind_of clipped kind; ends = ends; counts = a ∷ b ∷ c ∷ []; addrs = x ∷ y ∷ z ∷ [] }))) ≤ words_for clipped
short_by true true kind ends a b c x y z = omega arith
short_by false true kind ends a b c x y z = omega arith
short_by true false Write ends a b c x y z = omega arith
short_by true false WriteLuma ends a b c x y z = omega arith
short_by true false Skip ends a b c x y z = omega arith
short_by false false Write ends a b c x y z = omega arith
short_by false false WriteLuma ends a b c x y z = omega arith
short_by false false Skip ends a b c x y z = omega arith

piece_short : (memory : List Chunk) (strip : Strip) (k : Cut) →
    length (encoded (instr_of strip.planar (piece_of memory strip k))) ≤ words_for k.clipped
piece_short memory strip k = short_by strip.planar k.clipped strip.kind _ _ _ _ _ _ _

pieces_short : (memory : List Chunk) (strip : Strip) (cuts : List Cut) →
    length (words_of (map (instr_of strip.planar) (map (piece_of memory strip) cuts))) ≤ cut_words cuts
pieces_short memory strip [] = omega arith
pieces_short memory strip (k ∷ rest) =
    let one = piece_short memory strip k in
    let more = pieces_short memory strip rest in
    let all =
    length-append (encoded (instr_of strip.planar (piece_of memory strip k)))
    (words_of (map (instr_of strip.planar) (map (piece_of memory strip) rest))) in
    omega arith

-- the words of the cuts of lines
abbrev pub total_words : List Chunk → List Strip → ℕ
total_words memory [] = 0
total_words memory (strip ∷ rest) =
    cut_words (cuts_of memory strip strip.spans) + total_words memory rest

total_append : (memory : List Chunk) (xs ys : List Strip) → total_words memory (xs ++ ys) ≡ total_words memory xs + total_words memory ys
total_append memory [] ys = omega arith
total_append memory (x ∷ xs) ys = let more = total_append memory xs ys in omega arith

lines_short : (d : Desc) (strips : List Strip) → length (words_of (lines_instrs d strips)) ≤ total_words (memory_of d) strips
lines_short d [] = omega arith
lines_short d (strip ∷ rest) =
    let one = pieces_short (memory_of d) strip (cuts_of (memory_of d) strip strip.spans) in
    let more = lines_short d rest in
    let parts : words_of (lines_instrs d (strip ∷ rest)) ≡ words_of (line_instrs d strip) ++ words_of (lines_instrs d rest) =
    flat_map-append encoded (line_instrs d strip) (lines_instrs d rest) in
    let all = ap length parts ∙ length-append (words_of (line_instrs d strip)) (words_of (lines_instrs d rest)) in
    omega arith

-- what a track has passed, by where it begins

passed_is : (memory : List Chunk) (size : ℕ) (start : Option ℕ) (g : ℕ) → passed memory size start g ≡ ended_after memory (g * size) start
passed_is memory size None g = refl
passed_is memory size (Some from) g = refl

passed_none : (memory : List Chunk) (size : ℕ) (start : Option ℕ) → passed memory size start 0 ≡ ended_after memory 0 start
passed_none memory size start =
    let none : 0 * size ≡ 0 = omega arith in passed_is memory size start 0 ∙ ap (λ (n : ℕ). ended_after memory n start) none

-- the bytes of a row on all planes are at most 4,096

grains_small : (planar : Bool) (w p m : ℕ) → 1 ≤ p → w ≤ 1024 → m ≤ 4 * p → (planar ≡ true → m ≡ p) →
    (if planar then w / p else w / p * m) * (if planar then m else 1) + (if planar then w / p else w / p * m) * (if planar then 1 else 0)
    + (if planar then w / p else w / p * m) * (if planar then 1 else 0) ≤ 4096
grains_small true w p m some wide bytes unit =
    let few = div-le_self w p in
    let whole = div-mul-le_self w p in
    let same : w / p * m ≡ w / p * p = ap (λ (n : ℕ). w / p * n) (unit refl) in omega arith
grains_small false w p m some wide bytes unit =
    let whole = div-mul-le_self w p in
    let more = mul-le (w / p) m (w / p) (4 * p) (omega arith) bytes in
    let four : w / p * (4 * p) ≡ 4 * (w / p * p) = grind arith in
    omega arith

abbrev pub row_size : Desc → ℕ → ℕ
row_size d plane = grains_of (layout_of d) d.width * grain_bytes (layout_of d) plane

row_small : (d : Desc) → IsRight d → row_size d 1 + row_size d 2 + row_size d 3 ≤ 4096
row_small d right =
    let sizes = layout_sizes d.format in
    grains_small (layout_of d).planar d.width (layout_of d).pixels (layout_of d).bytes sizes.some_pixels right.width.1 sizes.few_bytes
    (λ planar. let unit = sizes.unit planar in unit.1 ∙ sym unit.0)

-- the spans of a row alternate, and each of at most 64 rectangles adds at most two

pub row_spans_few : (d : Desc) (row : ℕ) → IsDescription d → IsRight d → length (row_strip d row).spans ≤ 129
row_spans_few d row is right =
    let clips = is.clips in
    let few = spans-few d.clip row d.width (layout_of d).pixels (layout_sizes d.format).some_pixels right.units in
    let same = length-map (spans_of d.clip row d.width (layout_of d).pixels) (in_grains (layout_of d)) in
    omega arith

record HasFewWords (spans : List Span) : Type 0 where
  all : 2 * span_weights spans ≤ 7 * length spans + 3
  clipped : BeginsWithout false spans → 2 * span_weights spans ≤ 7 * length spans

one_more : (clipped : Bool) (count rest : ℕ) → 2 * rest ≤ 7 * count + 3 → (clipped ≡ false → 2 * rest ≤ 7 * count) →
    2 * (words_for clipped + rest) ≤ 7 * (count + 1) + (if clipped then 0 else 3)
one_more true count rest all clipped = omega arith
one_more false count rest all clipped = let few = clipped refl in omega arith

with_other : (clipped : Bool) (rest : List Span) → clipped ≡ false → BeginsWithout clipped rest → BeginsWithout false rest
with_other clipped rest is begins = subst (λ (b : Bool). BeginsWithout b rest) is begins

alternating_few : (spans : List Span) → Alternate spans → HasFewWords spans
alternating_few [] alternate = record { all = omega arith; clipped = λ begins. omega arith }
alternating_few (s ∷ rest) alternate =
    let more = alternating_few rest alternate.1 in
    let all =
    one_more s.clipped (length rest) (span_weights rest) more.all (λ is. more.clipped (with_other s.clipped rest is alternate.0)) in
    record {
      all = let few = few_by s.clipped _ _ all in omega arith;
      clipped = λ begins. let few = fewer_by s.clipped _ _ begins all in omega arith;
    }
  where
    few_by : (clipped : Bool) (a b : ℕ) → a ≤ b + (if clipped then 0 else 3) → a ≤ b + 3
    few_by true a b less = omega arith
    few_by false a b less = less

    fewer_by : (clipped : Bool) (a b : ℕ) → clipped ≡ true → a ≤ b + (if clipped then 0 else 3) → a ≤ b
    fewer_by true a b is less = omega arith
    fewer_by false a b is less = cc

row_weights : (d : Desc) (row : ℕ) → IsDescription d → IsRight d → span_weights (row_strip d row).spans ≤ 453
row_weights d row is right =
    let few = row_spans_few d row is right in
    let alternate =
    runs-alternate (grain_clipped d row) (grains_of (layout_of d) d.width) 0 (row_strip d row).spans (row_runs d row right) in
    let all = (alternating_few (row_strip d row).spans alternate).all in omega arith

-- a row's words, by what its three tracks have passed before and behind it
row_words : (d : Desc) (row : ℕ) → IsDescription d → IsRight d → row < d.height →
    cut_words (cuts_of (memory_of d) (row_strip d row) (row_strip d row).spans)
    + 5 * (ended_after (memory_of d) 0 (row_offset d 1 row) + ended_after (memory_of d) 0 (row_offset d 2 row) + ended_after (memory_of d) 0
    (row_offset d 3 row))
    ≤ 5 * (ended_after (memory_of d) (row_size d 1) (row_offset d 1 row) + ended_after (memory_of d) (row_size d 2)
    (row_offset d 2 row) + ended_after (memory_of d) (row_size d 3) (row_offset d 3 row))
    + 458
row_words d row is right below =
    let memory = memory_of d in
    let size = grain_bytes (layout_of d) in
    let grains = grains_of (layout_of d) d.width in
    let few = line_words-few memory (row_strip d row) (row-IsStrip d row right below) (row_small d right) in
    let spans = row_weights d row is right in
    let b1 = passed_none memory (size 1) (row_offset d 1 row) in
    let b2 = passed_none memory (size 2) (row_offset d 2 row) in
    let b3 = passed_none memory (size 3) (row_offset d 3 row) in
    let e1 = passed_is memory (size 1) (row_offset d 1 row) grains in
    let e2 = passed_is memory (size 2) (row_offset d 2 row) grains in
    let e3 = passed_is memory (size 3) (row_offset d 3 row) grains in
    omega arith

abbrev starts : Desc → ℕ → List ℕ → List (Option ℕ)
starts d plane rows = map (row_offset d plane) rows

abbrev before : Desc → ℕ → List ℕ → ℕ
before d plane rows = all_ended (memory_of d) 0 (starts d plane rows)

abbrev behind : Desc → ℕ → List ℕ → ℕ
behind d plane rows = all_ended (memory_of d) (row_size d plane) (starts d plane rows)

abbrev all_before : Desc → List ℕ → ℕ
all_before d rows = before d 1 rows + before d 2 rows + before d 3 rows

abbrev all_behind : Desc → List ℕ → ℕ
all_behind d rows = behind d 1 rows + behind d 2 rows + behind d 3 rows

rows_words : (d : Desc) (rows : List ℕ) → IsDescription d → IsRight d → Each (λ row. row < d.height) rows →
    total_words (memory_of d) (map (row_strip d) rows) + 5 * all_before d rows ≤ 5 * all_behind d rows + 458 * length rows
rows_words d [] is right below = omega arith
rows_words d (row ∷ rows) is right below =
    let first = row_words d row is right below.0 in
    let later = rows_words d rows is right below.1 in
    omega arith

-- the rows of a picture share no byte of a plane

rows_apart : (d : Desc) (plane k l o p : ℕ) → IsRight d → 1 ≤ plane → plane ≤ 3 → k < l → row_offset d plane k ≡ Some o →
    row_offset d plane l ≡ Some p → (o + row_size d plane ≤ p) ⊎ (p + row_size d plane ≤ o)
rows_apart d plane k l o p right low high less is is' =
    let one = row_offset-IsRowAt d plane k o is in
    let two = row_offset-IsRowAt d plane l p is' in
    let has = held_plane d plane k one.number low high one.held in
    let wide = right.rows_apart plane has.low has.high in
    let bytes = row_grains d plane has in
    let at = one.at in let at' = two.at in
    let step : (n m : ℕ) → n < m → n * stride d plane + stride d plane ≤ m * stride d plane =
    λ n m below. row_fits n (stride d plane) m (stride d plane) below (omega arith) in
    ⊎_elim
    (λ same.
    let held : plane_row d plane l ≡ Some one.number = two.held ∙ ap (λ (n : ℕ). Some n) (sym same) in
    let row = plane_row-own d plane k l one.number one.held held in absurd (omega arith))
    (λ other. ⊎_elim
    (λ before. let more = step one.number two.number before in inl (omega arith))
    (λ behind. let more = step two.number one.number behind in inr (omega arith))
    other)
    (cases_order one.number two.number)

-- the rows of a picture cross at most the chunk ends in their plane
plane_crossed : (d : Desc) (plane low high count : ℕ) → IsRight d → 1 ≤ plane → plane ≤ 3 → low ≤ high →
    (plane ≤ planes_of (layout_of d) → (low ≡ (extent d plane).from) × (high ≡ (extent d plane).to)) → count ≤ d.height →
    behind d plane (range_with_len 0 count) + ended (memory_of d) low ≤ before d plane (range_with_len 0 count) + ended (memory_of d) high
plane_crossed d plane low high count right some few forward bounds within =
    crossed-within (memory_of d) (row_size d plane) low high (starts d plane (range_with_len 0 count)) forward
    (range_apart (row_offset d plane) (row_size d plane) low high 0 count
    (λ k o from below is.
    let at = row_offset-IsRowAt d plane k o is in
    let has = held_plane d plane k at.number some few at.held in
    let inside = row_within d plane k o (omega arith) at in
    let bytes = row_grains d plane has in
    let is_low = (bounds has.high).0 in
    let is_high = (bounds has.high).1 in
    (omega arith, omega arith))
    (λ k l o p less below is is'. rows_apart d plane k l o p right some few less is is'))

-- skipped lines and VBI lines

skipped_few : (d : Desc) (count : ℕ) → IsRight d → total_words (memory_of d) (replicate count (skipped_strip d)) ≤ 7 * count
skipped_few d zero right = omega arith
skipped_few d (suc count) right =
    let one = line_words-few (memory_of d) (skipped_strip d) (skipped-IsStrip d) (row_small d right) in
    let more = skipped_few d count right in omega arith

abbrev vbi_starts : Desc → Parity → ℕ → List (Option ℕ)
vbi_starts d field count = map (λ line. Some (vbi_line_offset d field line)) (range_with_len 0 count)

abbrev vbi_before : Desc → Parity → ℕ
vbi_before d field = all_ended (memory_of d) 0 (vbi_starts d field d.vbi_lines)

abbrev vbi_behind : Desc → Parity → ℕ
vbi_behind d field = all_ended (memory_of d) d.vbi_bytes (vbi_starts d field d.vbi_lines)

vbi_lines_words : (d : Desc) (field : Parity) (lines : List ℕ) → IsRight d → describes d.fields field ≡ true →
    Each (λ line. line < d.vbi_lines) lines →
    total_words (memory_of d) (map (vbi_strip d field) lines) + 5 * all_ended (memory_of d) 0
    (map (λ line. Some (vbi_line_offset d field line)) lines)
    ≤ 5 * all_ended (memory_of d) d.vbi_bytes (map (λ line. Some (vbi_line_offset d field line)) lines) + 10 * length lines
vbi_lines_words d field [] right described below = omega arith
vbi_lines_words d field (line ∷ lines) right described below =
    let memory = memory_of d in
    let start = vbi_line_offset d field line in
    let bytes = (right.vbi_bytes (let first = below.0 in omega arith)).1 in
    let few = line_words-few memory (vbi_strip d field line) (vbi-IsStrip d field line right described below.0) (omega arith) in
    let more = vbi_lines_words d field lines right described below.1 in
    let begin : ended memory (start + 0 * 1) ≡ ended memory (start + 0) =
    ap (ended memory) (let e : start + 0 * 1 ≡ start + 0 = omega arith in e) in
    let end : ended memory (start + d.vbi_bytes * 1) ≡ ended memory (start + d.vbi_bytes) =
    ap (ended memory) (let e : start + d.vbi_bytes * 1 ≡ start + d.vbi_bytes = omega arith in e) in
    omega arith

vbi_crossed : (d : Desc) (field : Parity) → IsRight d →
    vbi_behind d field + ended (memory_of d) (vbi_area d field).from ≤ vbi_before d field + ended (memory_of d) (vbi_area d field).to
vbi_crossed d field right =
    crossed-within (memory_of d) d.vbi_bytes (vbi_area d field).from (vbi_area d field).to (vbi_starts d field d.vbi_lines) (omega arith)
    (range_apart (λ line. Some (vbi_line_offset d field line)) d.vbi_bytes (vbi_area d field).from (vbi_area d field).to 0 d.vbi_lines
    (λ k o from below is.
    let at : vbi_line_offset d field k ≡ o = cc in
    let inside = line_within d.vbi_lines (vbi_stride d) d.vbi_bytes k (omega arith) in
    (omega arith, omega arith))
    (λ k l o p less below is is'.
    let one : vbi_line_offset d field k ≡ o = cc in
    let two : vbi_line_offset d field l ≡ p = cc in
    let wide = right.vbi_apart (omega arith) in
    let step = row_fits k (vbi_stride d) l (vbi_stride d) less (omega arith) in inl (omega arith)))

skipped_vbi_few : (d : Desc) (count : ℕ) → d.vbi_bytes ≤ 4096 →
    total_words (memory_of d) (replicate count (skipped_vbi_strip d)) ≤ 7 * count
skipped_vbi_few d zero bytes = omega arith
skipped_vbi_few d (suc count) bytes =
    let one = line_words-few (memory_of d) (skipped_vbi_strip d) (skipped_vbi-IsStrip d) (omega arith) in
    let more = skipped_vbi_few d count bytes in omega arith

before_count : (which : Fields) (field : Parity) → fields_before which field < count which
before_count fields.Top field = omega arith
before_count fields.Bottom field = omega arith
before_count fields.Both Top = omega arith
before_count fields.Both Bottom = omega arith

number_few : (numbers : Option (List ℕ)) (which : Fields) (field : Parity) (most : ℕ) →
    IfSome numbers (λ ns. (length ns ≡ count which) × All (λ n. n ≤ most) ns) → field_number numbers which field ≤ most
number_few None which field most has = omega arith
number_few (Some ns) which field most has =
    let before = before_count which field in
    let size = has.0 in has.1 (fields_before which field) 0 (omega arith)

pub vbi_skip_few : (d : Desc) (field : Parity) → IsWellFormed d → vbi_skip d field ≤ 255
vbi_skip_few d field formed = number_few d.vbi_skip d.fields field 255 formed.vbi_skip

-- sections

vbi_words_few : (d : Desc) (field : Parity) (lines : ℕ) → lines ≡ d.vbi_lines → IsDescription d → IsRight d →
    describes d.fields field ≡ true →
    length (words_of (vbi_from lines d field)) + 5 * vbi_before d field ≤ 1787 + 5 * vbi_behind d field + 10 * d.vbi_lines
vbi_words_few d field zero same is right described =
    let all = vbi_lines_words d field (range_with_len 0 d.vbi_lines) right described (each_range 0 d.vbi_lines d.vbi_lines (omega arith)) in
    let count = length-range_with_len 0 d.vbi_lines in omega arith
vbi_words_few d field (suc more) same is right described =
    let short = lines_short d (vbi_strips d field) in
    let parts =
    total_append (memory_of d) (replicate (vbi_skip d field) (skipped_vbi_strip d))
    (map (vbi_strip d field) (range_with_len 0 d.vbi_lines)) in
    let bytes = (right.vbi_bytes (omega arith)).1 in
    let skipped = skipped_vbi_few d (vbi_skip d field) (omega arith) in
    let few = vbi_skip_few d field is.formed in
    let all = vbi_lines_words d field (range_with_len 0 d.vbi_lines) right described (each_range 0 d.vbi_lines d.vbi_lines (omega arith)) in
    let count = length-range_with_len 0 d.vbi_lines in omega arith

field_words_few : (d : Desc) (field : Parity) → IsDescription d → IsRight d →
    length (words_of (field_instrs d field)) + 5 * all_before d (rows_of d field)
    ≤ 2 + 7 * d.skip_lines + 5 * all_behind d (rows_of d field) + 458 * length (rows_of d field)
field_words_few d field is right =
    let short = lines_short d (picture_strips d field) in
    let parts = total_append (memory_of d) (replicate d.skip_lines (skipped_strip d)) (map (row_strip d) (rows_of d field)) in
    let skipped = skipped_few d d.skip_lines right in
    let rows = rows_words d (rows_of d field) is right (rows_below d field) in
    omega arith

section_few : (d : Desc) (field : Parity) (target : ℕ) → IsDescription d → IsRight d → describes d.fields field ≡ true →
    length (words_of (section d field target)) + 5 * vbi_before d field + 5 * all_before d (rows_of d field)
    ≤ 3898 + 5 * vbi_behind d field + 5 * all_behind d (rows_of d field) + 458 * length (rows_of d field)
section_few d field target is right described =
    let vbi = vbi_words_few d field d.vbi_lines refl is right described in
    let picture = field_words_few d field is right in
    let lines = right.vbi_lines in
    let skipped = is.skipped in
    let inner : length (words_of (body d field)) ≡ length (words_of (vbi_instrs d field)) + length (words_of (field_instrs d field)) =
    ap length (flat_map-append encoded (vbi_instrs d field) (field_instrs d field))
    ∙ length-append (words_of (vbi_instrs d field)) (words_of (field_instrs d field))
    in
    let all =
    ap length (words_split (opening field ∷ body d field) (closing field target) [])
    ∙ split_length (words_of (opening field ∷ body d field)) (encoded (closing field target)) [] in
    omega arith

-- all areas together

abbrev areas : Desc → Bool → Fields → List Extent
areas d planar which =
    map (extent d) (range_with_len 1 (if planar then 3 else 1)) ++ map (vbi_area d) (fields_of which)

areas_crossed : (d : Desc) (planar : Bool) (which : Fields) → some_overlap (areas d planar which) ≡ false →
    at_ends (ended (memory_of d)) (areas d planar which) ≤ at_begins (ended (memory_of d)) (areas d planar which) + length (memory_of d)
areas_crossed d planar which apart =
    crossed_once (memory_of d) (areas d planar which)
    (forward_append (map (extent d) (range_with_len 1 (if planar then 3 else 1))) (map (vbi_area d) (fields_of which))
    (forward_map (extent d) (range_with_len 1 (if planar then 3 else 1)) (λ plane. omega arith))
    (forward_map (vbi_area d) (fields_of which) (λ field. omega arith)))
    apart

abbrev vbi_behind_all : Desc → Fields → ℕ
vbi_behind_all d fields.Top = vbi_behind d Top
vbi_behind_all d fields.Bottom = vbi_behind d Bottom
vbi_behind_all d fields.Both = vbi_behind d Top + vbi_behind d Bottom

abbrev vbi_before_all : Desc → Fields → ℕ
vbi_before_all d fields.Top = vbi_before d Top
vbi_before_all d fields.Bottom = vbi_before d Bottom
vbi_before_all d fields.Both = vbi_before d Top + vbi_before d Bottom

module _ (d : Desc) (right : IsRight d) (count : ℕ) (within : count ≤ d.height) where
  held_crossed : (plane : ℕ) → 1 ≤ plane → plane ≤ 3 → behind d plane (range_with_len 0 count) + ended (memory_of d) (extent d plane).from
      ≤ before d plane (range_with_len 0 count) + ended (memory_of d) (extent d plane).to
  held_crossed plane some few =
      plane_crossed d plane (extent d plane).from (extent d plane).to count right some few (omega arith) (λ has. (refl, refl)) within

  other_crossed : (plane : ℕ) → 1 ≤ plane → plane ≤ 3 → (plane ≤ planes_of (layout_of d) → ⊥) →
      behind d plane (range_with_len 0 count) ≤ before d plane (range_with_len 0 count)
  other_crossed plane some few none =
      let same = plane_crossed d plane 0 0 count right some few (omega arith) (λ has. absurd (none has)) within in omega arith

  all_crossed : (planar : Bool) (which : Fields) → (layout_of d).planar ≡ planar → some_overlap (areas d planar which) ≡ false →
      all_behind d (range_with_len 0 count) + vbi_behind_all d which
      ≤ all_before d (range_with_len 0 count) + vbi_before_all d which + length (memory_of d)
  all_crossed true fields.Top is apart =
      let all = areas_crossed d true fields.Top apart in
      let one = held_crossed 1 (omega arith) (omega arith) in
      let two = held_crossed 2 (omega arith) (omega arith) in
      let three = held_crossed 3 (omega arith) (omega arith) in
      let top = vbi_crossed d Top right in omega arith
  all_crossed true fields.Bottom is apart =
      let all = areas_crossed d true fields.Bottom apart in
      let one = held_crossed 1 (omega arith) (omega arith) in
      let two = held_crossed 2 (omega arith) (omega arith) in
      let three = held_crossed 3 (omega arith) (omega arith) in
      let bottom = vbi_crossed d Bottom right in omega arith
  all_crossed true fields.Both is apart =
      let all = areas_crossed d true fields.Both apart in
      let one = held_crossed 1 (omega arith) (omega arith) in
      let two = held_crossed 2 (omega arith) (omega arith) in
      let three = held_crossed 3 (omega arith) (omega arith) in
      let top = vbi_crossed d Top right in
      let bottom = vbi_crossed d Bottom right in omega arith
  all_crossed false which is apart =
      let one_plane : planes_of (layout_of d) ≡ 1 = ap (λ (planar : Bool). if planar then 3 else 1) is in
      let one = held_crossed 1 (omega arith) (omega arith) in
      let two = other_crossed 2 (omega arith) (omega arith) (λ has. absurd (omega arith)) in
      let three = other_crossed 3 (omega arith) (omega arith) (λ has. absurd (omega arith)) in
      packed which apart one two three
    where
      packed : (which : Fields) → some_overlap (areas d false which) ≡ false →
          behind d 1 (range_with_len 0 count) + ended (memory_of d) (extent d 1).from
          ≤ before d 1 (range_with_len 0 count) + ended (memory_of d) (extent d 1).to →
          behind d 2 (range_with_len 0 count) ≤ before d 2 (range_with_len 0 count) →
          behind d 3 (range_with_len 0 count) ≤ before d 3 (range_with_len 0 count) →
          all_behind d (range_with_len 0 count) + vbi_behind_all d which
          ≤ all_before d (range_with_len 0 count) + vbi_before_all d which + length (memory_of d)
      packed fields.Top apart one two three =
          let all = areas_crossed d false fields.Top apart in let top = vbi_crossed d Top right in omega arith
      packed fields.Bottom apart one two three =
          let all = areas_crossed d false fields.Bottom apart in let bottom = vbi_crossed d Bottom right in omega arith
      packed fields.Both apart one two three =
          let all = areas_crossed d false fields.Both apart in
          let top = vbi_crossed d Top right in
          let bottom = vbi_crossed d Bottom right in omega arith

memory_short : (chunks : Option (List (ℕ × ℕ))) (pages : List ℕ) → length pages ≤ 4096 → IfSome chunks (λ cs. length cs ≤ 4096) →
    length (memory_from chunks pages) ≤ 4096
memory_short None pages few many = let same = length-map pages page_at in omega arith
memory_short (Some pairs) pages few many = let same = length-map pairs pair_chunk in omega arith

pub memory_few : (d : Desc) → IsDescription d → length (memory_of d) ≤ 4096
memory_few d is = memory_short d.chunks d.pages is.formed.pages is.formed.chunks

-- the rows of the described fields

abbrev rows_by : Fields → ℕ → Parity → List ℕ
rows_by which height field =
    map (picture_row (is_both which) field)
    (range_with_len 0 (if describes which field then (if is_both which then height / 2 else height) else 0))

plain_rows : (field : Parity) (from count : ℕ) → map (picture_row false field) (range_with_len from count) ≡ range_with_len from count
plain_rows field from zero = refl
plain_rows field from (suc count) = ap (λ (rest : List ℕ). from ∷ rest) (plain_rows field (from + 1) count)

program_few : (which : Fields) (d : Desc) (at back : ℕ) → d.fields ≡ which → IsDescription d → IsRight d →
    length (words_of (sections_by which d at back)) < 500000
program_few fields.Top d at back same is right =
    let few = section_few d Top back is right (ap (λ (w : Fields). describes w Top) same) in
    let rows : rows_of d Top ≡ range_with_len 0 d.height = ap (λ (w : Fields). rows_by w d.height Top) same ∙ plain_rows Top 0 d.height in
    let begun = ap (all_before d) rows in
    let gone = ap (all_behind d) rows in
    let count = ap length rows ∙ length-range_with_len 0 d.height in
    let apart : some_overlap (areas d (layout_of d).planar fields.Top) ≡ false =
    subst (λ (w : Fields). some_overlap (areas d (layout_of d).planar w) ≡ false) same right.parts_apart in
    let crossed = all_crossed d right d.height (omega arith) (layout_of d).planar fields.Top refl apart in
    let memory = memory_few d is in
    let high = right.height.1 in
    omega arith
program_few fields.Bottom d at back same is right =
    let few = section_few d Bottom back is right (ap (λ (w : Fields). describes w Bottom) same) in
    let rows : rows_of d Bottom ≡ range_with_len 0 d.height =
    ap (λ (w : Fields). rows_by w d.height Bottom) same ∙ plain_rows Bottom 0 d.height in
    let begun = ap (all_before d) rows in
    let gone = ap (all_behind d) rows in
    let count = ap length rows ∙ length-range_with_len 0 d.height in
    let apart : some_overlap (areas d (layout_of d).planar fields.Bottom) ≡ false =
    subst (λ (w : Fields). some_overlap (areas d (layout_of d).planar w) ≡ false) same right.parts_apart in
    let crossed = all_crossed d right d.height (omega arith) (layout_of d).planar fields.Bottom refl apart in
    let memory = memory_few d is in
    let high = right.height.1 in
    omega arith
program_few fields.Both d at back same is right =
    let mid = at + 4 * section_length d Top in
    let half = d.height / 2 in
    let even = map (λ n. 2 * n) (range_with_len 0 half) in
    let odd = map (λ n. 2 * n + 1) (range_with_len 0 half) in
    let top = section_few d Top mid is right (ap (λ (w : Fields). describes w Top) same) in
    let bottom = section_few d Bottom back is right (ap (λ (w : Fields). describes w Bottom) same) in
    let rows : rows_of d Top ≡ even = ap (λ (w : Fields). rows_by w d.height Top) same in
    let rows' : rows_of d Bottom ≡ odd = ap (λ (w : Fields). rows_by w d.height Bottom) same in
    let begun = ap (all_before d) rows in
    let begun' = ap (all_before d) rows' in
    let gone = ap (all_behind d) rows in
    let gone' = ap (all_behind d) rows' in
    let size = length-range_with_len 0 half in
    let count = ap length rows ∙ length-map (range_with_len 0 half) (λ n. 2 * n) in
    let count' = ap length rows' ∙ length-map (range_with_len 0 half) (λ n. 2 * n + 1) in
    let apart : some_overlap (areas d (layout_of d).planar fields.Both) ≡ false =
    subst (λ (w : Fields). some_overlap (areas d (layout_of d).planar w) ≡ false) same right.parts_apart in
    let crossed = all_crossed d right (2 * half) (omega arith) (layout_of d).planar fields.Both refl apart in
    let before_1 = interleaved (memory_of d) 0 (row_offset d 1) 0 half 0 (2 * half) (omega arith) (omega arith) in
    let before_2 = interleaved (memory_of d) 0 (row_offset d 2) 0 half 0 (2 * half) (omega arith) (omega arith) in
    let before_3 = interleaved (memory_of d) 0 (row_offset d 3) 0 half 0 (2 * half) (omega arith) (omega arith) in
    let behind_1 = interleaved (memory_of d) (row_size d 1) (row_offset d 1) 0 half 0 (2 * half) (omega arith) (omega arith) in
    let behind_2 = interleaved (memory_of d) (row_size d 2) (row_offset d 2) 0 half 0 (2 * half) (omega arith) (omega arith) in
    let behind_3 = interleaved (memory_of d) (row_size d 3) (row_offset d 3) 0 half 0 (2 * half) (omega arith) (omega arith) in
    let all =
    ap length (flat_map-append encoded (section d Top mid) (section d Bottom back))
    ∙ length-append (words_of (section d Top mid)) (words_of (section d Bottom back)) in
    let memory = memory_few d is in
    let high = right.height.1 in
    omega arith

pub sections_few : (d : Desc) (at back : ℕ) → IsDescription d → IsRight d → length (sections_words d at back) < 500000
sections_few d at back is right = program_few d.fields d at back refl is right
