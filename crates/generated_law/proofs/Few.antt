-- How many pushes a stream has: at most 2^26.
use Rattle.std.proofs.Common.{◌≡◌, ℕ, zero, suc, ◌+◌, ◌*◌, ◌/◌, ◌%◌, ◌<◌, ◌≤◌, Bool, true, false, ◌&&◌, List, [], ◌++◌, length, arith}
use Rattle.std.proofs.Common.{if◌then◌else◌, length-append}
use Rattle.std.specs.Prelude.{◌==◌, nat_lt}
use Rattle.std.specs.List.{flat_map, range_with_len}
use Rattle.std.proofs.lemmas.Bool.{cond_both}
use Rattle.std.proofs.lemmas.List.FromFn.{length-map-range_with_len}
use Rattle.std.proofs.lemmas.Nat.{mul-le}
use Rattle.fifo_model.specs.declared.Queue.TheVariants.{One}
use Rattle.pixel_layout.specs.declared.Format.{Format}
use Rattle.pixel_layout.specs.declared.Format.TheVariants.{Rgb32, Rgb24, Rgb16, Rgb15, Yuy2, Y8, Rgb8, BtYuv, Yuv422p, Yuv411p, Yuv420p}
use Rattle.pixel_layout.specs.declared.Format.TheVariants.{Yuv410p}
use Rattle.pixel_layout.specs.declared.Parity.{Parity}
use Rattle.pixel_layout.specs.Layouts.{layout, row_bytes}
use Rattle.capture_desc.specs.declared.desc.Desc.{Desc}
use Rattle.capture_desc.specs.declared.desc.Fields.{Fields}
use Rattle.capture_desc.specs.declared.desc.Fields.TheVariants as fields
use Rattle.pixel_layout.specs.declared.Parity.TheVariants.{Top, Bottom}
use Rattle.picture_model.specs.Described.{IsDescription, both, describes, field_height, fields_of, layout_of, plane_row_bytes, vbi_skip}
use Rattle.picture_model.proofs.FaultlessGeometry.{IsRight}
use Rattle.picture_model.proofs.Limit.{vbi_skip_few}
use Rattle.field_stream.specs.Pushes.{Push, Fill, chroma_after, field_pushes, frame_pushes, line_entries, packed_line, picture_line}
use Rattle.field_stream.specs.Pushes.{picture_pushes, planar_at, planar_line, repeated, status_at, stream_pushes, vbi_pushes}

-- ---- lines

repeated_length : (count : ℕ) (pushes : List Push) → length (repeated count pushes) ≡ count * length pushes
repeated_length zero pushes = omega arith
repeated_length (suc count) pushes =
    let more = repeated_length count pushes in omega (arith, length-append pushes (repeated count pushes))

few_repeated : (count most : ℕ) (pushes : List Push) (each : ℕ) → count ≤ most → length pushes ≤ each →
    length (repeated count pushes) ≤ most * each
few_repeated count most pushes each few some =
    let less = mul-le count (length pushes) most each few some in omega (arith, repeated_length count pushes)

packed_length : (bytes : ℕ) → length (packed_line bytes) ≡ line_entries bytes
packed_length bytes = length-map-range_with_len (λ index. Fill One (status_at bytes index)) 0 (line_entries bytes)

few_chroma : (chroma across index : ℕ) → length (chroma_after chroma across index) ≤ 2
few_chroma chroma across index =
    cond_both (index % across == 0 && nat_lt (index / across) (line_entries chroma)) _ [] (λ pushes. length pushes ≤ 2) (λ due. omega arith)
    (λ none. omega arith)

few_planar : (luma chroma across from count : ℕ) → length (flat_map (planar_at luma chroma across) (range_with_len from count)) ≤ 3 * count
few_planar luma chroma across from zero = omega arith
few_planar luma chroma across from (suc count) =
    let more = few_planar luma chroma across (from + 1) count in
    let here = few_chroma chroma across from in
    omega
    (arith, length-append (chroma_after chroma across from) (flat_map (planar_at luma chroma across) (range_with_len (from + 1) count)))

-- a packed row has four bytes a pixel at most, and a row of luma one
abbrev most_bytes : Bool → ℕ
most_bytes planar = if planar then 1 else 4

row_few : (f : Format) (width : ℕ) → row_bytes (layout f) 1 width ≤ most_bytes (layout f).planar * width
row_few Rgb32 width = omega arith
row_few Rgb24 width = omega arith
row_few Rgb16 width = omega arith
row_few Rgb15 width = omega arith
row_few Yuy2 width = omega arith
row_few Y8 width = omega arith
row_few Rgb8 width = omega arith
row_few BtYuv width = omega arith
row_few Yuv422p width = omega arith
row_few Yuv411p width = omega arith
row_few Yuv420p width = omega arith
row_few Yuv410p width = omega arith

few_of : (planar : Bool) (width luma chroma across : ℕ) → width ≤ 1024 → luma ≤ most_bytes planar * width →
    length (if planar then planar_line luma chroma across else packed_line luma) ≤ 1024
few_of true width luma chroma across narrow few = omega (arith, few_planar luma chroma across 0 (line_entries luma))
few_of false width luma chroma across narrow few = omega (arith, packed_length luma)

few_line : (d : Desc) → IsRight d → length (picture_line d) ≤ 1024
few_line d right =
    few_of (layout_of d).planar d.width (plane_row_bytes d 1) (plane_row_bytes d 2) (layout_of d).across right.width.1
    (row_few d.format d.width)

-- ---- fields

few_rows : (described two : Bool) (height : ℕ) → (if described then (if two then height / 2 else height) else 0) ≤ height
few_rows false two height = omega arith
few_rows true false height = omega arith
few_rows true true height = omega arith

few_picture : (d : Desc) (field : Parity) → IsDescription d → IsRight d → length (picture_pushes d field) ≤ 1309697
few_picture d field is right =
    let rows = few_rows (describes d.fields field) (both d) d.height in
    let height = right.height.1 in
    let skipped = is.skipped in
    let few =
    few_repeated (d.skip_lines + field_height d field) 1279 (picture_line d) 1024 (omega (arith, rows, height, skipped))
    (few_line d right) in
    omega (arith, few)

few_vbi : (lines skip bytes : ℕ) → lines ≤ 32 → skip ≤ 255 → (0 < lines → (5 ≤ bytes) × (bytes ≤ 4092)) →
    length (vbi_pushes lines skip bytes) ≤ 293602
few_vbi zero skip bytes few passed long = omega arith
few_vbi (suc more) skip bytes few passed long =
    let end = (long (omega arith)).1 in
    let lines = few_repeated (skip + suc more) 287 (packed_line bytes) 1023 (omega arith) (omega (arith, packed_length bytes, end)) in
    omega (arith, lines)

few_field : (d : Desc) (field : Parity) → IsDescription d → IsRight d → length (field_pushes d field) ≤ 1603300
few_field d field is right =
    omega (
      arith,
      length-append (vbi_pushes d.vbi_lines (vbi_skip d field) d.vbi_bytes) (picture_pushes d field),
      few_vbi d.vbi_lines (vbi_skip d field) d.vbi_bytes right.vbi_lines (vbi_skip_few d field is.formed) right.vbi_bytes,
      few_picture d field is right,
    )

few_fields : (f : Parity → List Push) (which : Fields) → ((field : Parity) → length (f field) ≤ 1603300) →
    length (flat_map f (fields_of which)) ≤ 3206600
few_fields f fields.Top each = omega (arith, each Top, length-append (f Top) [])
few_fields f fields.Bottom each = omega (arith, each Bottom, length-append (f Bottom) [])
few_fields f fields.Both each = omega (arith, each Top, each Bottom, length-append (f Top) (f Bottom ++ []), length-append (f Bottom) [])

pub few_pushes : (d : Desc) (frames : ℕ) → IsDescription d → IsRight d → frames ≤ 16 → length (stream_pushes d frames) ≤ 51305600
few_pushes d frames is right few =
    few_repeated frames 16 (frame_pushes d) 3206600 few (few_fields (field_pushes d) d.fields (λ field. few_field d field is right))
