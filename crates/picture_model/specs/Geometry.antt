-- The faults of a description's geometry, in the order in which they are checked.
use Rattle.std.specs.Prelude.{◌≡◌, ℕ, ◌+◌, ◌*◌, ◌%◌, ◌^◌, Bool, false, not, ◌&&◌, ◌||◌, ◌==◌, List, [], ◌∷◌, ◌++◌, length, Option, Some}
use Rattle.std.specs.Prelude.{None, option_map, if◌then◌else◌, nat_lt, nat_le, min, max, position}
use Rattle.std.specs.Int.{div_ceil}
use Rattle.std.specs.List.{list_any}
use Rattle.page_table.specs.Grants.{page_size, total}
use Rattle.page_table.specs.Taken.{first_shared, is_aligned, is_page_address, listed, pair_chunk}
use Rattle.machine_model.specs.Paths.{shares_byte}
use Rattle.capture_desc.specs.declared.desc.Desc.{Desc}
use Rattle.picture_model.specs.declared.BuildFault.{BuildFault}
use Rattle.picture_model.specs.declared.BuildFault.TheVariants.{WidthRange, HeightRange, WidthOffUnit, OddHeight, TooNarrow, StrideShort}
use Rattle.picture_model.specs.declared.BuildFault.TheVariants.{OffUnit, Overlap, VbiRange, PageUnaligned, PageTwice}
use Rattle.picture_model.specs.declared.BuildFault.TheVariants.{TooFewPages, TooFewBytes, ProgramBase, ProgramOnPage}
use Rattle.picture_model.specs.Described.{Extent, both, layout_of, memory_of, planes, plane_row_bytes, stride, offset, taken, highest_end}
use Rattle.picture_model.specs.Described.{vbi_stride}
use Rattle.picture_model.specs.Plans.{max_piece}
use Rattle.picture_model.specs.Programs.{compiled, compiled_words}

-- the limits of a picture: pixels of a row, rows, lines of VBI data in a field; and the fewest bytes of a
-- line on a plane
abbrev pub max_width : ℕ
max_width = 1024

abbrev pub max_height : ℕ
max_height = 1024

abbrev pub max_vbi_lines : ℕ
max_vbi_lines = 32

abbrev pub min_line_bytes : ℕ
min_line_bytes = 5

abbrev pub is_between : ℕ → ℕ → ℕ → Bool
is_between low high n = nat_le low n && nat_le n high

-- a multiple of a number that isn't 0
abbrev pub is_multiple : ℕ → ℕ → Bool
is_multiple of n = n % of == 0

-- two stretches have an offset in common; one without bytes has none
abbrev pub overlaps : Extent → Extent → Bool
overlaps e f = nat_lt (max e.from f.from) (min e.to f.to)

abbrev pub some_overlap : List Extent → Bool
some_overlap [] = false
some_overlap (e ∷ rest) = list_any (overlaps e) rest || some_overlap rest

-- the first page or chunk that can't be granted
abbrev pub first_unaligned : Option (List (ℕ × ℕ)) → List ℕ → Option ℕ
first_unaligned None pages = position (λ page. not (is_page_address page)) pages
first_unaligned (Some pairs) pages = position (λ pair. not (is_aligned (pair_chunk pair))) pairs

-- a fault, where it holds
abbrev pub when : Bool → BuildFault → Option BuildFault
when holds fault = if holds then Some fault else None

-- pages or bytes that are missing for a picture whose highest end this is
abbrev pub first_missing : Option (List (ℕ × ℕ)) → List ℕ → ℕ → Option BuildFault
first_missing None pages end =
    let need = div_ceil end page_size in
    when (nat_lt (length pages) need) (TooFewPages need (length pages))
first_missing (Some pairs) pages end =
    let have = total (listed pairs) in
    when (nat_lt have end) (TooFewBytes end have)

-- a fault that may hold of a description
abbrev pub Check : Type 0
Check = Desc → Option BuildFault

-- the faults of the picture's size and of its planes

abbrev pub width_range : Check
width_range d = when (not (is_between 1 max_width d.width)) WidthRange

abbrev pub height_range : Check
height_range d = when (not (is_between 1 max_height d.height)) HeightRange

abbrev pub width_off_unit : Check
width_off_unit d = when (not (is_multiple (layout_of d).pixels d.width)) WidthOffUnit

abbrev pub odd_height : Check
odd_height d = when (both d && not (is_multiple 2 d.height)) OddHeight

abbrev pub too_narrow : Check
too_narrow d = when (list_any (λ p. nat_lt (plane_row_bytes d p) min_line_bytes) (planes d)) TooNarrow

abbrev pub stride_short : Check
stride_short d = when (list_any (λ p. nat_lt (stride d p) (plane_row_bytes d p)) (planes d)) StrideShort

abbrev pub off_unit : Check
off_unit d =
    let unit = (layout_of d).pixels in
    when ((layout_of d).planar && not (is_multiple unit (offset d 1) && is_multiple unit (stride d 1))) OffUnit

abbrev pub size_faults : List Check
size_faults =
    width_range ∷ height_range ∷ width_off_unit ∷ odd_height ∷ too_narrow ∷ stride_short ∷ off_unit ∷ []

-- the faults of the areas that the picture and its VBI lines take

abbrev pub overlap : Check
overlap d = when (some_overlap (taken d)) Overlap

abbrev pub vbi_range : Check
vbi_range d =
    when
    (nat_lt max_vbi_lines d.vbi_lines
    || (nat_lt 0 d.vbi_lines && (not (is_between min_line_bytes max_piece d.vbi_bytes) || nat_lt (vbi_stride d) d.vbi_bytes)))
    VbiRange

abbrev pub picture_faults : List Check
picture_faults = size_faults ++ overlap ∷ vbi_range ∷ []

-- the faults of the pages or chunks

abbrev pub page_unaligned : Check
page_unaligned d = option_map PageUnaligned (first_unaligned d.chunks d.pages)

abbrev pub page_twice : Check
page_twice d = option_map PageTwice (first_shared [] (memory_of d))

abbrev pub page_faults : List Check
page_faults = page_unaligned ∷ page_twice ∷ []

-- the fault of the memory as a whole

abbrev pub too_few : Check
too_few d = first_missing d.chunks d.pages (highest_end (taken d))

abbrev pub memory_faults : List Check
memory_faults = too_few ∷ []

-- the faults of the frame
abbrev pub frame_faults : List Check
frame_faults = picture_faults ++ page_faults ++ memory_faults

-- the faults of the program

abbrev pub program_base : Check
program_base d =
    when (not (is_multiple 4 d.base && nat_le (d.base + 4 * length (compiled_words d)) (2 ^ 32))) ProgramBase

abbrev pub program_on_page : Check
program_on_page d = when (list_any (shares_byte (compiled d)) (memory_of d)) ProgramOnPage

abbrev pub program_faults : List Check
program_faults = program_base ∷ program_on_page ∷ []

-- the first of some faults that holds of a description, unless one was found before
abbrev pub first_after : Option BuildFault → List Check → Desc → Option BuildFault
first_after (Some found) checks d = Some found
first_after None [] d = None
first_after None (check ∷ rest) d = first_after (check d) rest d

-- the first fault of the frame, and of all
abbrev pub frame_fault : Desc → Option BuildFault
frame_fault d = first_after None frame_faults d

abbrev pub first_fault : Desc → Option BuildFault
first_fault d = first_after None (frame_faults ++ program_faults) d

-- the geometry of the picture is right, and that of all
abbrev pub IsFrame : Desc → Type 0
IsFrame d = frame_fault d ≡ None

abbrev pub IsValid : Desc → Type 0
IsValid d = first_fault d ≡ None
