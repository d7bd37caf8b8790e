-- What it means that a description has no fault of its geometry.
use Rattle.std.proofs.Common.{◌≡◌, ℕ, zero, suc, ◌+◌, ◌*◌, ◌%◌, ◌^◌, ◌<◌, ◌≤◌, Bool, true, false, not, ◌&&◌, ◌||◌, List, [], ◌∷◌, ◌++◌}
use Rattle.std.proofs.Common.{length, Option, Some, None, refl, subst, arith, ⊎_elim}
use Rattle.std.specs.Prelude.{nat_le, nat_lt, option_map}
use Rattle.std.specs.Int.{div_ceil}
use Rattle.std.specs.List.{All, list_any, range_with_len}
use Rattle.std.proofs.lemmas.Bool.{leb-true, ltb-false, eqb-true, and_parts, and_cases, or_parts, not-false, cases_lt}
use Rattle.page_table.specs.Grants.{page_size, total}
use Rattle.page_table.specs.Taken.{first_shared, is_aligned, listed}
use Rattle.page_table.proofs.Pages.{pages_aligned}
use Rattle.page_table.proofs.ScatterLists.{chunks_aligned, pages_enough}
use Rattle.machine_model.specs.Paths.{shares_byte}
use Rattle.capture_desc.specs.declared.desc.Desc.{Desc}
use Rattle.picture_model.specs.declared.BuildFault.{BuildFault}
use Rattle.picture_model.specs.declared.BuildFault.TheVariants.{PageUnaligned, PageTwice}
use Rattle.picture_model.specs.Described.{IsDescription, both, layout_of, memory_of, memory_from, planes, plane_row_bytes, stride, offset}
use Rattle.picture_model.specs.Described.{taken, highest_end, vbi_stride}
use Rattle.picture_model.specs.Geometry.{Check, IsFrame, IsValid, first_after, first_missing, first_unaligned, frame_faults, max_height}
use Rattle.picture_model.specs.Geometry.{max_vbi_lines, max_width, min_line_bytes, program_faults, is_between, is_multiple, some_overlap}
use Rattle.picture_model.specs.Geometry.{when}
use Rattle.picture_model.specs.Plans.{max_piece}
use Rattle.picture_model.specs.Programs.{compiled, compiled_words}
use Rattle.pixel_layout.specs.Layouts.{planes_of}

-- none of the faults holds, each for itself
abbrev AreClear : List Check → Desc → Type 0
AreClear [] d = Unit {0}
AreClear (check ∷ rest) d = (check d ≡ None) × AreClear rest d

after_none : (found : Option BuildFault) (checks : List Check) (d : Desc) → first_after found checks d ≡ None →
    (found ≡ None) × AreClear checks d
after_none (Some fault) checks d none = cc
after_none None [] d none = (refl, tt)
after_none None (check ∷ rest) d none = let more = after_none (check d) rest d none in (refl, (more.0, more.1))

clear_none : (found : Option BuildFault) (checks : List Check) (d : Desc) → found ≡ None → AreClear checks d →
    first_after found checks d ≡ None
clear_none (Some fault) checks d none clear = none
clear_none None [] d none clear = refl
clear_none None (check ∷ rest) d none clear = clear_none (check d) rest d clear.0 clear.1

clear_front : (checks more : List Check) (d : Desc) → AreClear (checks ++ more) d → AreClear checks d × AreClear more d
clear_front [] more d clear = (tt, clear)
clear_front (check ∷ rest) more d clear = let parts = clear_front rest more d clear.1 in ((clear.0, parts.0), parts.1)

pub when_not : (holds : Bool) (fault : BuildFault) → when holds fault ≡ None → holds ≡ false
when_not false fault none = refl
when_not true fault none = cc

mapped_none : (make : ℕ → BuildFault) (place : Option ℕ) → option_map make place ≡ None → place ≡ None
mapped_none make None none = refl
mapped_none make (Some place) none = cc

pub between_parts : (low high n : ℕ) → not (is_between low high n) ≡ false → (low ≤ n) × (n ≤ high)
between_parts low high n test =
    let both_parts = and_parts (nat_le low n) (nat_le n high) (not-false _ test) in
    (leb-true low n both_parts.0, leb-true n high both_parts.1)

multiple_is : (of n : ℕ) → is_multiple of n ≡ true → n % of ≡ 0
multiple_is of n test = eqb-true (n % of) 0 test

-- an answer that no number of a range gives
none_in_range : (test : ℕ → Bool) (from count p : ℕ) → list_any test (range_with_len from count) ≡ false → from ≤ p → p < from + count →
    test p ≡ false
none_in_range test from zero p none low high = absurd (omega arith)
none_in_range test from (suc count) p none low high =
    let parts = or_parts (test from) (list_any test (range_with_len (from + 1) count)) none in
    ⊎_elim
    (λ after. none_in_range test (from + 1) count p parts.1 (omega arith) (omega arith))
    (λ before. let same : from ≡ p = omega arith in subst (λ (q : ℕ). test q ≡ false) same parts.0)
    (cases_lt from p)

pub aligned_memory : (chunks : Option (List (ℕ × ℕ))) (pages : List ℕ) → All (λ page. page < 2 ^ 32) pages →
    first_unaligned chunks pages ≡ None → first_shared [] (memory_from chunks pages) ≡ None →
    All (λ c. is_aligned c ≡ true) (memory_from chunks pages)
aligned_memory None pages fit aligned apart = pages_aligned pages (λ k within. fit k 0 within) aligned
aligned_memory (Some pairs) pages fit aligned apart = chunks_aligned pairs (record { aligned = aligned; apart = apart })

enough : (chunks : Option (List (ℕ × ℕ))) (pages : List ℕ) (end : ℕ) → first_missing chunks pages end ≡ None →
    end ≤ total (memory_from chunks pages)
enough None pages end none =
    pages_enough pages end (ltb-false (length pages) (div_ceil end page_size) (when_not _ _ none))
enough (Some pairs) pages end none = ltb-false (total (listed pairs)) end (when_not _ _ none)

-- what the faults of the frame leave
pub record IsRight (d : Desc) : Type 0 where
  pub width : (1 ≤ d.width) × (d.width ≤ max_width)
  pub height : (1 ≤ d.height) × (d.height ≤ max_height)
  pub units : d.width % (layout_of d).pixels ≡ 0
  pub even : both d ≡ true → d.height % 2 ≡ 0
  pub wide : (plane : ℕ) → 1 ≤ plane → plane ≤ planes_of (layout_of d) → min_line_bytes ≤ plane_row_bytes d plane
  pub rows_apart : (plane : ℕ) → 1 ≤ plane → plane ≤ planes_of (layout_of d) → plane_row_bytes d plane ≤ stride d plane
  pub on_units : (layout_of d).planar ≡ true → (offset d 1 % (layout_of d).pixels ≡ 0) × (stride d 1 % (layout_of d).pixels ≡ 0)
  pub parts_apart : some_overlap (taken d) ≡ false
  pub vbi_lines : d.vbi_lines ≤ max_vbi_lines
  pub vbi_bytes : 0 < d.vbi_lines → (min_line_bytes ≤ d.vbi_bytes) × (d.vbi_bytes ≤ max_piece)
  pub vbi_apart : 0 < d.vbi_lines → d.vbi_bytes ≤ vbi_stride d
  pub aligned : All (λ c. is_aligned c ≡ true) (memory_of d)
  pub chunks_apart : first_shared [] (memory_of d) ≡ None
  pub enough : highest_end (taken d) ≤ total (memory_of d)

in_planes : (d : Desc) (test : ℕ → Bool) → list_any test (planes d) ≡ false → (plane : ℕ) → 1 ≤ plane → plane ≤ planes_of (layout_of d) →
    test plane ≡ false
in_planes d test none plane low high = none_in_range test 1 (planes_of (layout_of d)) plane none low (omega arith)

-- what VBI lines of a right range have
pub record AreInRange (lines bytes step : ℕ) : Type 0 where
  pub few : lines ≤ max_vbi_lines
  pub long : 0 < lines → (min_line_bytes ≤ bytes) × (bytes ≤ max_piece)
  pub apart : 0 < lines → bytes ≤ step

pub vbi_range : (lines bytes step : ℕ) →
    (nat_lt max_vbi_lines lines || (nat_lt 0 lines && (not (is_between min_line_bytes max_piece bytes) || nat_lt step bytes))) ≡ false →
    AreInRange lines bytes step
vbi_range lines bytes step none =
    let out = not (is_between min_line_bytes max_piece bytes) in
    let parts = or_parts (nat_lt max_vbi_lines lines) (nat_lt 0 lines && (out || nat_lt step bytes)) none in
    let lines_right : 0 < lines → (out ≡ false) × (nat_lt step bytes ≡ false) =
    λ some. ⊎_elim
    (λ no. let zero_lines = ltb-false 0 lines no in absurd (omega arith))
    (λ inside. or_parts out (nat_lt step bytes) inside)
    (and_cases (nat_lt 0 lines) (out || nat_lt step bytes) parts.1)
    in
    record {
      few = ltb-false max_vbi_lines lines parts.0;
      long = λ some. between_parts min_line_bytes max_piece bytes (lines_right some).0;
      apart = λ some. ltb-false step bytes (lines_right some).1;
    }

units_of : (planar : Bool) (unit from by : ℕ) → (planar && not (is_multiple unit from && is_multiple unit by)) ≡ false → planar ≡ true →
    (from % unit ≡ 0) × (by % unit ≡ 0)
units_of false unit from by none is = cc
units_of true unit from by none is =
    let parts = and_parts (is_multiple unit from) (is_multiple unit by) (not-false _ none) in
    (multiple_is unit from parts.0, multiple_is unit by parts.1)

even_height : (two : Bool) (height : ℕ) → (two && not (is_multiple 2 height)) ≡ false → two ≡ true → height % 2 ≡ 0
even_height false height none is = cc
even_height true height none is = multiple_is 2 height (not-false _ none)

-- the pages or chunks are aligned and apart
clear_memory : (d : Desc) → AreClear frame_faults d → (first_unaligned d.chunks d.pages ≡ None) × (first_shared [] (memory_of d) ≡ None)
clear_memory d clear = (
  mapped_none PageUnaligned (first_unaligned d.chunks d.pages) clear.1.1.1.1.1.1.1.1.1.0,
  mapped_none PageTwice (first_shared [] (memory_of d)) clear.1.1.1.1.1.1.1.1.1.1.0,
)

pub IsFrame-memory : (d : Desc) → IsFrame d → (first_unaligned d.chunks d.pages ≡ None) × (first_shared [] (memory_of d) ≡ None)
IsFrame-memory d frame = clear_memory d (after_none None frame_faults d frame).1

clear-IsRight : (d : Desc) → IsDescription d → AreClear frame_faults d → IsRight d
clear-IsRight d is clear =
    let memory = clear_memory d clear in
    let lines = vbi_range d.vbi_lines d.vbi_bytes (vbi_stride d) (when_not _ _ clear.1.1.1.1.1.1.1.1.0) in
    record {
      width = between_parts 1 max_width d.width (when_not _ _ clear.0);
      height = between_parts 1 max_height d.height (when_not _ _ clear.1.0);
      units = multiple_is _ _ (not-false _ (when_not _ _ clear.1.1.0));
      even = even_height (both d) d.height (when_not _ _ clear.1.1.1.0);
      wide = λ plane low high.
          ltb-false _ _ (in_planes d (λ p. nat_lt (plane_row_bytes d p) min_line_bytes) (when_not _ _ clear.1.1.1.1.0) plane low high);
      rows_apart = λ plane low high.
          ltb-false _ _ (in_planes d (λ p. nat_lt (stride d p) (plane_row_bytes d p)) (when_not _ _ clear.1.1.1.1.1.0) plane low high);
      on_units = units_of _ _ _ _ (when_not _ _ clear.1.1.1.1.1.1.0);
      parts_apart = when_not _ _ clear.1.1.1.1.1.1.1.0;
      vbi_lines = lines.few;
      vbi_bytes = lines.long;
      vbi_apart = lines.apart;
      aligned = aligned_memory d.chunks d.pages is.pages memory.0 memory.1;
      chunks_apart = memory.1;
      enough = enough d.chunks d.pages (highest_end (taken d)) clear.1.1.1.1.1.1.1.1.1.1.1.0;
    }

pub IsFrame-IsRight : (d : Desc) → IsDescription d → IsFrame d → IsRight d
IsFrame-IsRight d is frame = clear-IsRight d is (after_none None frame_faults d frame).1

-- what the faults of the program leave
pub record HasRoom (d : Desc) : Type 0 where
  pub base : d.base % 4 ≡ 0
  pub ends : d.base + 4 * length (compiled_words d) ≤ 2 ^ 32
  pub apart : list_any (shares_byte (compiled d)) (memory_of d) ≡ false

clear-HasRoom : (d : Desc) → AreClear program_faults d → HasRoom d
clear-HasRoom d clear =
    let parts =
    and_parts (is_multiple 4 d.base) (nat_le (d.base + 4 * length (compiled_words d)) (2 ^ 32)) (not-false _ (when_not _ _ clear.0)) in
    record {
      base = multiple_is 4 d.base parts.0;
      ends = leb-true _ _ parts.1;
      apart = when_not _ _ clear.1.0;
    }

pub IsValid-IsFrame : (d : Desc) → IsValid d → IsFrame d
IsValid-IsFrame d valid =
    clear_none None frame_faults d refl
    (clear_front frame_faults program_faults d (after_none None (frame_faults ++ program_faults) d valid).1).0

pub IsValid-HasRoom : (d : Desc) → IsValid d → HasRoom d
IsValid-HasRoom d valid =
    clear-HasRoom d (clear_front frame_faults program_faults d (after_none None (frame_faults ++ program_faults) d valid).1).1
