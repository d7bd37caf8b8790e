-- Where the bytes of rows, skipped lines and VBI lines go: to their places.
use Rattle.std.proofs.Common.{◌≡◌, ℕ, zero, suc, ◌+◌, ◌-◌, ◌*◌, ◌/◌, ◌%◌, ◌<◌, ◌≤◌, Bool, true, false, List, [], ◌∷◌, Option, Some, None}
use Rattle.std.proofs.Common.{option_map, if◌then◌else◌, refl, sym, ap, ◌∙◌, arith}
use Rattle.std.specs.List.{All}
use Rattle.std.proofs.Math.Nat.{div-lt_iff_lt-mul, le-div_iff_mul-le}
use Rattle.std.proofs.lemmas.Nat.{div-add-mod'}
use Rattle.std.proofs.lemmas.Bool.{leb-true}
use Rattle.std.proofs.lemmas.List.Elements.{All-head, All-tail}
use Rattle.fifo_model.specs.declared.Queue.{Queue}
use Rattle.fifo_model.specs.declared.Queue.TheVariants.{One, Two, Three}
use Rattle.pixel_layout.specs.declared.Parity.{Parity}
use Rattle.pixel_layout.specs.Layouts.{planes_of}
use Rattle.page_table.specs.Grants.{Chunk}
use Rattle.page_table.specs.Scattered.{address_at}
use Rattle.capture_desc.specs.declared.desc.Desc.{Desc}
use Rattle.picture_model.specs.Described.{describes, layout_of, memory_of, plane_row_bytes}
use Rattle.picture_model.specs.Places.{HasPlane, byte_clipped, place, row_offset, vbi_line_offset, vbi_place}
use Rattle.picture_model.specs.Plans.{Cut, IsRowCut, IsVbiCut, Strip, Track, address_of, cuts_of, grain_bytes, grains_of, row_strip}
use Rattle.picture_model.specs.Plans.{row_track, skipped_strip, skipped_vbi_strip, track, vbi_strip}
use Rattle.picture_model.proofs.Each.{Each}
use Rattle.picture_model.proofs.Grains.{row_grains}
use Rattle.picture_model.proofs.FaultlessGeometry.{IsRight}
use Rattle.picture_model.proofs.Rows.{row_cuts_are, vbi_cuts_are}
use Rattle.picture_model.proofs.Safe.{cuts_follow}
use Rattle.picture_model.proofs.Spans.{byte_clipped-grain}
use Rattle.picture_model.proofs.Strips.{row-IsStrip, vbi-IsStrip}
use Rattle.field_law.specs.CutLines.{address_in}
use Rattle.picture_law.specs.Pictures.{has_plane, plane_of}
use Rattle.picture_law.proofs.Cuts.{cut_address, line_parts_of, track_on, LiesIn, lies_in, unclipped_goes, unwritten}

all_each : {A : Type 0} (P : A → Type 0) (xs : List A) → All P xs → Each P xs
all_each P [] all = tt
all_each P (x ∷ xs) all = (All-head P x xs all, all_each P xs (All-tail P x xs all))

pub some_factor : (a b : ℕ) → 0 < a * b → 0 < b
some_factor a zero some = absurd (omega arith)
some_factor a (suc b) some = omega arith

-- the address of a cut that is not clipped, by what holds of the places of the cut
shown_by : (memory : List Chunk) (clipped answer : Bool) (start : Option ℕ) (size at x : ℕ) → answer ≡ clipped →
    ((a : ℕ) → clipped ≡ false → option_map (address_at memory) (option_map (λ from. from + x) start) ≡ Some a →
    a ≡ address_of memory clipped size start at + (x - at * size)) →
    option_map (λ a. a + (x - at * size)) (cut_address memory clipped (track size start) at)
    ≡ (if answer then None else option_map (address_at memory) (option_map (λ from. from + x) start))
shown_by memory true true start size at x same places = refl
shown_by memory false false None size at x same places = refl
shown_by memory false false (Some from) size at x same places =
    ap (λ (a : ℕ). Some a) (sym (places (address_at memory (from + x)) refl refl))
shown_by memory true false start size at x same places = cc
shown_by memory false true start size at x same places = cc

-- ---- rows

module _ (d : Desc) (right : IsRight d) (plane row : ℕ) (has : HasPlane d plane) (below : row < d.height) where
  abbrev cuts : List Cut
  cuts = cuts_of (memory_of d) (row_strip d row) (row_strip d row).spans

  abbrev size : ℕ
  size = grain_bytes (layout_of d) plane

  all_grains : grains_of (layout_of d) d.width * size ≡ plane_row_bytes d plane
  all_grains = row_grains d plane has

  pub grain_some : 0 < size
  grain_some =
      let wide = right.wide plane has.low has.high in
      some_factor (grains_of (layout_of d) d.width) size (omega (arith, all_grains))

  -- a byte in a cut of a row is clipped with it
  clipped_with : (x : ℕ) (k : Cut) → IsRowCut d row k → k.at * size ≤ x → x < (k.at + k.n) * size → byte_clipped d plane row x ≡ k.clipped
  clipped_with x k is low high =
      let grain = x / size in
      let some = grain_some in
      let split : grain * size + x % size ≡ x = div-add-mod' x size in
      let part : x % size < size = omega arith in
      let from : k.at ≤ grain = (le-div_iff_mul-le some).1 low in
      let to : grain < k.at + k.n = (div-lt_iff_lt-mul some).1 high in
      ap (byte_clipped d plane row) (sym split) ∙ byte_clipped-grain d plane row grain (x % size) has part ∙ is.answer grain from to

  goes_by : (x : ℕ) (to : Option ℕ) → LiesIn (memory_of d) (row_track d plane row) (IsRowCut d row) x to →
      to ≡ (if byte_clipped d plane row x then None else place d plane row x)
  goes_by x to lies =
      let k = lies.k in
      let low = lies.low in
      let high = lies.high in
      let product : (k.at + k.n) * size ≡ k.at * size + k.n * size = omega arith in
      let there : k.at * size + (x - k.at * size) ≡ x = omega arith in
      lies.there
      ∙ shown_by (memory_of d) k.clipped (byte_clipped d plane row x) (row_offset d plane row) size k.at x
      (clipped_with x k lies.holds low high)
      (λ a plain is. lies.holds.places plane (x - k.at * size) a has plain (omega arith) (ap (place d plane row) there ∙ is))

  pub row_goes : (x : ℕ) → x < plane_row_bytes d plane →
      address_in (line_parts_of (memory_of d) (row_track d plane row) cuts) x
      ≡ (if byte_clipped d plane row x then None else place d plane row x)
  row_goes x inside =
      goes_by x _
      (lies_in (memory_of d) (row_track d plane row) (IsRowCut d row) (grains_of (layout_of d) d.width) x cuts
      (all_each (IsRowCut d row) cuts (row_cuts_are d row right below))
      (cuts_follow (memory_of d) (row_strip d row) (row-IsStrip d row right below)) (omega (arith, all_grains)))

-- ---- the planes of queues

pub queue_plane : (d : Desc) (q : Queue) → has_plane d q ≡ true → HasPlane d (plane_of q)
queue_plane d q is = record { low = least q; high = leb-true (plane_of q) (planes_of (layout_of d)) is }
  where
    least : (q : Queue) → 1 ≤ plane_of q
    least One = omega arith
    least Two = omega arith
    least Three = omega arith

pub row_track_on : (d : Desc) (row : ℕ) (q : Queue) → row_track d (plane_of q) row ≡ track_on q (row_strip d row)
row_track_on d row One = refl
row_track_on d row Two = refl
row_track_on d row Three = refl

pub queue_row_goes : (d : Desc) (right : IsRight d) (q : Queue) (row x : ℕ) → has_plane d q ≡ true → row < d.height →
    x < plane_row_bytes d (plane_of q) →
    address_in
    (line_parts_of (memory_of d) (track_on q (row_strip d row)) (cuts_of (memory_of d) (row_strip d row) (row_strip d row).spans)) x
    ≡ (if byte_clipped d (plane_of q) row x then None else place d (plane_of q) row x)
queue_row_goes d right q row x has below inside =
    ap (λ (t : Track). address_in (line_parts_of (memory_of d) t (cuts_of (memory_of d) (row_strip d row) (row_strip d row).spans)) x)
    (sym (row_track_on d row q))
    ∙ row_goes d right (plane_of q) row (queue_plane d q has) below x inside

-- ---- skipped lines and VBI lines

pub skipped_goes : (d : Desc) (q : Queue) (x : ℕ) (cuts : List Cut) →
    address_in (line_parts_of (memory_of d) (track_on q (skipped_strip d)) cuts) x ≡ None
skipped_goes d One x cuts = unwritten (memory_of d) (grain_bytes (layout_of d) 1) x cuts
skipped_goes d Two x cuts = unwritten (memory_of d) (grain_bytes (layout_of d) 2) x cuts
skipped_goes d Three x cuts = unwritten (memory_of d) (grain_bytes (layout_of d) 3) x cuts

pub skipped_vbi_goes : (d : Desc) (x : ℕ) (cuts : List Cut) →
    address_in (line_parts_of (memory_of d) (track_on One (skipped_vbi_strip d)) cuts) x ≡ None
skipped_vbi_goes d x cuts = unwritten (memory_of d) 1 x cuts

module _ (d : Desc) (right : IsRight d) (field : Parity) (line : ℕ) (described : describes d.fields field ≡ true)
    (below : line < d.vbi_lines) where
  abbrev strip : Strip
  strip = vbi_strip d field line

  abbrev vbi_cuts : List Cut
  vbi_cuts = cuts_of (memory_of d) strip strip.spans

  vbi_goes_by : (x : ℕ) (to : Option ℕ) → LiesIn (memory_of d) strip.one (IsVbiCut d field line) x to → to ≡ Some (vbi_place d field line x)
  vbi_goes_by x to lies =
      let k = lies.k in
      let low = lies.low in
      let high = lies.high in
      let there : k.at + (x - k.at * 1) ≡ x = omega arith in
      lies.there
      ∙ unclipped_goes (memory_of d) k.clipped 1 (vbi_line_offset d field line) k.at (x - k.at * 1)
      (vbi_place d field line x) lies.holds.plain
      (ap (vbi_place d field line) (sym there) ∙ lies.holds.places (x - k.at * 1) (omega arith))

  pub vbi_goes : (x : ℕ) → x < d.vbi_bytes → address_in (line_parts_of (memory_of d) strip.one vbi_cuts) x ≡ Some (vbi_place d field line x)
  vbi_goes x inside =
      vbi_goes_by x _
      (lies_in (memory_of d) strip.one (IsVbiCut d field line) d.vbi_bytes x vbi_cuts
      (all_each (IsVbiCut d field line) vbi_cuts (vbi_cuts_are d field line right described below))
      (cuts_follow (memory_of d) strip (vbi-IsStrip d field line right described below)) (omega arith))
