-- A grain of a line lies in one chunk on each plane.
use Rattle.std.proofs.Common.{◌≡◌, ℕ, ◌+◌, ◌-◌, ◌*◌, ◌/◌, ◌%◌, ◌<◌, ◌≤◌, ◌⊎◌, inl, inr, Bool, true, false, List, Option, Some, None, refl}
use Rattle.std.proofs.Common.{sym, ap, ◌∙◌, subst, arith, ⊎_elim, if◌then◌else◌}
use Rattle.std.specs.Prelude.{◌==◌}
use Rattle.std.specs.List.{All}
use Rattle.std.proofs.lemmas.Bool.{cases_Bool, eqb-true, eqb-false, cond-true, cond-false}
use Rattle.std.proofs.lemmas.Nat.{mul-mod_second, row_fits}
use Rattle.std.proofs.Math.Nat.{zero-mod}
use Rattle.pixel_layout.specs.declared.Format.{Format}
use Rattle.pixel_layout.specs.declared.Format.TheVariants.{Rgb32, Rgb24, Rgb16, Rgb15, Yuy2, Y8, Rgb8, BtYuv, Yuv422p, Yuv411p, Yuv420p}
use Rattle.pixel_layout.specs.declared.Format.TheVariants.{Yuv410p}
use Rattle.pixel_layout.specs.Layouts.{layout, planes_of}
use Rattle.pixel_layout.proofs.Table.{layout_sizes}
use Rattle.page_table.specs.Grants.{Chunk, total}
use Rattle.page_table.specs.Taken.{is_aligned}
use Rattle.page_table.specs.Scattered.{room_at}
use Rattle.page_table.proofs.Scattered.{lt-room_at, room_at-add, address_at-aligned}
use Rattle.capture_desc.specs.declared.desc.Desc.{Desc}
use Rattle.picture_model.specs.Described.{both, chroma_first, chroma_row_of, field_of, layout_of, memory_of, offset, plane_row_bytes}
use Rattle.picture_model.specs.Described.{stride}
use Rattle.picture_model.specs.Places.{HasPlane, plane_row, row_offset}
use Rattle.picture_model.specs.Plans.{Track, grain_bytes, grains_of, row_track, track}
use Rattle.picture_model.proofs.FaultlessGeometry.{IsRight}
use Rattle.picture_model.proofs.Offsets.{IsRowAt, chroma_row-IsKept, row_offset-IsRowAt, row_end}

-- over aligned chunks there is room up to the next multiple of 4
pub room_to_four : (memory : List Chunk) (p : ℕ) → All (λ c. is_aligned c ≡ true) memory → p < total memory → 4 ≤ room_at memory p + p % 4
room_to_four memory p aligned within =
    let q = p - p % 4 in
    let multiple = address_at-aligned memory q aligned (omega arith) (omega arith) in
    let four = multiple.1 in
    let some = lt-room_at memory q (omega arith) in
    let k : p % 4 < room_at memory q = omega arith in
    let e : q + p % 4 ≡ p = omega arith in
    let there : room_at memory p ≡ room_at memory q - p % 4 = ap (room_at memory) (sym e) ∙ room_at-add memory q (p % 4) k in
    omega arith

-- a unit of a planar format has 2 or 4 pixels, and as many bytes
pub planar_pixels : (f : Format) → (layout f).planar ≡ true → ((layout f).pixels ≡ 2) ⊎ ((layout f).pixels ≡ 4)
planar_pixels Yuv422p is = inl refl
planar_pixels Yuv411p is = inr refl
planar_pixels Yuv420p is = inl refl
planar_pixels Yuv410p is = inr refl
planar_pixels Rgb32 is = cc
planar_pixels Rgb24 is = cc
planar_pixels Rgb16 is = cc
planar_pixels Rgb15 is = cc
planar_pixels Yuy2 is = cc
planar_pixels Y8 is = cc
planar_pixels Rgb8 is = cc
planar_pixels BtYuv is = cc

pub planar_bytes : (f : Format) → (layout f).planar ≡ true → (layout f).bytes ≡ (layout f).pixels
planar_bytes f is = let unit = (layout_sizes f).unit is in unit.1 ∙ sym unit.0

-- the bytes of a grain by the form and the plane
abbrev size_by : Bool → Bool → ℕ → ℕ
size_by planar first bytes = if first then (if planar then bytes else 1) else (if planar then 1 else 0)

pub size_small : (planar first : Bool) (bytes : ℕ) → (planar ≡ true → (bytes ≡ 2) ⊎ (bytes ≡ 4)) → size_by planar first bytes ≤ 4
size_small true true bytes units = ⊎_elim (λ two. omega arith) (λ four. omega arith) (units refl)
size_small true false bytes units = omega arith
size_small false true bytes units = omega arith
size_small false false bytes units = omega arith

size_some : (planar first : Bool) (bytes : ℕ) → (first ≡ false → planar ≡ true) → 1 ≤ bytes → 0 < size_by planar first bytes
size_some true true bytes has some = some
size_some true false bytes has some = omega arith
size_some false true bytes has some = omega arith
size_some false false bytes has some = let no = has refl in cc

zero_product : (n unit : ℕ) → 0 < unit → (n * 0) % unit ≡ 0
zero_product n unit some = let e : n * 0 ≡ 0 = omega arith in ap (λ (m : ℕ). m % unit) e ∙ zero-mod unit

product_two : (n b : ℕ) → b % 2 ≡ 0 → (n * b) % 2 ≡ 0
product_two n b whole = sym (mul-mod_second n b 2) ∙ ap (λ r. (n * r) % 2) whole ∙ zero_product n 2 (omega arith)

product_four : (n b : ℕ) → b % 4 ≡ 0 → (n * b) % 4 ≡ 0
product_four n b whole = sym (mul-mod_second n b 4) ∙ ap (λ r. (n * r) % 4) whole ∙ zero_product n 4 (omega arith)

-- sums of multiples of a unit
pub whole_sum : (unit a n b : ℕ) → (unit ≡ 2) ⊎ (unit ≡ 4) → a % unit ≡ 0 → b % unit ≡ 0 → (a + n * b) % unit ≡ 0
whole_sum unit a n b which =
    let W : ℕ → Type 0 = λ u. a % u ≡ 0 → b % u ≡ 0 → (a + n * b) % u ≡ 0 in
    ⊎_elim
    (λ two. subst W (sym two) (λ first second. let product = product_two n b second in omega arith))
    (λ four. subst W (sym four) (λ first second. let product = product_four n b second in omega arith)) which

unit_whole : (unit : ℕ) → (unit ≡ 2) ⊎ (unit ≡ 4) → unit % unit ≡ 0
unit_whole unit which =
    let W : ℕ → Type 0 = λ u. u % u ≡ 0 in
    ⊎_elim (λ two. subst W (sym two) refl) (λ four. subst W (sym four) refl) which

-- at a multiple of the unit there is room for it
unit_room : (unit p room : ℕ) → (unit ≡ 2) ⊎ (unit ≡ 4) → p % unit ≡ 0 → 4 ≤ room + p % 4 → unit ≤ room
unit_room unit p room which whole near =
    let W : ℕ → Type 0 = λ u. p % u ≡ 0 → u ≤ room in
    ⊎_elim (λ two. subst W (sym two) (λ even. omega arith)) (λ four. subst W (sym four) (λ even. omega arith)) which whole

size_room : (memory : List Chunk) (planar first : Bool) (bytes p : ℕ) → All (λ c. is_aligned c ≡ true) memory → p < total memory →
    (planar ≡ true → (bytes ≡ 2) ⊎ (bytes ≡ 4)) →
    (planar ≡ true → first ≡ true → p % bytes ≡ 0) → size_by planar first bytes ≤ room_at memory p
size_room memory true true bytes p aligned within units whole =
    unit_room bytes p (room_at memory p) (units refl) (whole refl refl) (room_to_four memory p aligned within)
size_room memory true false bytes p aligned within units whole = lt-room_at memory p within
size_room memory false true bytes p aligned within units whole = lt-room_at memory p within
size_room memory false false bytes p aligned within units whole = omega arith

-- the grains of a row are its bytes
grains_by : (planar first : Bool) (units bytes chroma : ℕ) → (first ≡ false → planar ≡ true) → (planar ≡ true → units ≡ chroma) →
    (if planar then units else units * bytes) * size_by planar first bytes ≡ (if first then units * bytes else chroma)
grains_by true true units bytes chroma has same = refl
grains_by true false units bytes chroma has same = let e = same refl in omega arith
grains_by false true units bytes chroma has same = omega arith
grains_by false false units bytes chroma has same = let no = has refl in cc

planes_by : (planar : Bool) (plane : ℕ) → 1 ≤ plane → plane ≤ (if planar then 3 else 1) → (plane ≡ 1 → ⊥) → planar ≡ true
planes_by true plane low high other = refl
planes_by false plane low high other = absurd (other (omega arith))

-- a plane after the first is one of a planar format
pub other_planes : (d : Desc) (plane : ℕ) → HasPlane d plane → (plane == 1) ≡ false → (layout_of d).planar ≡ true
other_planes d plane has other = planes_by (layout_of d).planar plane has.low has.high (eqb-false plane 1 other)

pub row_grains : (d : Desc) (plane : ℕ) → HasPlane d plane →
    grains_of (layout_of d) d.width * grain_bytes (layout_of d) plane ≡ plane_row_bytes d plane
row_grains d plane has =
    let l = layout_of d in
    grains_by l.planar (plane == 1) (d.width / l.pixels) l.bytes (d.width / l.across)
    (λ other. planes_by l.planar plane has.low has.high (eqb-false plane 1 other))
    (λ planar. ap (λ n. d.width / n) ((layout_sizes d.format).unit planar).0)

pub bytes_units : (d : Desc) → (layout_of d).planar ≡ true → ((layout_of d).bytes ≡ 2) ⊎ ((layout_of d).bytes ≡ 4)
bytes_units d planar =
    let same = planar_bytes d.format planar in
    ⊎_elim (λ two. inl (same ∙ two)) (λ four. inr (same ∙ four)) (planar_pixels d.format planar)

planes_least : (planar : Bool) (plane : ℕ) → plane ≡ 1 → plane ≤ (if planar then 3 else 1)
planes_least true plane first = omega arith
planes_least false plane first = omega arith

-- each grain of a track lies in one chunk, where it is written
abbrev pub GrainsFit : List Chunk → ℕ → ℕ → Option ℕ → Type 0
GrainsFit memory grains size None = Unit {0}
GrainsFit memory grains size (Some start) =
    (0 < size) × (start + grains * size ≤ total memory) × ((at : ℕ) → at < grains → size ≤ room_at memory (start + at * size))

pub record IsTrack (memory : List Chunk) (grains : ℕ) (t : Track) : Type 0 where
  pub small : t.size ≤ 4
  pub fit : GrainsFit memory grains t.size t.start

pub unwritten-IsTrack : (memory : List Chunk) (grains size : ℕ) → size ≤ 4 → IsTrack memory grains (track size None)
unwritten-IsTrack memory grains size small = record { small = small; fit = tt }

pub grain_small : (d : Desc) (plane : ℕ) → grain_bytes (layout_of d) plane ≤ 4
grain_small d plane =
    size_small (layout_of d).planar (plane == 1) (layout_of d).bytes (bytes_units d)

-- a plane that holds a row is one of the picture's
pub held_plane : (d : Desc) (plane row c : ℕ) → 1 ≤ plane → plane ≤ 3 → plane_row d plane row ≡ Some c → HasPlane d plane
held_plane d plane row c low high held =
    record {
      low = low;
      high = ⊎_elim
          (λ first. let same = eqb-true plane 1 first in planes_least (layout_of d).planar plane same)
          (λ other. let chroma : chroma_row_of d row ≡ Some c =
          sym (cond-false (plane == 1) (Some row) (chroma_row_of d row) other) ∙ held in
          let planar = (chroma_row-IsKept (layout_of d) (both d) (chroma_first d (field_of d.fields row)) row c chroma).planar in
          let all : planes_of (layout_of d) ≡ 3 = cond-true (layout_of d).planar 3 1 planar in omega arith)
          (cases_Bool (plane == 1));
    }

module _ (d : Desc) (right : IsRight d) (plane row : ℕ) (low : 1 ≤ plane) (high : plane ≤ 3) (below : row < d.height) where
  from_whole : (from : ℕ) → IsRowAt d plane row from → (layout_of d).planar ≡ true → plane ≡ 1 → from % (layout_of d).bytes ≡ 0
  from_whole from is planar first =
      let units = right.on_units planar in
      let at : from ≡ offset d 1 + is.number * stride d 1 = is.at ∙ ap (λ (p : ℕ). offset d p + is.number * stride d p) first in
      let whole = whole_sum (layout_of d).pixels (offset d 1) is.number (stride d 1) (planar_pixels d.format planar) units.0 units.1 in
      let bytes : (layout_of d).pixels ≡ (layout_of d).bytes = sym (planar_bytes d.format planar) in
      subst (λ (n : ℕ). n % (layout_of d).bytes ≡ 0) (sym at) (subst (λ (u : ℕ). (offset d 1 + is.number * stride d 1) % u ≡ 0) bytes whole)

  row_fit : (start : Option ℕ) → row_offset d plane row ≡ start →
      GrainsFit (memory_of d) (grains_of (layout_of d) d.width) (grain_bytes (layout_of d) plane) start
  row_fit None is = tt
  row_fit (Some from) is =
      let l = layout_of d in
      let size = grain_bytes l plane in
      let grains = grains_of l d.width in
      let at_row = row_offset-IsRowAt d plane row from is in
      let has = held_plane d plane row at_row.number low high at_row.held in
      let end = row_end d plane row from right has below at_row in
      let all = row_grains d plane has in
      let some : 0 < size =
      size_some l.planar (plane == 1) l.bytes (λ other. planes_by l.planar plane low has.high (eqb-false plane 1 other))
      (layout_sizes d.format).some_bytes in (
        some,
        omega arith,
        λ at inside.
            let step : at * size + size ≤ grains * size = row_fits at size grains size inside (omega arith) in
            size_room (memory_of d) l.planar (plane == 1) l.bytes (from + at * size) right.aligned (omega arith) (bytes_units d)
            (λ planar first.
            let same : size ≡ l.bytes = cond-true (plane == 1) _ _ first ∙ cond-true l.planar _ _ planar in
            let unit = bytes_units d planar in
            let from_is = from_whole from at_row planar (eqb-true plane 1 first) in
            let size_is : size % l.bytes ≡ 0 = ap (λ (n : ℕ). n % l.bytes) same ∙ unit_whole l.bytes unit in
            whole_sum l.bytes from at size unit from_is size_is),
      )

  pub row_track-IsTrack : IsTrack (memory_of d) (grains_of (layout_of d) d.width) (row_track d plane row)
  row_track-IsTrack = record { small = grain_small d plane; fit = row_fit (row_offset d plane row) refl }
