-- The places of a picture's bytes: each is granted, and all differ.
use Rattle.std.proofs.Common.{◌≡◌, ℕ, ◌+◌, ◌<◌, ◌≤◌, Bool, true, false, ◌||◌, List, [], ◌∷◌, Some, refl, sym, ap, ◌∙◌, subst, arith, ⊎_elim}
use Rattle.std.specs.List.{list_any}
use Rattle.std.proofs.lemmas.Bool.{cases_order}
use Rattle.std.proofs.lemmas.Nat.{same_from_place}
use Rattle.std.proofs.Math.Bool.{or-false}
use Rattle.pixel_layout.specs.declared.Parity.{Parity}
use Rattle.page_table.specs.Grants.{Chunk, covers, granted, total}
use Rattle.page_table.specs.Taken.{all_placed, in_order, placed}
use Rattle.page_table.specs.Scattered.{address_at}
use Rattle.page_table.proofs.Placing.{list_any-placed}
use Rattle.page_table.proofs.Scattered.{AreDisjoint-from_first_shared, address_at-injective, granted-offset}
use Rattle.capture_desc.specs.declared.desc.Desc.{Desc}
use Rattle.picture_model.specs.Described.{memory_of, offset, plane_bytes, plane_row_bytes, vbi_offset, vbi_size, vbi_stride}
use Rattle.picture_model.specs.Places.{Byte, IsByte, byte_offset, byte_place, row_byte, row_offset, vbi_byte, vbi_line_offset}
use Rattle.picture_model.proofs.FaultlessGeometry.{IsRight}
use Rattle.picture_model.proofs.Offsets.{IsRowAt, areas_differ, mapped_some, plane_and_area, planes_differ, row_end, row_offset-IsRowAt}
use Rattle.picture_model.proofs.Offsets.{row_within, rows_differ, vbi_end, line_within}

-- some chunk of a list passes a test exactly where one in rising order does

or_turn : (a b c : Bool) → ((a || b) || c) ≡ (b || (a || c))
or_turn true true c = refl
or_turn true false c = refl
or_turn false b c = refl

pub any-all_placed : (test : Chunk → Bool) (rising rest : List Chunk) →
    list_any test (all_placed rising rest) ≡ (list_any test rising || list_any test rest)
any-all_placed test rising [] = sym (or-false (list_any test rising))
any-all_placed test rising (c ∷ rest) =
    any-all_placed test (placed c rising) rest
    ∙ ap (λ b. b || list_any test rest) (list_any-placed test c rising)
    ∙ or_turn (test c) (list_any test rising) (list_any test rest)

pub any-in_order : (test : Chunk → Bool) (chunks : List Chunk) → list_any test (in_order chunks) ≡ list_any test chunks
any-in_order test chunks = any-all_placed test [] chunks

pub granted-in_order : (chunks : List Chunk) (a : ℕ) → granted (in_order chunks) a ≡ granted chunks a
granted-in_order chunks a = any-in_order (λ (c : Chunk). covers c a) chunks

-- a byte's place is the address of its offset
pub record IsPlaceAt (d : Desc) (b : Byte) (a : ℕ) : Type 0 where
  pub offset : ℕ
  pub at : byte_offset d b ≡ Some offset
  pub address : address_at (memory_of d) offset ≡ a

pub place_at : (d : Desc) (b : Byte) (a : ℕ) → byte_place d b ≡ Some a → IsPlaceAt d b a
place_at d b a is =
    let found = mapped_some (address_at (memory_of d)) (byte_offset d b) a is in
    record { offset = found.0; at = found.1; address = found.2 }

-- a row's byte, and where its row begins
record IsRowByteAt (d : Desc) (plane row x o : ℕ) : Type 0 where
  from : ℕ
  row_at : IsRowAt d plane row from
  at : from + x ≡ o

row_byte_at : (d : Desc) (plane row x o : ℕ) → byte_offset d (row_byte plane row x) ≡ Some o → IsRowByteAt d plane row x o
row_byte_at d plane row x o is =
    let found = mapped_some (λ from. from + x) (row_offset d plane row) o is in
    record { from = found.0; row_at = row_offset-IsRowAt d plane row found.0 found.1; at = found.2 }

pub byte_within : (d : Desc) (b : Byte) (o : ℕ) → IsRight d → IsByte d b → byte_offset d b ≡ Some o → o < total (memory_of d)
byte_within d (row_byte plane row x) o right is at =
    let there = row_byte_at d plane row x o at in
    let end = row_end d plane row there.from right is.0 is.1 there.row_at in
    let e = there.at in let inside = is.2 in omega arith
byte_within d (vbi_byte field line x) o right is at =
    let end = vbi_end d field line right is.0 is.1 in
    let e : vbi_line_offset d field line + x ≡ o = cc in
    let inside = is.2 in omega arith

-- the byte of a VBI line is in its field's area
in_area : (d : Desc) (field : Parity) (line x : ℕ) → line < d.vbi_lines → x < d.vbi_bytes →
    (vbi_offset d field ≤ vbi_line_offset d field line + x) × (vbi_line_offset d field line + x < vbi_offset d field + vbi_size d)
in_area d field line x below inside =
    let within = line_within d.vbi_lines (vbi_stride d) d.vbi_bytes line below in (omega arith, omega arith)

in_extent : (d : Desc) (plane row x o : ℕ) → row < d.height → x < plane_row_bytes d plane → IsRowByteAt d plane row x o →
    (offset d plane ≤ o) × (o < offset d plane + plane_bytes d plane)
in_extent d plane row x o below inside there =
    let within = row_within d plane row there.from below there.row_at in
    let e = there.at in (omega arith, omega arith)

same_row_byte : (p q r s x y : ℕ) → p ≡ q → r ≡ s → x ≡ y → row_byte p r x ≡ row_byte q s y
same_row_byte p q r s x y first second third = cc

same_vbi_byte : (f g : Parity) (l m x y : ℕ) → f ≡ g → l ≡ m → x ≡ y → vbi_byte f l x ≡ vbi_byte g m y
same_vbi_byte f g l m x y first second third = cc

module _ (d : Desc) (right : IsRight d) (o : ℕ) where
  two_rows : (plane row x plane' row' x' : ℕ) → IsByte d (row_byte plane row x) → IsByte d (row_byte plane' row' x') →
      IsRowByteAt d plane row x o → IsRowByteAt d plane' row' x' o → row_byte plane row x ≡ row_byte plane' row' x'
  two_rows plane row x plane' row' x' is is' there there' =
      let e : there.from + x ≡ there'.from + x' = there.at ∙ sym there'.at in
      ⊎_elim
      (λ same.
      let moved = subst (λ (p : ℕ). IsRowAt d p row' there'.from) (sym same) there'.row_at in
      let inside : x' < plane_row_bytes d plane = subst (λ (p : ℕ). x' < plane_row_bytes d p) (sym same) is'.2 in
      let parts = rows_differ d plane row row' there.from there'.from x x' right is.0 there.row_at moved is.2 inside e in
      same_row_byte plane plane' row row' x x' same parts.0 parts.1)
      (λ other. ⊎_elim
      (λ less. absurd (planes_differ d right plane plane' row row' there.from there'.from x x' is.0 is'.0 less is.1 is'.1 there.row_at
      there'.row_at is.2 is'.2 e))
      (λ more. absurd (planes_differ d right plane' plane row' row there'.from there.from x' x is'.0 is.0 more is'.1 is.1 there'.row_at
      there.row_at is'.2 is.2 (sym e)))
      other)
      (cases_order plane plane')

  row_or_vbi : (plane row x line x' : ℕ) (field : Parity) → IsByte d (row_byte plane row x) → IsByte d (vbi_byte field line x') →
      IsRowByteAt d plane row x o → vbi_line_offset d field line + x' ≡ o → ⊥
  row_or_vbi plane row x line x' field is is' there e =
      let extent = in_extent d plane row x o is.1 is.2 there in
      let area = in_area d field line x' is'.1 is'.2 in
      plane_and_area d right plane field o is.0 is'.0 extent.0 extent.1 (omega arith) (omega arith)

  two_lines : (field field' : Parity) (line x line' x' : ℕ) → IsByte d (vbi_byte field line x) → IsByte d (vbi_byte field' line' x') →
      vbi_line_offset d field line + x ≡ o →
      vbi_line_offset d field' line' + x' ≡ o → vbi_byte field line x ≡ vbi_byte field' line' x'
  two_lines field field' line x line' x' is is' e e' =
      let area = in_area d field line x is.1 is.2 in
      let area' = in_area d field' line' x' is'.1 is'.2 in
      let same : field ≡ field' = areas_differ d right o field field' is.0 is'.0 (omega arith) (omega arith) (omega arith) (omega arith) in
      let begin : vbi_offset d field ≡ vbi_offset d field' = ap (vbi_offset d) same in
      let step = right.vbi_apart (let first = is.1 in omega arith) in
      let first = is.2 in let second = is'.2 in
      let parts = same_from_place line x line' x' (vbi_stride d) (omega arith) (omega arith) (omega arith) in
      same_vbi_byte field field' line line' x x' same parts.0 parts.1

pub bytes_differ : (d : Desc) (b c : Byte) (o : ℕ) → IsRight d → IsByte d b → IsByte d c → byte_offset d b ≡ Some o →
    byte_offset d c ≡ Some o → b ≡ c
bytes_differ d (row_byte plane row x) (row_byte plane' row' x') o right is is' at at' =
    two_rows d right o plane row x plane' row' x' is is' (row_byte_at d plane row x o at) (row_byte_at d plane' row' x' o at')
bytes_differ d (row_byte plane row x) (vbi_byte field line x') o right is is' at at' =
    let e : vbi_line_offset d field line + x' ≡ o = cc in
    absurd (row_or_vbi d right o plane row x line x' field is is' (row_byte_at d plane row x o at) e)
bytes_differ d (vbi_byte field line x) (row_byte plane row x') o right is is' at at' =
    let e : vbi_line_offset d field line + x ≡ o = cc in
    absurd (row_or_vbi d right o plane row x' line x field is' is (row_byte_at d plane row x' o at') e)
bytes_differ d (vbi_byte field line x) (vbi_byte field' line' x') o right is is' at at' =
    let e : vbi_line_offset d field line + x ≡ o = cc in
    let e' : vbi_line_offset d field' line' + x' ≡ o = cc in
    two_lines d right o field field' line x line' x' is is' e e'

pub place_granted : (d : Desc) (b : Byte) (a : ℕ) → IsRight d → IsByte d b → byte_place d b ≡ Some a →
    granted (in_order (memory_of d)) a ≡ true
place_granted d b a right is at =
    let there = place_at d b a at in
    let within = byte_within d b there.offset right is there.at in
    granted-in_order (memory_of d) a ∙ ap (granted (memory_of d)) (sym there.address) ∙ granted-offset (memory_of d) there.offset within

pub places_differ : (d : Desc) (b c : Byte) (a : ℕ) → IsRight d → IsByte d b → IsByte d c → byte_place d b ≡ Some a →
    byte_place d c ≡ Some a → b ≡ c
places_differ d b c a right is is' at at' =
    let there = place_at d b a at in
    let there' = place_at d c a at' in
    let within = byte_within d b there.offset right is there.at in
    let within' = byte_within d c there'.offset right is' there'.at in
    let same : there.offset ≡ there'.offset =
    address_at-injective (memory_of d) there.offset there'.offset
    (AreDisjoint-from_first_shared (memory_of d) right.chunks_apart) within within' (there.address ∙ sym there'.address)
    in
    bytes_differ d b c there.offset right is is' there.at (there'.at ∙ ap (λ (o : ℕ). Some o) (sym same))
