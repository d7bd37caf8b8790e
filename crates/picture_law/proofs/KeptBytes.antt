-- The bytes of a field that are kept: each is stored, nothing else is, and each address has one of them at most.
use Rattle.std.proofs.Common.{◌≡◌, ℕ, zero, suc, ◌<◌, Bool, true, false, List, [], ◌++◌, All, length, Option, Some, None, if◌then◌else◌}
use Rattle.std.proofs.Common.{slice_index_or, refl, sym, ◌∙◌, subst, arith, ⊎_elim}
use Rattle.std.proofs.lemmas.Bool.{cases_Bool, cond-false}
use Rattle.std.proofs.lemmas.List.{nil_from_length}
use Rattle.std.proofs.lemmas.List.Elements.{All-nil, All-append}
use Rattle.fifo_model.specs.declared.Queue.{Queue}
use Rattle.fifo_model.specs.declared.Queue.TheVariants.{One, Two, Three}
use Rattle.pixel_layout.specs.declared.Parity.{Parity}
use Rattle.pixel_layout.specs.declared.Parity.TheVariants.{Top, Bottom}
use Rattle.page_table.specs.Grants.{granted}
use Rattle.page_table.specs.Taken.{in_order}
use Rattle.machine_model.specs.Turns.{Store}
use Rattle.capture_desc.specs.declared.desc.Desc.{Desc}
use Rattle.picture_model.specs.Described.{both, describes, field_height, memory_of, picture_row, plane_row_bytes}
use Rattle.picture_model.specs.Places.{IsByte, byte_clipped, place, row_byte, vbi_byte}
use Rattle.picture_model.specs.Plans.{vbi_strip}
use Rattle.picture_model.proofs.Places.{place_granted, places_differ}
use Rattle.picture_model.proofs.FaultlessGeometry.{IsRight}
use Rattle.picture_model.proofs.Sections.{row_below}
use Rattle.field_law.specs.Sections.{is_stored}
use Rattle.field_law.specs.CutLines.{EachByte, lines_stores}
use Rattle.field_law.proofs.CutLines.{stored_first, stored_second}
use Rattle.picture_law.specs.Pictures.{Picture, FieldByte, of_row, of_vbi, IsKeptAt, IsPicture, IsUnclipped, byte_in, has_plane, plane_of}
use Rattle.picture_law.specs.Pictures.{rows_on, shown_as, AreSkipped, SkippedLines}
use Rattle.picture_law.proofs.BytePlaces.{queue_plane, queue_row_goes, skipped_goes, skipped_vbi_goes, vbi_goes}
use Rattle.picture_law.proofs.Lines.{all_stores, cut_line, cut_lines, stored_there}
use Rattle.picture_law.proofs.Body.{field_row_strip, field_stores, row_stores, rows_all, rows_many, skipped_all, skipped_stores}
use Rattle.picture_law.proofs.Body.{skipped_strips, skipped_vbi_all, skipped_vbi_stores, skipped_vbi_strips, vbi_all, vbi_line_stores}
use Rattle.picture_law.proofs.Body.{vbi_stores, vbi_stores_by}

-- a store of a byte that is kept
pub record IsOfPicture (d : Desc) (field : Parity) (picture : Picture) (store : Store) : Type 0 where
  pub byte : FieldByte
  pub kept : IsKeptAt d field byte store.address
  pub shown : shown_as picture byte ≡ store.byte

pub unless_clipped : (clipped : Bool) (to : Option ℕ) (address : ℕ) → (if clipped then None else to) ≡ Some address →
    (clipped ≡ false) × (to ≡ Some address)
unless_clipped true to address h = cc
unless_clipped false to address h = (refl, h)

none_some : (address : ℕ) → None ≡ Some address → ⊥
none_some address h = cc

module _ (d : Desc) (right : IsRight d) (field : Parity) (described : describes d.fields field ≡ true) (picture : Picture)
    (is : IsPicture d field picture)
    (skipped : SkippedLines) (skips : AreSkipped d field skipped) where
  abbrev IsStore : Store → Type 0
  IsStore = IsOfPicture d field picture

  -- ---- each store is of a byte that is kept

  row_each : (q : Queue) → has_plane d q ≡ true → (k : ℕ) → k < length (rows_on picture q) →
      EachByte IsStore (cut_line (memory_of d) q (field_row_strip d field k) (slice_index_or (rows_on picture q) k []))
  row_each q has k within x address inside goes =
      let many = rows_many d right field described picture is skipped skips q has in
      let long = (is.rows q).long k [] within in
      let number : k < field_height d field = omega arith in
      let byte : x < plane_row_bytes d (plane_of q) = omega arith in
      let row = picture_row (both d) field k in
      let known = unless_clipped (byte_clipped d (plane_of q) row x) (place d (plane_of q) row x) address
      (sym (queue_row_goes d right q row x has (row_below d field k number) byte) ∙ goes) in
      record { byte = of_row q k x; kept = ((has, number, byte, known.0), known.1); shown = refl }

  skipped_each : (q : Queue) (k : ℕ) → k < length (skipped.rows q) →
      EachByte IsStore (cut_line (memory_of d) q (skipped_strips d k) (slice_index_or (skipped.rows q) k []))
  skipped_each q k within x address inside goes =
      let nowhere = skipped_goes d q x _ in absurd (none_some address (sym nowhere ∙ goes))

  skipped_vbi_each : (k : ℕ) → k < length skipped.vbi →
      EachByte IsStore (cut_line (memory_of d) One (skipped_vbi_strips d k) (slice_index_or skipped.vbi k []))
  skipped_vbi_each k within x address inside goes =
      let nowhere = skipped_vbi_goes d x _ in absurd (none_some address (sym nowhere ∙ goes))

  vbi_each : (k : ℕ) → k < length picture.vbi →
      EachByte IsStore (cut_line (memory_of d) One (vbi_strip d field k) (slice_index_or picture.vbi k []))
  vbi_each k within x address inside goes =
      let many = is.vbi.many in
      let long = is.vbi.long k [] within in
      let number : k < d.vbi_lines = omega arith in
      let byte : x < d.vbi_bytes = omega arith in
      record { byte = of_vbi k x; kept = ((number, byte), sym (vbi_goes d right field k described number x byte) ∙ goes); shown = refl }

  all_rows_of : (q : Queue) → All IsStore (row_stores d right field described picture is skipped skips q)
  all_rows_of q =
      ⊎_elim
      (λ has. all_stores (memory_of d) q (field_row_strip d field) IsStore (rows_on picture q)
      (rows_all d right field described picture is skipped skips q has) (row_each q has))
      (λ none.
      let empty : rows_on picture q ≡ [] =
      nil_from_length (rows_on picture q) ((is.rows q).many ∙ cond-false (has_plane d q) (field_height d field) 0 none) in
      subst (λ (lines : List (List ℕ)). All IsStore (lines_stores (cut_lines (memory_of d) q (field_row_strip d field) 0 lines)))
      (sym empty) (All-nil IsStore))
      (cases_Bool (has_plane d q))

  all_skipped_of : (q : Queue) → All IsStore (skipped_stores d right field described picture is skipped skips q)
  all_skipped_of q =
      ⊎_elim
      (λ has. all_stores (memory_of d) q (skipped_strips d) IsStore (skipped.rows q)
      (skipped_all d right field described picture is skipped skips q has) (skipped_each q))
      (λ none.
      let empty : skipped.rows q ≡ [] =
      nil_from_length (skipped.rows q) ((skips.rows q).many ∙ cond-false (has_plane d q) d.skip_lines 0 none) in
      subst (λ (lines : List (List ℕ)). All IsStore (lines_stores (cut_lines (memory_of d) q (skipped_strips d) 0 lines))) (sym empty)
      (All-nil IsStore))
      (cases_Bool (has_plane d q))

  all_vbi_lines_of : (q : Queue) → All IsStore (vbi_line_stores d right field described picture is skipped skips q)
  all_vbi_lines_of One =
      all_stores (memory_of d) One (vbi_strip d field) IsStore picture.vbi
      (vbi_all d right field described picture is skipped skips) vbi_each
  all_vbi_lines_of Two = All-nil IsStore
  all_vbi_lines_of Three = All-nil IsStore

  all_skipped_vbi_of : (q : Queue) → 0 < d.vbi_lines → All IsStore (skipped_vbi_stores d right field described picture is skipped skips q)
  all_skipped_vbi_of One there =
      all_stores (memory_of d) One (skipped_vbi_strips d) IsStore skipped.vbi
      (skipped_vbi_all d right field described picture is skipped skips there) skipped_vbi_each
  all_skipped_vbi_of Two there = All-nil IsStore
  all_skipped_vbi_of Three there = All-nil IsStore

  all_vbi_of : (q : Queue) (n : ℕ) → n ≡ d.vbi_lines → All IsStore (vbi_stores_by d right field described picture is skipped skips n q)
  all_vbi_of q zero same = All-nil IsStore
  all_vbi_of q (suc more) same =
      All-append IsStore (skipped_vbi_stores d right field described picture is skipped skips q)
      (vbi_line_stores d right field described picture is skipped skips q)
      (all_skipped_vbi_of q (omega arith)) (all_vbi_lines_of q)

  pub all_of : (q : Queue) → All IsStore (field_stores d right field described picture is skipped skips q)
  all_of q =
      let vbi = vbi_stores d right field described picture is skipped skips q in
      let skips_of = skipped_stores d right field described picture is skipped skips q in
      let rows = row_stores d right field described picture is skipped skips q in
      All-append IsStore vbi (skips_of ++ rows) (all_vbi_of q d.vbi_lines refl)
      (All-append IsStore skips_of rows (all_skipped_of q) (all_rows_of q))

  -- ---- each byte that is kept is stored

  among_vbi : (address n : ℕ) → 0 < n → is_stored address (vbi_line_stores d right field described picture is skipped skips One) ≡ true →
      is_stored address (vbi_stores_by d right field described picture is skipped skips n One) ≡ true
  among_vbi address zero some stands = absurd (omega arith)
  among_vbi address (suc more) some stands =
      stored_second address (skipped_vbi_stores d right field described picture is skipped skips One)
      (vbi_line_stores d right field described picture is skipped skips One) stands

  abbrev pub queue_of : FieldByte → Queue
  queue_of (of_row q number x) = q
  queue_of (of_vbi line x) = One

  pub kept_stored : (byte : FieldByte) (address : ℕ) → IsKeptAt d field byte address →
      is_stored address (field_stores d right field described picture is skipped skips (queue_of byte)) ≡ true
  kept_stored (of_row q k x) address kept =
      let has = kept.0.0 in
      let number = kept.0.1 in
      let row = picture_row (both d) field k in
      let many = rows_many d right field described picture is skipped skips q has in
      let within : k < length (rows_on picture q) = omega arith in
      let long = (is.rows q).long k [] within in
      let inside = kept.0.2 in
      let goes = queue_row_goes d right q row x has (row_below d field k number) inside
      ∙ cond-false (byte_clipped d (plane_of q) row x) None (place d (plane_of q) row x) kept.0.3 ∙ kept.1 in
      let skips_of = skipped_stores d right field described picture is skipped skips q in
      let rows = row_stores d right field described picture is skipped skips q in
      stored_second address (vbi_stores d right field described picture is skipped skips q) (skips_of ++ rows)
      (stored_second address skips_of rows
      (stored_there (memory_of d) q (field_row_strip d field) (rows_on picture q) k x address
      (rows_all d right field described picture is skipped skips q has) within (omega arith) goes))
  kept_stored (of_vbi k x) address kept =
      let number = kept.0.0 in
      let inside = kept.0.1 in
      let many = is.vbi.many in
      let within : k < length picture.vbi = omega arith in
      let long = is.vbi.long k [] within in
      stored_first address (vbi_stores d right field described picture is skipped skips One)
      (skipped_stores d right field described picture is skipped skips One
      ++ row_stores d right field described picture is skipped skips One)
      (among_vbi address d.vbi_lines (omega arith)
      (stored_there (memory_of d) One (vbi_strip d field) picture.vbi k x address
      (vbi_all d right field described picture is skipped skips) within (omega arith)
      (vbi_goes d right field k described number x inside ∙ kept.1)))

-- ---- each address has one byte at most

same_plane : (p q : Queue) → plane_of p ≡ plane_of q → p ≡ q
same_plane One One same = refl
same_plane One Two same = absurd (omega arith)
same_plane One Three same = absurd (omega arith)
same_plane Two One same = absurd (omega arith)
same_plane Two Two same = refl
same_plane Two Three same = absurd (omega arith)
same_plane Three One same = absurd (omega arith)
same_plane Three Two same = absurd (omega arith)
same_plane Three Three same = refl

same_row : (two : Bool) (field : Parity) (k l : ℕ) → picture_row two field k ≡ picture_row two field l → k ≡ l
same_row false field k l same = same
same_row true Top k l same = omega arith
same_row true Bottom k l same = omega arith

row_parts : (p q r s x y : ℕ) → row_byte p r x ≡ row_byte q s y → (p ≡ q) × (r ≡ s) × (x ≡ y)
row_parts p q r s x y same = (cc, cc, cc)

vbi_parts : (f g : Parity) (l m x y : ℕ) → vbi_byte f l x ≡ vbi_byte g m y → (l ≡ m) × (x ≡ y)
vbi_parts f g l m x y same = (cc, cc)

row_no_vbi : (p r x l y : ℕ) (f : Parity) → row_byte p r x ≡ vbi_byte f l y → ⊥
row_no_vbi p r x l y f same = cc

same_byte : (d : Desc) (field : Parity) (b c : FieldByte) → byte_in d field b ≡ byte_in d field c → b ≡ c
same_byte d field (of_row p k x) (of_row q l y) same =
    let parts = row_parts (plane_of p) (plane_of q) (picture_row (both d) field k) (picture_row (both d) field l) x y same in
    joined p q k l x y (same_plane p q parts.0) (same_row (both d) field k l parts.1) parts.2
  where
    joined : (p q : Queue) (k l x y : ℕ) → p ≡ q → k ≡ l → x ≡ y → of_row p k x ≡ of_row q l y
    joined p q k l x y first second third = cc
same_byte d field (of_row p k x) (of_vbi l y) same = absurd (row_no_vbi (plane_of p) (picture_row (both d) field k) x l y field same)
same_byte d field (of_vbi l y) (of_row p k x) same = absurd (row_no_vbi (plane_of p) (picture_row (both d) field k) x l y field (sym same))
same_byte d field (of_vbi k x) (of_vbi l y) same =
    let parts = vbi_parts field field k l x y same in joined k l x y parts.0 parts.1
  where
    joined : (k l x y : ℕ) → k ≡ l → x ≡ y → of_vbi k x ≡ of_vbi l y
    joined k l x y first second = cc

module _ (d : Desc) (right : IsRight d) (field : Parity) (described : describes d.fields field ≡ true) where
  is_byte : (byte : FieldByte) → IsUnclipped d field byte → IsByte d (byte_in d field byte)
  is_byte (of_row q k x) is = (queue_plane d q is.0, row_below d field k is.1, is.2)
  is_byte (of_vbi line x) is = (described, is.0, is.1)

  pub kept_granted : (byte : FieldByte) (address : ℕ) → IsKeptAt d field byte address → granted (in_order (memory_of d)) address ≡ true
  kept_granted byte address kept = place_granted d (byte_in d field byte) address right (is_byte byte kept.0) kept.1

  pub kept_once : (b c : FieldByte) (address : ℕ) → IsKeptAt d field b address → IsKeptAt d field c address → b ≡ c
  kept_once b c address kept kept' =
      same_byte d field b c
      (places_differ d (byte_in d field b) (byte_in d field c) address right (is_byte b kept.0) (is_byte c kept'.0) kept.1 kept'.1)
