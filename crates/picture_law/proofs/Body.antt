-- The section of a field uses up what each queue brings for a picture.
use Rattle.std.proofs.Common.{◌≡◌, ℕ, zero, suc, ◌+◌, ◌*◌, ◌<◌, Bool, true, false, List, [], ◌∷◌, ◌++◌, length, map, replicate, Option}
use Rattle.std.proofs.Common.{Some, None, if◌then◌else◌, refl, sym, ap, ◌∙◌, subst, arith, ⊎_elim}
use Rattle.std.specs.Prelude.{option_map, nat_le}
use Rattle.std.specs.List.{range_with_len}
use Rattle.std.proofs.lemmas.Bool.{cases_Bool, cond-true, cond-false}
use Rattle.std.proofs.lemmas.Grind.{flat_map-append}
use Rattle.std.proofs.lemmas.List.{nil_from_length}
use Rattle.std.proofs.lemmas.Simd.{map-map}
use Rattle.risc_word.specs.declared.Code.TheVariants.{Fm1}
use Rattle.risc_word.specs.declared.Instr.{Instr}
use Rattle.fifo_model.specs.declared.Queue.{Queue}
use Rattle.fifo_model.specs.declared.Queue.TheVariants.{One, Two, Three}
use Rattle.pixel_layout.specs.declared.Parity.{Parity}
use Rattle.machine_model.specs.Turns.{Store}
use Rattle.capture_desc.specs.declared.desc.Desc.{Desc}
use Rattle.picture_model.specs.declared.PieceKind.TheVariants.{Skip}
use Rattle.picture_model.specs.Described.{both, chroma_row_of, describes, field_height, layout_of, memory_of, offset, picture_row}
use Rattle.picture_model.specs.Described.{plane_row_bytes, rows_of, stride, vbi_skip}
use Rattle.picture_model.specs.Plans.{Strip, grain_bytes, grains_of, kind_by, row_strip, skipped_strip, skipped_vbi_strip, vbi_strip}
use Rattle.picture_model.specs.Programs.{body, data_code, field_instrs, line_instrs, lines_instrs, picture_strips, sync, vbi_from}
use Rattle.picture_model.specs.Programs.{vbi_instrs, vbi_strips}
use Rattle.picture_model.proofs.Grains.{row_grains}
use Rattle.picture_model.proofs.FaultlessGeometry.{IsRight}
use Rattle.picture_model.proofs.Sections.{row_below}
use Rattle.picture_model.proofs.Strips.{row-IsStrip, skipped-IsStrip, skipped_vbi-IsStrip, vbi-IsStrip}
use Rattle.field_law.specs.Fields.{Mark}
use Rattle.field_law.specs.Sections.{Uses, section_stores}
use Rattle.field_law.specs.CutLines.{lines_stores}
use Rattle.picture_law.specs.Pictures.{Picture, AreRows, IsPicture, field_tokens, has_plane, lines_of, picture_tokens, plane_of, rows_on}
use Rattle.picture_law.specs.Pictures.{skipped_vbi_on, vbi_on, vbi_tokens, AreSkipped, SkippedLines}
use Rattle.picture_law.specs.Sections.{section_at}
use Rattle.picture_law.proofs.Cuts.{Starts, moves, track_on}
use Rattle.picture_law.proofs.BytePlaces.{grain_some, queue_plane, row_track_on}
use Rattle.picture_law.proofs.Lines.{Carries, CarriesAll, carries_all, cut_lines}
use Rattle.picture_law.proofs.Serves.{Serves, serves_both, serves_idle_lines, serves_lines, serves_made, serves_none, serves_sync}
use Rattle.picture_law.proofs.Serves.{serves_used}

-- ---- which queues bring the lines of a format

plane_moves : (planar : Bool) (q : Queue) → nat_le (plane_of q) (if planar then 3 else 1) ≡ moves planar q
plane_moves true One = refl
plane_moves true Two = refl
plane_moves true Three = refl
plane_moves false One = refl
plane_moves false Two = refl
plane_moves false Three = refl

unmoved_packed : (planar : Bool) (q : Queue) → moves planar q ≡ false → (planar ≡ false) × (moves false q ≡ false)
unmoved_packed planar One unmoved = cc
unmoved_packed planar Two unmoved = (unmoved, refl)
unmoved_packed planar Three unmoved = (unmoved, refl)

pub row_starts : (planar : Bool) (chroma : Option ℕ) (one : ℕ) (f g : ℕ → ℕ) →
    Starts planar (kind_by planar chroma) (Some one) (option_map f chroma) (option_map g chroma)
row_starts true None one f g = tt
row_starts true (Some row) one f g = tt
row_starts false None one f g = tt
row_starts false (Some row) one f g = tt

pub skipped_starts : (planar : Bool) → Starts planar Skip None None None
skipped_starts true = tt
skipped_starts false = tt

skipped_size : (d : Desc) (q : Queue) → (track_on q (skipped_strip d)).size ≡ grain_bytes (layout_of d) (plane_of q)
skipped_size d One = refl
skipped_size d Two = refl
skipped_size d Three = refl

-- ---- what a queue brings of each line

-- the strip of a row, by its number in the field
abbrev pub field_row_strip : Desc → Parity → ℕ → Strip
field_row_strip d field k = row_strip d (picture_row (both d) field k)

abbrev pub skipped_strips : Desc → ℕ → Strip
skipped_strips d k = skipped_strip d

abbrev pub skipped_vbi_strips : Desc → ℕ → Strip
skipped_vbi_strips d k = skipped_vbi_strip d

module _ (d : Desc) (right : IsRight d) (q : Queue) (has : has_plane d q ≡ true) where
  moved : moves (layout_of d).planar q ≡ true
  moved = sym (plane_moves (layout_of d).planar q) ∙ has

  row_carries : (field : Parity) (k : ℕ) (bytes : List ℕ) → k < field_height d field → length bytes ≡ plane_row_bytes d (plane_of q) →
      Carries (memory_of d) q (field_row_strip d field k) bytes
  row_carries field k bytes within long =
      let row = picture_row (both d) field k in
      let below = row_below d field k within in
      let plane = queue_plane d q has in
      let wide = right.wide (plane_of q) plane.low plane.high in
      let size : (track_on q (row_strip d row)).size ≡ grain_bytes (layout_of d) (plane_of q) =
      ap (λ t. t.size) (sym (row_track_on d row q)) in
      record {
        fit = row-IsStrip d row right below;
        starts =
            row_starts (layout_of d).planar (chroma_row_of d row) (offset d 1 + row * stride d 1) (λ kept. offset d 2 + kept * stride d 2)
            (λ kept. offset d 3 + kept * stride d 3);
        moved = moved;
        some = subst (λ (n : ℕ). 0 < n) (sym size) (grain_some d right (plane_of q) row plane below);
        long = ap (λ (n : ℕ). grains_of (layout_of d) d.width * n) size ∙ row_grains d (plane_of q) plane ∙ sym long;
        any = omega arith;
      }

  skipped_carries : (k : ℕ) (bytes : List ℕ) → length bytes ≡ plane_row_bytes d (plane_of q) →
      Carries (memory_of d) q (skipped_strips d k) bytes
  skipped_carries k bytes long =
      let plane = queue_plane d q has in
      let wide = right.wide (plane_of q) plane.low plane.high in
      let high = right.height.0 in
      let size = skipped_size d q in
      record {
        fit = skipped-IsStrip d;
        starts = skipped_starts (layout_of d).planar;
        moved = moved;
        some = subst (λ (n : ℕ). 0 < n) (sym size) (grain_some d right (plane_of q) 0 plane (omega arith));
        long = ap (λ (n : ℕ). grains_of (layout_of d) d.width * n) size ∙ row_grains d (plane_of q) plane ∙ sym long;
        any = omega arith;
      }

pub vbi_carries : (d : Desc) (right : IsRight d) (field : Parity) → describes d.fields field ≡ true → (k : ℕ) (bytes : List ℕ) →
    k < d.vbi_lines → length bytes ≡ d.vbi_bytes →
    Carries (memory_of d) One (vbi_strip d field k) bytes
vbi_carries d right field described k bytes within long =
    let some = (right.vbi_bytes (omega arith)).0 in
    record {
      fit = vbi-IsStrip d field k right described within;
      starts = tt;
      moved = refl;
      some = omega arith;
      long = omega arith;
      any = omega arith;
    }

pub skipped_vbi_carries : (d : Desc) (right : IsRight d) → 0 < d.vbi_lines → (k : ℕ) (bytes : List ℕ) → length bytes ≡ d.vbi_bytes →
    Carries (memory_of d) One (skipped_vbi_strips d k) bytes
skipped_vbi_carries d right there k bytes long =
    let some = (right.vbi_bytes there).0 in
    record { fit = skipped_vbi-IsStrip d; starts = tt; moved = refl; some = omega arith; long = omega arith; any = omega arith }

-- ---- the parts of a section

replicate_range : (strip : Strip) (from count : ℕ) → map (λ (_ : ℕ). strip) (range_with_len from count) ≡ replicate count strip
replicate_range strip from zero = refl
replicate_range strip from (suc count) = ap (λ (rest : List Strip). strip ∷ rest) (replicate_range strip (from + 1) count)

module _ (d : Desc) (right : IsRight d) (q : Queue) (strips : ℕ → Strip) (count : ℕ) (lines : List (List ℕ))
    (are : AreRows d q count lines) where
  abbrev made : List Store
  made = lines_stores (cut_lines (memory_of d) q strips 0 lines)

  abbrev there : List Instr
  there = lines_instrs d (map strips (range_with_len 0 count))

  rows_serve : ((k : ℕ) → (strips k).planar ≡ (layout_of d).planar) → (has_plane d q ≡ true → CarriesAll (memory_of d) q strips 0 lines) →
      Serves q there (lines_of lines) made
  rows_serve same carries =
      ⊎_elim
      (λ has. serves_lines (memory_of d) q strips count lines (are.many ∙ cond-true (has_plane d q) count 0 has) (carries has))
      (λ none.
      let empty : lines ≡ [] = nil_from_length lines (are.many ∙ cond-false (has_plane d q) count 0 none) in
      let packed = unmoved_packed (layout_of d).planar q (sym (plane_moves (layout_of d).planar q) ∙ none) in
      subst (λ (ls : List (List ℕ)). Serves q there (lines_of ls) (lines_stores (cut_lines (memory_of d) q strips 0 ls))) (sym empty)
      (serves_idle_lines (memory_of d) q strips count (λ k. same k ∙ packed.0) packed.1))
      (cases_Bool (has_plane d q))

module _ (d : Desc) (right : IsRight d) (field : Parity) (described : describes d.fields field ≡ true) (picture : Picture)
    (is : IsPicture d field picture)
    (skipped : SkippedLines) (skips : AreSkipped d field skipped) where
  -- what each part stores
  abbrev pub skipped_vbi_stores : Queue → List Store
  skipped_vbi_stores q = lines_stores (cut_lines (memory_of d) q (skipped_vbi_strips d) 0 (skipped_vbi_on skipped q))

  abbrev pub vbi_line_stores : Queue → List Store
  vbi_line_stores q = lines_stores (cut_lines (memory_of d) q (vbi_strip d field) 0 (vbi_on picture q))

  abbrev pub vbi_stores_by : ℕ → Queue → List Store
  vbi_stores_by zero q = []
  vbi_stores_by (suc more) q = skipped_vbi_stores q ++ vbi_line_stores q

  abbrev pub vbi_stores : Queue → List Store
  vbi_stores q = vbi_stores_by d.vbi_lines q

  abbrev pub skipped_stores : Queue → List Store
  skipped_stores q = lines_stores (cut_lines (memory_of d) q (skipped_strips d) 0 (skipped.rows q))

  abbrev pub row_stores : Queue → List Store
  row_stores q = lines_stores (cut_lines (memory_of d) q (field_row_strip d field) 0 (rows_on picture q))

  pub vbi_all : CarriesAll (memory_of d) One (vbi_strip d field) 0 picture.vbi
  vbi_all =
      let many = is.vbi.many in
      carries_all (memory_of d) One (vbi_strip d field) d.vbi_lines d.vbi_bytes 0 picture.vbi (vbi_carries d right field described)
      (omega arith) is.vbi.long

  pub skipped_vbi_all : 0 < d.vbi_lines → CarriesAll (memory_of d) One (skipped_vbi_strips d) 0 skipped.vbi
  skipped_vbi_all there =
      carries_all (memory_of d) One (skipped_vbi_strips d) (length skipped.vbi) d.vbi_bytes 0 skipped.vbi
      (λ k bytes within. skipped_vbi_carries d right there k bytes) (omega arith) skips.vbi.long

  pub skipped_all : (q : Queue) → has_plane d q ≡ true → CarriesAll (memory_of d) q (skipped_strips d) 0 (skipped.rows q)
  skipped_all q has =
      carries_all (memory_of d) q (skipped_strips d) (length (skipped.rows q)) (plane_row_bytes d (plane_of q)) 0 (skipped.rows q)
      (λ k bytes within. skipped_carries d right q has k bytes) (omega arith) (skips.rows q).long

  pub rows_many : (q : Queue) → has_plane d q ≡ true → length (rows_on picture q) ≡ field_height d field
  rows_many q has = (is.rows q).many ∙ cond-true (has_plane d q) (field_height d field) 0 has

  pub rows_all : (q : Queue) → has_plane d q ≡ true → CarriesAll (memory_of d) q (field_row_strip d field) 0 (rows_on picture q)
  rows_all q has =
      let many = rows_many q has in
      carries_all (memory_of d) q (field_row_strip d field) (field_height d field) (plane_row_bytes d (plane_of q)) 0 (rows_on picture q)
      (row_carries d right q has field) (omega arith) (is.rows q).long

  vbi_lines_serve : (q : Queue) →
      Serves q (lines_instrs d (map (vbi_strip d field) (range_with_len 0 d.vbi_lines))) (lines_of (vbi_on picture q)) (vbi_line_stores q)
  vbi_lines_serve One = serves_lines (memory_of d) One (vbi_strip d field) d.vbi_lines picture.vbi is.vbi.many vbi_all
  vbi_lines_serve Two = serves_idle_lines (memory_of d) Two (vbi_strip d field) d.vbi_lines (λ k. refl) refl
  vbi_lines_serve Three = serves_idle_lines (memory_of d) Three (vbi_strip d field) d.vbi_lines (λ k. refl) refl

  skipped_lines_serve : (q : Queue) → 0 < d.vbi_lines →
      Serves q (lines_instrs d (map (skipped_vbi_strips d) (range_with_len 0 (vbi_skip d field))))
      (lines_of (skipped_vbi_on skipped q)) (skipped_vbi_stores q)
  skipped_lines_serve One some =
      serves_lines (memory_of d) One (skipped_vbi_strips d) (vbi_skip d field) skipped.vbi skips.vbi.many (skipped_vbi_all some)
  skipped_lines_serve Two some = serves_idle_lines (memory_of d) Two (skipped_vbi_strips d) (vbi_skip d field) (λ k. refl) refl
  skipped_lines_serve Three some = serves_idle_lines (memory_of d) Three (skipped_vbi_strips d) (vbi_skip d field) (λ k. refl) refl

  skipped_vbi_serve : (q : Queue) → 0 < d.vbi_lines → Serves q (lines_instrs d (replicate (vbi_skip d field) (skipped_vbi_strip d)))
      (lines_of (skipped_vbi_on skipped q)) (skipped_vbi_stores q)
  skipped_vbi_serve q there =
      subst (λ (strips : List Strip). Serves q (lines_instrs d strips) (lines_of (skipped_vbi_on skipped q)) (skipped_vbi_stores q))
      (replicate_range (skipped_vbi_strip d) 0 (vbi_skip d field)) (skipped_lines_serve q there)

  vbi_serves : (q : Queue) (n : ℕ) → n ≡ d.vbi_lines →
      Serves q (vbi_from n d field) (vbi_tokens n (skipped_vbi_on skipped q) (vbi_on picture q)) (vbi_stores_by n q)
  vbi_serves q zero same = serves_none q
  vbi_serves q (suc more) same =
      let first = replicate (vbi_skip d field) (skipped_vbi_strip d) in
      let later = map (vbi_strip d field) (range_with_len 0 d.vbi_lines) in
      let brought = lines_of (skipped_vbi_on skipped q) ++ lines_of (vbi_on picture q) in
      let made = skipped_vbi_stores q ++ vbi_line_stores q in
      let lines =
      serves_both q (lines_instrs d first) (lines_instrs d later) (lines_of (skipped_vbi_on skipped q)) (lines_of (vbi_on picture q))
      (skipped_vbi_stores q) (vbi_line_stores q) (skipped_vbi_serve q (omega arith)) (vbi_lines_serve q)
      in
      let all : Serves q (lines_instrs d (first ++ later)) brought made =
      subst (λ (instrs : List Instr). Serves q instrs brought made) (sym (flat_map-append (line_instrs d) first later)) lines in
      serves_both q (sync false Fm1 ∷ []) (lines_instrs d (vbi_strips d field)) (Mark Fm1 ∷ []) brought [] made (serves_sync q Fm1) all

  skipped_serve : (q : Queue) →
      Serves q (lines_instrs d (replicate d.skip_lines (skipped_strip d))) (lines_of (skipped.rows q)) (skipped_stores q)
  skipped_serve q =
      subst (λ (strips : List Strip). Serves q (lines_instrs d strips) (lines_of (skipped.rows q)) (skipped_stores q))
      (replicate_range (skipped_strip d) 0 d.skip_lines)
      (rows_serve d right q (skipped_strips d) d.skip_lines (skipped.rows q) (skips.rows q) (λ k. refl) (skipped_all q))

  field_rows_serve : (q : Queue) →
      Serves q (lines_instrs d (map (row_strip d) (rows_of d field))) (lines_of (rows_on picture q)) (row_stores q)
  field_rows_serve q =
      subst (λ (strips : List Strip). Serves q (lines_instrs d strips) (lines_of (rows_on picture q)) (row_stores q))
      (sym (map-map (row_strip d) (picture_row (both d) field) (range_with_len 0 (field_height d field))))
      (rows_serve d right q (field_row_strip d field) (field_height d field) (rows_on picture q) (is.rows q) (λ k. refl) (rows_all q))

  picture_serves : (q : Queue) → Serves q (field_instrs d field) (picture_tokens (layout_of d).planar (skipped.rows q) (rows_on picture q))
      (skipped_stores q ++ row_stores q)
  picture_serves q =
      let first = replicate d.skip_lines (skipped_strip d) in
      let later = map (row_strip d) (rows_of d field) in
      let code = data_code (layout_of d).planar in
      let lines =
      serves_both q (lines_instrs d first) (lines_instrs d later) (lines_of (skipped.rows q)) (lines_of (rows_on picture q))
      (skipped_stores q) (row_stores q) (skipped_serve q) (field_rows_serve q) in
      let all : Serves q (lines_instrs d (first ++ later)) (lines_of (skipped.rows q) ++ lines_of (rows_on picture q))
      (skipped_stores q ++ row_stores q) =
      subst (λ (instrs : List Instr). Serves q instrs (lines_of (skipped.rows q) ++ lines_of (rows_on picture q))
      (skipped_stores q ++ row_stores q)) (sym (flat_map-append (line_instrs d) first later)) lines in
      serves_both q (sync false code ∷ []) (lines_instrs d (picture_strips d field)) (Mark code ∷ [])
      (lines_of (skipped.rows q) ++ lines_of (rows_on picture q)) [] (skipped_stores q ++ row_stores q) (serves_sync q code) all

  abbrev pub field_stores : Queue → List Store
  field_stores q = vbi_stores q ++ (skipped_stores q ++ row_stores q)

  body_serves : (q : Queue) → Serves q (body d field) (field_tokens d picture skipped q) (field_stores q)
  body_serves q =
      serves_both q (vbi_instrs d field) (field_instrs d field) (vbi_tokens d.vbi_lines (skipped_vbi_on skipped q) (vbi_on picture q))
      (picture_tokens (layout_of d).planar (skipped.rows q) (rows_on picture q))
      (vbi_stores q) (skipped_stores q ++ row_stores q) (vbi_serves q d.vbi_lines refl) (picture_serves q)

  -- wherever the section is, and its closing leads
  pub section_uses : (begin target : ℕ) → Uses (section_at d field begin target) (field_tokens d picture skipped)
  section_uses begin target q = serves_used q (body d field) (field_tokens d picture skipped q) (field_stores q) (body_serves q)

  pub section_makes : (begin target : ℕ) (q : Queue) →
      section_stores (section_at d field begin target) (field_tokens d picture skipped) q ≡ field_stores q
  section_makes begin target q = serves_made q (body d field) (field_tokens d picture skipped q) (field_stores q) (body_serves q)
