-- The pushes of a description are of data, so they are steps that a decoder makes.
use Rattle.std.proofs.Common.{◌≡◌, ℕ, zero, suc, ◌+◌, ◌-◌, ◌/◌, ◌%◌, ◌<◌, Bool, true, false, ◌&&◌, List, [], ◌∷◌, ◌++◌, map, All, refl}
use Rattle.std.proofs.Common.{arith, if◌then◌else◌, slice_index, replicate}
use Rattle.std.specs.Prelude.{◌==◌, nat_lt}
use Rattle.std.specs.List.{flat_map, range_with_len}
use Rattle.std.proofs.lemmas.Bool.{cond_both}
use Rattle.std.proofs.lemmas.List.Elements.{All-nil, All-cons, All-append, All-from_recursion}
use Rattle.sync_status.specs.Statuses.{is_control, kind_of}
use Rattle.fifo_model.specs.declared.Queue.TheVariants.{One}
use Rattle.pixel_layout.specs.declared.Parity.{Parity}
use Rattle.machine_model.specs.Steps.{Step, Turn}
use Rattle.machine_model.specs.Safety.{IsStep}
use Rattle.capture_desc.specs.declared.desc.Desc.{Desc}
use Rattle.picture_model.specs.Described.{field_height, fields_of, layout_of, plane_row_bytes, vbi_skip}
use Rattle.field_stream.specs.Made.{after}
use Rattle.field_stream.specs.Pushes.{Push, Mark, Fill, chroma_after, end_status, end_statuses, field_pushes, frame_pushes, line_entries}
use Rattle.field_stream.specs.Pushes.{packed_line, picture_line, picture_pushes, planar_at}
use Rattle.field_stream.specs.Pushes.{planar_line, repeated, status_at, stream_pushes, vbi_pushes}
use Rattle.generated_law.specs.Drawn.{drawn_step, drawn_steps}

abbrev pub IsData : ℕ → Type 0
IsData status = (status < 16) × (is_control (kind_of status) ≡ false)

abbrev pub AreData : List Push → Type 0
AreData [] = Unit {0}
AreData (Mark code ∷ rest) = AreData rest
AreData (Fill queue status ∷ rest) = IsData status × AreData rest

data-append : (a b : List Push) → AreData a → AreData b → AreData (a ++ b)
data-append [] b first second = second
data-append (Mark code ∷ a) b first second = data-append a b first second
data-append (Fill queue status ∷ a) b first second = (first.0, data-append a b first.1 second)

data_repeated : (count : ℕ) (pushes : List Push) → AreData pushes → AreData (repeated count pushes)
data_repeated zero pushes are = tt
data_repeated (suc count) pushes are = data-append pushes (repeated count pushes) are (data_repeated count pushes are)

-- ---- lines

end_data : (rest : ℕ) → rest < 4 → IsData (slice_index end_statuses rest)
end_data zero within = (omega arith, refl)
end_data (suc zero) within = (omega arith, refl)
end_data (suc (suc zero)) within = (omega arith, refl)
end_data (suc (suc (suc zero))) within = (omega arith, refl)
end_data (suc (suc (suc (suc rest)))) within = absurd (omega arith)

status_data_if : (first last : Bool) (end : ℕ) → IsData end → IsData (if first then 2 else (if last then end else 0))
status_data_if true last end is = (omega arith, refl)
status_data_if false true end is = is
status_data_if false false end is = (omega arith, refl)

status_data : (bytes index : ℕ) → IsData (status_at bytes index)
status_data bytes index =
    status_data_if (index == 0) (index + 1 == line_entries bytes) (end_status bytes) (end_data ((bytes - 1) % 4) (omega arith))

packed_from : (bytes from count : ℕ) → AreData (map (λ index. Fill One (status_at bytes index)) (range_with_len from count))
packed_from bytes from zero = tt
packed_from bytes from (suc count) = (status_data bytes from, packed_from bytes (from + 1) count)

packed_data : (bytes : ℕ) → AreData (packed_line bytes)
packed_data bytes = packed_from bytes 0 (line_entries bytes)

chroma_data : (chroma across index : ℕ) → AreData (chroma_after chroma across index)
chroma_data chroma across index =
    let is = status_data chroma (index / across) in
    cond_both (index % across == 0 && nat_lt (index / across) (line_entries chroma)) _ [] AreData (λ due. (is, (is, tt))) (λ none. tt)

planar_from : (luma chroma across from count : ℕ) → AreData (flat_map (planar_at luma chroma across) (range_with_len from count))
planar_from luma chroma across from zero = tt
planar_from luma chroma across from (suc count) = (
  status_data luma from,
  data-append (chroma_after chroma across from) (flat_map (planar_at luma chroma across) (range_with_len (from + 1) count))
      (chroma_data chroma across from) (planar_from luma chroma across (from + 1) count),
)

line_data : (d : Desc) → AreData (picture_line d)
line_data d =
    let luma = plane_row_bytes d 1 in
    cond_both (layout_of d).planar (planar_line luma (plane_row_bytes d 2) (layout_of d).across) (packed_line luma) AreData
    (λ planar. planar_from luma (plane_row_bytes d 2) (layout_of d).across 0 (line_entries luma)) (λ packed. packed_data luma)

-- ---- fields

vbi_data : (lines skip bytes : ℕ) → AreData (vbi_pushes lines skip bytes)
vbi_data zero skip bytes = tt
vbi_data (suc more) skip bytes = data_repeated (skip + suc more) (packed_line bytes) (packed_data bytes)

field_data : (d : Desc) (field : Parity) → AreData (field_pushes d field)
field_data d field =
    data-append (vbi_pushes d.vbi_lines (vbi_skip d field) d.vbi_bytes) (picture_pushes d field)
    (vbi_data d.vbi_lines (vbi_skip d field) d.vbi_bytes)
    (data_repeated (d.skip_lines + field_height d field) (picture_line d) (line_data d))

fields_data : (d : Desc) (fields : List Parity) → AreData (flat_map (field_pushes d) fields)
fields_data d [] = tt
fields_data d (field ∷ fields) =
    data-append (field_pushes d field) (flat_map (field_pushes d) fields) (field_data d field) (fields_data d fields)

pub stream_data : (d : Desc) (frames : ℕ) → AreData (stream_pushes d frames)
stream_data d frames = data_repeated frames (frame_pushes d) (fields_data d (fields_of d.fields))

-- ---- steps

turns_made : All IsStep (replicate 16 Turn)
turns_made =
    All-from_recursion IsStep (replicate 16 Turn)
    (tt, (tt, (tt, (tt, (tt, (tt, (tt, (tt, (tt, (tt, (tt, (tt, (tt, (tt, (tt, (tt, tt))))))))))))))))

more_made : (first : Step) (rest : List Step) → IsStep first → All IsStep rest → All IsStep (first ∷ (replicate 16 Turn ++ rest))
more_made first rest is are =
    All-cons IsStep first (replicate 16 Turn ++ rest) is (All-append IsStep (replicate 16 Turn) rest turns_made are)

pub steps_made : (number : ℕ) (pushes : List Push) → AreData pushes → All IsStep (drawn_steps number pushes)
steps_made number [] are = All-nil IsStep
steps_made number (Mark code ∷ rest) are =
    more_made (drawn_step number (Mark code)) (drawn_steps number rest) tt (steps_made number rest are)
steps_made number (Fill queue status ∷ rest) are =
    more_made (drawn_step number (Fill queue status)) (drawn_steps (after number (Fill queue status)) rest) are.0.1
    (steps_made (after number (Fill queue status)) rest are.1)
