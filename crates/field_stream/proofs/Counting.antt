-- How many entries a stream has.
use Rattle.std.proofs.Common.{◌≡◌, ℕ, zero, suc, ◌+◌, ◌*◌, ◌<◌, List, [], ◌∷◌, ◌++◌, map, refl, ap, arith}
use Rattle.std.specs.List.{flat_map, range_with_len}
use Rattle.fifo_model.specs.declared.Queue.TheVariants.{One}
use Rattle.pixel_layout.specs.declared.Parity.{Parity}
use Rattle.capture_desc.specs.declared.desc.Desc.{Desc}
use Rattle.picture_model.specs.Described.{field_height, vbi_skip}
use Rattle.field_stream.proofs.Chroma.{chroma_at, line_chroma}
use Rattle.field_stream.specs.Pushes.{Push, Fill, chroma_after, entries_in, field_pushes, line_entries, packed_line, picture_line}
use Rattle.field_stream.specs.Pushes.{picture_pushes, planar_at, planar_line, repeated, vbi_pushes}

-- lists of pushes, one after the other
pub count_both : (a b : List Push) → entries_in (a ++ b) ≡ entries_in a + entries_in b
count_both [] b = omega arith
count_both (push ∷ a) b = let more = count_both a b in omega arith

pub count_repeated : (n : ℕ) (pushes : List Push) → entries_in (repeated n pushes) ≡ n * entries_in pushes
count_repeated zero pushes = omega arith
count_repeated (suc n) pushes =
    let more = count_repeated n pushes in omega (arith, count_both pushes (repeated n pushes), more)

-- lines

pub count_packed : (f : ℕ → ℕ) (from n : ℕ) → entries_in (map (λ k. Fill One (f k)) (range_with_len from n)) ≡ n
count_packed f from zero = refl
count_packed f from (suc n) = let more = count_packed f (from + 1) n in omega arith

count_chroma : (chroma from n : ℕ) → entries_in (flat_map (chroma_at chroma) (range_with_len from n)) ≡ 2 * n
count_chroma chroma from zero = omega arith
count_chroma chroma from (suc n) = let more = count_chroma chroma (from + 1) n in omega arith

-- entries of luma, and what follows them
count_planar : (luma chroma across from n : ℕ) →
    entries_in (flat_map (planar_at luma chroma across) (range_with_len from n))
    ≡ n + entries_in (flat_map (chroma_after chroma across) (range_with_len from n))
count_planar luma chroma across from zero = refl
count_planar luma chroma across from (suc n) =
    let here = chroma_after chroma across from in
    let rest = range_with_len (from + 1) n in
    omega (
      arith,
      count_both here (flat_map (planar_at luma chroma across) rest),
      count_both here (flat_map (chroma_after chroma across) rest),
      count_planar luma chroma across (from + 1) n,
    )

pub count_line : (luma chroma across : ℕ) → 0 < across → luma ≡ chroma * across →
    entries_in (planar_line luma chroma across) ≡ line_entries luma + 2 * line_entries chroma
count_line luma chroma across some even =
    omega (
      arith,
      count_planar luma chroma across 0 (line_entries luma),
      ap entries_in (line_chroma chroma across some luma even),
      count_chroma chroma 0 (line_entries chroma),
    )

-- fields

-- what a field has in all
pub count_vbi : (lines skipped bytes : ℕ) → 0 < lines →
    entries_in (vbi_pushes lines skipped bytes) ≡ (skipped + lines) * entries_in (packed_line bytes)
count_vbi zero skipped bytes some = absurd (omega (arith, some))
count_vbi (suc more) skipped bytes some = omega (arith, count_repeated (skipped + suc more) (packed_line bytes))

pub count_field : (d : Desc) (field : Parity) → entries_in (field_pushes d field) ≡ entries_in
    (vbi_pushes d.vbi_lines (vbi_skip d field) d.vbi_bytes) + (d.skip_lines + field_height d field) * entries_in (picture_line d)
count_field d field =
    omega (
      arith,
      count_both (vbi_pushes d.vbi_lines (vbi_skip d field) d.vbi_bytes) (picture_pushes d field),
      count_repeated (d.skip_lines + field_height d field) (picture_line d),
    )
