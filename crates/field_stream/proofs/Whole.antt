-- Lines of whole entries.
use Rattle.std.proofs.Common.{◌≡◌, ℕ, zero, suc, ◌+◌, ◌-◌, ◌%◌, ◌/◌, ◌≤◌, ◌==◌, ◌&&◌, nat_lt, Bool, true, false, if◌then◌else◌}
use Rattle.std.proofs.Common.{List, [], ◌∷◌, ◌++◌, map, refl, ap, arith}
use Rattle.std.specs.Prelude.{slice_index}
use Rattle.std.specs.List.{flat_map, range_with_len}
use Rattle.sync_status.specs.Statuses.{valid_bytes}
use Rattle.fifo_model.specs.declared.Queue.TheVariants.{One, Two, Three}
use Rattle.field_stream.specs.Pushes.{Push, Mark, Fill, chroma_after, end_status, end_statuses, line_entries, packed_line}
use Rattle.field_stream.specs.Pushes.{planar_at, planar_line, status_at}
use Rattle.field_stream.specs.Lines.{AreWhole}

valid_if : (first last : Bool) (end : ℕ) → valid_bytes end ≡ 4 → valid_bytes (if first then 2 else (if last then end else 0)) ≡ 4
valid_if true last end four = refl
valid_if false true end four = four
valid_if false false end four = refl

valid_end : (bytes : ℕ) → 5 ≤ bytes → bytes % 4 ≡ 0 → valid_bytes (end_status bytes) ≡ 4
valid_end bytes some even =
    ap (λ (n : ℕ). valid_bytes (slice_index end_statuses n)) (let last : (bytes - 1) % 4 ≡ 3 = omega (arith, some, even) in last)

valid_at : (bytes index : ℕ) → 5 ≤ bytes → bytes % 4 ≡ 0 → valid_bytes (status_at bytes index) ≡ 4
valid_at bytes index some even =
    valid_if (index == 0) (index + 1 == line_entries bytes) (end_status bytes) (valid_end bytes some even)

whole_both : (a b : List Push) → AreWhole a → AreWhole b → AreWhole (a ++ b)
whole_both [] b first second = second
whole_both (Mark code ∷ a) b first second = absurd first
whole_both (Fill queue status ∷ a) b first second = (first.0, whole_both a b first.1 second)

whole_range : (bytes from n : ℕ) → 5 ≤ bytes → bytes % 4 ≡ 0 →
    AreWhole (map (λ index. Fill One (status_at bytes index)) (range_with_len from n))
whole_range bytes from zero some even = tt
whole_range bytes from (suc n) some even = (valid_at bytes from some even, whole_range bytes (from + 1) n some even)

pub whole_packed : (bytes : ℕ) → 5 ≤ bytes → bytes % 4 ≡ 0 → AreWhole (packed_line bytes)
whole_packed bytes some even = whole_range bytes 0 (line_entries bytes) some even

whole_if : (is : Bool) (status : ℕ) → valid_bytes status ≡ 4 →
    AreWhole (if is then Fill Two status ∷ Fill Three status ∷ [] else [])
whole_if true status four = (four, (four, tt))
whole_if false status four = tt

whole_chroma : (chroma across index : ℕ) → 5 ≤ chroma → chroma % 4 ≡ 0 → AreWhole (chroma_after chroma across index)
whole_chroma chroma across index some even =
    whole_if (index % across == 0 && nat_lt (index / across) (line_entries chroma)) (status_at chroma (index / across))
    (valid_at chroma (index / across) some even)

whole_lumas : (luma chroma across from n : ℕ) → 5 ≤ luma → luma % 4 ≡ 0 → 5 ≤ chroma → chroma % 4 ≡ 0 →
    AreWhole (flat_map (planar_at luma chroma across) (range_with_len from n))
whole_lumas luma chroma across from zero some even many round = tt
whole_lumas luma chroma across from (suc n) some even many round =
    whole_both (planar_at luma chroma across from) (flat_map (planar_at luma chroma across) (range_with_len (from + 1) n))
    (valid_at luma from some even, whole_chroma chroma across from many round)
    (whole_lumas luma chroma across (from + 1) n some even many round)

pub whole_planar : (luma chroma across : ℕ) → 5 ≤ luma → luma % 4 ≡ 0 → 5 ≤ chroma → chroma % 4 ≡ 0 →
    AreWhole (planar_line luma chroma across)
whole_planar luma chroma across some even many round =
    whole_lumas luma chroma across 0 (line_entries luma) some even many round
