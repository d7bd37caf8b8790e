-- Entries with the statuses of a line are a whole line of so many bytes.
use Rattle.std.proofs.Common.{◌≡◌, ℕ, zero, suc, ◌+◌, ◌-◌, ◌*◌, ◌%◌, ◌<◌, ◌≤◌, true, false, List, [], ◌∷◌, map, length, All, refl, ap, ◌∙◌}
use Rattle.std.proofs.Common.{arith, length-append, slice_index}
use Rattle.std.specs.List.{range_with_len}
use Rattle.std.proofs.lemmas.Bool.Decides.{nat_tests}
use Rattle.std.proofs.lemmas.List.Elements.{All-nil, All-append, All-take, All-from_recursion}
use Rattle.sync_status.specs.declared.StatusKind.{StatusKind}
use Rattle.sync_status.specs.declared.StatusKind.TheVariants.{Start, Pixels, End}
use Rattle.sync_status.specs.Statuses.{kind_of, valid_bytes, valid_lanes}
use Rattle.fifo_model.specs.declared.Entry.{Entry}
use Rattle.fifo_model.specs.Queues.{lane_bytes}
use Rattle.field_law.specs.Fields.{IsLine, begins_line, carried, ends_line, is_ending, valid_part}
use Rattle.field_law.proofs.Lines.{length-valid_part}
use Rattle.field_stream.specs.Pushes.{end_status, end_statuses, line_entries, status_at}
use Rattle.generated_law.proofs.Statuses.{line_statuses, statuses_of}

-- ---- bytes

abbrev pub AreBytes : List ℕ → Type 0
AreBytes bytes = All (λ byte. byte < 256) bytes

lanes_hold : (dword : ℕ) → AreBytes (lane_bytes dword)
lanes_hold dword = All-from_recursion (λ byte. byte < 256) (lane_bytes dword) (omega arith, (omega arith, (omega arith, (omega arith, tt))))

pub carried_hold : (entries : List Entry) → AreBytes (carried entries)
carried_hold [] = All-nil (λ byte. byte < 256)
carried_hold (entry ∷ rest) =
    All-append (λ byte. byte < 256) (valid_part entry) (carried rest)
    (All-take (λ byte. byte < 256) (valid_bytes entry.status) (lane_bytes entry.dword) (lanes_hold entry.dword)) (carried_hold rest)

-- ---- statuses

middle_status : (bytes index : ℕ) → 0 < index → index + 1 < line_entries bytes → status_at bytes index ≡ 0
middle_status bytes index some more = grind (arith, nat_tests)

last_status : (bytes index : ℕ) → 0 < index → index + 1 ≡ line_entries bytes → status_at bytes index ≡ end_status bytes
last_status bytes index some last = grind (arith, nat_tests)

end_kind_at : (rest : ℕ) → rest < 4 → kind_of (slice_index end_statuses rest) ≡ End (rest + 1)
end_kind_at zero within = refl
end_kind_at (suc zero) within = refl
end_kind_at (suc (suc zero)) within = refl
end_kind_at (suc (suc (suc zero))) within = refl
end_kind_at (suc (suc (suc (suc rest)))) within = absurd (omega arith)

end_kind : (bytes : ℕ) → kind_of (end_status bytes) ≡ End ((bytes - 1) % 4 + 1)
end_kind bytes = end_kind_at ((bytes - 1) % 4) (omega arith)

-- ---- the entries after the first

record IsRest (bytes from : ℕ) (entries : List Entry) : Type 0 where
  ending : is_ending entries ≡ true
  long : length (carried entries) + 4 * from ≡ bytes

same_head : (x y : ℕ) (xs ys : List ℕ) → x ∷ xs ≡ y ∷ ys → (x ≡ y) × (xs ≡ ys)
same_head x y xs ys same = (cc, cc)

carried_length : (entry : Entry) (rest : List Entry) → length (carried (entry ∷ rest)) ≡ valid_bytes entry.status + length (carried rest)
carried_length entry rest = omega (arith, length-append (valid_part entry) (carried rest), length-valid_part entry)

last_entry : (bytes from : ℕ) (entry : Entry) → 5 ≤ bytes → from + 1 ≡ line_entries bytes →
    kind_of entry.status ≡ End ((bytes - 1) % 4 + 1) → IsRest bytes from (entry ∷ [])
last_entry bytes from entry some last kind =
    let valid : valid_bytes entry.status ≡ (bytes - 1) % 4 + 1 = ap valid_lanes kind in
    record {
      ending = ap (λ (k : StatusKind). ends_line k [] false) kind;
      long = omega (arith, carried_length entry []);
    }

middle_entry : (bytes from : ℕ) (entry : Entry) (rest : List Entry) → kind_of entry.status ≡ Pixels → IsRest bytes (from + 1) rest →
    IsRest bytes from (entry ∷ rest)
middle_entry bytes from entry rest kind more =
    let valid : valid_bytes entry.status ≡ 4 = ap valid_lanes kind in
    let long = more.long in
    record {
      ending = ap (λ (k : StatusKind). ends_line k rest (is_ending rest)) kind ∙ more.ending;
      long = omega (arith, carried_length entry rest);
    }

rest_of_line : (bytes from count : ℕ) (entries : List Entry) → 5 ≤ bytes → 0 < from → from + suc count ≡ line_entries bytes →
    statuses_of entries ≡ map (status_at bytes) (range_with_len from (suc count)) → IsRest bytes from entries
rest_of_line bytes from count [] some begun last same = cc
rest_of_line bytes from zero (entry ∷ []) some begun last same =
    let parts = same_head entry.status (status_at bytes from) [] [] same in
    last_entry bytes from entry some (omega arith) (ap kind_of (parts.0 ∙ last_status bytes from begun (omega arith)) ∙ end_kind bytes)
rest_of_line bytes from zero (entry ∷ other ∷ rest) some begun last same = cc
rest_of_line bytes from (suc count) (entry ∷ rest) some begun last same =
    let parts =
    same_head entry.status (status_at bytes from) (statuses_of rest) (map (status_at bytes) (range_with_len (from + 1) (suc count))) same in
    middle_entry bytes from entry rest (ap kind_of (parts.0 ∙ middle_status bytes from begun (omega arith)))
    (rest_of_line bytes (from + 1) count rest some (omega arith) (omega arith) parts.1)

-- ---- the whole line

pub record IsWhole (bytes : ℕ) (entries : List Entry) : Type 0 where
  pub line : IsLine (carried entries) entries
  pub long : length (carried entries) ≡ bytes

begun_line : (bytes count : ℕ) (entries : List Entry) → 5 ≤ bytes → line_entries bytes ≡ suc (suc count) →
    statuses_of entries ≡ map (status_at bytes) (range_with_len 0 (suc (suc count))) → IsWhole bytes entries
begun_line bytes count [] some many same = cc
begun_line bytes count (entry ∷ rest) some many same =
    let parts = same_head entry.status 2 (statuses_of rest) (map (status_at bytes) (range_with_len 1 (suc count))) same in
    let kind : kind_of entry.status ≡ Start = ap kind_of parts.0 in
    let valid : valid_bytes entry.status ≡ 4 = ap valid_lanes kind in
    let more = rest_of_line bytes 1 count rest some (omega arith) (omega arith) parts.1 in
    let long = more.long in
    record {
      line = record { shape = ap (λ (k : StatusKind). begins_line k (is_ending rest)) kind ∙ more.ending; valid = refl };
      long = omega (arith, carried_length entry rest);
    }

pub whole_line : (bytes : ℕ) (entries : List Entry) → 5 ≤ bytes → statuses_of entries ≡ line_statuses bytes → IsWhole bytes entries
whole_line bytes entries some same =
    let many : line_entries bytes ≡ suc (suc (line_entries bytes - 2)) = omega arith in
    begun_line bytes (line_entries bytes - 2) entries some many (same ∙ ap (λ (n : ℕ). map (status_at bytes) (range_with_len 0 n)) many)
