-- What follows from the geometry of a frame for the sizes of its picture and its VBI lines.
use Rattle.std.proofs.Common.{◌≡◌, ℕ, zero, suc, ◌/◌, ◌≤◌, ◌<◌, Bool, true, false, if◌then◌else◌, List, [], ◌∷◌, Option, Some, None, refl}
use Rattle.std.proofs.Common.{arith}
use Rattle.pixel_layout.specs.declared.Parity.{Parity}
use Rattle.capture_desc.specs.declared.desc.Desc.{Desc}
use Rattle.picture_model.specs.declared.BuildFault.{BuildFault}
use Rattle.picture_model.specs.Described.{both, describes, field_height, vbi_stride}
use Rattle.picture_model.specs.Geometry.{Check, first_after, frame_faults}
use Rattle.picture_model.proofs.FaultlessGeometry.{between_parts, vbi_range, when_not}
use Rattle.planar_plan.specs.Frames.{IsFramed}

-- one of the checks, by its number
abbrev check_at : List Check → ℕ → Check
check_at [] k d = None
check_at (check ∷ rest) zero d = check d
check_at (check ∷ rest) (suc k) d = check_at rest k d

none_found : (found : Option BuildFault) (checks : List Check) (d : Desc) → first_after found checks d ≡ None → found ≡ None
none_found None checks d e = refl
none_found (Some fault) checks d e = e

clear_at : (k : ℕ) (found : Option BuildFault) (checks : List Check) (d : Desc) → first_after found checks d ≡ None →
    check_at checks k d ≡ None
clear_at k (Some fault) checks d e = cc
clear_at k None [] d e = refl
clear_at zero None (check ∷ rest) d e = none_found (check d) rest d e
clear_at (suc k) None (check ∷ rest) d e = clear_at k (check d) rest d e

pub vbi_lines_range : (d : Desc) → IsFramed d → (d.vbi_lines ≤ 32) × (0 < d.vbi_lines → (5 ≤ d.vbi_bytes) × (d.vbi_bytes ≤ 4092))
vbi_lines_range d is =
    let range = vbi_range d.vbi_lines d.vbi_bytes (vbi_stride d) (when_not _ _ (clear_at 8 None frame_faults d is.geometry)) in
    (range.few, range.long)

pub picture_range : (d : Desc) → IsFramed d → (d.width ≤ 1024) × (d.height ≤ 1024)
picture_range d is =
    let wide = between_parts 1 1024 d.width (when_not _ _ (clear_at 0 None frame_faults d is.geometry)) in
    let high = between_parts 1 1024 d.height (when_not _ _ (clear_at 1 None frame_faults d is.geometry)) in (wide.1, high.1)

low : (shown two : Bool) (rows : ℕ) → rows ≤ 1024 → (if shown then (if two then rows / 2 else rows) else 0) ≤ 1024
low false two rows few = omega arith
low true false rows few = few
low true true rows few = omega (arith, few)

pub field_range : (d : Desc) (field : Parity) → IsFramed d → field_height d field ≤ 1024
field_range d field is = low (describes d.fields field) (both d) d.height (picture_range d is).1
