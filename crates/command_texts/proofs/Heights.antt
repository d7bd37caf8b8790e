-- A field has no more rows than the picture.
use Rattle.std.proofs.Common.{◌≤◌, ◌/◌, ℕ, Bool, true, false, arith}
use Rattle.std.specs.Prelude.{if◌then◌else◌}
use Rattle.pixel_layout.specs.declared.Parity.{Parity}
use Rattle.capture_desc.specs.declared.desc.Desc.{Desc}
use Rattle.picture_model.specs.Described.{both, describes, field_height}

height_by : (is_described is_both : Bool) (height : ℕ) → (if is_described then (if is_both then height / 2 else height) else 0) ≤ height
height_by true true height = omega arith
height_by true false height = omega arith
height_by false is_both height = omega arith

pub field_height-within : (d : Desc) (field : Parity) → field_height d field ≤ d.height
field_height-within d field = height_by (describes d.fields field) (both d) d.height
