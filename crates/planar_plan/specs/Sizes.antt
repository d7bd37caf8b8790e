-- Sizes of a picture with which its places can be computed, and the bounds that they keep.
use Rattle.std.specs.Prelude.{◌≡◌, ℕ, ◌%◌, ◌≤◌}
use Rattle.pixel_layout.specs.Layouts.{planes_of}
use Rattle.capture_desc.specs.declared.desc.Desc.{Desc}
use Rattle.capture_desc.specs.WellFormed.{IsWellFormed}
use Rattle.picture_model.specs.Described.{layout_of}
use Rattle.picture_model.specs.Geometry.{max_height, max_width}

-- the width and the height are in range, and a row is a whole number of units
pub record IsSized (d : Desc) : Type 0 where
  pub formed : IsWellFormed d
  pub width : d.width ≤ max_width
  pub height : d.height ≤ max_height
  pub units : d.width % (layout_of d).pixels ≡ 0

-- a plane of the picture
abbrev pub IsPlane : Desc → ℕ → Type 0
IsPlane d plane = (1 ≤ plane) × (plane ≤ planes_of (layout_of d))
