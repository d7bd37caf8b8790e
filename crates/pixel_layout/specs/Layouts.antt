-- The table of pixel formats, and where the bytes of a picture row lie on its planes.
use Rattle.std.specs.Prelude.{ℕ, ◌+◌, ◌*◌, ◌/◌, ◌%◌, Bool, true, false, ◌==◌, ◌∷◌, List, [], Option, Some, None, if◌then◌else◌, codes, find}
use Rattle.std.specs.Prelude.{bytes_eq}
use Rattle.pixel_layout.specs.declared.Format.{Format}
use Rattle.pixel_layout.specs.declared.Format.TheVariants.{Rgb32, Rgb24, Rgb16, Rgb15, Yuy2, Y8, Rgb8, BtYuv, Yuv422p, Yuv411p, Yuv420p}
use Rattle.pixel_layout.specs.declared.Format.TheVariants.{Yuv410p}

-- a format: its name, the pixels of a unit, the bytes of a unit on plane 1, whether planes 2 and 3
-- hold its chroma, and how many pixels and rows of the picture share a byte of chroma there
pub record Layout : Type 0 where
  pub name : List ℕ
  pub pixels : ℕ
  pub bytes : ℕ
  pub planar : Bool
  pub across : ℕ
  pub down : ℕ

abbrev pub packed : List ℕ → ℕ → ℕ → Layout
packed name pixels bytes =
    record { name = name; pixels = pixels; bytes = bytes; planar = false; across = 1; down = 1 }

-- a planar format: its unit is the pixels that share a byte of chroma
abbrev pub planar : List ℕ → ℕ → ℕ → Layout
planar name across down =
    record { name = name; pixels = across; bytes = across; planar = true; across = across; down = down }

abbrev pub layout : Format → Layout
layout Rgb32 = packed (codes "rgb32") 1 4
layout Rgb24 = packed (codes "rgb24") 1 3
layout Rgb16 = packed (codes "rgb16") 1 2
layout Rgb15 = packed (codes "rgb15") 1 2
layout Yuy2 = packed (codes "yuy2") 2 4
layout Y8 = packed (codes "y8") 1 1
layout Rgb8 = packed (codes "rgb8") 1 1
layout BtYuv = packed (codes "btyuv") 8 12
layout Yuv422p = planar (codes "yuv422p") 2 1
layout Yuv411p = planar (codes "yuv411p") 4 1
layout Yuv420p = planar (codes "yuv420p") 2 2
layout Yuv410p = planar (codes "yuv410p") 4 4

abbrev pub formats : List Format
formats =
    Rgb32 ∷ Rgb24 ∷ Rgb16 ∷ Rgb15 ∷ Yuy2 ∷ Y8 ∷ Rgb8 ∷ BtYuv
    ∷ Yuv422p ∷ Yuv411p ∷ Yuv420p ∷ Yuv410p ∷ []

-- the format of this name
abbrev pub format_named : List ℕ → Option Format
format_named name = find (λ format. bytes_eq name (layout format).name) formats

abbrev pub planes_of : Layout → ℕ
planes_of l = if l.planar then 3 else 1

-- the bytes of a row of so many pixels on plane 1, or on plane 2 or 3
abbrev pub row_bytes : Layout → ℕ → ℕ → ℕ
row_bytes l plane width =
    if plane == 1 then width / l.pixels * l.bytes else width / l.across

-- the row of its field that a picture row is: with both fields, even rows are the top field's
abbrev pub field_row : Bool → ℕ → ℕ
field_row both row = if both then row / 2 else row

-- the row of planes 2 and 3 that takes the chroma kept of a picture row: the fields alternate
abbrev pub chroma_place : ℕ → Bool → ℕ → ℕ
chroma_place down both row =
    if both then 2 * (row / 2 / down) + row % 2 else row / down

-- chroma is kept of one in so many rows of a field, from a first one on
abbrev pub chroma_row_from : Layout → Bool → ℕ → ℕ → Option ℕ
chroma_row_from l both first row =
    if l.planar
    then (if field_row both row % l.down == first then Some (chroma_place l.down both row) else None)
    else None

-- where the first row's is kept
abbrev pub chroma_row : Layout → Bool → ℕ → Option ℕ
chroma_row l both row = chroma_row_from l both 0 row
