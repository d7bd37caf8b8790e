-- What every description meets.
use Rattle.std.specs.Prelude.{◌≡◌, ℕ, ◌-◌, ◌≤◌, List, [], Option, length, IfSome}
use Rattle.std.specs.List.{All}
use Rattle.page_table.specs.Grants.{max_bytes, max_chunks, total}
use Rattle.page_table.specs.Taken.{listed}
use Rattle.pixel_layout.specs.Layouts.{layout, planes_of}
use Rattle.pixel_layout.specs.declared.Format.{Format}
use Rattle.capture_desc.specs.declared.desc.Desc.{Desc}
use Rattle.capture_desc.specs.declared.desc.Fields.{Fields}
use Rattle.capture_desc.specs.declared.desc.Fields.TheVariants as fields

-- how many lines a field may skip, before its rows or before its VBI lines
abbrev pub max_skip_lines : ℕ
max_skip_lines = 255

-- a list with a number for each plane, where it is there
abbrev pub HasPlanes : Desc → Option (List ℕ) → Type 0
HasPlanes d numbers = IfSome numbers (λ ns. length ns ≡ planes_of (layout d.format))

-- how many fields are described
abbrev pub count : Fields → ℕ
count fields.Top = 1
count fields.Bottom = 1
count fields.Both = 2

-- a list with a number of at most so much for each described field, where it is there
abbrev pub HasFields : Desc → ℕ → Option (List ℕ) → Type 0
HasFields d most numbers = IfSome numbers (λ ns. (length ns ≡ count d.fields) × All (λ n. n ≤ most) ns)

-- the last row of a field that may be the first whose chroma is kept
abbrev pub last_first : Format → ℕ
last_first format = (layout format).down - 1

pub record IsWellFormed (d : Desc) : Type 0 where
  pub stride : HasPlanes d d.stride
  pub offset : HasPlanes d d.offset
  pub chroma_first : HasFields d (last_first d.format) d.chroma_first
  pub vbi_skip : HasFields d max_skip_lines d.vbi_skip
  pub pages : length d.pages ≤ max_chunks
  pub no_pages : IfSome d.chunks (λ _. d.pages ≡ [])
  pub chunks : IfSome d.chunks (λ cs. length cs ≤ max_chunks)
  pub bytes : IfSome d.chunks (λ cs. total (listed cs) ≤ max_bytes)
