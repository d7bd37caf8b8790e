-- What a frame keeps, and what the making of one answers.
use Rattle.std.specs.Prelude.{◌≡◌, ℕ, ◌^◌, ◌<◌, ◌≤◌, ◌==◌, if◌then◌else◌, List, [], ◌∷◌, Option, Some, None, Result, Ok, Err, ⊤}
use Rattle.std.specs.List.{All}
use Rattle.page_table.specs.Scattered.{IsScatterList, ScatterList, scatter_list}
use Rattle.page_table.specs.Taken.{Taking, taken_chunks, taken_pages}
use Rattle.capture_desc.specs.declared.desc.Desc.{Desc}
use Rattle.capture_desc.specs.WellFormed.{IsWellFormed, max_skip_lines}
use Rattle.picture_model.specs.declared.BuildFault.{BuildFault}
use Rattle.picture_model.specs.Described.{highest_end, memory_of, offset, taken}
use Rattle.picture_model.specs.Geometry.{Check, IsFrame, overlap, vbi_range}
use Rattle.planar_plan.specs.declared.judge.BuildError.{BuildError}
use Rattle.planar_plan.specs.declared.judge.BuildError.TheVariants.{Bad, Memory}
use Rattle.planar_plan.specs.declared.offsets.PlaneOffsets.{PlaneOffsets}
use Rattle.planar_plan.specs.Sizes.{IsPlane}

-- a call refuses exactly with the fault that was found; it may be out of memory at any description
abbrev pub Judges : {T : Type 0} → Option BuildFault → Result T BuildError → Type 0
Judges found (Ok _) = found ≡ None
Judges found (Err (Bad fault)) = found ≡ Some fault
Judges found (Err Memory) = ⊤

-- the faults of the areas that the picture and its VBI lines take
abbrev pub area_faults : List Check
area_faults = overlap ∷ vbi_range ∷ []

-- the pages or chunks as grants, or their fault
abbrev pub taken_memory : Option (List (ℕ × ℕ)) → List ℕ → Taking
taken_memory None pages = taken_pages pages
taken_memory (Some pairs) pages = taken_chunks pairs

-- the description of a frame: what every description meets, and that none of the faults of a frame holds
pub record IsFramed (d : Desc) : Type 0 where
  pub formed : IsWellFormed d
  pub pages : All (λ page. page < 2 ^ 32) d.pages
  pub skipped : d.skip_lines ≤ max_skip_lines
  pub geometry : IsFrame d

-- a frame's scatter list has the bytes that its picture takes
pub record HasScatter (d : Desc) (s : ScatterList) : Type 0 where
  pub framed : IsFramed d
  pub list : IsScatterList s
  pub scatter : s ≡ scatter_list (memory_of d) (highest_end (taken d))

-- the offset that is kept for a plane
abbrev pub kept_offset : PlaneOffsets → ℕ → ℕ
kept_offset offsets plane =
    if plane == 1 then offsets.one else if plane == 2 then offsets.two else offsets.three

-- a plane begins at this offset, and so low that the offset of each of its rows fits
pub record Begins (d : Desc) (plane from : ℕ) : Type 0 where
  pub value : from ≡ offset d plane
  pub few : from ≤ 2 ^ 45

-- the offsets kept are those at which the planes of a description begin
abbrev pub AreOffsets : Desc → PlaneOffsets → Type 0
AreOffsets d offsets = (plane : ℕ) → IsPlane d plane → Begins d plane (kept_offset offsets plane)

-- what a frame keeps beside its description: its scatter list, and where its planes begin
pub record IsKept (d : Desc) (s : ScatterList) (offsets : PlaneOffsets) : Type 0 where
  pub scattered : HasScatter d s
  pub planes : AreOffsets d offsets
