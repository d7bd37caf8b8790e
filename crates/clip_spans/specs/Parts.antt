-- The parts of a row that single rectangles clip, in whole units.
use Rattle.std.specs.Prelude.{ℕ, ◌+◌, ◌-◌, ◌*◌, ◌/◌, ◌<◌, ◌≤◌, Bool, ◌&&◌, List, [], ◌∷◌, Option, Some, None, if◌then◌else◌, nat_le, nat_lt}
use Rattle.std.specs.Prelude.{min}
use Rattle.std.specs.List.{list_any, filter_map}
use Rattle.clip_spans.specs.Clipping.{meets}
use Rattle.clip_spans.specs.Runs.{span}
use Rattle.clip_spans.specs.declared.Rect.{Rect}
use Rattle.clip_spans.specs.declared.Part.{Part}
use Rattle.clip_spans.specs.declared.Span.{Span}

abbrev pub inside : ℕ → Part → Bool
inside x part = nat_le part.from x && nat_lt x part.to

abbrev pub is_inside : List Part → ℕ → Bool
is_inside parts x = list_any (inside x) parts

-- the units that a rectangle meets, from the pixel `start` up to the pixel `finish`
abbrev pub units : ℕ → ℕ → ℕ → Part
units start finish pixels =
    record { from = start / pixels * pixels; to = ((finish - 1) / pixels + 1) * pixels }

-- what a rectangle clips of a row
abbrev pub part_of : ℕ → ℕ → ℕ → Rect → Option Part
part_of row width pixels rect =
    if meets rect row && nat_lt 0 rect.w && nat_lt rect.x width
    then Some (units rect.x (min (rect.x + rect.w) width) pixels)
    else None

abbrev pub parts_of : List Rect → ℕ → ℕ → ℕ → List Part
parts_of rects row width pixels = filter_map (part_of row width pixels) rects

-- a part has some pixels, all in the row
pub record IsPart (width : ℕ) (part : Part) : Type 0 where
  pub some : part.from < part.to
  pub within : part.to ≤ width

-- parts of a row in order, each beginning at `low` or later
abbrev pub AreInOrder : ℕ → ℕ → List Part → Type 0
AreInOrder width low [] = Unit {0}
AreInOrder width low (part ∷ rest) = (low ≤ part.from) × IsPart width part × AreInOrder width part.from rest

-- a span, unless it has no pixels
abbrev pub unless_empty : ℕ → ℕ → Bool → List Span
unless_empty start finish answer = if nat_lt start finish then span start finish answer ∷ [] else []
