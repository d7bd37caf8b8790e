-- The plan of a line: how it is cut into pieces.
use Rattle.std.specs.Prelude.{ℕ, zero, suc, ◌+◌, ◌-◌, ◌*◌, ◌/◌, ◌^◌, ◌<◌, ◌≤◌, ◌≡◌, Bool, true, false, ◌==◌, List, [], ◌∷◌, ◌++◌, map}
use Rattle.std.specs.Prelude.{Option, Some, None, if◌then◌else◌, min}
use Rattle.std.specs.List.{All, flat_map}
use Rattle.risc_word.specs.declared.Ends.{Ends}
use Rattle.pixel_layout.specs.declared.Parity.{Parity}
use Rattle.pixel_layout.specs.Layouts.{Layout}
use Rattle.clip_spans.specs.declared.Span.{Span}
use Rattle.clip_spans.specs.Clipping.{unit_clipped}
use Rattle.clip_spans.specs.Runs.{span, spans_of}
use Rattle.page_table.specs.Grants.{Chunk, first_ungranted}
use Rattle.capture_desc.specs.declared.desc.Desc.{Desc}
use Rattle.picture_model.specs.declared.PieceKind.{PieceKind}
use Rattle.picture_model.specs.declared.PieceKind.TheVariants.{Write, WriteLuma, Skip}
use Rattle.picture_model.specs.declared.Piece.{Piece}
use Rattle.page_table.specs.Scattered.{address_at, room_at}
use Rattle.picture_model.specs.Described.{chroma_row_of, layout_of, memory_of}
use Rattle.picture_model.specs.Places.{HasPlane, place, row_offset, vbi_line_offset, vbi_place}

-- a line before it is cut

-- a grain is what no cut divides: a byte of a packed line, a unit of a planar one. A track is what a line
-- moves on a plane: the bytes of a grain, and the offset of the line's first byte, where it is written
pub record Track : Type 0 where
  pub size : ℕ
  pub start : Option ℕ

abbrev pub track : ℕ → Option ℕ → Track
track size start = record { size = size; start = start }

-- a line: its grains, its spans in grains, what its unclipped pieces do, whether it is of the planar form,
-- and its three tracks
pub record Strip : Type 0 where
  pub grains : ℕ
  pub spans : List Span
  pub kind : PieceKind
  pub planar : Bool
  pub one : Track
  pub two : Track
  pub three : Track

-- the grains in so many pixels
abbrev pub grains_of : Layout → ℕ → ℕ
grains_of l pixels = if l.planar then pixels / l.pixels else pixels / l.pixels * l.bytes

abbrev pub in_grains : Layout → Span → Span
in_grains l s = span (grains_of l s.from) (grains_of l s.to) s.clipped

-- a grain of a row is clipped with its unit
abbrev pub unit_of : Layout → ℕ → ℕ
unit_of l grain = if l.planar then grain else grain / l.bytes

abbrev pub grain_clipped : Desc → ℕ → ℕ → Bool
grain_clipped d row grain =
    unit_clipped d.clip row (layout_of d).pixels (unit_of (layout_of d) grain)

-- the bytes of a grain on a plane; 0 where a packed format has no such plane
abbrev pub grain_bytes : Layout → ℕ → ℕ
grain_bytes l plane =
    if plane == 1 then (if l.planar then l.bytes else 1) else (if l.planar then 1 else 0)

-- what the unclipped pieces of a row do, by the row that its chroma is kept in
abbrev pub kind_by : Bool → Option ℕ → PieceKind
kind_by true None = WriteLuma
kind_by _ chroma = Write

abbrev pub row_track : Desc → ℕ → ℕ → Track
row_track d plane row = track (grain_bytes (layout_of d) plane) (row_offset d plane row)

-- a row of the picture
abbrev pub row_strip : Desc → ℕ → Strip
row_strip d row =
    record {
      grains = grains_of (layout_of d) d.width;
      spans = map (in_grains (layout_of d)) (spans_of d.clip row d.width (layout_of d).pixels);
      kind = kind_by (layout_of d).planar (chroma_row_of d row);
      planar = (layout_of d).planar;
      one = row_track d 1 row;
      two = row_track d 2 row;
      three = row_track d 3 row;
    }

-- a skipped line: as long as a row, and clipped whole
abbrev pub skipped_strip : Desc → Strip
skipped_strip d =
    record {
      grains = grains_of (layout_of d) d.width;
      spans = span 0 (grains_of (layout_of d) d.width) true ∷ [];
      kind = Skip;
      planar = (layout_of d).planar;
      one = track (grain_bytes (layout_of d) 1) None;
      two = track (grain_bytes (layout_of d) 2) None;
      three = track (grain_bytes (layout_of d) 3) None;
    }

-- a VBI line: packed, and not clipped
abbrev pub vbi_strip : Desc → Parity → ℕ → Strip
vbi_strip d field line =
    record {
      grains = d.vbi_bytes;
      spans = span 0 d.vbi_bytes false ∷ [];
      kind = Write;
      planar = false;
      one = track 1 (Some (vbi_line_offset d field line));
      two = track 0 None;
      three = track 0 None;
    }

-- a VBI line that is skipped: as long as the others, and clipped whole
abbrev pub skipped_vbi_strip : Desc → Strip
skipped_vbi_strip d =
    record {
      grains = d.vbi_bytes;
      spans = span 0 d.vbi_bytes true ∷ [];
      kind = Skip;
      planar = false;
      one = track 1 None;
      two = track 0 None;
      three = track 0 None;
    }

-- how a line is cut

-- how many bytes of a plane a piece may move
abbrev pub max_piece : ℕ
max_piece = 4092

-- n grains of a line, from grain `at` on, within a span
pub record Cut : Type 0 where
  pub at : ℕ
  pub n : ℕ
  pub clipped : Bool

-- the bytes lie in one chunk, where they are written
abbrev pub IsInOneChunk : List Chunk → Bool → ℕ → Option ℕ → ℕ → ℕ → Type 0
IsInOneChunk memory false size (Some start) at n = n * size ≤ room_at memory (start + at * size)
IsInOneChunk memory _ size _ at n = Unit {0}

-- n grains keep the limits of a track: at most 4,092 bytes, and those written within one chunk
pub record FitsTrack (memory : List Chunk) (clipped : Bool) (at n : ℕ) (t : Track) : Type 0 where
  pub few : n * t.size ≤ max_piece
  pub whole : IsInOneChunk memory clipped t.size t.start at n

-- n grains are within their span and keep the limits of each track
pub record Fits (memory : List Chunk) (strip : Strip) (s : Span) (at n : ℕ) : Type 0 where
  pub within : at + n ≤ s.to
  pub one : FitsTrack memory s.clipped at n strip.one
  pub two : FitsTrack memory s.clipped at n strip.two
  pub three : FitsTrack memory s.clipped at n strip.three

-- the cuts of a span from grain `at` on: in order and without a gap, each as long as its limits allow
pub record IsCut (memory : List Chunk) (strip : Strip) (s : Span) (at : ℕ) (k : Cut) : Type 0 where
  pub here : k.at ≡ at
  pub same : k.clipped ≡ s.clipped
  pub some : 0 < k.n
  pub fits : Fits memory strip s at k.n
  pub longest : Fits memory strip s at (k.n + 1) → ⊥

abbrev pub AreCutsFrom : List Chunk → Strip → Span → ℕ → List Cut → Type 0
AreCutsFrom memory strip s at [] = at ≡ s.to
AreCutsFrom memory strip s at (k ∷ rest) =
    IsCut memory strip s at k × AreCutsFrom memory strip s (at + k.n) rest

-- the cuts of a line, span by span
abbrev pub AreCuts : List Chunk → Strip → List Span → List Cut → Type 0
AreCuts memory strip [] cuts = cuts ≡ []
AreCuts memory strip (s ∷ rest) cuts =
    (first later : List Cut) × (cuts ≡ first ++ later) × AreCutsFrom memory strip s s.from first
    × AreCuts memory strip rest later

-- cuts that follow each other up to an end, each of some grains
abbrev pub Follow : ℕ → ℕ → List Cut → Type 0
Follow end at [] = at ≡ end
Follow end at (k ∷ rest) = (k.at ≡ at) × (0 < k.n) × Follow end (at + k.n) rest

-- what is written from an offset on: some bytes of one chunk, all of them granted
pub record IsWritten (memory : List Chunk) (from count : ℕ) : Type 0 where
  pub some : 0 < count
  pub room : count ≤ room_at memory from
  pub granted : first_ungranted memory (address_at memory from) count ≡ None
  pub ends : address_at memory from + count ≤ 2 ^ 32

abbrev pub Writes : List Chunk → Bool → ℕ → Option ℕ → ℕ → ℕ → Type 0
Writes memory false size (Some start) at n = IsWritten memory (start + at * size) (n * size)
Writes memory _ size _ at n = Unit {0}

-- a cut moves at most 4,092 bytes of a track, and what it writes there is granted
pub record IsMoved (memory : List Chunk) (k : Cut) (t : Track) : Type 0 where
  pub few : k.n * t.size ≤ max_piece
  pub written : Writes memory k.clipped t.size t.start k.at k.n

pub record IsSafeCut (memory : List Chunk) (strip : Strip) (k : Cut) : Type 0 where
  pub one : IsMoved memory k strip.one
  pub two : IsMoved memory k strip.two
  pub three : IsMoved memory k strip.three

-- cuts that cover a line, and write to granted memory alone
pub record CoverSafely (memory : List Chunk) (strip : Strip) (cuts : List Cut) : Type 0 where
  pub follow : Follow strip.grains 0 cuts
  pub safe : All (IsSafeCut memory strip) cuts

-- the plan by a function

-- how many grains fit into so many bytes; a track without bytes sets no limit
abbrev pub most : ℕ → ℕ → ℕ → ℕ
most zero bytes otherwise = otherwise
most (suc less) bytes otherwise = bytes / suc less

-- the bytes that a cut may have on a track
abbrev pub bytes_free : List Chunk → Bool → ℕ → Option ℕ → ℕ → ℕ
bytes_free memory false size (Some start) at = min max_piece (room_at memory (start + at * size))
bytes_free memory _ size _ at = max_piece

abbrev pub most_of : List Chunk → Bool → ℕ → ℕ → Track → ℕ
most_of memory clipped at otherwise t =
    most t.size (bytes_free memory clipped t.size t.start at) otherwise

-- the most grains that fit
abbrev pub longest : List Chunk → Strip → Span → ℕ → ℕ
longest memory strip s at =
    let rest = s.to - at in
    min (min rest (most_of memory s.clipped at rest strip.one))
    (min (most_of memory s.clipped at rest strip.two) (most_of memory s.clipped at rest strip.three))

abbrev pub cut : ℕ → ℕ → Bool → Cut
cut at n clipped = record { at = at; n = n; clipped = clipped }

-- at most `fuel` cuts of a span, of which `rest` grains are left
abbrev pub cuts_from : ℕ → ℕ → List Chunk → Strip → Span → ℕ → List Cut
cuts_from zero rest memory strip s at = []
cuts_from (suc fuel) zero memory strip s at = []
cuts_from (suc fuel) (suc rest) memory strip s at =
    let n = longest memory strip s at in
    cut at n s.clipped ∷ cuts_from fuel (suc rest - n) memory strip s (at + n)

-- the cuts of a span from a grain on, and of all of it
abbrev pub cuts_left : List Chunk → Strip → Span → ℕ → List Cut
cuts_left memory strip s at = cuts_from (s.to - at) (s.to - at) memory strip s at

abbrev pub span_cuts : List Chunk → Strip → Span → List Cut
span_cuts memory strip s = cuts_left memory strip s s.from

abbrev pub cuts_of : List Chunk → Strip → List Span → List Cut
cuts_of memory strip spans = flat_map (span_cuts memory strip) spans

-- the pieces

-- clipped pieces write nothing
abbrev pub kind_of : Bool → PieceKind → PieceKind
kind_of true kind = Skip
kind_of false kind = kind

abbrev pub ends_of : Strip → Cut → Ends
ends_of strip k = record { sol = k.at == 0; eol = k.at + k.n == strip.grains }

-- where a piece writes on a track
abbrev pub address_of : List Chunk → Bool → ℕ → Option ℕ → ℕ → ℕ
address_of memory false size (Some start) at = address_at memory (start + at * size)
address_of memory _ size _ at = 0

abbrev pub on_track : List Chunk → Cut → Track → ℕ
on_track memory k t = address_of memory k.clipped t.size t.start k.at

abbrev pub piece_of : List Chunk → Strip → Cut → Piece
piece_of memory strip k =
    record {
      kind = kind_of k.clipped strip.kind;
      ends = ends_of strip k;
      counts = k.n * strip.one.size ∷ k.n * strip.two.size ∷ k.n * strip.three.size ∷ [];
      addrs = on_track memory k strip.one ∷ on_track memory k strip.two ∷ on_track memory k strip.three ∷ [];
    }

abbrev pub pieces_of : List Chunk → Strip → List Cut → List Piece
pieces_of memory strip cuts = map (piece_of memory strip) cuts

-- a list of pieces is the plan of a line
abbrev pub IsPlan : List Chunk → Strip → List Piece → Type 0
IsPlan memory strip pieces =
    (cuts : List Cut) × AreCuts memory strip strip.spans cuts × (pieces ≡ pieces_of memory strip cuts)

-- the one plan of a line
abbrev pub plan : List Chunk → Strip → List Piece
plan memory strip = pieces_of memory strip (cuts_of memory strip strip.spans)

abbrev pub row_plan : Desc → ℕ → List Piece
row_plan d row = plan (memory_of d) (row_strip d row)

abbrev pub skipped_plan : Desc → List Piece
skipped_plan d = plan (memory_of d) (skipped_strip d)

abbrev pub skipped_vbi_plan : Desc → List Piece
skipped_vbi_plan d = plan (memory_of d) (skipped_vbi_strip d)

abbrev pub vbi_plan : Desc → Parity → ℕ → List Piece
vbi_plan d field line = plan (memory_of d) (vbi_strip d field line)

-- a cut of a row: its grains are clipped exactly where it is, and where it isn't clipped, what it writes on
-- a plane is at the places of its bytes
pub record IsRowCut (d : Desc) (row : ℕ) (k : Cut) : Type 0 where
  pub answer : (grain : ℕ) → k.at ≤ grain → grain < k.at + k.n → grain_clipped d row grain ≡ k.clipped
  pub places : (plane j address : ℕ) → HasPlane d plane → k.clipped ≡ false → j < k.n * grain_bytes (layout_of d) plane →
      place d plane row (k.at * grain_bytes (layout_of d) plane + j) ≡ Some address →
      address ≡ on_track (memory_of d) k (row_track d plane row) + j

-- a cut of a VBI line: it writes its bytes at their places
pub record IsVbiCut (d : Desc) (field : Parity) (line : ℕ) (k : Cut) : Type 0 where
  pub plain : k.clipped ≡ false
  pub places : (j : ℕ) → j < k.n → vbi_place d field line (k.at + j) ≡ on_track (memory_of d) k (vbi_strip d field line).one + j
