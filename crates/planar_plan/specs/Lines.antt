-- A line as the code keeps it, and that it can be cut.
use Rattle.std.specs.Prelude.{◌≡◌, ℕ, ◌+◌, ◌-◌, ◌*◌, ◌^◌, ◌<◌, ◌≤◌, false, List, [], ◌∷◌, Option, Some, None, IsTrue, min}
use Rattle.risc_word.specs.Words.{counts_fit}
use Rattle.page_table.specs.Scattered.{ScatterList, address_at, room_at}
use Rattle.clip_spans.specs.declared.Span.{Span}
use Rattle.capture_desc.specs.declared.desc.Desc.{Desc}
use Rattle.picture_model.specs.declared.Piece.{Piece}
use Rattle.picture_model.specs.Plans.{Strip, Track, max_piece, row_strip, track}
use Rattle.planar_plan.specs.declared.cut.Line.{Line}
use Rattle.planar_plan.specs.declared.cut.PlaneTrack.{PlaneTrack}
use Rattle.planar_plan.specs.declared.cut.Reach.{Reach}
use Rattle.planar_plan.specs.declared.cut.Window.{Window}
use Rattle.planar_plan.specs.declared.cut.Windows.{Windows}

abbrev pub track_of : PlaneTrack → Track
track_of t = track t.size t.start

-- a line without its spans, which are cut one by one, and without its form
abbrev pub bare : Strip → Strip
bare strip = record strip { spans = []; planar = false }

abbrev pub strip_of : Line → Strip
strip_of line =
    record {
      grains = line.grains;
      spans = [];
      kind = line.kind;
      planar = false;
      one = track_of line.one;
      two = track_of line.two;
      three = track_of line.three;
    }

-- the grains of a track have some bytes and lie among the bytes used, each in one chunk, where they are
-- written
abbrev pub AreHeld : ScatterList → ℕ → ℕ → Option ℕ → Type 0
AreHeld s grains size None = Unit {0}
AreHeld s grains size (Some start) =
    (1 ≤ size) × (start + grains * size ≤ s.len)
    × ((at : ℕ) → at < grains → size ≤ room_at s.chunks (start + at * size))

pub record IsHeld (s : ScatterList) (grains : ℕ) (t : Track) : Type 0 where
  pub small : t.size ≤ 4
  pub held : AreHeld s grains t.size t.start

-- a line that can be cut
pub record CanBeCut (s : ScatterList) (strip : Strip) : Type 0 where
  pub bytes : s.len ≤ 2 ^ 32
  pub one : IsHeld s strip.grains strip.one
  pub two : IsHeld s strip.grains strip.two
  pub three : IsHeld s strip.grains strip.three

-- spans of a line of so many grains
abbrev pub AreWithin : ℕ → List Span → Type 0
AreWithin grains [] = Unit {0}
AreWithin grains (s ∷ rest) = (s.from ≤ s.to) × (s.to ≤ grains) × AreWithin grains rest

-- the spans of the rows from one on up to another, in grains
pub record SpansOfRows : Type 0 where
  pub from : ℕ
  pub to : ℕ
  pub spans : List Span

abbrev pub spans_of_rows : ℕ → ℕ → List Span → SpansOfRows
spans_of_rows from to spans = record { from = from; to = to; spans = spans }

-- they are those of a description
abbrev pub AreSpansOf : Desc → SpansOfRows → Type 0
AreSpansOf d kept = (row : ℕ) → kept.from ≤ row → row < kept.to → kept.spans ≡ (row_strip d row).spans

-- a piece reaches to the end of its span or as far as it may, from its address on
pub record Reaches (rest size far from : ℕ) (r : Reach) : Type 0 where
  pub address : r.address ≡ from
  pub grains : r.grains ≡ min rest far
  pub few : r.grains * size ≤ max_piece

-- a window holds bytes of one chunk
pub record IsWindow (s : ScatterList) (w : Window) : Type 0 where
  pub few : w.to ≤ w.from + max_piece
  pub room : w.to ≤ w.from + room_at s.chunks w.from
  pub address : w.from < w.to → w.address ≡ address_at s.chunks w.from
  pub fits : w.address + (w.to - w.from) ≤ 2 ^ 32

pub record AreWindows (s : ScatterList) (w : Windows) : Type 0 where
  pub one : IsWindow s w.one
  pub two : IsWindow s w.two
  pub three : IsWindow s w.three

-- the bytes of a piece on each plane are as few as an instruction can count
abbrev pub CountsFit : Piece → Type 0
CountsFit piece = IsTrue (counts_fit piece.counts)
