-- Lines each span of which is one piece.
use Rattle.std.specs.Prelude.{◌≡◌, ℕ, ◌+◌, ◌-◌, ◌*◌, ◌^◌, ◌≤◌, Bool, true, false, List, [], ◌∷◌, Option, Some, None, if◌then◌else◌, nat_lt}
use Rattle.page_table.specs.Grants.{Chunk}
use Rattle.page_table.specs.Scattered.{address_at, room_at}
use Rattle.clip_spans.specs.Runs.{span}
use Rattle.clip_spans.specs.declared.Span.{Span}
use Rattle.picture_model.specs.declared.Piece.{Piece}
use Rattle.picture_model.specs.Plans.{Fits, Strip, Track, cut, ends_of, kind_of, max_piece, pieces_of, span_cuts}
use Rattle.planar_plan.specs.Lines.{strip_of}
use Rattle.planar_plan.specs.declared.cut.Line.{Line}
use Rattle.planar_plan.specs.declared.stretch.Stretch.{Stretch}
use Rattle.planar_plan.specs.declared.stretch.Stretches.{Stretches}

-- the address of a grain, 0 where it is clipped
abbrev pub place_on : Stretch → Bool → ℕ → ℕ
place_on w true at = 0
place_on w false at = w.address + at * w.step

-- no piece has too many bytes, and no address is too high
abbrev pub IsFit : ℕ → ℕ → Stretch → Type 0
IsFit grains size w = (grains * size ≤ max_piece) × (w.address + grains * w.step ≤ 2 ^ 32)

-- the bytes lie in one chunk, where they are written
abbrev pub StandsAt : List Chunk → ℕ → ℕ → Option ℕ → Stretch → Type 0
StandsAt memory grains size None w = (w.address ≡ 0) × (w.step ≡ 0)
StandsAt memory grains size (Some start) w =
    (1 ≤ size) × (grains * size ≤ room_at memory start) × (w.address ≡ address_at memory start) × (w.step ≡ size)

-- where the bytes of a track of so many grains are
pub record IsStretch (memory : List Chunk) (grains : ℕ) (t : Track) (w : Stretch) : Type 0 where
  pub some : 1 ≤ grains
  pub fit : IsFit grains t.size w
  pub stands : StandsAt memory grains t.size t.start w

pub record AreStretches (memory : List Chunk) (strip : Strip) (w : Stretches) : Type 0 where
  pub one : IsStretch memory strip.grains strip.one w.one
  pub two : IsStretch memory strip.grains strip.two w.two
  pub three : IsStretch memory strip.grains strip.three w.three

abbrev pub AreFit : Strip → Stretches → Type 0
AreFit strip w =
    IsFit strip.grains strip.one.size w.one × IsFit strip.grains strip.two.size w.two × IsFit strip.grains strip.three.size w.three

-- one piece could move a whole line
pub record FitsInOne (memory : List Chunk) (strip : Strip) : Type 0 where
  pub some : 1 ≤ strip.grains
  pub fits : Fits memory strip (span 0 strip.grains false) 0 strip.grains

-- a line each span of which is one piece
pub record WholeLine : Type 0 where
  pub line : Line
  pub stretches : Stretches

abbrev pub whole_line : Line → Stretches → WholeLine
whole_line line w = record { line = line; stretches = w }

-- the piece of a span that isn't empty
abbrev pub piece_in : Line → Stretches → Span → Piece
piece_in line w s =
    record {
      kind = kind_of s.clipped line.kind;
      ends = ends_of (strip_of line) (cut s.from (s.to - s.from) s.clipped);
      counts = (s.to - s.from) * line.one.size ∷ (s.to - s.from) * line.two.size ∷ (s.to - s.from) * line.three.size ∷ [];
      addrs = place_on w.one s.clipped s.from ∷ place_on w.two s.clipped s.from ∷ place_on w.three s.clipped s.from ∷ [];
    }

-- the pieces of a span: one, or none where the span is empty
abbrev pub pieces_in : WholeLine → Span → List Piece
pieces_in w s = if nat_lt s.from s.to then piece_in w.line w.stretches s ∷ [] else []

-- the pieces of each span are those of the line's plan
pub record IsWhole (memory : List Chunk) (strip : Strip) (w : WholeLine) : Type 0 where
  pub grains : w.line.grains ≡ strip.grains
  pub pieces : (s : Span) → s.to ≤ strip.grains → pieces_in w s ≡ pieces_of memory strip (span_cuts memory strip s)
