-- The lines of a description that has no fault: their spans cover them, and each grain fits.
use Rattle.std.proofs.Common.{◌≡◌, ℕ, ◌+◌, ◌*◌, ◌<◌, ◌≤◌, Bool, true, false, List, [], ◌∷◌, Option, Some, None, refl, ap, ◌∙◌, arith}
use Rattle.pixel_layout.specs.declared.Parity.{Parity}
use Rattle.page_table.specs.Grants.{Chunk, total}
use Rattle.page_table.proofs.Scattered.{lt-room_at}
use Rattle.clip_spans.specs.Runs.{AreRunsFrom}
use Rattle.clip_spans.specs.declared.Span.{Span}
use Rattle.capture_desc.specs.declared.desc.Desc.{Desc}
use Rattle.picture_model.specs.declared.PieceKind.{PieceKind}
use Rattle.picture_model.specs.declared.PieceKind.TheVariants.{Write, WriteLuma, Skip}
use Rattle.picture_model.specs.declared.Piece.{Piece}
use Rattle.std.specs.Prelude.{option_map}
use Rattle.picture_model.specs.Described.{chroma_row_of, describes, layout_of, memory_of, offset, stride}
use Rattle.picture_model.specs.Places.{vbi_line_offset}
use Rattle.picture_model.specs.Plans.{Track, Strip, IsInOneChunk, FitsTrack, AreCuts, IsPlan, cuts_of, grain_bytes, grain_clipped}
use Rattle.picture_model.specs.Plans.{grains_of, kind_by, pieces_of, plan, row_strip, skipped_strip, skipped_vbi_strip, vbi_strip, track}
use Rattle.picture_model.proofs.FaultlessGeometry.{IsRight}
use Rattle.picture_model.proofs.Offsets.{vbi_end}
use Rattle.picture_model.proofs.Grains.{IsTrack, GrainsFit, grain_small, row_track-IsTrack, unwritten-IsTrack}
use Rattle.picture_model.proofs.Cutting.{EachFits, AreOrdered, AllFit, cuts_of-AreCuts, only_cuts_of}
use Rattle.picture_model.proofs.Spans.{row_runs}

-- spans in order and without a gap
abbrev pub Cover : ℕ → ℕ → List Span → Type 0
Cover end at [] = at ≡ end
Cover end at (s ∷ rest) = (s.from ≡ at) × (s.from ≤ s.to) × Cover end s.to rest

pub cover_end : (end at : ℕ) (spans : List Span) → Cover end at spans → at ≤ end
cover_end end at [] cover = omega arith
cover_end end at (s ∷ rest) cover =
    let later = cover_end end s.to rest cover.2 in let order = cover.1 in let here = cover.0 in omega arith

cover_ordered : (end at : ℕ) (spans : List Span) → Cover end at spans → AreOrdered spans
cover_ordered end at [] cover = tt
cover_ordered end at (s ∷ rest) cover = (cover.1, cover_ordered end s.to rest cover.2)

runs_cover : (test : ℕ → Bool) (end at : ℕ) (spans : List Span) → AreRunsFrom test end at spans → Cover end at spans
runs_cover test end at [] runs = runs
runs_cover test end at (s ∷ rest) runs =
    let some = runs.1.some in (runs.0, omega arith, runs_cover test end s.to rest runs.2)

-- what the unclipped pieces of a line write has a place
abbrev pub HasPlaces : Bool → PieceKind → Option ℕ → Option ℕ → Option ℕ → Type 0
HasPlaces planar Skip one two three = Unit {0}
HasPlaces true Write (Some one) (Some two) (Some three) = Unit {0}
HasPlaces true WriteLuma (Some one) two three = Unit {0}
HasPlaces false Write (Some one) two three = Unit {0}
HasPlaces planar kind one two three = ⊥

-- a line that can be cut
pub record IsStrip (memory : List Chunk) (strip : Strip) : Type 0 where
  pub covers : Cover strip.grains 0 strip.spans
  pub one : IsTrack memory strip.grains strip.one
  pub two : IsTrack memory strip.grains strip.two
  pub three : IsTrack memory strip.grains strip.three
  pub placed : HasPlaces strip.planar strip.kind strip.one.start strip.two.start strip.three.start

one_in_chunk : (memory : List Chunk) (clipped : Bool) (grains size : ℕ) (start : Option ℕ) (at : ℕ) → at < grains →
    GrainsFit memory grains size start → IsInOneChunk memory clipped size start at 1
one_in_chunk memory true grains size start at inside fit = tt
one_in_chunk memory false grains size None at inside fit = tt
one_in_chunk memory false grains size (Some start) at inside fit = let room = fit.2 at inside in omega arith

one_fits : (memory : List Chunk) (clipped : Bool) (grains at : ℕ) (t : Track) → at < grains → IsTrack memory grains t →
    FitsTrack memory clipped at 1 t
one_fits memory clipped grains at t inside is =
    let small = is.small in
    record { few = omega arith; whole = one_in_chunk memory clipped grains t.size t.start at inside is.fit }

pub all_fit : (memory : List Chunk) (strip : Strip) (at : ℕ) (spans : List Span) → IsStrip memory strip → Cover strip.grains at spans →
    AllFit memory strip spans
all_fit memory strip at [] is cover = tt
all_fit memory strip at (s ∷ rest) is cover =
    let end = cover_end strip.grains s.to rest cover.2 in
    let each : EachFits memory strip s =
    λ g from to. record {
      within = omega arith;
      one = one_fits memory s.clipped strip.grains g strip.one (omega arith) is.one;
      two = one_fits memory s.clipped strip.grains g strip.two (omega arith) is.two;
      three = one_fits memory s.clipped strip.grains g strip.three (omega arith) is.three;
    }
    in
    (each, all_fit memory strip s.to rest is cover.2)

pub strip_cuts : (memory : List Chunk) (strip : Strip) → IsStrip memory strip →
    AreCuts memory strip strip.spans (cuts_of memory strip strip.spans)
strip_cuts memory strip is =
    cuts_of-AreCuts memory strip strip.spans (cover_ordered strip.grains 0 strip.spans is.covers)
    (all_fit memory strip 0 strip.spans is is.covers)

-- a list of pieces is the plan of such a line exactly where it is the one that is computed
pub plan_only : (memory : List Chunk) (strip : Strip) (pieces : List Piece) → IsStrip memory strip → IsPlan memory strip pieces →
    pieces ≡ plan memory strip
plan_only memory strip pieces is planned =
    planned.2 ∙ ap (pieces_of memory strip)
    (only_cuts_of memory strip strip.spans planned.0 (cover_ordered strip.grains 0 strip.spans is.covers) planned.1)

pub plan_is : (memory : List Chunk) (strip : Strip) (pieces : List Piece) → IsStrip memory strip → pieces ≡ plan memory strip →
    IsPlan memory strip pieces
plan_is memory strip pieces is same = (cuts_of memory strip strip.spans, strip_cuts memory strip is, same)

-- the lines of a description

row_placed : (planar : Bool) (chroma : Option ℕ) (one : ℕ) (f g : ℕ → ℕ) →
    HasPlaces planar (kind_by planar chroma) (Some one) (option_map f chroma) (option_map g chroma)
row_placed true None one f g = tt
row_placed true (Some row) one f g = tt
row_placed false None one f g = tt
row_placed false (Some row) one f g = tt

pub row-IsStrip : (d : Desc) (row : ℕ) → IsRight d → row < d.height → IsStrip (memory_of d) (row_strip d row)
row-IsStrip d row right below =
    record {
      covers = runs_cover (grain_clipped d row) (grains_of (layout_of d) d.width) 0 (row_strip d row).spans (row_runs d row right);
      one = row_track-IsTrack d right 1 row (omega arith) (omega arith) below;
      two = row_track-IsTrack d right 2 row (omega arith) (omega arith) below;
      three = row_track-IsTrack d right 3 row (omega arith) (omega arith) below;
      placed =
          row_placed (layout_of d).planar (chroma_row_of d row) (offset d 1 + row * stride d 1) (λ kept. offset d 2 + kept * stride d 2)
          (λ kept. offset d 3 + kept * stride d 3);
    }

pub skipped-IsStrip : (d : Desc) → IsStrip (memory_of d) (skipped_strip d)
skipped-IsStrip d =
    let grains = grains_of (layout_of d) d.width in
    record {
      covers = (refl, omega arith, refl);
      one = unwritten-IsTrack (memory_of d) grains (grain_bytes (layout_of d) 1) (grain_small d 1);
      two = unwritten-IsTrack (memory_of d) grains (grain_bytes (layout_of d) 2) (grain_small d 2);
      three = unwritten-IsTrack (memory_of d) grains (grain_bytes (layout_of d) 3) (grain_small d 3);
      placed = tt;
    }

pub skipped_vbi-IsStrip : (d : Desc) → IsStrip (memory_of d) (skipped_vbi_strip d)
skipped_vbi-IsStrip d =
    record {
      covers = (refl, omega arith, refl);
      one = unwritten-IsTrack (memory_of d) d.vbi_bytes 1 (omega arith);
      two = unwritten-IsTrack (memory_of d) d.vbi_bytes 0 (omega arith);
      three = unwritten-IsTrack (memory_of d) d.vbi_bytes 0 (omega arith);
      placed = tt;
    }

-- bytes that are written in order from an offset on
pub packed_track : (memory : List Chunk) (bytes start : ℕ) → start + bytes ≤ total memory → IsTrack memory bytes (track 1 (Some start))
packed_track memory bytes start within =
    record {
      small = omega arith;
      fit = (omega arith, omega arith, λ at inside. lt-room_at memory (start + at * 1) (omega arith));
    }

pub vbi-IsStrip : (d : Desc) (field : Parity) (line : ℕ) → IsRight d → describes d.fields field ≡ true → line < d.vbi_lines →
    IsStrip (memory_of d) (vbi_strip d field line)
vbi-IsStrip d field line right described below =
    record {
      covers = (refl, omega arith, refl);
      one = packed_track (memory_of d) d.vbi_bytes (vbi_line_offset d field line) (vbi_end d field line right described below);
      two = unwritten-IsTrack (memory_of d) d.vbi_bytes 0 (omega arith);
      three = unwritten-IsTrack (memory_of d) d.vbi_bytes 0 (omega arith);
      placed = tt;
    }
