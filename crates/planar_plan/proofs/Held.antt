-- The lines of a frame can be cut, and their cuts are their plans.
use Rattle.std.proofs.Common.{◌≡◌, ℕ, ◌+◌, ◌*◌, ◌^◌, ◌<◌, ◌≤◌, Bool, true, List, [], ◌∷◌, length, map, Option, Some, None, refl, sym, ap}
use Rattle.std.proofs.Common.{◌∙◌, subst, arith}
use Rattle.pixel_layout.specs.declared.Parity.{Parity}
use Rattle.pixel_layout.specs.Layouts.{planes_of}
use Rattle.page_table.specs.Grants.{Chunk}
use Rattle.page_table.specs.Scattered.{IsScatterList, ScatterList, scatter_list}
use Rattle.page_table.proofs.Scattered.{lt-room_at, total-le}
use Rattle.clip_spans.specs.Runs.{AreRunsFrom}
use Rattle.clip_spans.specs.declared.Span.{Span}
use Rattle.capture_desc.specs.declared.desc.Desc.{Desc}
use Rattle.picture_model.specs.declared.Piece.{Piece}
use Rattle.picture_model.specs.Described.{IsDescription, describes, extent, extents, fields_of, highest_end, layout_of, memory_of, taken}
use Rattle.picture_model.specs.Described.{vbi_area, vbi_stride}
use Rattle.picture_model.specs.Places.{row_offset, vbi_line_offset}
use Rattle.picture_model.specs.Plans.{Strip, cuts_of, grain_bytes, grain_clipped, grains_of, pieces_of, plan, row_strip, row_track}
use Rattle.picture_model.specs.Plans.{skipped_strip, skipped_vbi_strip, vbi_strip}
use Rattle.picture_model.proofs.FaultlessGeometry.{IsFrame-IsRight, IsRight}
use Rattle.picture_model.proofs.Spans.{row_runs}
use Rattle.picture_model.proofs.Offsets.{IsRowAt, area_end, end_in_mapped, end_of_others, row_offset-IsRowAt, row_within, line_within}
use Rattle.picture_model.proofs.Grains.{GrainsFit, grain_small, held_plane, row_grains, row_track-IsTrack}
use Rattle.planar_plan.specs.Frames.{IsFramed}
use Rattle.planar_plan.specs.Lines.{AreHeld, AreWithin, CanBeCut, IsHeld, bare}
use Rattle.planar_plan.specs.Stretches.{IsWhole, WholeLine}
use Rattle.planar_plan.proofs.Cuts.{bare-cuts_of, bare-span_cuts}

pub vbi_line_ends : (d : Desc) (field : Parity) (line : ℕ) → describes d.fields field ≡ true → line < d.vbi_lines →
    vbi_line_offset d field line + d.vbi_bytes ≤ highest_end (taken d)
vbi_line_ends d field line is below =
    let area = area_end (vbi_area d) d.fields field is in
    let all = end_of_others (extents d) (map (vbi_area d) (fields_of d.fields)) in
    let within = line_within d.vbi_lines (vbi_stride d) d.vbi_bytes line below in omega arith

-- the bytes of a scatter list are few
pub list_small : (s : ScatterList) → IsScatterList s → s.len ≤ 2 ^ 32
list_small s is = let all = total-le s.chunks is.aligned is.apart in let enough = is.enough in omega arith

module _ (d : Desc) (right : IsRight d) (row : ℕ) (below : row < d.height) (plane : ℕ) (low : 1 ≤ plane) (high : plane ≤ 3) where
  written_held : (from : ℕ) → IsRowAt d plane row from →
      GrainsFit (memory_of d) (grains_of (layout_of d) d.width) (grain_bytes (layout_of d) plane) (Some from) →
      AreHeld (scatter_list (memory_of d) (highest_end (taken d))) (grains_of (layout_of d) d.width)
      (grain_bytes (layout_of d) plane) (Some from)
  written_held from at fit =
      let has = held_plane d plane row at.number low high at.held in
      let top = has.high in
      let bytes = row_grains d plane has in
      let within = row_within d plane row from below at in
      let end = end_in_mapped (extent d) 1 (planes_of (layout_of d)) plane (map (vbi_area d) (fields_of d.fields)) low (omega arith) in
      (fit.0, omega arith, fit.2)

  start_held : (start : Option ℕ) → row_offset d plane row ≡ start →
      GrainsFit (memory_of d) (grains_of (layout_of d) d.width) (grain_bytes (layout_of d) plane) start →
      AreHeld (scatter_list (memory_of d) (highest_end (taken d))) (grains_of (layout_of d) d.width) (grain_bytes (layout_of d) plane) start
  start_held None is fit = tt
  start_held (Some from) is fit = written_held from (row_offset-IsRowAt d plane row from is) fit

  row_held : IsHeld (scatter_list (memory_of d) (highest_end (taken d))) (grains_of (layout_of d) d.width) (row_track d plane row)
  row_held =
      let track = row_track-IsTrack d right plane row low high below in
      record { small = grain_small d plane; held = start_held (row_offset d plane row) refl track.fit }

-- the lines

pub row-CanBeCut : (d : Desc) (s : ScatterList) (row : ℕ) → IsRight d → row < d.height → IsScatterList s →
    s ≡ scatter_list (memory_of d) (highest_end (taken d)) → CanBeCut s (bare (row_strip d row))
row-CanBeCut d s row right below list scatter =
    subst (λ (t : ScatterList). CanBeCut t (bare (row_strip d row))) (sym scatter)
    (record {
      bytes = subst (λ (t : ScatterList). t.len ≤ 2 ^ 32) scatter (list_small s list);
      one = row_held d right row below 1 (omega arith) (omega arith);
      two = row_held d right row below 2 (omega arith) (omega arith);
      three = row_held d right row below 3 (omega arith) (omega arith);
    })

unwritten_held : (s : ScatterList) (d : Desc) (grains plane : ℕ) →
    IsHeld s grains (record { size = grain_bytes (layout_of d) plane; start = None })
unwritten_held s d grains plane = record { small = grain_small d plane; held = tt }

pub skipped-CanBeCut : (d : Desc) (s : ScatterList) → IsScatterList s → CanBeCut s (bare (skipped_strip d))
skipped-CanBeCut d s list =
    let grains = grains_of (layout_of d) d.width in
    record {
      bytes = list_small s list;
      one = unwritten_held s d grains 1;
      two = unwritten_held s d grains 2;
      three = unwritten_held s d grains 3;
    }

pub skipped_vbi-CanBeCut : (d : Desc) (s : ScatterList) → IsScatterList s → CanBeCut s (bare (skipped_vbi_strip d))
skipped_vbi-CanBeCut d s list =
    record {
      bytes = list_small s list;
      one = record { small = omega arith; held = tt };
      two = record { small = omega arith; held = tt };
      three = record { small = omega arith; held = tt };
    }

pub vbi-CanBeCut : (d : Desc) (s : ScatterList) (field : Parity) (line : ℕ) → describes d.fields field ≡ true → line < d.vbi_lines →
    IsScatterList s →
    s ≡ scatter_list (memory_of d) (highest_end (taken d)) → CanBeCut s (bare (vbi_strip d field line))
vbi-CanBeCut d s field line is below list scatter =
    let end = vbi_line_ends d field line is below in
    let len : s.len ≡ highest_end (taken d) = ap (λ (t : ScatterList). t.len) scatter in
    let enough = list.enough in
    record {
      bytes = list_small s list;
      one = record {
        small = omega arith;
        held = (omega arith, omega arith, λ at inside. lt-room_at s.chunks (vbi_line_offset d field line + at * 1) (omega arith));
      };
      two = record { small = omega arith; held = tt };
      three = record { small = omega arith; held = tt };
    }

-- the description of a frame, with so few rectangles
pub described : (d : Desc) → IsFramed d → length d.clip ≤ 64 → IsDescription d
described d framed few =
    record { formed = framed.formed; pages = framed.pages; clips = few; skipped = framed.skipped }

pub is_right : (d : Desc) → IsFramed d → length d.clip ≤ 64 → IsRight d
is_right d framed few = IsFrame-IsRight d (described d framed few) framed.geometry

pub again_right : (d e : Desc) → d ≡ e → IsFramed d → IsDescription e → IsRight e
again_right d e same framed is =
    subst IsRight same (is_right d framed (subst IsDescription (sym same) is).clips)

-- spans that follow each other up to an end are within it
pub runs_within : (test : ℕ → Bool) (end bound x : ℕ) (spans : List Span) → end ≤ bound → AreRunsFrom test end x spans →
    AreWithin bound spans
runs_within test end bound x [] low runs = tt
runs_within test end bound x (s ∷ rest) low runs =
    let some = runs.1.some in
    let within = runs.1.within in
    (omega arith, omega arith, runs_within test end bound s.to rest low runs.2)

pub row-AreWithin : (d : Desc) (row bound : ℕ) → IsRight d → grains_of (layout_of d) d.width ≤ bound →
    AreWithin bound (row_strip d row).spans
row-AreWithin d row bound right low =
    runs_within (grain_clipped d row) (grains_of (layout_of d) d.width) bound 0 (row_strip d row).spans low (row_runs d row right)

-- a line each span of which is one piece, with its spans again
pub whole-again : (memory chunks : List Chunk) (strip line : Strip) (w : WholeLine) → chunks ≡ memory → line ≡ bare strip →
    IsWhole chunks line w → IsWhole memory strip w
whole-again memory chunks strip line w same kept is =
    let of : IsWhole memory (bare strip) w =
    subst (λ (l : Strip). IsWhole memory l w) kept (subst (λ (cs : List Chunk). IsWhole cs line w) same is) in
    record { grains = of.grains; pieces = λ s within. of.pieces s within ∙ ap (pieces_of memory strip) (bare-span_cuts memory strip s) }

-- the pieces of a line's spans are its plan
pub pieces-plan : (memory chunks : List Chunk) (strip line : Strip) (spans : List Span) (pieces : List Piece) → chunks ≡ memory →
    line ≡ bare strip → spans ≡ strip.spans →
    pieces ≡ pieces_of chunks line (cuts_of chunks line spans) → pieces ≡ plan memory strip
pieces-plan memory chunks strip line spans pieces same kept all is =
    is
    ∙ ap (λ (cs : List Chunk). pieces_of cs line (cuts_of cs line spans)) same
    ∙ ap (λ (l : Strip). pieces_of memory l (cuts_of memory l spans)) kept
    ∙ ap (λ (ss : List Span). pieces_of memory (bare strip) (cuts_of memory (bare strip) ss)) all
    ∙ ap (pieces_of memory strip) (bare-cuts_of memory strip strip.spans)
