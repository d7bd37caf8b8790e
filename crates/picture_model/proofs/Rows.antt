-- The cuts of a row or a VBI line, against its picture.
use Rattle.std.proofs.Common.{◌≡◌, ℕ, ◌+◌, ◌*◌, ◌<◌, ◌≤◌, Bool, true, false, List, [], ◌∷◌, Option, Some, None, refl, sym, ap, ◌∙◌, subst}
use Rattle.std.proofs.Common.{arith, ⊎_elim, if◌then◌else◌}
use Rattle.std.specs.Prelude.{option_map}
use Rattle.std.specs.List.{All}
use Rattle.std.proofs.lemmas.Bool.{cases_order}
use Rattle.pixel_layout.specs.Layouts.{planes_of}
use Rattle.pixel_layout.specs.declared.Parity.{Parity}
use Rattle.page_table.specs.Grants.{Chunk}
use Rattle.page_table.specs.Scattered.{address_at}
use Rattle.page_table.proofs.Scattered.{address_at-add}
use Rattle.clip_spans.specs.Runs.{AreRunsFrom, span}
use Rattle.clip_spans.specs.declared.Span.{Span}
use Rattle.capture_desc.specs.declared.desc.Desc.{Desc}
use Rattle.picture_model.specs.Described.{describes, layout_of, memory_of}
use Rattle.picture_model.specs.Places.{HasPlane, place, row_offset, vbi_line_offset, vbi_place}
use Rattle.picture_model.specs.Plans.{Strip, Cut, AreCutsFrom, AreCuts, IsMoved, IsRowCut, IsSafeCut, IsVbiCut, IsWritten, Writes}
use Rattle.picture_model.specs.Plans.{address_of, cuts_of, grain_bytes, grain_clipped, grains_of, on_track, row_strip, row_track, vbi_strip}
use Rattle.picture_model.proofs.Each.{Each, each_All, each_append, each_both, each_only}
use Rattle.picture_model.proofs.FaultlessGeometry.{IsRight}
use Rattle.picture_model.proofs.Safe.{cuts_safe}
use Rattle.picture_model.proofs.Spans.{row_runs}
use Rattle.picture_model.proofs.Strips.{row-IsStrip, strip_cuts, vbi-IsStrip}

-- the grains of a cut have one answer

abbrev Answers : (ℕ → Bool) → Cut → Type 0
Answers test k = (grain : ℕ) → k.at ≤ grain → grain < k.at + k.n → test grain ≡ k.clipped

module _ (memory : List Chunk) (strip : Strip) (test : ℕ → Bool) where
  span_answers : (s : Span) (at : ℕ) (cuts : List Cut) → ((x : ℕ) → s.from ≤ x → x < s.to → test x ≡ s.clipped) → s.from ≤ at →
      AreCutsFrom memory strip s at cuts → Each (Answers test) cuts
  span_answers s at [] same from are = tt
  span_answers s at (k ∷ rest) same from are =
      let here = are.0.here in
      let within = are.0.fits.within in (
        λ grain low high. same grain (omega arith) (omega arith) ∙ sym are.0.same,
        span_answers s (at + k.n) rest same (omega arith) are.1,
      )

  line_answers : (end at : ℕ) (spans : List Span) (cuts : List Cut) → AreRunsFrom test end at spans → AreCuts memory strip spans cuts →
      Each (Answers test) cuts
  line_answers end at [] cuts runs are = subst (Each (Answers test)) (sym are) tt
  line_answers end at (s ∷ rest) cuts runs are =
      let first = span_answers s s.from are.0 runs.1.same (omega arith) are.3 in
      let later = line_answers end s.to rest are.1 runs.2 are.4 in
      subst (Each (Answers test)) (sym are.2) (each_append (Answers test) are.0 are.1 first later)

-- what a cut writes is at its bytes' places

written_at : (memory : List Chunk) (from at n size j : ℕ) → IsWritten memory (from + at * size) (n * size) → j < n * size →
    address_at memory (from + (at * size + j)) ≡ address_at memory (from + at * size) + j
written_at memory from at n size j is inside =
    let room = is.room in
    let e : from + (at * size + j) ≡ from + at * size + j = omega arith in
    ap (address_at memory) e ∙ address_at-add memory (from + at * size) j (omega arith)

place_on_track : (memory : List Chunk) (clipped : Bool) (size : ℕ) (start : Option ℕ) (at n j address : ℕ) → clipped ≡ false →
    Writes memory clipped size start at n → j < n * size →
    option_map (address_at memory) (option_map (λ from. from + (at * size + j)) start) ≡ Some address →
    address ≡ address_of memory clipped size start at + j
place_on_track memory true size start at n j address plain writes inside is = cc
place_on_track memory false size None at n j address plain writes inside is = cc
place_on_track memory false size (Some from) at n j address plain writes inside is =
    let here : address_at memory (from + (at * size + j)) ≡ address = cc in
    sym here ∙ written_at memory from at n size j writes inside

row_places : (d : Desc) (plane row j address : ℕ) (k : Cut) → IsMoved (memory_of d) k (row_track d plane row) → k.clipped ≡ false →
    j < k.n * grain_bytes (layout_of d) plane →
    place d plane row (k.at * grain_bytes (layout_of d) plane + j) ≡ Some address →
    address ≡ on_track (memory_of d) k (row_track d plane row) + j
row_places d plane row j address k moved plain inside is =
    place_on_track (memory_of d) k.clipped (grain_bytes (layout_of d) plane)
    (row_offset d plane row) k.at k.n j address plain moved.written inside is

planes_few : (planar : Bool) → (if planar then 3 else 1) ≤ 3
planes_few true = omega arith
planes_few false = omega arith

moved_on : (d : Desc) (plane row : ℕ) (k : Cut) → HasPlane d plane → IsSafeCut (memory_of d) (row_strip d row) k →
    IsMoved (memory_of d) k (row_track d plane row)
moved_on d plane row k has safe =
    let low = has.low in
    let high = has.high in
    let few : planes_of (layout_of d) ≤ 3 = planes_few (layout_of d).planar in
    let Moved : ℕ → Type 0 = λ p. IsMoved (memory_of d) k (row_track d p row) in
    ⊎_elim
    (λ two. subst Moved (sym two) safe.two)
    (λ other. ⊎_elim
    (λ less. let one : 1 ≡ plane = omega arith in subst Moved one safe.one)
    (λ more. let three : 3 ≡ plane = omega arith in subst Moved three safe.three)
    other)
    (cases_order plane 2)

row_cut : (d : Desc) (row : ℕ) (k : Cut) → Answers (grain_clipped d row) k × IsSafeCut (memory_of d) (row_strip d row) k → IsRowCut d row k
row_cut d row k both =
    record {
      answer = both.0;
      places =
          λ plane j address has plain inside is. row_places d plane row j address k (moved_on d plane row k has both.1) plain inside is;
    }

pub row_cuts_are : (d : Desc) (row : ℕ) → IsRight d → row < d.height →
    All (IsRowCut d row) (cuts_of (memory_of d) (row_strip d row) (row_strip d row).spans)
row_cuts_are d row right below =
    let memory = memory_of d in
    let strip = row_strip d row in
    let cuts = cuts_of memory strip strip.spans in
    let is = row-IsStrip d row right below in
    let answers =
    line_answers memory strip (grain_clipped d row) (grains_of (layout_of d) d.width) 0 strip.spans cuts (row_runs d row right)
    (strip_cuts memory strip is) in
    let safe = cuts_safe memory strip right.aligned is in
    each_All (IsRowCut d row) cuts
    (each_only (λ k. Answers (grain_clipped d row) k × IsSafeCut memory strip k) (IsRowCut d row) cuts (row_cut d row)
    (each_both (Answers (grain_clipped d row)) (IsSafeCut memory strip) cuts answers safe))

-- VBI lines

plain_span : (memory : List Chunk) (strip : Strip) (s : Span) (at : ℕ) (cuts : List Cut) → s.clipped ≡ false →
    AreCutsFrom memory strip s at cuts → Each (λ k. k.clipped ≡ false) cuts
plain_span memory strip s at [] plain are = tt
plain_span memory strip s at (k ∷ rest) plain are = (are.0.same ∙ plain, plain_span memory strip s (at + k.n) rest plain are.1)

vbi_cut : (d : Desc) (field : Parity) (line : ℕ) (k : Cut) → (k.clipped ≡ false) × IsSafeCut (memory_of d) (vbi_strip d field line) k →
    IsVbiCut d field line k
vbi_cut d field line k both =
    record {
      plain = both.0;
      places = λ j inside.
          let bytes : k.at * 1 + j ≡ k.at + j = omega arith in
          place_on_track (memory_of d) k.clipped 1 (Some (vbi_line_offset d field line)) k.at k.n j
          (vbi_place d field line (k.at + j)) both.0 both.1.one.written (omega arith)
          (ap (λ (x : ℕ). Some (vbi_place d field line x)) bytes);
    }

pub vbi_cuts_are : (d : Desc) (field : Parity) (line : ℕ) → IsRight d → describes d.fields field ≡ true → line < d.vbi_lines →
    All (IsVbiCut d field line) (cuts_of (memory_of d) (vbi_strip d field line) (vbi_strip d field line).spans)
vbi_cuts_are d field line right described below =
    let memory = memory_of d in
    let strip = vbi_strip d field line in
    let cuts = cuts_of memory strip strip.spans in
    let is = vbi-IsStrip d field line right described below in
    let are = strip_cuts memory strip is in
    let first = plain_span memory strip (span 0 d.vbi_bytes false) 0 are.0 refl are.3 in
    let plain : Each (λ k. k.clipped ≡ false) cuts =
    subst (Each (λ (k : Cut). k.clipped ≡ false)) (sym are.2)
    (each_append (λ k. k.clipped ≡ false) are.0 are.1 first (subst (Each (λ (k : Cut). k.clipped ≡ false)) (sym are.4) tt))
    in
    let safe = cuts_safe memory strip right.aligned is in
    each_All (IsVbiCut d field line) cuts
    (each_only (λ k. (k.clipped ≡ false) × IsSafeCut memory strip k) (IsVbiCut d field line) cuts (vbi_cut d field line)
    (each_both (λ k. k.clipped ≡ false) (IsSafeCut memory strip) cuts plain safe))
