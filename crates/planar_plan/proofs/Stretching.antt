-- A line whose bytes are in stretches: each of its spans is one piece.
use Rattle.std.proofs.Common.{[], ◌∷◌, ◌++◌, ◌≡◌, ℕ, zero, suc, ◌+◌, ◌-◌, ◌*◌, ◌^◌, ◌<◌, ◌≤◌, Bool, true, false, List, Option, Some, None}
use Rattle.std.proofs.Common.{refl, sym, ap, ◌∙◌, subst, arith, min, length, take, get_or, ⊎_elim}
use Rattle.std.specs.List.{flat_map, All}
use Rattle.std.proofs.lemmas.Bool.{cases_lt, le-ltb, lt-ltb}
use Rattle.std.proofs.lemmas.Grind.{flat_map-append}
use Rattle.page_table.specs.Grants.{Chunk}
use Rattle.page_table.specs.Scattered.{IsScatterList, ScatterList, room_at, run_at}
use Rattle.page_table.proofs.Scattered.{address_at-add, address_at-fits, room_at-add}
use Rattle.clip_spans.specs.declared.Span.{Span}
use Rattle.std.proofs.lemmas.List.{append-nil, take_more}
use Rattle.planar_plan.proofs.Cuts.{pieces-append}
use Rattle.picture_model.specs.declared.Piece.{Piece}
use Rattle.picture_model.specs.Plans.{Strip, Track, address_of, Cut, bytes_free, cut, cuts_from, cuts_of, longest, most_of, piece_of}
use Rattle.picture_model.specs.Plans.{pieces_of, span_cuts}
use Rattle.planar_plan.proofs.Bounds.{fewer_grains}
use Rattle.planar_plan.proofs.Reaching.{all_held, run_parts}
use Rattle.std.proofs.lemmas.List.Elements.{All-append, All-cons, All-nil}
use Rattle.planar_plan.specs.Lines.{AreHeld, AreWithin, CountsFit, IsHeld, strip_of, track_of}
use Rattle.planar_plan.specs.declared.cut.Line.{Line}
use Rattle.planar_plan.specs.declared.stretch.Stretch.{Stretch}
use Rattle.planar_plan.specs.declared.stretch.Stretches.{Stretches}
use Rattle.planar_plan.specs.Stretches.{AreStretches, IsStretch, IsWhole, StandsAt, WholeLine, piece_in, pieces_in, place_on, whole_line}

-- the bytes left at a grain hold the grains that are left

free_whole : (memory : List Chunk) (clipped : Bool) (grains at n size : ℕ) (start : Option ℕ) (w : Stretch) → at + n ≤ grains → 1 ≤ n →
    grains * size ≤ 4092 → StandsAt memory grains size start w →
    n * size ≤ bytes_free memory clipped size start at
free_whole memory true grains at n size start w within some few stands = let less = fewer_grains n grains size (omega arith) in omega arith
free_whole memory false grains at n size None w within some few stands = let less = fewer_grains n grains size (omega arith) in omega arith
free_whole memory false grains at n size (Some start) w within some few stands =
    let wide = stands.0 in
    let room = stands.1 in
    let less = fewer_grains (at + n) grains size within in
    let first : 1 * size ≤ n * size = fewer_grains 1 n size some in
    let left : room_at memory (start + at * size) ≡ room_at memory start - at * size = room_at-add memory start (at * size) (omega arith) in
    omega arith

most_whole : (memory : List Chunk) (clipped : Bool) (grains at n : ℕ) (t : Track) (w : Stretch) → at + n ≤ grains → 1 ≤ n →
    IsStretch memory grains t w → n ≡ min n (most_of memory clipped at n t)
most_whole memory clipped grains at n t w within some is =
    all_held (bytes_free memory clipped t.size t.start at) t.size n
    (free_whole memory clipped grains at n t.size t.start w within some is.fit.0 is.stands)

longest_whole : (memory : List Chunk) (strip : Strip) (span : Span) (w : Stretches) → AreStretches memory strip w → span.from < span.to →
    span.to ≤ strip.grains → span.to - span.from ≡ longest memory strip span span.from
longest_whole memory strip span w are some within =
    let n = span.to - span.from in
    let one = most_whole memory span.clipped strip.grains span.from n strip.one w.one (omega arith) (omega arith) are.one in
    let two = most_whole memory span.clipped strip.grains span.from n strip.two w.two (omega arith) (omega arith) are.two in
    let three = most_whole memory span.clipped strip.grains span.from n strip.three w.three (omega arith) (omega arith) are.three in
    omega arith

-- the address of a grain

place_whole : (memory : List Chunk) (clipped : Bool) (grains at size : ℕ) (start : Option ℕ) (w : Stretch) → at < grains →
    StandsAt memory grains size start w → place_on w clipped at ≡ address_of memory clipped size start at
place_whole memory true grains at size start w inside stands = refl
place_whole memory false grains at size None w inside stands = rw (stands.0, stands.1) (omega arith)
place_whole memory false grains at size (Some start) w inside stands =
    let wide = stands.0 in
    let room = stands.1 in
    let less = fewer_grains (at + 1) grains size (omega arith) in
    let there = address_at-add memory start (at * size) (omega arith) in
    rw (stands.2, stands.3) (sym there)

pub place_of : (memory : List Chunk) (clipped : Bool) (grains at : ℕ) (t : Track) (w : Stretch) → at < grains →
    IsStretch memory grains t w → place_on w clipped at ≡ address_of memory clipped t.size t.start at
place_of memory clipped grains at t w inside is = place_whole memory clipped grains at t.size t.start w inside is.stands

pub place_fits : (address at step : ℕ) → address < 2 ^ 32 → address + (at + 1) * step ≤ 2 ^ 32 → address + at * step < 2 ^ 32
place_fits address at zero low ends = omega arith
place_fits address at (suc less) low ends = omega arith

pub place_below : (address at grains step : ℕ) → at < grains → address + grains * step ≤ 2 ^ 32 → address + (at + 1) * step ≤ 2 ^ 32
place_below address at grains step inside ends = let more = fewer_grains (at + 1) grains step (omega arith) in omega arith

-- a run that holds all grains is a stretch
pub run_stretch : (s : ScatterList) (grains : ℕ) (t : Track) (start : ℕ) (run : ℕ × ℕ) → IsScatterList s → IsHeld s grains t →
    t.start ≡ Some start → 1 ≤ grains → grains * t.size ≤ 4092 →
    grains * t.size ≤ run.1 → run ≡ run_at s start 4092 → IsStretch s.chunks grains t (record { address = run.0; step = t.size })
run_stretch s grains t start run list held is some few long runs =
    let h : AreHeld s grains t.size (Some start) = subst (λ (o : Option ℕ). AreHeld s grains t.size o) is held.held in
    let w : Stretch = record { address = run.0; step = t.size } in
    let first : 1 * t.size ≤ grains * t.size = fewer_grains 1 grains t.size some in
    let wide = h.0 in
    let within = h.1 in
    let parts = run_parts s run start runs in
    let begin = parts.0 in
    let bytes = parts.1 in
    let enough = list.enough in
    let fits = address_at-fits s.chunks start list.aligned (omega arith) in
    record {
      some = some;
      fit = (few, omega arith);
      stands = subst (λ (o : Option ℕ). StandsAt s.chunks grains t.size o w) (sym is) (wide, omega arith, begin, refl);
    }

-- the cuts of a span

none_left : (fuel rest : ℕ) (memory : List Chunk) (strip : Strip) (s : Span) (at : ℕ) → rest ≡ 0 →
    cuts_from fuel rest memory strip s at ≡ []
none_left zero rest memory strip s at none = refl
none_left (suc fuel) rest memory strip s at none = rw none refl

no_cut : (memory : List Chunk) (strip : Strip) (s : Span) → s.to ≤ s.from → span_cuts memory strip s ≡ []
no_cut memory strip s none = none_left (s.to - s.from) (s.to - s.from) memory strip s s.from (omega arith)

one_cut : (n rest : ℕ) (memory : List Chunk) (strip : Strip) (s : Span) (at : ℕ) → n ≡ suc rest → n ≡ longest memory strip s at →
    cuts_from n n memory strip s at ≡ cut at n s.clipped ∷ []
one_cut n rest memory strip s at is long =
    ap (λ (m : ℕ). cuts_from m m memory strip s at) is
    ∙ ap (λ (m : ℕ). cut at m s.clipped ∷ cuts_from rest (suc rest - m) memory strip s (at + m)) (sym long ∙ is)
    ∙ ap (λ (cs : List Cut). cut at (suc rest) s.clipped ∷ cs)
    (none_left rest (suc rest - suc rest) memory strip s (at + suc rest) (omega arith))
    ∙ ap (λ (m : ℕ). cut at m s.clipped ∷ []) (sym is)

whole_cut : (memory : List Chunk) (strip : Strip) (s : Span) (w : Stretches) → AreStretches memory strip w → s.from < s.to →
    s.to ≤ strip.grains → span_cuts memory strip s ≡ cut s.from (s.to - s.from) s.clipped ∷ []
whole_cut memory strip s w are some within =
    one_cut (s.to - s.from) (s.to - s.from - 1) memory strip s s.from (omega arith) (longest_whole memory strip s w are some within)

-- the pieces of a span

piece_is : (memory : List Chunk) (line : Line) (w : Stretches) (s : Span) → AreStretches memory (strip_of line) w → s.from < s.to →
    s.to ≤ line.grains →
    piece_in line w s ≡ piece_of memory (strip_of line) (cut s.from (s.to - s.from) s.clipped)
piece_is memory line w s are some within =
    let one = place_of memory s.clipped line.grains s.from (track_of line.one) w.one (omega arith) are.one in
    let two = place_of memory s.clipped line.grains s.from (track_of line.two) w.two (omega arith) are.two in
    let three = place_of memory s.clipped line.grains s.from (track_of line.three) w.three (omega arith) are.three in
    cc

some_pieces : (line : Line) (w : Stretches) (s : Span) → s.from < s.to → pieces_in (whole_line line w) s ≡ piece_in line w s ∷ []
some_pieces line w s some = rw (lt-ltb s.from s.to some) refl

no_pieces : (line : Line) (w : Stretches) (s : Span) → s.to ≤ s.from → pieces_in (whole_line line w) s ≡ []
no_pieces line w s none = rw (le-ltb s.from s.to none) refl

pieces_are : (memory : List Chunk) (line : Line) (w : Stretches) (s : Span) → AreStretches memory (strip_of line) w → s.to ≤ line.grains →
    pieces_in (whole_line line w) s ≡ pieces_of memory (strip_of line) (span_cuts memory (strip_of line) s)
pieces_are memory line w s are within =
    ⊎_elim
    (λ some.
    some_pieces line w s some
    ∙ ap (λ (p : Piece). p ∷ []) (piece_is memory line w s are some within)
    ∙ ap (pieces_of memory (strip_of line)) (sym (whole_cut memory (strip_of line) s w are some within)))
    (λ none. no_pieces line w s none ∙ ap (pieces_of memory (strip_of line)) (sym (no_cut memory (strip_of line) s none)))
    (cases_lt s.from s.to)

pub stretches-IsWhole : (memory : List Chunk) (line : Line) (w : Stretches) → AreStretches memory (strip_of line) w →
    IsWhole memory (strip_of line) (whole_line line w)
stretches-IsWhole memory line w are =
    record { grains = refl; pieces = λ s within. pieces_are memory line w s are within }

-- the spans of a line

pub AreWithin-at : (grains : ℕ) (spans : List Span) (k : ℕ) (none : Span) → AreWithin grains spans → k < length spans →
    (get_or spans k none).to ≤ grains
AreWithin-at grains [] k none within below = absurd (omega arith)
AreWithin-at grains (s ∷ rest) zero none within below = within.1
AreWithin-at grains (s ∷ rest) (suc k) none within below = AreWithin-at grains rest k none within.2 (omega arith)

pub whole-pieces : (memory : List Chunk) (strip : Strip) (w : WholeLine) (spans : List Span) → IsWhole memory strip w →
    AreWithin strip.grains spans → flat_map (pieces_in w) spans ≡ pieces_of memory strip (cuts_of memory strip spans)
whole-pieces memory strip w [] is within = refl
whole-pieces memory strip w (s ∷ rest) is within =
    ap (λ (ps : List Piece). ps ++ flat_map (pieces_in w) rest) (is.pieces s within.1)
    ∙ ap (λ (ps : List Piece). pieces_of memory strip (span_cuts memory strip s) ++ ps) (whole-pieces memory strip w rest is within.2)
    ∙ sym (pieces-append memory strip (span_cuts memory strip s) (cuts_of memory strip rest))

-- one span more
pub more_spans : (f : Span → List Piece) (spans : List Span) (k : ℕ) (none : Span) (next : List Piece) → k < length spans →
    next ≡ f (get_or spans k none) → flat_map f (take k spans) ++ next ≡ flat_map f (take (k + 1) spans)
more_spans f spans k none next below is =
    ap (λ (ps : List Piece). flat_map f (take k spans) ++ ps) (is ∙ sym (append-nil (f (get_or spans k none))))
    ∙ sym (flat_map-append f (take k spans) (get_or spans k none ∷ []))
    ∙ ap (flat_map f) (sym (take_more spans k none below))

pub counts_added : (out new : List Piece) (piece : Piece) → CountsFit piece → new ≡ out ++ piece ∷ [] → All CountsFit out →
    All CountsFit new
counts_added out new piece fits added before =
    subst (All CountsFit) (sym added) (All-append CountsFit out (piece ∷ []) before (All-cons CountsFit piece [] fits (All-nil CountsFit)))
