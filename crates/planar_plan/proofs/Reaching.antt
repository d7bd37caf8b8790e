-- How far a piece reaches on a track.
use Rattle.std.proofs.Common.{◌≡◌, ℕ, zero, suc, ◌+◌, ◌-◌, ◌*◌, ◌/◌, ◌<◌, ◌≤◌, Bool, true, false, Option, Some, None, refl, sym, ap, ◌∙◌}
use Rattle.std.proofs.Common.{subst, arith, ⊎_elim, min}
use Rattle.std.proofs.lemmas.Bool.{cases_lt}
use Rattle.std.proofs.Math.Nat.{le-div_iff_mul-le, div-mul-le_self}
use Rattle.page_table.specs.Scattered.{IsScatterList, ScatterList, address_at, room_at, run_at}
use Rattle.page_table.proofs.Scattered.{address_at-add, address_at-fits, room_at-add}
use Rattle.clip_spans.specs.declared.Span.{Span}
use Rattle.picture_model.specs.Plans.{Strip, Track, bytes_free, longest, most, most_of}
use Rattle.picture_model.proofs.Cutting.{EachFits, longest-Fits}
use Rattle.planar_plan.proofs.Bounds.{fewer_grains}
use Rattle.planar_plan.specs.declared.cut.Reach.{Reach}
use Rattle.planar_plan.specs.declared.cut.Window.{Window}
use Rattle.planar_plan.specs.Lines.{AreHeld, CanBeCut, IsHeld, IsWindow, Reaches}

-- at the first of some grains that are left, their bytes are left too
pub bytes_left : (at rest size start len : ℕ) → 1 ≤ rest → 1 ≤ size → start + (at + rest) * size ≤ len →
    (start + at * size < len) × (rest * size ≤ len - (start + at * size))
bytes_left at rest size start len some wide within =
    let first : 1 * size ≤ rest * size = fewer_grains 1 rest size some in (omega arith, omega arith)

-- a track that takes bytes: as many whole grains as they hold
pub most-written : (size bytes rest : ℕ) → 1 ≤ size → most size bytes rest ≡ bytes / size
most-written zero bytes rest some = absurd (omega arith)
most-written (suc less) bytes rest some = refl

-- where bytes for the rest are left, a limit on what is left doesn't count
pub enough_left : (size bytes left rest : ℕ) → 1 ≤ size → rest * size ≤ left → min rest (min bytes left / size) ≡ min rest (bytes / size)
enough_left size bytes left rest some enough =
    ⊎_elim
    (λ short.
    let less = (le-div_iff_mul-le {k = size} {x = rest} {y = left} some).1 enough in
    let more = (le-div_iff_mul-le {k = size} {x = rest} {y = bytes} some).1 (omega arith) in
    let e : min bytes left ≡ left = omega arith in
    let same : min bytes left / size ≡ left / size = ap (λ (n : ℕ). n / size) e in
    omega arith)
    (λ long.
    let e : min bytes left ≡ bytes = omega arith in
    ap (λ (n : ℕ). min rest (n / size)) e)
    (cases_lt left bytes)

-- bytes that hold all grains that are left, and bytes that do not

pub all_held : (bytes size rest : ℕ) → rest * size ≤ bytes → rest ≡ min rest (most size bytes rest)
all_held bytes zero rest holds = omega arith
all_held bytes (suc less) rest holds =
    let wide : 0 < suc less = omega arith in
    let more = (le-div_iff_mul-le {k = suc less} {x = rest} {y = bytes} wide).1 holds in omega arith

pub some_held : (bytes size rest : ℕ) → bytes < rest * size →
    (0 < size) × (bytes / size ≡ min rest (most size bytes rest)) × (bytes / size * size ≤ bytes)
some_held bytes zero rest short = absurd (omega arith)
some_held bytes (suc less) rest short =
    let wide : 0 < suc less = omega arith in
    let all = div-mul-le_self bytes (suc less) in
    let fewer : bytes / suc less ≤ rest =
    ⊎_elim
    (λ under. omega arith)
    (λ over. let more = (le-div_iff_mul-le {k = suc less} {x = rest} {y = bytes} wide).0 over in absurd (omega arith))
    (cases_lt (bytes / suc less) rest)
    in
    (wide, omega arith, all)

pub grains_few : (rest bytes size bound : ℕ) → bytes ≤ bound → min rest (bytes / size) * size ≤ bound
grains_few rest bytes size bound few =
    let less = fewer_grains (min rest (bytes / size)) (bytes / size) size (omega arith) in
    let all = div-mul-le_self bytes size in
    omega arith

-- a grain fits everywhere

most_some : (size bytes rest : ℕ) → size ≤ bytes → 1 ≤ rest → 1 ≤ most size bytes rest
most_some zero bytes rest fits some = some
most_some (suc less) bytes rest fits some =
    let wide : 0 < suc less = omega arith in (le-div_iff_mul-le {k = suc less} {x = 1} {y = bytes} wide).1 (omega arith)

free_some : (s : ScatterList) (clipped : Bool) (grains size : ℕ) (start : Option ℕ) (at : ℕ) → size ≤ 4 → AreHeld s grains size start →
    at < grains → size ≤ bytes_free s.chunks clipped size start at
free_some s true grains size start at small held inside = omega arith
free_some s false grains size None at small held inside = omega arith
free_some s false grains size (Some start) at small held inside = let room = held.2 at inside in omega arith

track_some : (s : ScatterList) (clipped : Bool) (grains at rest : ℕ) (t : Track) → IsHeld s grains t → at < grains → 1 ≤ rest →
    1 ≤ most_of s.chunks clipped at rest t
track_some s clipped grains at rest t is inside some =
    most_some t.size (bytes_free s.chunks clipped t.size t.start at) rest
    (free_some s clipped grains t.size t.start at is.small is.held inside) some

pub longest_some : (s : ScatterList) (strip : Strip) (span : Span) (at : ℕ) → CanBeCut s strip → at < span.to → span.to ≤ strip.grains →
    1 ≤ longest s.chunks strip span at
longest_some s strip span at can before within =
    let rest = span.to - at in
    let one = track_some s span.clipped strip.grains at rest strip.one can.one (omega arith) (omega arith) in
    let two = track_some s span.clipped strip.grains at rest strip.two can.two (omega arith) (omega arith) in
    let three = track_some s span.clipped strip.grains at rest strip.three can.three (omega arith) (omega arith) in
    omega arith

pub each_fits : (s : ScatterList) (strip : Strip) (span : Span) → CanBeCut s strip → span.to ≤ strip.grains → EachFits s.chunks strip span
each_fits s strip span can within =
    λ at from before. longest-Fits s.chunks strip span at 1 (omega arith) (longest_some s strip span at can before within)

pub run_parts : (s : ScatterList) (run : ℕ × ℕ) (offset : ℕ) → run ≡ run_at s offset 4092 →
    (run.0 ≡ address_at s.chunks offset) × (run.1 ≡ min (min 4092 (room_at s.chunks offset)) (s.len - offset))
run_parts s run offset is =
    let length : run.1 ≡ min 4092 (min (room_at s.chunks offset) (s.len - offset)) = ap (λ (p : ℕ × ℕ). p.1) is in
    (ap (λ (p : ℕ × ℕ). p.0) is, omega arith)

-- a run of the scatter list is as long as a piece may be
pub run-Reaches : (s : ScatterList) (size start at rest offset : ℕ) (run : ℕ × ℕ) (r : Reach) → offset ≡ start + at * size →
    run ≡ run_at s offset 4092 → 1 ≤ rest → 1 ≤ size →
    start + (at + rest) * size ≤ s.len → r.address ≡ run.0 → r.grains ≡ min rest (run.1 / size) →
    Reaches rest size (most size (min 4092 (room_at s.chunks (start + at * size))) rest) (address_at s.chunks (start + at * size)) r
run-Reaches s size start at rest offset run r here is some wide within address grains =
    let parts = run_parts s run offset is in
    let left = bytes_left at rest size start s.len some wide within in
    let place : address_at s.chunks offset ≡ address_at s.chunks (start + at * size) = ap (address_at s.chunks) here in
    let bytes : run.1 ≡ min (min 4092 (room_at s.chunks (start + at * size))) (s.len - (start + at * size)) =
    parts.1 ∙ ap (λ (o : ℕ). min (min 4092 (room_at s.chunks o)) (s.len - o)) here
    in
    let room = min 4092 (room_at s.chunks (start + at * size)) in
    let few : run.1 ≤ 4092 = omega arith in
    let far : min rest (run.1 / size) ≡ min rest (most size room rest) =
    ap (λ (n : ℕ). min rest (n / size)) bytes
    ∙ enough_left size room (s.len - (start + at * size)) rest wide left.1
    ∙ ap (min rest) (sym (most-written size room rest wide))
    in
    let short = grains_few rest run.1 size 4092 few in
    record { address = address ∙ parts.0 ∙ place; grains = grains ∙ far; few = subst (λ (n : ℕ). n * size ≤ 4092) (sym grains) short }

-- what is left lies in a window

pub window-Reaches : (s : ScatterList) (w : Window) (size start at rest offset : ℕ) (r : Reach) → IsWindow s w → 1 ≤ rest → 1 ≤ size →
    offset ≡ start + at * size → w.from ≤ offset →
    offset + rest * size ≤ w.to → r.address ≡ w.address + (offset - w.from) → r.grains ≡ rest →
    Reaches rest size (most size (min 4092 (room_at s.chunks (start + at * size))) rest) (address_at s.chunks (start + at * size)) r
window-Reaches s w size start at rest offset r is some wide here from to address grains =
    let first : 1 * size ≤ rest * size = fewer_grains 1 rest size some in
    let few = is.few in
    let inside = is.room in
    let k = offset - w.from in
    let place : w.from + k ≡ start + at * size = omega arith in
    let below : k < room_at s.chunks w.from = omega arith in
    let room : room_at s.chunks (start + at * size) ≡ room_at s.chunks w.from - k =
    ap (room_at s.chunks) (sym place) ∙ room_at-add s.chunks w.from k below in
    let there : address_at s.chunks (start + at * size) ≡ address_at s.chunks w.from + k =
    ap (address_at s.chunks) (sym place) ∙ address_at-add s.chunks w.from k below in
    let begin = is.address (omega arith) in
    let enough : rest * size ≤ min 4092 (room_at s.chunks (start + at * size)) = omega arith in
    record {
      address = omega arith;
      grains = grains ∙ all_held (min 4092 (room_at s.chunks (start + at * size))) size rest enough;
      few = subst (λ (n : ℕ). n * size ≤ 4092) (sym grains) (omega arith);
    }

-- a run makes a window
pub run-IsWindow : (s : ScatterList) (offset : ℕ) (run : ℕ × ℕ) (w : Window) → IsScatterList s → offset < s.len →
    run ≡ run_at s offset 4092 → w.from ≡ offset → w.to ≡ offset + run.1 → w.address ≡ run.0 → IsWindow s w
run-IsWindow s offset run w list within is from to address =
    let parts = run_parts s run offset is in
    let enough = list.enough in
    let fits = address_at-fits s.chunks offset list.aligned (omega arith) in
    let bytes = parts.1 in
    let begin = parts.0 in
    let room : room_at s.chunks w.from ≡ room_at s.chunks offset = ap (room_at s.chunks) from in
    let there : address_at s.chunks w.from ≡ address_at s.chunks offset = ap (address_at s.chunks) from in
    record {
      few = omega arith;
      room = omega arith;
      address = λ some. address ∙ begin ∙ sym there;
      fits = omega arith;
    }
