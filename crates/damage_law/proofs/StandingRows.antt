-- What whole rows took is what the description asks, and it is in memory right after a signal of their field.
use Rattle.std.proofs.Common.{◌≡◌, ℕ, zero, suc, ◌+◌, ◌-◌, ◌*◌, ◌<◌, ◌≤◌, ◌↔◌, inl, inr, Bool, true, false, ◌&&◌, if◌then◌else◌, nat_le}
use Rattle.std.proofs.Common.{All, List, [], ◌∷◌, ◌++◌, append_assoc, drop, length, length-append, length-drop, length-take}
use Rattle.std.proofs.Common.{map, take, take-take, Option, Some, None, Ok, option_map, refl, sym, ap, ap₂, ◌∙◌, subst, arith}
use Rattle.std.proofs.Common.{slice_index_or}
use Rattle.std.specs.Prelude.{slice_index}
use Rattle.std.specs.List.{list_all, range_with_len}
use Rattle.std.proofs.lemmas.Bool.{and_parts, cond-false}
use Rattle.std.proofs.lemmas.List.{append-nil, drop-take}
use Rattle.std.proofs.lemmas.List.Elements.{All-drop, All-head, All-tail, All-take}
use Rattle.std.proofs.lemmas.List.FromFn.{get_or-map-range_with_len, length-map-range_with_len}
use Rattle.risc_word.specs.declared.Instr.{Instr}
use Rattle.risc_word.specs.declared.Instr.TheVariants.{Jump}
use Rattle.fifo_model.specs.declared.Entry.{Entry}
use Rattle.fifo_model.specs.declared.Queue.{Queue}
use Rattle.fifo_model.specs.declared.Queue.TheVariants.{One, Two, Three}
use Rattle.fifo_model.specs.Queues.{bytes_taken, lane_bytes}
use Rattle.page_table.specs.Blocks.{byte_at}
use Rattle.pixel_layout.specs.declared.Parity.{Parity}
use Rattle.machine_model.specs.declared.Job.{Job}
use Rattle.machine_model.specs.declared.Job.TheVariants.{Idle}
use Rattle.machine_model.specs.Accesses.{stores_if, worked_stores}
use Rattle.machine_model.specs.Paths.{fetch}
use Rattle.machine_model.specs.Safety.{IsOrderly, IsStep}
use Rattle.machine_model.specs.Seen.{seen}
use Rattle.machine_model.specs.States.{State, first_state}
use Rattle.machine_model.specs.Steps.{Step, Turn, run, state_at, step}
use Rattle.machine_model.specs.Turns.{counted, stored_all, turn}
use Rattle.machine_model.proofs.Orderly.{IsOrderly-first_state}
use Rattle.machine_model.proofs.Runs.{IsOrderly-run}
use Rattle.machine_model.proofs.Stored.{memory-turn}
use Rattle.capture_desc.specs.declared.desc.Desc.{Desc}
use Rattle.picture_model.specs.Described.{both, describes, field_height, layout_of, memory_of, picture_row, plane_row_bytes, rows_of}
use Rattle.picture_model.specs.Places.{byte_clipped, place}
use Rattle.picture_model.specs.Plans.{Cut, Track, grains_of}
use Rattle.picture_model.specs.Programs.{compiled, opening, section_begin, section_next, signal}
use Rattle.picture_model.proofs.Each.{Each, each_map, each_range}
use Rattle.picture_model.proofs.FaultlessGeometry.{IsRight, IsFrame-IsRight, IsValid-IsFrame}
use Rattle.picture_model.proofs.Grains.{row_grains}
use Rattle.picture_model.proofs.Safe.{cuts_follow}
use Rattle.picture_model.proofs.Sections.{row_below}
use Rattle.field_law.specs.Arrivals.{is_signal}
use Rattle.field_law.specs.CutLines.{address_in}
use Rattle.field_law.specs.Fields.{carried, is_line}
use Rattle.field_law.specs.Sections.{HoldsFrom, closing_at, words_in}
use Rattle.picture_law.specs.Pictures.{of_row, IsKeptAt, has_plane, plane_of}
use Rattle.picture_law.specs.Runs.{between, state_of, step_at}
use Rattle.picture_law.specs.Sections.{section_of}
use Rattle.picture_law.proofs.Between.{signal_turn, state_next}
use Rattle.picture_law.proofs.Cuts.{all_bytes, line_parts_of, moves, track_on}
use Rattle.picture_law.proofs.BytePlaces.{queue_plane, queue_row_goes, row_track_on}
use Rattle.field_law.proofs.Lines.{valid-most}
use Rattle.damage_model.specs.Lines.{AreInOrder, are_line, entries_taken, follow_on, make_line, no_takings}
use Rattle.damage_model.specs.Marks.{addresses_from, before_rows, is_among, is_opening, is_whole, last_step, later_or, lines_from, marks}
use Rattle.damage_model.specs.Marks.{row_addresses, row_addresses_at, takings_at}
use Rattle.damage_model.specs.Orders.{stream}
use Rattle.damage_model.specs.Standing.{IsSignalSince, StandsAt, WholeRowsStand, row_entries}
use Rattle.damage_model.specs.Takings.{Taking, retires, step_takings, takings}
use Rattle.damage_model.proofs.Held.{IsHeld, compiled_held}
use Rattle.damage_model.proofs.LineBytes.{line_bytes}
use Rattle.damage_model.proofs.Orders.{at, filtered, takes_in_order}
use Rattle.damage_model.proofs.Pieces.{Kind, OfSkipped, OfRow, cuts_on, fit_of, strip_of}
use Rattle.damage_model.proofs.StoredTakes.{taken_bytes}
use Rattle.damage_law.specs.Asked.{AreAsked, AreAskedBy, NothingTakenIsNothingAsked, WholeRowsTookAsked}
use Rattle.damage_map.specs.Tracks.{FieldTrack, track_next, tracked, untold}
use Rattle.damage_law.proofs.AnswersKept.{Inside, Keeps, Place, after_step, at_first, closes_there, end_of, few, gone_of, next_of}
use Rattle.damage_law.proofs.AnswersKept.{opens_there, past_of, pc_at, plain_jump, signals_apart}
use Rattle.damage_law.proofs.Compiled.{SkipsFew, lines_many, skips_few, section_lines}
use Rattle.damage_law.proofs.Histories.{Opened, next_opened, opened_if}
use Rattle.damage_law.proofs.PlacedLines.{BeginAt, IsBegin, IsOne, holds_behind, instr_of_read, line_of, lines_of, row_kinds, rows_begin}
use Rattle.damage_law.proofs.PlacedLines.{rows_begin_at, rows_hold, rows_map, to}
use Rattle.damage_law.proofs.PlacedRows.{AllIn, AllRetired, all_in, cuts_empty, cuts_full, cuts_stand}
use Rattle.damage_law.proofs.PlacedTurns.{KeepsBytes}
use Rattle.damage_law.proofs.SectionTurns.{Turned, turn_on}

-- ---- lists

pub index_map : (f : List ℕ → Bool) (xs : List (List ℕ)) (n : ℕ) → slice_index_or (map f xs) n false ≡ true →
    f (slice_index_or xs n []) ≡ true
index_map f [] zero is = cc
index_map f [] (suc n) is = cc
index_map f (x ∷ xs) zero is = is
index_map f (x ∷ xs) (suc n) is = index_map f xs n is

pub index_below : (f : List ℕ → Bool) (xs : List (List ℕ)) (n : ℕ) → slice_index_or (map f xs) n false ≡ true → n < length xs
index_below f [] zero is = cc
index_below f [] (suc n) is = cc
index_below f (x ∷ xs) zero is = omega arith
index_below f (x ∷ xs) (suc n) is = let inside = index_below f xs n is in omega arith

last_below : (test : State → Step → Bool) (m : State) (steps : List Step) (j : ℕ) → last_step test m steps ≡ Some j → j < length steps
last_below test m [] j is = cc
last_below test m (s ∷ steps) j is = by_inner (last_step test (step s m) steps) (test m s) is (last_below test (step s m) steps)
  where
    by_inner : (inner : Option ℕ) (here : Bool) → later_or here inner ≡ Some j → ((i : ℕ) → inner ≡ Some i → i < length steps) →
        j < suc (length steps)
    by_inner (Some i) here is below = let less = below i refl in let same : suc i ≡ j = cc in omega arith
    by_inner None true is below = let same : 0 ≡ j = cc in omega arith
    by_inner None false is below = cc

-- ---- the last opening

abbrev with_steps : List Step → State × List Step → State × List Step
with_steps steps x = (x.0, x.1 ++ steps)

module _ (d : Desc) (field : Parity) where
  abbrev opened_after : Opened → State → List Step → Opened
  opened_after o m [] = o
  opened_after o m (s ∷ steps) = opened_after (next_opened d field m s o) (step s m) steps

  abbrev opened_by : Option ℕ → Opened → State → List Step → Opened
  opened_by (Some j) o m steps = Some (state_at m steps j, drop j steps)
  opened_by None o m steps = option_map (with_steps steps) o

  opened_none : (o : Opened) → o ≡ option_map (with_steps []) o
  opened_none None = refl
  opened_none (Some x) = ap (λ (l : List Step). Some (x.0, l)) (sym (append-nil x.1))

  opened_more : (s : Step) (steps : List Step) (o : Opened) →
      option_map (with_steps steps) (option_map (with_steps (s ∷ [])) o) ≡ option_map (with_steps (s ∷ steps)) o
  opened_more s steps None = refl
  opened_more s steps (Some x) = ap (λ (l : List Step). Some (x.0, l)) (append_assoc x.1 (s ∷ []) steps)

  opened_behind : (inner : Option ℕ) (here : Bool) (m : State) (s : Step) (steps : List Step) (o : Opened) →
      opened_by inner (opened_if here m s o) (step s m) steps ≡ opened_by (later_or here inner) o m (s ∷ steps)
  opened_behind (Some j) here m s steps o = refl
  opened_behind None true m s steps o = refl
  opened_behind None false m s steps o = opened_more s steps o

  opened_last : (steps : List Step) (m : State) (o : Opened) →
      opened_after o m steps ≡ opened_by (last_step (is_opening d field) m steps) o m steps
  opened_last [] m o = opened_none o
  opened_last (s ∷ steps) m o =
      opened_last steps (step s m) (next_opened d field m s o)
      ∙ opened_behind (last_step (is_opening d field) (step s m) steps) (is_opening d field m s) m s steps o

keeps_opened : (d : Desc) (right : IsRight d) (skips : SkipsFew d) (steps : List Step) (m : State) (t : FieldTrack)
    (opens_since : Parity → Opened) (tolds : Parity → Option (List Bool)) → All IsStep steps →
    Keeps d right skips m t opens_since tolds → (tolds_then : Parity → Option (List Bool))
    × Keeps d right skips (run m steps) (tracked m steps t) (λ g. opened_after d g (opens_since g) m steps) tolds_then
keeps_opened d right skips [] m t opens_since tolds made h = (tolds, h)
keeps_opened d right skips (s ∷ steps) m t opens_since tolds made h =
    keeps_opened d right skips steps (step s m) (track_next m s t) (λ g. next_opened d g m s (opens_since g)) _
    (All-tail IsStep s steps made)
    (after_step d right skips m t opens_since tolds h s (All-head IsStep s steps made))

-- ---- a row by its number

module _ (d : Desc) (held : IsHeld d) (field : Parity) (described : describes d.fields field ≡ true) where
  pub record RowAt (kind : Kind) (addresses : List ℕ) : Type 0 where
    pub begin : ℕ
    pub tail : List Instr
    pub one : IsOne d held field described kind
    pub begins : IsBegin d held field described kind begin
    pub holds : HoldsFrom held.program begin (line_of d held field described kind ++ tail) (signal field) (to d held field described)
    pub same : addresses ≡ addresses_from begin (line_of d held field described kind)

  row_index : (kinds : List Kind) (x n : ℕ) (tail : List Instr) → n < length kinds → Each (IsOne d held field described) kinds →
      BeginAt d held field described x kinds →
      HoldsFrom held.program x (lines_of d held field described kinds ++ tail) (signal field) (to d held field described) →
      RowAt (slice_index_or kinds n OfSkipped) (slice_index_or (lines_from x (map (line_of d held field described) kinds)) n [])
  row_index [] x n tail below each begins holds = absurd (omega arith)
  row_index (kind ∷ kinds) x zero tail below each begins holds =
      record {
        begin = x;
        tail = lines_of d held field described kinds ++ tail;
        one = each.0;
        begins = begins.0;
        holds =
            subst (λ (is : List Instr). HoldsFrom held.program x is (signal field) (to d held field described))
            (append_assoc (line_of d held field described kind) (lines_of d held field described kinds) tail) holds;
        same = refl;
      }
  row_index (kind ∷ kinds) x (suc n) tail below each begins holds =
      row_index kinds (x + 4 * words_in (line_of d held field described kind)) n tail (omega arith) each.1 begins.1
      (holds_behind held.program x (line_of d held field described kind) (lines_of d held field described kinds ++ tail) (signal field)
      (to d held field described)
      (subst (λ (is : List Instr). HoldsFrom held.program x is (signal field) (to d held field described))
      (append_assoc (line_of d held field described kind) (lines_of d held field described kinds) tail) holds))

  row_at : (number : ℕ) → number < field_height d field →
      RowAt (OfRow number) (slice_index_or (row_addresses_at (held.begin field) d field) number [])
  row_at number below =
      let height = field_height d field in
      let here : 0 + number ≡ number = omega arith in
      let start : rows_begin d held field described + 4 * 0 ≡ rows_begin d held field described = omega arith in
      let kind : slice_index_or (row_kinds d held field described) number OfSkipped ≡ OfRow number =
      get_or-map-range_with_len OfRow 0 height number number OfSkipped below here in
      subst (λ (k : Kind). RowAt k (slice_index_or (row_addresses_at (held.begin field) d field) number [])) kind
      (subst (λ (lines : List (List Instr)). RowAt (slice_index_or (row_kinds d held field described) number OfSkipped)
      (slice_index_or (lines_from (rows_begin d held field described) lines) number [])) (sym (rows_map d held field described))
      (row_index (row_kinds d held field described) (rows_begin d held field described) number []
      (subst (λ (n : ℕ). number < n) (sym (kinds_long 0 height)) below)
      (each_map (λ k. k < height) (IsOne d held field described) OfRow (range_with_len 0 height) (λ k less. less)
      (each_range 0 height height (omega arith)))
      (subst (λ (x : ℕ). BeginAt d held field described x (row_kinds d held field described)) start
      (rows_begin_at d held field described 0 height)) (rows_hold d held field described)))
    where
      kinds_long : (n count : ℕ) → length (map OfRow (range_with_len n count)) ≡ count
      kinds_long n zero = refl
      kinds_long n (suc count) = let rest = kinds_long (n + 1) count in omega arith

has_moves : (planar : Bool) (q : Queue) → nat_le (plane_of q) (if planar then 3 else 1) ≡ true → moves planar q ≡ true
has_moves true One has = refl
has_moves true Two has = refl
has_moves true Three has = refl
has_moves false One has = refl
has_moves false Two has = cc
has_moves false Three has = cc

lacks_moves : (planar : Bool) (q : Queue) → nat_le (plane_of q) (if planar then 3 else 1) ≡ false → moves planar q ≡ false
lacks_moves true One lacks = cc
lacks_moves true Two lacks = cc
lacks_moves true Three lacks = cc
lacks_moves false One lacks = cc
lacks_moves false Two lacks = refl
lacks_moves false Three lacks = refl

-- the bytes of a row on the plane of a queue
row_long : (d : Desc) (held : IsHeld d) (field : Parity) (described : describes d.fields field ≡ true) (number : ℕ) (q : Queue) →
    has_plane d q ≡ true →
    (strip_of d held field described (OfRow number)).grains * (track_on q (strip_of d held field described (OfRow number))).size
    ≡ plane_row_bytes d (plane_of q)
row_long d held field described number q has =
    ap (λ (t : Track). grains_of (layout_of d) d.width * t.size) (sym (row_track_on d (picture_row (both d) field number) q))
    ∙ row_grains d (plane_of q) (queue_plane d q has)

-- ---- takings of no bytes are none

nothing_long : (ts : List Taking) → no_takings ts ≡ true → length (taken_bytes ts) ≡ 0
nothing_long [] none = refl
nothing_long (t ∷ rest) none = cc

no_bytes : (entry_at : ℕ → Entry) (ts : List Taking) (place x : ℕ) → AreInOrder entry_at place x ts → length (taken_bytes ts) ≡ 0 → ts ≡ []
no_bytes entry_at [] place x order none = refl
no_bytes entry_at (t ∷ rest) place x order none =
    let some = order.2 in
    let fits = order.3 in
    let most = valid-most t.entry.status in
    let lanes = drop t.taken (lane_bytes t.entry.dword) in
    let long : length (bytes_taken t.entry t.taken t.count) ≡ t.count =
    omega (arith, length-take t.count lanes, length-drop t.taken (lane_bytes t.entry.dword)) in
    let all = length-append (bytes_taken t.entry t.taken t.count) (taken_bytes rest) in
    absurd (omega arith)

-- ---- a whole row

module _ (d : Desc) (held : IsHeld d) (field : Parity) (described : describes d.fields field ≡ true) (m first : State) (since : List Step)
    (orderly : IsOrderly first) (made : All IsStep since)
    (k : KeepsBytes d held field described m (past_of first since)) (q : Queue) (number : ℕ) where
  abbrev addresses : List ℕ
  addresses = slice_index_or (row_addresses_at (held.begin field) d field) number []

  abbrev ts : List Taking
  ts = takings_at addresses q first since

  four_parts : (a b c e : Bool) → (a && b && c && e) ≡ true → (a ≡ true) × ((b ≡ true) × (c ≡ true) × (e ≡ true))
  four_parts a b c e is =
      let last = and_parts (a && b && c) e is in
      let two = and_parts (a && b) c last.0 in
      let one = and_parts a b two.0 in
      (one.0, (one.1, two.1, last.1))

  abbrev line_on : Queue → Bool
  line_on p = make_line (takings_at addresses p first since)

  whole_parts : is_whole first since addresses ≡ true →
      (list_all (is_among (retires first since)) addresses ≡ true) × ((line_on One ≡ true) × (line_on Two ≡ true) × (line_on Three ≡ true))
  whole_parts whole = four_parts (list_all (is_among (retires first since)) addresses) (line_on One) (line_on Two) (line_on Three) whole

  made_line : (p : Queue) → is_whole first since addresses ≡ true → line_on p ≡ true
  made_line One whole = (whole_parts whole).1.0
  made_line Two whole = (whole_parts whole).1.1
  made_line Three whole = (whole_parts whole).1.2

  pub in_order : AreInOrder (at (stream q first since)) 0 0 ts
  in_order =
      filtered (stream q first since) (λ t. is_among addresses t.at) (takings q 0 first since) 0 0
      (takes_in_order q first since orderly made)

  -- takings of some bytes that make a line
  pub record TookLine : Type 0 where
    pub line : is_line (entries_taken ts) ≡ true
    pub bytes : taken_bytes ts ≡ carried (entries_taken ts)

  line_by : (list : List Taking) → 0 < length (taken_bytes list) → make_line list ≡ true → are_line list ≡ true
  line_by [] some line = absurd (omega arith)
  line_by (t ∷ list) some line = line

  pub took_line : is_whole first since addresses ≡ true → 0 < length (taken_bytes ts) → TookLine
  took_line whole some =
      let parts = and_parts (follow_on ts) (is_line (entries_taken ts)) (line_by ts some (made_line q whole)) in
      record { line = parts.1; bytes = line_bytes (at (stream q first since)) ts 0 0 in_order parts.0 }

  abbrev cuts : List Cut
  cuts = cuts_on d held field described (OfRow number)

  -- the row's instructions
  module _ (below : number < field_height d field) where
    r : RowAt d held field described (OfRow number) addresses
    r = row_at d held field described number below

    all : AllIn d held field described m (past_of first since) k (OfRow number) q r.begin cuts
    all =
        all_in d held field described m (past_of first since) k (OfRow number) q r.begin r.tail (signal field)
        (to d held field described) r.one r.begins r.holds [] cuts r.begin refl r.holds

    retired_there : is_whole first since addresses ≡ true →
        AllRetired d held field described m (past_of first since) k (OfRow number) q r.begin cuts
    retired_there whole = ap (list_all (is_among (retires first since))) (sym r.same) ∙ (whole_parts whole).0

    -- where the row has the queue's plane, as many bytes as a row of it; else none
    pub taken_full : is_whole first since addresses ≡ true → has_plane d q ≡ true → length (taken_bytes ts) ≡ plane_row_bytes d (plane_of q)
    taken_full whole has =
        let strip = strip_of d held field described (OfRow number) in
        let follow = cuts_follow (memory_of d) strip (fit_of d held field described (OfRow number) below) in
        subst (λ (a : List ℕ). length (taken_bytes (takings_at a q first since)) ≡ plane_row_bytes d (plane_of q)) (sym r.same)
        (cuts_full d held field described m (past_of first since) k (OfRow number) q
        (has_moves (layout_of d).planar q has) cuts r.begin all (retired_there whole)
        ∙ all_bytes (memory_of d) (track_on q strip) strip.grains cuts follow ∙ row_long d held field described number q has)

    pub taken_none : has_plane d q ≡ false → length (taken_bytes ts) ≡ 0
    taken_none lacks =
        subst (λ (a : List ℕ). length (taken_bytes (takings_at a q first since)) ≡ 0) (sym r.same)
        (cuts_empty d held field described m (past_of first since) k (OfRow number) q
        (lacks_moves (layout_of d).planar q lacks) cuts r.begin all)

    untaken : has_plane d q ≡ false → ts ≡ []
    untaken lacks = no_bytes (at (stream q first since)) ts 0 0 in_order (taken_none lacks)

    wide : has_plane d q ≡ true → 5 ≤ plane_row_bytes d (plane_of q)
    wide has = let plane = queue_plane d q has in held.right.wide (plane_of q) plane.low plane.high

    asked_by : is_whole first since addresses ≡ true → (has : Bool) → has_plane d q ≡ has →
        AreAskedBy has (plane_row_bytes d (plane_of q)) (entries_taken ts)
    asked_by whole true has =
        let long = taken_full whole has in
        let some = wide has in
        let took = took_line whole (omega arith) in
        (took.line, ap (λ (bytes : List ℕ). length bytes) (sym took.bytes) ∙ long)
    asked_by whole false lacks = ap entries_taken (untaken lacks)

    pub row_asked : is_whole first since addresses ≡ true → AreAsked d q (entries_taken ts)
    row_asked whole = asked_by whole (has_plane d q) refl

    unasked_by : is_whole first since addresses ≡ true → no_takings ts ≡ true → (has : Bool) → has_plane d q ≡ has → has_plane d q ≡ false
    unasked_by whole none true has =
        let long = taken_full whole has in
        let some = wide has in
        let nothing = nothing_long ts none in
        absurd (omega arith)
    unasked_by whole none false lacks = lacks

    pub row_unasked : is_whole first since addresses ≡ true → (no_takings ts ≡ true) ↔ (has_plane d q ≡ false)
    row_unasked whole = (λ none. unasked_by whole none (has_plane d q) refl, λ lacks. ap no_takings (untaken lacks))

  -- ---- a byte of it

  module _ (x address : ℕ) (kept : IsKeptAt d field (of_row q number x) address) where
    goes : address_in (line_parts_of (memory_of d) (track_on q (strip_of d held field described (OfRow number)))
        (cuts_on d held field described (OfRow number))) x ≡ Some address
    goes =
        let row = picture_row (both d) field number in
        queue_row_goes d held.right q row x kept.0.0 (row_below d field number kept.0.1) kept.0.2
        ∙ cond-false (byte_clipped d (plane_of q) row x) None (place d (plane_of q) row x) kept.0.3 ∙ kept.1

    taken_stands : is_whole first since addresses ≡ true →
        (x < length (taken_bytes ts)) × (byte_at m.memory address ≡ slice_index (taken_bytes ts) x)
    taken_stands whole =
        let there = r kept.0.1 in
        let stands =
        cuts_stand d held field described m (past_of first since) k (OfRow number) q
        (has_moves (layout_of d).planar q kept.0.0) cuts there.begin x address (all kept.0.1)
        (retired_there kept.0.1 whole) goes in
        subst (λ (a : List ℕ). (x < length (taken_bytes (takings_at a q first since)))
        × (byte_at m.memory address ≡ slice_index (taken_bytes (takings_at a q first since)) x)) (sym there.same) stands

    pub row_stands : is_whole first since addresses ≡ true → StandsAt (entries_taken ts) x address m
    row_stands whole =
        let stands = taken_stands whole in
        let inside = stands.0 in
        let took = took_line whole (omega arith) in
        record {
          line = took.line;
          inside = subst (λ (list : List ℕ). x < length list) took.bytes inside;
          byte = stands.1 ∙ ap (λ (list : List ℕ). slice_index list x) took.bytes;
        }

-- ---- right before the signal

module _ (d : Desc) (right : IsRight d) (skips : SkipsFew d) (field : Parity) (described : describes d.fields field ≡ true) (m : State)
    (t : FieldTrack) (opens_since : Parity → Opened) (tolds : Parity → Option (List Bool))
    (h : Keeps d right skips m t opens_since tolds) (signals : is_signal (section_of d field) m Turn ≡ true) where
  at_closing : (m.risc_on ≡ true) × (m.job ≡ Idle) × (m.pc ≡ closing_at (section_of d field))
  at_closing = pc_at m.risc_on m.job m.pc (closing_at (section_of d field)) signals

  read : fetch (compiled d) m.pc ≡ Ok (Jump (signal field) (section_next d d.base d.base field), 2)
  read = ap (fetch (compiled d)) at_closing.2 ∙ closes_there d right field described

  abbrev Found : Parity → State → List Step → Type 0
  Found g first since =
      (e : describes d.fields g ≡ true) × (opens_since g ≡ Some (first, since))
      × KeepsBytes d (compiled_held d right) g e m (past_of first since)

  inside_found : (i : Inside d right skips m t opens_since) →
      Turned (compiled d) (signal i.field) (next_of d right i.field) (end_of d right i.field) (section_lines d i.field)
      (few d right skips i.field) m t (past_of i.first i.done) (gone_of i.first i.done)
      (turn m) (seen m) (λ q. step_takings q (gone_of i.first i.done q) m Turn) → Found field i.first i.done
  inside_found i (inl goes) =
      absurd
      (plain_jump (fetch (compiled d) m.pc) (signal field) (section_next d d.base d.base field) 2 (goes.1 at_closing.0 at_closing.1) read)
  inside_found i (inr closes) =
      let same : i.field ≡ field =
      signals_apart i.field field (next_of d right i.field) (section_next d d.base d.base field)
      (instr_of_read (Jump (signal i.field) (next_of d right i.field)) (Jump (signal field) (section_next d d.base d.base field)) 2 2
      (compiled d) m.pc closes.0.fetched_there read) in
      subst (λ (g : Parity). Found g i.first i.done) same (i.described, i.opened_at, i.bytes)

  pub found : Place d right skips m t opens_since → (first : State) × (since : List Step) × Found field first since
  found (inl o) =
      let other : opening o.field ≡ Jump (signal field) (section_next d d.base d.base field) =
      instr_of_read (opening o.field) (Jump (signal field) (section_next d d.base d.base field)) 2 2 (compiled d) m.pc
      (ap (fetch (compiled d)) o.there ∙ opens_there d right o.field o.described) read in
      cc
  found (inr i) = (
    i.first,
    i.done,
    inside_found i (turn_on (compiled d) (signal i.field) (next_of d right i.field) (end_of d right i.field) (section_lines d i.field)
        (few d right skips i.field) m t (past_of i.first i.done) (gone_of i.first i.done)
        h.program i.visit),
  )

  pub memory_stays : (turn m).memory ≡ m.memory
  memory_stays =
      memory-turn m ∙ ap (λ (b : Bool). stored_all m.memory (stores_if b (counted m))) at_closing.0
      ∙ ap (λ (job : Job). stored_all m.memory (worked_stores job (counted m))) at_closing.1

-- ---- the law

module _ (d : Desc) (field : Parity) (fill : ℕ) (steps : List Step) (j k : ℕ) (is : IsSignalSince d field fill steps j k) where
  abbrev right_there : IsRight d
  right_there = IsFrame-IsRight d is.description (IsValid-IsFrame d is.valid)

  abbrev start : State
  start = first_state (compiled d) fill

  abbrev before : State
  before = state_of d fill steps k

  made_to : All IsStep (take k steps)
  made_to = All-take IsStep k steps is.made

  kept_there : (tolds_then : Parity → Option (List Bool)) × Keeps d right_there (skips_few d is.description) before
      (tracked start (take k steps) (untold d)) (λ g. opened_after d g None start (take k steps)) tolds_then
  kept_there =
      keeps_opened d right_there (skips_few d is.description) (take k steps) start (untold d) (λ g. None) (λ g. None) made_to
      (at_first d right_there (skips_few d is.description) fill)

  last_turn : step_at steps k ≡ Turn
  last_turn = signal_turn (section_of d field) before (step_at steps k) is.signal

  signals_there : is_signal (section_of d field) before Turn ≡ true
  signals_there = ap (is_signal (section_of d field) before) (sym last_turn) ∙ is.signal

  there : (first : State) × (since : List Step)
      × Found d right_there (skips_few d is.description) field is.described before (tracked start (take k steps) (untold d))
      (λ g. opened_after d g None start (take k steps)) kept_there.0 kept_there.1 signals_there field first since
  there =
      found d right_there (skips_few d is.description) field is.described before (tracked start (take k steps) (untold d))
      (λ g. opened_after d g None start (take k steps)) kept_there.0 kept_there.1 signals_there kept_there.1.place

  earlier : j < k
  earlier = let below = last_below (is_opening d field) start (take k steps) j is.opened in omega (arith, length-take k steps)

  abbrev opened_pair : State × List Step
  opened_pair = (state_of d fill steps j, between j k steps)

  same_opening : (there.0, there.1) ≡ opened_pair
  same_opening =
      let less = earlier in
      let parts : j + (k - j) ≡ k = omega arith in
      let at_j : state_at start (take k steps) j ≡ state_of d fill steps j = ap (run start) (take-take j k steps (omega arith)) in
      let since : drop j (take k steps) ≡ between j k steps =
      ap (λ (n : ℕ). drop j (take n steps)) (sym parts) ∙ drop-take j (k - j) steps in
      let told : Some (there.0, there.1) ≡ opened_by d field (Some j) None start (take k steps) =
      sym there.2.1 ∙ opened_last d field (take k steps) start None
      ∙ ap (λ (last : Option ℕ). opened_by d field last None start (take k steps)) is.opened in
      pair_of (there.0, there.1) (state_at start (take k steps) j, drop j (take k steps)) told
      ∙ ap₂ (λ (x : State) (l : List Step). (x, l)) at_j since
    where
      pair_of : (p r : State × List Step) → Some p ≡ Some r → p ≡ r
      pair_of p r same = cc

  bytes_there : KeepsBytes d (compiled_held d right_there) field there.2.0 before (past_of (state_of d fill steps j) (between j k steps))
  bytes_there =
      subst (λ (p : State × List Step). KeepsBytes d (compiled_held d right_there) field there.2.0 before (past_of p.0 p.1)) same_opening
      there.2.2

  -- a row that is marked is one of the field
  marked_below : (number : ℕ) → slice_index_or (marks d field (state_of d fill steps j) (between j k steps)) number false ≡ true →
      number < field_height d field
  marked_below number mark =
      let many : length (row_addresses d field) ≡ field_height d field =
      lines_many d (rows_of d field) (section_begin d d.base field + 4 * words_in (before_rows d field))
      ∙ length-map-range_with_len (picture_row (both d) field) 0 (field_height d field) in
      let inside = index_below (is_whole (state_of d fill steps j) (between j k steps)) (row_addresses d field) number mark in
      omega arith

  orderly_there : IsOrderly (state_of d fill steps j)
  orderly_there = IsOrderly-run start (take j steps) (All-take IsStep j steps is.made) (IsOrderly-first_state (compiled d) fill)

  made_there : All IsStep (between j k steps)
  made_there = All-take IsStep (k - j) (drop j steps) (All-drop IsStep j steps is.made)

  module _ (q : Queue) (number : ℕ)
      (mark : slice_index_or (marks d field (state_of d fill steps j) (between j k steps)) number false ≡ true) where
    whole : is_whole (state_of d fill steps j) (between j k steps) (slice_index_or (row_addresses d field) number []) ≡ true
    whole = index_map (is_whole (state_of d fill steps j) (between j k steps)) (row_addresses d field) number mark

    whole_row : (x address : ℕ) → IsKeptAt d field (of_row q number x) address →
        StandsAt (row_entries d field number q (state_of d fill steps j) (between j k steps)) x address (state_of d fill steps (k + 1))
    whole_row x address kept =
        let stands =
        row_stands d (compiled_held d right_there) field there.2.0 before (state_of d fill steps j)
        (between j k steps) orderly_there made_there bytes_there q number x address kept whole in
        let after : state_of d fill steps (k + 1) ≡ turn before =
        state_next start steps k is.there ∙ ap (λ (s : Step). step s before) last_turn in
        let memory = ap (λ (m : State). m.memory) after
        ∙ memory_stays d right_there (skips_few d is.description) field is.described before (tracked start (take k steps) (untold d))
        (λ g. opened_after d g None start (take k steps)) kept_there.0 kept_there.1 signals_there in
        record { line = stands.line; inside = stands.inside; byte = ap (λ blocks. byte_at blocks address) memory ∙ stands.byte }

    whole_row_asked : AreAsked d q (row_entries d field number q (state_of d fill steps j) (between j k steps))
    whole_row_asked =
        row_asked d (compiled_held d right_there) field there.2.0 before (state_of d fill steps j)
        (between j k steps) orderly_there made_there bytes_there q number (marked_below number mark) whole

    whole_row_unasked :
        (no_takings (takings_at (slice_index_or (row_addresses d field) number []) q (state_of d fill steps j) (between j k steps)) ≡ true)
        ↔ (has_plane d q ≡ false)
    whole_row_unasked =
        row_unasked d (compiled_held d right_there) field there.2.0 before (state_of d fill steps j)
        (between j k steps) orderly_there made_there bytes_there q number (marked_below number mark) whole

pub whole_rows_took_asked : WholeRowsTookAsked
whole_rows_took_asked d field fill steps j k is q number mark = whole_row_asked d field fill steps j k is q number mark

pub nothing_taken_is_nothing_asked : NothingTakenIsNothingAsked
nothing_taken_is_nothing_asked d field fill steps j k is q number mark = whole_row_unasked d field fill steps j k is q number mark

pub whole_rows_stand : WholeRowsStand
whole_rows_stand d field fill steps j k is q number x address mark kept = whole_row d field fill steps j k is q number mark x address kept
