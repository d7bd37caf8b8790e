-- Where a picture arrived, every row of its field is whole at the signal.
use Rattle.std.proofs.Common.{◌≡◌, ℕ, zero, suc, ◌+◌, ◌-◌, ◌*◌, ◌≤◌, inl, inr, Bool, true, false, All, List, [], ◌∷◌, ◌++◌, drop, length}
use Rattle.std.proofs.Common.{map, replicate, take, take-add, Option, Some, None, Ok}
use Rattle.std.proofs.Common.{option_map, refl, sym, ap, ap₂, ◌∙◌, subst, arith}
use Rattle.std.specs.Prelude.{option_and_then}
use Rattle.std.proofs.lemmas.Bool.{or_from, or_parts}
use Rattle.std.proofs.lemmas.List.{length-map}
use Rattle.std.proofs.lemmas.List.Elements.{All-cons, All-drop, All-head, All-nil, All-tail, All-take}
use Rattle.std.proofs.lemmas.List.FromFn.{length-map-range_with_len}
use Rattle.risc_word.specs.declared.Instr.TheVariants.{Jump}
use Rattle.risc_word.specs.Words.{Reading, encoded}
use Rattle.fifo_model.specs.declared.Entry.{Entry}
use Rattle.fifo_model.specs.declared.Queue.{Queue}
use Rattle.pixel_layout.specs.declared.Parity.{Parity}
use Rattle.machine_model.specs.declared.Did.TheVariants.{Jumped}
use Rattle.machine_model.specs.declared.Job.{Job}
use Rattle.machine_model.specs.declared.Job.TheVariants.{Waiting}
use Rattle.machine_model.specs.declared.Seen.{Seen}
use Rattle.machine_model.specs.Paths.{RiscProgram, fetch}
use Rattle.machine_model.specs.Safety.{IsStep, JobFits}
use Rattle.machine_model.specs.Seen.{fetched_did, seen, seen_alone, seen_if, seen_in}
use Rattle.machine_model.specs.States.{State, first_state}
use Rattle.machine_model.specs.Steps.{Step, Push, Control, Turn, Host, run, state_at, step, with_program}
use Rattle.machine_model.proofs.Runs.{program-run}
use Rattle.capture_desc.specs.declared.desc.Desc.{Desc}
use Rattle.picture_model.specs.Described.{both, describes, field_height, picture_row, rows_of as rows_described}
use Rattle.picture_model.specs.Programs.{body, compiled, section_begin, section_next, signal}
use Rattle.picture_model.proofs.Each.{Each}
use Rattle.picture_model.proofs.FaultlessGeometry.{IsRight, IsFrame-IsRight, IsValid-IsFrame}
use Rattle.field_law.specs.Arrivals.{AreKept, Arrives, Met, after, coming, has_signal, is_signal, meeting, over_queues}
use Rattle.field_law.specs.Fields.{Token}
use Rattle.field_law.specs.Sections.{Holds, HoldsFrom, Section, Uses, closing_at}
use Rattle.field_law.proofs.Meeting.{meeting-append}
use Rattle.field_law.proofs.Runs.{ReachedWith, runs}
use Rattle.picture_law.specs.Pictures.{IsField, Picture, field_tokens}
use Rattle.picture_law.specs.Runs.{IsSignalled, between, state_of, step_at}
use Rattle.picture_law.specs.Sections.{section_of}
use Rattle.picture_law.proofs.Between.{between_last, no_signal, state_between}
use Rattle.picture_law.proofs.Body.{section_uses}
use Rattle.picture_law.proofs.Program.{section_holds}
use Rattle.machine_watch.proofs.Keeping.{kept-append}
use Rattle.damage_model.specs.Arrived.{ArrivedRowsAreWhole}
use Rattle.damage_model.specs.Marks.{addresses_from, answer, last_step, marks, marks_to, row_addresses}
use Rattle.damage_map.specs.Before.{lines_before}
use Rattle.damage_law.specs.Laws.{map_after}
use Rattle.damage_map.specs.Maps.{rows_of}
use Rattle.damage_map.specs.Tracks.{FieldTrack, field_of, lines_at_signal, signalled, signals, track_next, track_notes, tracked, turned}
use Rattle.damage_map.specs.Tracks.{untold}
use Rattle.damage_law.proofs.AnswersKept.{rows_behind, Keeps, Place, after_step, at_first, closes_there, keeps_answers, pc_at}
use Rattle.damage_law.proofs.AnswersKept.{signals_apart, told_here}
use Rattle.damage_law.proofs.ArrivedSteps.{step_well}
use Rattle.damage_law.proofs.ArrivedTurns.{GoesWell, same_body, well_fresh}
use Rattle.damage_law.proofs.Compiled.{SkipsFew, skips_few, lines_many, parts_cut, section_lines, section_parts}
use Rattle.damage_law.proofs.Histories.{Opened}
use Rattle.damage_law.proofs.Sections.{AreBelow, AreParts, Part, Past, Await, Cut, instrs_of, lines_at, whole_over}
use Rattle.damage_law.proofs.Visits.{GapJob, InGap, LineJob}

-- ---- no line is through where none was begun

first_from : (here : ℕ) (parts : List Part) (line : List ℕ) (more : List (List ℕ)) → AreParts parts → lines_at here parts ≡ line ∷ more →
    (a : ℕ) × (rest : List ℕ) × (line ≡ a ∷ rest) × (here ≤ a)
first_from here [] line more are is = cc
first_from here (Await code ∷ parts) line more are is =
    let found = first_from (here + 8) parts line more are is in let above = found.3 in (found.0, found.1, found.2, omega arith)
first_from here (Cut moved instrs ∷ parts) line more are is =
    let same : addresses_from here instrs ≡ line = cc in
    (here, addresses_from (here + 4 * length (encoded are.0.first)) are.0.rest, sym same ∙ ap (addresses_from here) are.0.some, omega arith)

none_through : (here begin : ℕ) (parts : List Part) (lines rest : List (List ℕ)) → AreParts parts → here ≤ begin →
    lines_at begin parts ≡ lines ++ rest → Each (AreBelow here) lines → lines ≡ []
none_through here begin parts [] rest are at is below = refl
none_through here begin parts (line ∷ lines) rest are at is below =
    let found = first_from begin parts line (lines ++ rest) are is in
    let under : AreBelow here (found.0 ∷ found.1) = subst (AreBelow here) found.2 below.0 in
    let less = under.0 in
    let above = found.3 in
    absurd (omega arith)

module _ (d : Desc) (right : IsRight d) (skips : SkipsFew d) where
  keeps_after : (steps : List Step) (m : State) (t : FieldTrack) (opens_since : Parity → Opened) (tolds : Parity → Option (List Bool)) →
      All IsStep steps → Keeps d right skips m t opens_since tolds →
      (opens_then : Parity → Opened) × (tolds_then : Parity → Option (List Bool))
      × Keeps d right skips (run m steps) (tracked m steps t) opens_then tolds_then
  keeps_after [] m t opens_since tolds made h = (opens_since, tolds, h)
  keeps_after (st ∷ steps) m t opens_since tolds made h =
      keeps_after steps (step st m) (track_next m st t) _ _ (All-tail IsStep st steps made)
      (after_step d right skips m t opens_since tolds h st (All-head IsStep st steps made))

  module _ (field : Parity) (described : describes d.fields field ≡ true) where
    abbrev s : Section
    s = section_of d field

    holds : Holds s (compiled d)
    holds = section_holds d field right described

    -- ---- where the field arrives

    module _ (m : State) (t : FieldTrack) (opens_since : Parity → Opened) (tolds : Parity → Option (List Bool))
        (h : Keeps d right skips m t opens_since tolds)
        (waits : m.job ≡ Waiting s.opening true s.code) (there : m.pc ≡ s.at) where
      gap_well : (i_field : Parity) → describes d.fields i_field ≡ true → (end : ℕ) (past : Past) →
          InGap (compiled d) (signal i_field) (section_next d d.base d.base i_field) end (section_lines d i_field) m t past →
          GoesWell (compiled d) m t
      gap_well i_field is end past gap =
          let here : m.pc ≡ gap.here = subst (λ (job : Job). GapJob gap.here m.pc job) waits gap.job in
          let stands : HoldsFrom (compiled d) m.pc (instrs_of gap.parts) (signal i_field) (section_next d d.base d.base i_field) =
          subst (λ (at : ℕ). HoldsFrom (compiled d) at (instrs_of gap.parts) (signal i_field) (section_next d d.base d.base i_field))
          (sym here) gap.stands in
          let body_there : HoldsFrom (compiled d) m.pc (body d field) (signal field) (section_next d d.base d.base field) =
          subst (λ (at : ℕ). HoldsFrom (compiled d) at (body d field) (signal field) (section_next d d.base d.base field))
          (sym there) holds in
          let same : i_field ≡ field =
          signals_apart i_field field (section_next d d.base d.base i_field) (section_next d d.base d.base field)
          (same_body (compiled d) m.pc (instrs_of gap.parts) (body d field) (signal i_field) (signal field)
          (section_next d d.base d.base i_field) (section_next d d.base d.base field) stands body_there).1 in
          let begin : section_begin d d.base i_field ≡ section_begin d d.base field = ap (section_begin d d.base) same in
          let none : gap.lines ≡ [] =
          none_through gap.here (section_begin d d.base i_field + 8) (section_parts d i_field) gap.lines (lines_at gap.here gap.parts)
          (parts_cut d i_field right is) (omega arith) gap.whole gap.through.below in
          well_fresh (compiled d) m t
          (subst (Each (λ whole. whole ≡ true)) (sym (gap.through.told ∙ ap (map (whole_over past)) none)) tt) gap.unlost gap.fresh

      waiting_well : Place d right skips m t opens_since → GoesWell (compiled d) m t
      waiting_well (inl o) = let idle = o.idle in cc
      waiting_well (inr i) =
          elim i.visit as (λ _. GoesWell (compiled d) m t) [
            | inl gap ↦ gap_well i.field i.described _ _ gap
            | inr l ↦ absurd (subst (λ (job : Job). LineJob l.here l.begins l.moved l.instr m.pc m.skipping t.lost t.marks job) waits l.job)
          ]

    -- ---- up to the signal

    module _ (tokens : Queue → List Token) (uses : Uses s tokens) where
      abbrev ReachedBy : (Queue → List Entry) → ℕ → State → Type 0
      ReachedBy later bound m = ReachedWith s tokens uses ⊥ [] (λ address. 0) later bound m

      goes_on : (steps : List Step) (late : List Met) (bound : ℕ) (m : State) (t : FieldTrack) (opens_since : Parity → Opened)
          (tolds : Parity → Option (List Bool)) → All IsStep steps →
          Keeps d right skips m t opens_since tolds → GoesWell (compiled d) m t → AreKept m (meeting (compiled d) steps) →
          has_signal s m (meeting (compiled d) steps) ≡ false →
          ReachedBy (coming (meeting (compiled d) steps ++ late)) bound m → GoesWell (compiled d) (run m steps) (tracked m steps t)
      goes_on [] late bound m t opens_since tolds made h g kept silent reached = g
      goes_on (st ∷ steps) late bound m t opens_since tolds made h g kept silent reached =
          let same : with_program (compiled d) m ≡ m = ap (λ (p : RiscProgram). with_program p m) (sym h.program) in
          let parts = or_parts (is_signal s m st) (has_signal s (after m (compiled d, st)) (meeting (compiled d) steps)) silent in
          let next : after m (compiled d, st) ≡ step st m = ap (step st) same in
          let is = All-head IsStep st steps made in
          let well =
          step_well d right skips m t opens_since tolds h g s holds tokens uses
          (coming (meeting (compiled d) (st ∷ steps) ++ late)) bound st kept.0 reached parts.0 in
          let on =
          runs s tokens uses ⊥ [] (λ address. 0) ((compiled d, st) ∷ []) [] (meeting (compiled d) steps ++ late) bound m h.orderly
          (All-cons (λ (met : Met). IsStep met.1) (compiled d, st) [] is (All-nil (λ (met : Met). IsStep met.1)))
          (All-cons (λ (met : Met). Holds s met.0) (compiled d, st) [] holds (All-nil (λ (met : Met). Holds s met.0)))
          (kept.0, tt) (or_from (is_signal s m st) false parts.0 refl) reached in
          goes_on steps late on.next (step st m) (track_next m st t) _ _ (All-tail IsStep st steps made)
          (after_step d right skips m t opens_since tolds h st is) well
          (subst (λ (x : State). AreKept x (meeting (compiled d) steps)) next kept.1)
          (subst (λ (x : State). has_signal s x (meeting (compiled d) steps) ≡ false) next parts.1)
          (subst (ReachedBy (coming (meeting (compiled d) steps ++ late)) on.next) next on.reached)

    -- ---- at the signal

    signal_told : (m : State) (t : FieldTrack) (st : Step) → m.program ≡ compiled d → is_signal s m st ≡ true →
        lines_at_signal field (track_next m st t) ≡ Some t.lines
    signal_told m t (Push q entry) program is = cc
    signal_told m t (Control code) program is = cc
    signal_told m t (Host write) program is = cc
    signal_told m t Turn program is =
        let at = pc_at m.risc_on m.job m.pc (closing_at s) is in
        let read : fetch m.program m.pc ≡ Ok (Jump (signal field) (section_next d d.base d.base field), 2) =
        ap₂ fetch program at.2 ∙ closes_there d right field described in
        let seen_is : seen m ≡ seen_alone Jumped m.pc =
        ap (λ (b : Bool). seen_if b m) at.0 ∙ ap (λ (job : Job). seen_in job m) at.1
        ∙ ap (λ (r : Reading). seen_alone (fetched_did r m.skipping) m.pc) read in
        let track_is : track_next m Turn t ≡ signalled (field_of (signal field).set) t =
        ap (λ (x : Seen). turned m.program x.did x t) seen_is ∙ ap (λ (r : Reading). signalled (signals r) t) read in
        ap (lines_at_signal field) track_is ∙ told_here field t

-- ---- how many rows have marks

answer_long : (d : Desc) (field : Parity) (m : State) (steps : List Step) (rows : List Bool) → answer d field m steps ≡ Some rows →
    length rows ≡ field_height d field
answer_long d field m steps rows is = by_last (last_step (is_signal (section_of d field)) m steps) is
  where
    marks_long : (first : State) (since : List Step) → length (marks d field first since) ≡ field_height d field
    marks_long first since =
        length-map (row_addresses d field) _ ∙ lines_many d (rows_described d field) _
        ∙ length-map-range_with_len (picture_row (both d) field) 0 (field_height d field)

    by_opening : (k : ℕ) (opening_at : Option ℕ) →
        option_map (λ j. marks d field (state_at m steps j) (between j k steps)) opening_at ≡ Some rows → length rows ≡ field_height d field
    by_opening k None told = cc
    by_opening k (Some j) told =
        let same : marks d field (state_at m steps j) (between j k steps) ≡ rows = cc in
        ap length (sym same) ∙ marks_long (state_at m steps j) (between j k steps)

    by_last : (last : Option ℕ) → option_and_then (marks_to d field m steps) last ≡ Some rows → length rows ≡ field_height d field
    by_last None told = cc
    by_last (Some k) told = by_opening k (last_step _ m (take k steps)) told

all_true : (rows : List Bool) → Each (λ whole. whole ≡ true) rows → rows ≡ replicate (length rows) true
all_true [] each = refl
all_true (whole ∷ rows) each = ap₂ (λ (x : Bool) (xs : List Bool). x ∷ xs) each.0 (all_true rows each.1)

each_drop : (n : ℕ) (rows : List Bool) → Each (λ whole. whole ≡ true) rows → Each (λ whole. whole ≡ true) (drop n rows)
each_drop zero rows each = each
each_drop (suc n) [] each = tt
each_drop (suc n) (whole ∷ rows) each = each_drop n rows each.1

kept_first : (m : State) (early late : List Met) → AreKept m (early ++ late) → AreKept m early
kept_first m [] late kept = tt
kept_first m (met ∷ early) late kept = (kept.0, kept_first (after m met) early late kept.1)

-- ---- the law

module _ (d : Desc) (field : Parity) (picture : Picture) (fill : ℕ) (steps : List Step) (j k : ℕ)
    (is : IsSignalled d field picture fill steps j k) where
  abbrev right : IsRight d
  right = IsFrame-IsRight d is.capture.description (IsValid-IsFrame d is.capture.valid)

  abbrev skips : SkipsFew d
  skips = skips_few d is.capture.description

  abbrev first : State
  first = first_state (compiled d) fill

  abbrev m : State
  m = state_of d fill steps j

  abbrev t : FieldTrack
  t = tracked first (take j steps) (untold d)

  abbrev early : List Step
  early = between j k steps

  abbrev late : List Met
  late = (compiled d, step_at steps k) ∷ []

  kept_there : (opens_then : Parity → Opened) × (tolds_then : Parity → Option (List Bool)) × Keeps d right skips m t opens_then tolds_then
  kept_there =
      keeps_after d right skips (take j steps) first (untold d) (λ g. None) (λ g. None) (All-take IsStep j steps is.capture.made)
      (at_first d right skips fill)

  last : between j (k + 1) steps ≡ early ++ step_at steps k ∷ []
  last = between_last j k steps is.signal.later is.signal.there

  arrives : Arrives (section_of d field) (IsField d field picture) m (meeting (compiled d) early ++ late)
  arrives =
      subst (Arrives (section_of d field) (IsField d field picture) m)
      (ap (meeting (compiled d)) last ∙ meeting-append (compiled d) early (step_at steps k ∷ [])) is.arrives

  abbrev tokens : Queue → List Token
  tokens = field_tokens d picture arrives.brought.skipped

  uses : Uses (section_of d field) tokens
  uses =
      section_uses d right field is.capture.described picture is.capture.pictured arrives.brought.skipped arrives.brought.lines
      (section_begin d d.base field)
      (section_next d d.base d.base field)

  abbrev bound : ℕ
  bound = 5 * suc (length (section_of d field).body) + 1 + over_queues (λ q. length (arrives.before q) + length (arrives.entries q))

  reached : ReachedWith (section_of d field) tokens uses ⊥ [] (λ address. 0) (coming (meeting (compiled d) early ++ late)) bound m
  reached =
      let fits : JobFits m.skipping m.target (Waiting (section_of d field).opening true (section_of d field).code) =
      subst (λ (job : Job). JobFits m.skipping m.target job) arrives.waits kept_there.2.orderly.job in
      inl (record {
        on = arrives.risc_on;
        unskipped = fits.0;
        waits = arrives.waits;
        there = arrives.there;
        before = arrives.before;
        entries = arrives.entries;
        rest = arrives.rest;
        rests = λ q. tt;
        order = arrives.order;
        unmarked = arrives.unmarked;
        brings = arrives.brought.brings;
        comes = λ known. absurd known;
        bounded = omega arith;
      })

  silent : has_signal (section_of d field) m (meeting (compiled d) early) ≡ false
  silent =
      let later = is.signal.later in
      let there = is.signal.there in
      no_signal (section_of d field) first steps (k - j) j k (omega arith) (omega arith) (λ n low high. is.signal.first n low high)

  -- before the signal
  abbrev last_state : State
  last_state = run m early

  abbrev last_track : FieldTrack
  last_track = tracked m early t

  all_well : GoesWell (compiled d) last_state last_track
  all_well =
      goes_on d right skips field is.capture.described tokens uses early late bound m t kept_there.0 kept_there.1
      (All-take IsStep (k - j) (drop j steps) (All-drop IsStep j steps is.capture.made)) kept_there.2
      (waiting_well d right skips field is.capture.described m t kept_there.0 kept_there.1 kept_there.2 arrives.waits arrives.there
      kept_there.2.place)
      (kept_first m (meeting (compiled d) early) late arrives.kept) silent reached

  -- after it
  tracked_is : tracked first (take (k + 1) steps) (untold d) ≡ track_next last_state (step_at steps k) last_track
  tracked_is =
      let later = is.signal.later in
      let there : j + (k + 1 - j) ≡ k + 1 = omega arith in
      let split : take (k + 1) steps ≡ take j steps ++ (early ++ step_at steps k ∷ []) =
      ap (λ (n : ℕ). take n steps) (sym there) ∙ take-add j (k + 1 - j) steps ∙ ap (λ (list : List Step). take j steps ++ list) last in
      ap (λ (list : List Step). tracked first list (untold d)) split ∙ kept-append track_notes first (take j steps)
      (early ++ step_at steps k ∷ []) (untold d) ∙ kept-append track_notes m early (step_at steps k ∷ []) t

  rows_told : rows_of field (map_after d fill (take (k + 1) steps)) ≡ Some (drop (lines_before d field) last_track.lines)
  rows_told =
      let signals_there : is_signal (section_of d field) last_state (step_at steps k) ≡ true =
      ap (λ (x : State). is_signal (section_of d field) x (step_at steps k)) (state_between first steps j k is.signal.later)
      ∙ is.signal.signal in
      rows_behind d field fill (take (k + 1) steps)
      ∙ ap (λ (x : FieldTrack). option_map (drop (lines_before d field)) (lines_at_signal field x)) tracked_is
      ∙ ap (option_map (drop (lines_before d field)))
      (signal_told d right skips field is.capture.described last_state last_track (step_at steps k)
      (program-run m early ∙ kept_there.2.program) signals_there)

  answer_told : answer d field first (take (k + 1) steps) ≡ Some (drop (lines_before d field) last_track.lines)
  answer_told =
      sym (keeps_answers d field fill (take (k + 1) steps) is.capture.description is.capture.valid is.capture.described
      (All-take IsStep (k + 1) steps is.capture.made)) ∙ rows_told

  rows_whole : answer d field first (take (k + 1) steps) ≡ Some (replicate (field_height d field) true)
  rows_whole =
      answer_told
      ∙ ap Some
      (all_true (drop (lines_before d field) last_track.lines) (each_drop (lines_before d field) last_track.lines all_well.lines)
      ∙ ap (λ (n : ℕ). replicate n true)
      (answer_long d field first (take (k + 1) steps) (drop (lines_before d field) last_track.lines) answer_told))

pub arrived_rows_are_whole : ArrivedRowsAreWhole
arrived_rows_are_whole d field picture fill steps j k is = rows_whole d field picture fill steps j k is
