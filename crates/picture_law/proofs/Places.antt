-- The law of the picture over the places of a run, from that over steps that each meet a program.
use Rattle.std.proofs.Common.{◌≡◌, ℕ, ◌+◌, ◌-◌, ◌*◌, ◌≤◌, true, false, List, [], ◌∷◌, ◌++◌, length, take, drop, sym, ap, ◌∙◌, subst, arith}
use Rattle.std.proofs.lemmas.List.Elements.{All-drop, All-take}
use Rattle.fifo_model.specs.declared.Queue.{Queue}
use Rattle.fifo_model.specs.Queues.{queue_state}
use Rattle.pixel_layout.specs.declared.Parity.{Parity}
use Rattle.machine_model.specs.States.{State, first_state}
use Rattle.machine_model.specs.Turns.{sets_fdsr}
use Rattle.machine_model.specs.Steps.{Step, Turn, run_in, with_program}
use Rattle.machine_model.specs.Safety.{IsStep}
use Rattle.capture_desc.specs.declared.desc.Desc.{Desc}
use Rattle.picture_model.specs.Programs.{compiled, section_begin, section_next, size}
use Rattle.field_law.specs.Sections.{closing_at}
use Rattle.field_law.specs.Arrivals.{Met, meeting, coming, entries_of, over_queues, has_signal, is_signal, turns_in}
use Rattle.field_law.proofs.Meeting.{meeting-append}
use Rattle.picture_law.specs.Pictures.{Picture, After}
use Rattle.picture_law.specs.Sections.{section_of}
use Rattle.picture_law.specs.Laws.{Captures, TellsField}
use Rattle.picture_law.specs.Runs.{ArrivesAt, CapturesOf, IsCapture, IsSignalled, between, state_of, step_at, RunShowsPicture}
use Rattle.picture_law.specs.Runs.{RunShowsNoFault, RunTellsField, RunSignalsInTime}
use Rattle.picture_law.proofs.Between.{between_both, own_program, some_end}
use Rattle.picture_law.proofs.Ends as ends
use Rattle.picture_law.proofs.Laws.{compiled_is_met, runs_compiled, shows_picture, shows_no_fault, signals_field, signals_in_time}

module _ (d : Desc) (field : Parity) (picture : Picture) (fill : ℕ) (steps : List Step) (j : ℕ) where
  abbrev start : State
  start = first_state (compiled d) fill

  abbrev m : State
  m = state_of d fill steps j

  abbrev begin : ℕ
  begin = section_begin d d.base field

  abbrev target : ℕ
  target = section_next d d.base d.base field

  -- a picture that arrives over some of the steps from j on
  abbrev captures : IsCapture d field picture steps → (l : ℕ) → ArrivesAt d field picture m (between j l steps) →
      CapturesOf d field picture m (between j l steps)
  captures c l arrives =
      compiled_is_met d field picture m (between j l steps)
      (record {
        description = c.description;
        valid = c.valid;
        described = c.described;
        pictured = c.pictured;
        made = All-take IsStep (l - j) (drop j steps) (All-drop IsStep j steps c.made);
      })
      (runs_compiled d fill (take j steps) (All-take IsStep j steps c.made)) arrives

  -- a signal is before l
  in_time : (early late mets : List Met) → early ++ late ≡ mets → (c : Captures d field begin target picture m mets) →
      ((q : Queue) → entries_of c.arrives.before c.arrives.entries q ≤ length (queue_state q m.queues).entries + length (coming early q)) →
      5 * size d field + over_queues (entries_of c.arrives.before c.arrives.entries) ≤ turns_in late →
      has_signal (section_of d field) m mets ≡ true
  in_time early late mets split =
      subst
      (λ (mets : List Met). (c : Captures d field begin target picture m mets) →
      ((q : Queue) → entries_of c.arrives.before c.arrives.entries q ≤ length (queue_state q m.queues).entries + length (coming early q)) →
      5 * size d field + over_queues (entries_of c.arrives.before c.arrives.entries) ≤ turns_in late →
      has_signal (section_of d field) m mets ≡ true)
      split (λ c come many. signals_in_time d field begin target picture m early late c come many)

-- ---- up to a signal

module _ (d : Desc) (field : Parity) (picture : Picture) (fill : ℕ) (steps : List Step) (j k : ℕ)
    (s : IsSignalled d field picture fill steps j k) where
  abbrev end : ℕ
  end = closing_at (section_of d field)

  last_turn : step_at steps k ≡ Turn
  last_turn = ends.last_turn (compiled d) fill steps end j k s.signal

  captured : (i : ℕ) → j ≤ i → i ≤ k → step_at steps i ≡ Turn →
      Captures d field (section_begin d d.base field) (section_next d d.base d.base field) picture (state_of d fill steps j)
      (meeting (compiled d) (between j i steps) ++ (compiled d, Turn) ∷ meeting (compiled d) (between (i + 1) (k + 1) steps))
  captured i from to is_turn =
      subst (Captures d field (section_begin d d.base field) (section_next d d.base d.base field) picture (state_of d fill steps j))
      (ends.split_at (compiled d) fill steps end j k s.signal i from to is_turn)
      (captures d field picture fill steps j s.capture (k + 1) s.arrives)

  silent_to : (i : ℕ) → j ≤ i → i ≤ k →
      has_signal (section_of d field) (state_of d fill steps j) (meeting (compiled d) (between j i steps)) ≡ false
  silent_to = ends.unended_to (compiled d) fill steps end j k s.signal

  signals : is_signal (section_of d field) (run_in (state_of d fill steps j) (meeting (compiled d) (between j k steps))) Turn ≡ true
  signals = ends.ends_last (compiled d) fill steps end j k s.signal

  ended : run_in (state_of d fill steps j) (meeting (compiled d) (between j k steps) ++ (compiled d, Turn) ∷ [])
      ≡ state_of d fill steps (k + 1)
  ended = ends.ran_through (compiled d) fill steps end j k s.signal

pub run_shows_picture : RunShowsPicture
run_shows_picture d field picture fill steps j k s =
    let later = s.signal.later in
    let turn = last_turn d field picture fill steps j k s in
    subst (λ (m' : State). After d field picture (state_of d fill steps j).memory m'.memory) (ended d field picture fill steps j k s)
    (shows_picture d field (section_begin d d.base field) (section_next d d.base d.base field) picture (state_of d fill steps j)
    (meeting (compiled d) (between j k steps)) (meeting (compiled d) (between (k + 1) (k + 1) steps)) (compiled d)
    (captured d field picture fill steps j k s k later (omega arith) turn)
    (silent_to d field picture fill steps j k s k later (omega arith)) (signals d field picture fill steps j k s))

pub run_tells_field : RunTellsField
run_tells_field d field picture fill steps j k s =
    let later = s.signal.later in
    let turn = last_turn d field picture fill steps j k s in
    subst (TellsField field) (ended d field picture fill steps j k s)
    (signals_field d field (section_begin d d.base field) (section_next d d.base d.base field) picture (state_of d fill steps j)
    (meeting (compiled d) (between j k steps)) (meeting (compiled d) (between (k + 1) (k + 1) steps)) (compiled d)
    (captured d field picture fill steps j k s k later (omega arith) turn)
    (silent_to d field picture fill steps j k s k later (omega arith)) (signals d field picture fill steps j k s))

pub run_shows_no_fault : RunShowsNoFault
run_shows_no_fault d field picture fill steps j k i s from to is_turn =
    ap sets_fdsr (own_program (first_state (compiled d) fill) (take i steps)
    ∙ ap (with_program (compiled d)) (sym (ends.ran_to (compiled d) fill steps j i from)))
    ∙ shows_no_fault d field (section_begin d d.base field) (section_next d d.base d.base field) picture (state_of d fill steps j)
    (meeting (compiled d) (between j i steps)) (meeting (compiled d) (between (i + 1) (k + 1) steps)) (compiled d)
    (captured d field picture fill steps j k s i from to is_turn) (silent_to d field picture fill steps j k s i from to)

pub run_signals_in_time : RunSignalsInTime
run_signals_in_time d field picture fill steps j i l c first later within arrives come many =
    let early = meeting (compiled d) (between j i steps) in
    let late = meeting (compiled d) (between i l steps) in
    let all : early ++ late ≡ meeting (compiled d) (between j l steps) =
    sym (meeting-append (compiled d) (between j i steps) (between i l steps))
    ∙ ap (meeting (compiled d)) (sym (between_both j i l steps first later)) in
    let signal =
    in_time d field picture fill steps j early late (meeting (compiled d) (between j l steps)) all
    (captures d field picture fill steps j c l arrives) come many in
    some_end (closing_at (section_of d field)) (first_state (compiled d) fill) steps (l - j) j l (omega arith) within signal
