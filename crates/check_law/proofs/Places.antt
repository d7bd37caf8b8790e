-- The law of the picture over the places of a run, from that over steps that each meet the program.
use Rattle.std.proofs.Common.{◌≡◌, ℕ, ◌+◌, ◌-◌, ◌*◌, ◌≤◌, true, false, List, [], ◌∷◌, ◌++◌, All, length, take, drop, refl, sym, ap, ◌∙◌}
use Rattle.std.proofs.Common.{subst, arith}
use Rattle.std.proofs.lemmas.List.Elements.{All-drop, All-take}
use Rattle.fifo_model.specs.declared.Queue.{Queue}
use Rattle.fifo_model.specs.Queues.{queue_state}
use Rattle.page_table.specs.Blocks.{chunks_of}
use Rattle.page_table.proofs.Memory.{chunks_of-filled}
use Rattle.pixel_layout.specs.declared.Parity.{Parity}
use Rattle.machine_model.specs.Paths.{RiscProgram}
use Rattle.machine_model.specs.States.{State, first_state}
use Rattle.machine_model.specs.Turns.{sets_fdsr}
use Rattle.machine_model.specs.Steps.{Step, Turn, run, run_in, with_program}
use Rattle.machine_model.specs.Safety.{IsStep, IsOrderly}
use Rattle.machine_model.proofs.Runs.{IsOrderly-run, chunks-run}
use Rattle.machine_model.proofs.Orderly.{IsOrderly-first_state}
use Rattle.capture_desc.specs.declared.desc.Desc.{Desc}
use Rattle.field_law.proofs.Meeting.{each-meets, each-step, meeting-append}
use Rattle.picture_law.specs.Pictures.{Picture, After}
use Rattle.picture_law.specs.Runs.{between, step_at}
use Rattle.picture_law.proofs.Between.{between_both, own_program, some_end}
use Rattle.picture_law.proofs.Ends as ends
use Rattle.field_law.specs.Trails.{after_closing}
use Rattle.field_law.specs.Arrivals.{Met, meeting, coming, entries_of, over_queues, has_end, is_end, turns_in}
use Rattle.check_law.specs.Laws.{Found, Captures}
use Rattle.check_law.specs.Runs.{ArrivesAt, IsCapture, IsEnded, state_of, RunShowsPicture, RunShowsNoFault, RunEndsWithClosing}
use Rattle.check_law.specs.Runs.{RunEndsInTime}
use Rattle.check_law.proofs.Laws.{shows_picture, shows_no_fault, ends_with_closing, ends_in_time}

module _ (program : RiscProgram) (d : Desc) (field : Parity) (f : Found) (picture : Picture) (fill : ℕ) (steps : List Step) (j : ℕ) where
  abbrev start : State
  start = first_state program fill

  abbrev m : State
  m = state_of program fill steps j

  runs_from : (part : List Step) → All IsStep part → IsOrderly (run start part) × (chunks_of (run start part).memory ≡ program.grants)
  runs_from part made =
      (IsOrderly-run start part made (IsOrderly-first_state program fill), chunks-run start part ∙ chunks_of-filled fill program.grants)

  -- a picture that arrives over some of the steps from j on
  abbrev captures : IsCapture program d field f picture steps → (l : ℕ) → ArrivesAt program d field f picture m (between j l steps) →
      Captures program d field f picture m (meeting program (between j l steps))
  captures c l arrives =
      let ran = runs_from (take j steps) (All-take IsStep j steps c.made) in
      record {
        shown = c.shown;
        pictured = c.pictured;
        orderly = ran.0;
        chunks = ran.1;
        made = each-step IsStep program (between j l steps) (All-take IsStep (l - j) (drop j steps) (All-drop IsStep j steps c.made));
        own = each-meets (λ met. met ≡ program) program (between j l steps) refl;
        arrives = arrives;
      }

  -- the field ends before l
  in_time : (early late mets : List Met) → early ++ late ≡ mets → (c : Captures program d field f picture m mets) →
      ((q : Queue) → entries_of c.arrives.before c.arrives.entries q ≤ length (queue_state q m.queues).entries + length (coming early q)) →
      5 * (f.count + 2) + over_queues (entries_of c.arrives.before c.arrives.entries) ≤ turns_in late → has_end f.end m mets ≡ true
  in_time early late mets split =
      subst
      (λ (mets : List Met). (c : Captures program d field f picture m mets) →
      ((q : Queue) → entries_of c.arrives.before c.arrives.entries q ≤ length (queue_state q m.queues).entries + length (coming early q)) →
      5 * (f.count + 2) + over_queues (entries_of c.arrives.before c.arrives.entries) ≤ turns_in late → has_end f.end m mets ≡ true)
      split (λ c come many. ends_in_time program d field f picture m early late c come many)

-- ---- up to a signal

module _ (program : RiscProgram) (d : Desc) (field : Parity) (f : Found) (picture : Picture) (fill : ℕ) (steps : List Step) (j k : ℕ)
    (s : IsEnded program d field f picture fill steps j k) where
  last_turn : step_at steps k ≡ Turn
  last_turn = ends.last_turn program fill steps f.end j k s.signal

  captured : (i : ℕ) → j ≤ i → i ≤ k → step_at steps i ≡ Turn →
      Captures program d field f picture (state_of program fill steps j)
      (meeting program (between j i steps) ++ (program, Turn) ∷ meeting program (between (i + 1) (k + 1) steps))
  captured i from to is_turn =
      subst (Captures program d field f picture (state_of program fill steps j))
      (ends.split_at program fill steps f.end j k s.signal i from to is_turn)
      (captures program d field f picture fill steps j s.capture (k + 1) s.arrives)

  unended_to : (i : ℕ) → j ≤ i → i ≤ k → has_end f.end (state_of program fill steps j) (meeting program (between j i steps)) ≡ false
  unended_to = ends.unended_to program fill steps f.end j k s.signal

  ends_there : is_end f.end (run_in (state_of program fill steps j) (meeting program (between j k steps))) Turn ≡ true
  ends_there = ends.ends_last program fill steps f.end j k s.signal

  ended : run_in (state_of program fill steps j) (meeting program (between j k steps) ++ (program, Turn) ∷ [])
      ≡ state_of program fill steps (k + 1)
  ended = ends.ran_through program fill steps f.end j k s.signal

pub run_shows_picture : RunShowsPicture
run_shows_picture program d field f picture fill steps j k s =
    let later = s.signal.later in
    let turn = last_turn program d field f picture fill steps j k s in
    subst (λ (m' : State). After d field picture (state_of program fill steps j).memory m'.memory)
    (ended program d field f picture fill steps j k s)
    (shows_picture program d field f picture (state_of program fill steps j)
    (meeting program (between j k steps)) (meeting program (between (k + 1) (k + 1) steps))
    (captured program d field f picture fill steps j k s k later (omega arith) turn)
    (unended_to program d field f picture fill steps j k s k later (omega arith)) (ends_there program d field f picture fill steps j k s))

pub run_ends_with_closing : RunEndsWithClosing
run_ends_with_closing program d field f picture fill steps j k s instr count is =
    let later = s.signal.later in
    let turn = last_turn program d field f picture fill steps j k s in
    ap (λ (m' : State). m'.interrupts) (sym (ended program d field f picture fill steps j k s))
    ∙ ends_with_closing program d field f picture (state_of program fill steps j)
    (meeting program (between j k steps)) (meeting program (between (k + 1) (k + 1) steps))
    (captured program d field f picture fill steps j k s k later (omega arith) turn)
    (unended_to program d field f picture fill steps j k s k later (omega arith))
    (ends_there program d field f picture fill steps j k s) instr count is
    ∙ ap (λ (m' : State). after_closing instr m'.interrupts) (ends.ran_to program fill steps j k later)

pub run_shows_no_fault : RunShowsNoFault
run_shows_no_fault program d field f picture fill steps j k i s from to is_turn =
    ap sets_fdsr
    (own_program (first_state program fill) (take i steps) ∙ ap (with_program program) (sym (ends.ran_to program fill steps j i from)))
    ∙ shows_no_fault program d field f picture (state_of program fill steps j)
    (meeting program (between j i steps)) (meeting program (between (i + 1) (k + 1) steps))
    (captured program d field f picture fill steps j k s i from to is_turn)
    (unended_to program d field f picture fill steps j k s i from to)

pub run_ends_in_time : RunEndsInTime
run_ends_in_time program d field f picture fill steps j i l c first later within arrives come many =
    let early = meeting program (between j i steps) in
    let late = meeting program (between i l steps) in
    let all : early ++ late ≡ meeting program (between j l steps) =
    sym (meeting-append program (between j i steps) (between i l steps))
    ∙ ap (meeting program) (sym (between_both j i l steps first later)) in
    let found =
    in_time program d field f picture fill steps j early late (meeting program (between j l steps)) all
    (captures program d field f picture fill steps j c l arrives) come many in
    some_end f.end (first_state program fill) steps (l - j) j l (omega arith) within found
