-- The law of the picture over a live run.
use Rattle.std.proofs.Common.{◌≡◌, ℕ, ◌+◌, ◌≤◌, true, false, List, [], ◌∷◌, ◌++◌, sym, ap, ◌∙◌, subst, arith}
use Rattle.pixel_layout.specs.declared.Parity.{Parity}
use Rattle.machine_model.specs.Paths.{RiscProgram}
use Rattle.machine_model.specs.States.{State}
use Rattle.machine_model.specs.Turns.{sets_fdsr, turn}
use Rattle.machine_model.specs.Steps.{Turn, run_in, with_program}
use Rattle.machine_model.proofs.Runs.{run_in-append}
use Rattle.capture_desc.specs.declared.desc.Desc.{Desc}
use Rattle.field_law.specs.Sections.{Section}
use Rattle.field_law.specs.Arrivals.{Met, has_signal, is_signal}
use Rattle.picture_model.specs.Programs.{section_begin, section_next}
use Rattle.picture_law.specs.Pictures.{After, Picture}
use Rattle.picture_law.specs.Laws.{Captures, TellsField}
use Rattle.picture_law.proofs.Between.{range_first}
use Rattle.picture_law.proofs.Laws.{shows_no_fault, shows_picture, signals_field}
use Rattle.chain_model.specs.Chains.{Chain, head, next, part_of, patched}
use Rattle.chain_model.specs.Live.{Live, LiveStep, Plain, first_live, live_step, mets}
use Rattle.chain_law.specs.Pictures.{IsSignalled, LiveShowsNoFault, LiveShowsPicture, LiveTellsField, between, live_of, section_in, step_at}
use Rattle.chain_law.proofs.Captured.{live_captures, live_program, met_both, met_from}
use Rattle.chain_law.proofs.Meets.{live_between, live_next, live_run-mets, own, silent_first}

module _ (chain : Chain) (part : ℕ) (d : Desc) (field : Parity) (picture : Picture) (fill : ℕ) (steps : List LiveStep) (j k : ℕ)
    (s : IsSignalled chain part d field picture fill steps j k) where
  abbrev begin : ℕ
  begin = section_begin d (head chain part) field

  abbrev target : ℕ
  target = section_next d (head chain part) (next chain (part_of chain part).slot) field

  abbrev there : Section
  there = section_in chain part d field

  abbrev live : ℕ → Live
  live i = live_of chain fill steps i

  abbrev program_at : ℕ → RiscProgram
  program_at i = patched chain (live i).patching

  abbrev before : ℕ → List Met
  before = met_from chain fill steps j

  abbrev later_from : ℕ → List Met
  later_from i = mets chain (live i).patching (between (i + 1) (k + 1) steps)

  captures : Captures d field begin target picture (live j).machine (before (k + 1))
  captures = live_captures chain part d field picture fill steps j s.capture (k + 1) s.arrives

  -- ---- the steps up to k, cut at a turn

  abbrev turn_at : ℕ → Met
  turn_at i = (program_at i, Turn)

  cut : (i l : ℕ) → j ≤ i → i ≤ l → before l ≡ before i ++ met_from chain fill steps i l
  cut i l from to = met_both chain fill steps j i l from to

  split : (i : ℕ) → j ≤ i → i ≤ k → step_at steps i ≡ Plain Turn → before (k + 1) ≡ before i ++ turn_at i ∷ later_from i
  split i from to is_turn =
      let within = s.signal.there in
      cut i (k + 1) from (omega arith)
      ∙ ap (λ (rest : List LiveStep). before i ++ mets chain (live i).patching rest)
      (range_first i (k + 1) steps (Plain Turn) (omega arith) (omega arith)
      ∙ ap (λ (st : LiveStep). st ∷ between (i + 1) (k + 1) steps) is_turn)

  captured : (i : ℕ) → j ≤ i → i ≤ k → step_at steps i ≡ Plain Turn →
      Captures d field begin target picture (live j).machine (before i ++ turn_at i ∷ later_from i)
  captured i from to is_turn = subst (Captures d field begin target picture (live j).machine) (split i from to is_turn) captures

  silent_to : (i : ℕ) → j ≤ i → i ≤ k → has_signal there (live j).machine (before i) ≡ false
  silent_to i from to =
      silent_first there (live j).machine (before i) (mets chain (live i).patching (between i k steps))
      (sym (ap (has_signal there (live j).machine) (cut i k from to)) ∙ s.signal.silent)

  reached : (i : ℕ) → j ≤ i → (live i).machine ≡ with_program (program_at i) (run_in (live j).machine (before i))
  reached i from =
      subst (λ (l : Live). l.machine ≡ with_program (patched chain l.patching) (run_in (live j).machine (before i)))
      (live_between chain (first_live chain fill) steps j i from)
      (live_run-mets chain (live j) (between j i steps) (live j).machine
      (own (live j).machine (program_at j) (live_program chain fill steps s.capture.is_chain s.capture.sound s.capture.made j)))

  signals : is_signal there (run_in (live j).machine (before k)) Turn ≡ true
  signals = sym (ap (λ (m : State). is_signal there m Turn) (reached k s.signal.later)) ∙ s.signal.signal

  ended : run_in (live j).machine (before k ++ turn_at k ∷ []) ≡ (live (k + 1)).machine
  ended =
      let next : live (k + 1) ≡ live_step chain (Plain Turn) (live k) =
      live_next chain (first_live chain fill) steps k s.signal.there ∙ ap (λ (st : LiveStep). live_step chain st (live k)) s.signal.turn in
      run_in-append (live j).machine (before k) (turn_at k ∷ []) ∙ ap turn (sym (reached k s.signal.later))
      ∙ sym (ap (λ (l : Live). l.machine) next)

pub live_shows_picture : LiveShowsPicture
live_shows_picture chain part d field picture fill steps j k s =
    let later = s.signal.later in
    subst (λ (m : State). After d field picture (live_of chain fill steps j).machine.memory m.memory)
    (ended chain part d field picture fill steps j k s)
    (shows_picture d field (section_begin d (head chain part) field)
    (section_next d (head chain part) (next chain (part_of chain part).slot) field) picture
    (live_of chain fill steps j).machine (before chain part d field picture fill steps j k s k)
    (later_from chain part d field picture fill steps j k s k)
    (program_at chain part d field picture fill steps j k s k)
    (captured chain part d field picture fill steps j k s k later (omega arith) s.signal.turn)
    (silent_to chain part d field picture fill steps j k s k later (omega arith)) (signals chain part d field picture fill steps j k s))

pub live_tells_field : LiveTellsField
live_tells_field chain part d field picture fill steps j k s =
    let later = s.signal.later in
    subst (TellsField field) (ended chain part d field picture fill steps j k s)
    (signals_field d field (section_begin d (head chain part) field)
    (section_next d (head chain part) (next chain (part_of chain part).slot) field) picture
    (live_of chain fill steps j).machine (before chain part d field picture fill steps j k s k)
    (later_from chain part d field picture fill steps j k s k)
    (program_at chain part d field picture fill steps j k s k)
    (captured chain part d field picture fill steps j k s k later (omega arith) s.signal.turn)
    (silent_to chain part d field picture fill steps j k s k later (omega arith)) (signals chain part d field picture fill steps j k s))

pub live_shows_no_fault : LiveShowsNoFault
live_shows_no_fault chain part d field picture fill steps j k i s from to is_turn =
    ap sets_fdsr (reached chain part d field picture fill steps j k s i from)
    ∙ shows_no_fault d field (section_begin d (head chain part) field)
    (section_next d (head chain part) (next chain (part_of chain part).slot) field) picture
    (live_of chain fill steps j).machine (before chain part d field picture fill steps j k s i)
    (later_from chain part d field picture fill steps j k s i)
    (program_at chain part d field picture fill steps j k s i)
    (captured chain part d field picture fill steps j k s i from to is_turn)
    (silent_to chain part d field picture fill steps j k s i from to)
