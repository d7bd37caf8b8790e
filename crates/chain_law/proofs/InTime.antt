-- In a live run a field that arrives is signalled within a bound of turns.
use Rattle.std.proofs.Common.{◌≡◌, ℕ, zero, suc, ◌+◌, ◌-◌, ◌*◌, ◌<◌, ◌≤◌, Bool, true, false, ◌||◌, List, [], ◌∷◌, ◌++◌, length, take, drop}
use Rattle.std.proofs.Common.{refl, sym, ap, ◌∙◌, subst, arith, ⊎_elim}
use Rattle.std.proofs.lemmas.Bool.{cases_Bool, or_cases, or_from}
use Rattle.fifo_model.specs.declared.Queue.{Queue}
use Rattle.fifo_model.specs.Queues.{queue_state}
use Rattle.pixel_layout.specs.declared.Parity.{Parity}
use Rattle.machine_model.specs.Paths.{RiscProgram}
use Rattle.machine_model.specs.States.{State}
use Rattle.machine_model.specs.Steps.{Turn, step, with_program}
use Rattle.capture_desc.specs.declared.desc.Desc.{Desc}
use Rattle.field_law.specs.Sections.{Section}
use Rattle.field_law.specs.Arrivals.{Met, coming, entries_of, has_signal, is_signal, over_queues, turns_in}
use Rattle.picture_model.specs.Programs.{section_begin, section_next, size}
use Rattle.picture_law.specs.Pictures.{Picture}
use Rattle.picture_law.specs.Laws.{Captures}
use Rattle.picture_law.proofs.Between.{range_first, signal_turn}
use Rattle.picture_law.proofs.Laws.{signals_in_time}
use Rattle.chain_model.specs.Chains.{Chain, head, next, part_of, patched}
use Rattle.chain_model.specs.Live.{Live, LiveStep, Patch, Plain, first_live, live_at, live_step, mets}
use Rattle.chain_law.specs.Pictures.{ArrivesAt, IsFirstSignal, IsLiveCapture, between, live_of, section_in, step_at}
use Rattle.chain_law.proofs.Captured.{live_captures, live_program, met_both, met_from}
use Rattle.chain_law.proofs.Meets.{live_next, own}

-- whether a step of a live run signals
abbrev pub signals_now : Section → Live → LiveStep → Bool
signals_now s live (Plain st) = is_signal s live.machine st
signals_now s live (Patch slot part) = false

pub signalling_turn : (s : Section) (live : Live) (st : LiveStep) → signals_now s live st ≡ true → st ≡ Plain Turn
signalling_turn s live (Plain st) signals = ap Plain (signal_turn s live.machine st signals)
signalling_turn s live (Patch slot part) signals = cc

-- steps that meet programs don't ask which program the machine has before
other_program : (s : Section) (program : RiscProgram) (m : State) (steps : List Met) →
    has_signal s (with_program program m) steps ≡ has_signal s m steps
other_program s program m [] = refl
other_program s program m (met ∷ steps) = refl

module _ (s : Section) (chain : Chain) (start : Live) (steps : List LiveStep)
    (programs : (i : ℕ) → (live_at chain start steps i).machine.program ≡ patched chain (live_at chain start steps i).patching) where
  abbrev live : ℕ → Live
  live i = live_at chain start steps i

  abbrev pub signals_from : ℕ → ℕ → Bool
  signals_from j l = has_signal s (live j).machine (mets chain (live j).patching (between j l steps))

  after_one : (now : Live) (st : LiveStep) (rest : List LiveStep) → now.machine.program ≡ patched chain now.patching →
      let later = live_step chain st now in
      has_signal s now.machine (mets chain now.patching (st ∷ rest))
      ≡ (signals_now s now st || has_signal s later.machine (mets chain later.patching rest))
  after_one now (Plain st) rest same =
      ap (λ (m : State). is_signal s now.machine st || has_signal s (step st m) (mets chain now.patching rest))
      (sym (own now.machine (patched chain now.patching) same))
  after_one now (Patch slot part) rest same =
      let later = live_step chain (Patch slot part) now in
      sym (other_program s (patched chain later.patching) now.machine (mets chain later.patching rest))

  pub signals_first : (j l : ℕ) → j < l → l ≤ length steps →
      signals_from j l ≡ (signals_now s (live j) (step_at steps j) || signals_from (j + 1) l)
  signals_first j l before within =
      ap (λ (part : List LiveStep). has_signal s (live j).machine (mets chain (live j).patching part))
      (range_first j l steps (Plain Turn) before (omega arith))
      ∙ after_one (live j) (step_at steps j) (between (j + 1) l steps) (programs j)
      ∙ ap (λ (later : Live).
      signals_now s (live j) (step_at steps j) || has_signal s later.machine (mets chain later.patching (between (j + 1) l steps)))
      (sym (live_next chain start steps j (omega arith)))

  pub none_from : (j : ℕ) → signals_from j j ≡ false
  none_from j =
      let none : j - j ≡ 0 = omega arith in
      ap (λ (n : ℕ). has_signal s (live j).machine (mets chain (live j).patching (take n (drop j steps)))) none

  first_signal : (n j l : ℕ) → j + n ≡ l → l ≤ length steps → signals_from j l ≡ true →
      (k : ℕ) × IsFirstSignal s chain start steps j k × (k < l)
  first_signal zero j l end within signal =
      let here : l ≡ j = omega arith in
      let none : signals_from j l ≡ false = ap (signals_from j) here ∙ none_from j in cc
  first_signal (suc n) j l end within signal =
      ⊎_elim (λ now. (j, at_once now, omega arith))
      (λ not_now.
      let both : (signals_now s (live j) (step_at steps j) || signals_from (j + 1) l) ≡ true =
      sym (signals_first j l (omega arith) within) ∙ signal in
      let rest : signals_from (j + 1) l ≡ true =
      ⊎_elim (λ now. cc) (λ more. more) (or_cases (signals_now s (live j) (step_at steps j)) (signals_from (j + 1) l) both) in
      let found = first_signal n (j + 1) l (omega arith) within rest in
      (found.0, later found.0 not_now found.1, found.2))
      (cases_Bool (signals_now s (live j) (step_at steps j)))
    where
      at_once : signals_now s (live j) (step_at steps j) ≡ true → IsFirstSignal s chain start steps j j
      at_once now =
          let turn = signalling_turn s (live j) (step_at steps j) now in
          record {
            later = omega arith;
            there = omega arith;
            turn = turn;
            signal = sym (ap (signals_now s (live j)) turn) ∙ now;
            silent = none_from j;
          }

      later : (k : ℕ) → signals_now s (live j) (step_at steps j) ≡ false → IsFirstSignal s chain start steps (j + 1) k →
          IsFirstSignal s chain start steps j k
      later k not_now first =
          let behind = first.later in
          let there = first.there in
          record {
            later = omega arith;
            there = there;
            turn = first.turn;
            signal = first.signal;
            silent =
                signals_first j k (omega arith) (omega arith)
                ∙ or_from (signals_now s (live j) (step_at steps j)) (signals_from (j + 1) k) not_now first.silent;
          }

-- a field that arrives over some of the steps
module _ (chain : Chain) (part : ℕ) (d : Desc) (field : Parity) (picture : Picture) (fill : ℕ) (steps : List LiveStep) (j i l : ℕ)
    (c : IsLiveCapture chain part d field picture steps) where
  abbrev m : State
  m = (live_of chain fill steps j).machine

  bounded : (early late all : List Met) → early ++ late ≡ all →
      (captures : Captures d field (section_begin d (head chain part) field)
      (section_next d (head chain part) (next chain (part_of chain part).slot) field) picture m all) →
      ((q : Queue) →
      entries_of captures.arrives.before captures.arrives.entries q ≤ length (queue_state q m.queues).entries + length (coming early q)) →
      5 * size d field + over_queues (entries_of captures.arrives.before captures.arrives.entries) ≤ turns_in late →
      has_signal (section_in chain part d field) m all ≡ true
  bounded early late all both =
      subst
      (λ (all : List Met).
      (captures : Captures d field (section_begin d (head chain part) field)
      (section_next d (head chain part) (next chain (part_of chain part).slot) field) picture m all) →
      ((q : Queue) →
      entries_of captures.arrives.before captures.arrives.entries q ≤ length (queue_state q m.queues).entries + length (coming early q)) →
      5 * size d field + over_queues (entries_of captures.arrives.before captures.arrives.entries) ≤ turns_in late →
      has_signal (section_in chain part d field) m all ≡ true)
      both
      (signals_in_time d field (section_begin d (head chain part) field)
      (section_next d (head chain part) (next chain (part_of chain part).slot) field) picture m early late)

  pub live_signals_in_time : j ≤ i → i ≤ l → l ≤ length steps →
      (arrives : ArrivesAt chain part d field picture (live_of chain fill steps j) (between j l steps)) →
      ((q : Queue) → entries_of arrives.before arrives.entries q
      ≤ length (queue_state q m.queues).entries + length (coming (met_from chain fill steps j i) q)) →
      5 * size d field + over_queues (entries_of arrives.before arrives.entries) ≤ turns_in (met_from chain fill steps i l) →
      (k : ℕ) × IsFirstSignal (section_in chain part d field) chain (first_live chain fill) steps j k × (k < l)
  live_signals_in_time first later within arrives come many =
      first_signal (section_in chain part d field) chain (first_live chain fill) steps
      (live_program chain fill steps c.is_chain c.sound c.made) (l - j) j l (omega arith) within
      (bounded (met_from chain fill steps j i) (met_from chain fill steps i l) (met_from chain fill steps j l)
      (sym (met_both chain fill steps j i l first later))
      (live_captures chain part d field picture fill steps j c l arrives) come many)
